-- The number at its place.
use Rattle.zsrm.specs.Code.Gathered.{execution_in}
use borrow.Author.Rules.{rules}
use Rattle.zsrm.proofs.gather.execution_in.Goals as goal

pub returns : goal.returns
unfolding execution_in
returns c = search rules
