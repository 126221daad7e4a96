-- The number at its place.
use Rattle.zsrm.specs.Code.Gathered.{arrival_in}
use borrow.Author.Rules.{rules}
use Rattle.zsrm.proofs.gather.arrival_in.Goals as goal

pub returns : goal.returns
unfolding arrival_in
returns c = search rules
