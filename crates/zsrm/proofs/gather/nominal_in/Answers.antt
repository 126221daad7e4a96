-- The number at its place.
use Rattle.zsrm.specs.Code.Gathered.{nominal_in}
use borrow.Author.Rules.{rules}
use Rattle.zsrm.proofs.gather.nominal_in.Goals as goal

pub returns : goal.returns
unfolding nominal_in
returns c = search rules
