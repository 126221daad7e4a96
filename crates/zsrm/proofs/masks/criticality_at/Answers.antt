-- The number at its place.
use borrow.Author.Rules.{rules}
use Rattle.zsrm.specs.Code.Masks.{criticality_at}
use Rattle.zsrm.proofs.masks.criticality_at.Goals as goal

pub returns : goal.returns
unfolding criticality_at
returns c = search rules
