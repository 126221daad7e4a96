-- The number at its place.
use borrow.Author.Rules.{rules}
use Rattle.zsrm.specs.Code.Masks.{priority_at}
use Rattle.zsrm.proofs.masks.priority_at.Goals as goal

pub returns : goal.returns
unfolding priority_at
returns c = search rules
