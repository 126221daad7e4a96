-- The number at its place.
use Rattle.zsrm.specs.Code.Masks.{task_in}
use borrow.Author.Rules.{rules}
use Rattle.zsrm.proofs.masks.task_in.Goals as goal

pub returns : goal.returns
unfolding task_in
returns c = search rules
