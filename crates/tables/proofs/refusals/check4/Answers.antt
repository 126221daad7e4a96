-- The definition's own tests, in its order, of a task whose fields they are.
use Rattle.tables.specs.Refusals.{check4}
use Rattle.tables.proofs.refusals.check4.Goals as goal

pub returns : goal.returns
unfolding check4
returns c tasks task = rw (c.refuse.ensures, task)
