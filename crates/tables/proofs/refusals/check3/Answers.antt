-- The definition's own tests, in its order, of a task whose fields they are.
use Rattle.tables.specs.Refusals.{check3}
use Rattle.tables.proofs.refusals.check3.Goals as goal

pub returns : goal.returns
unfolding check3
returns c tasks task =
    rw (
      c.refuse.ensures,
      c.outside-4.ensures,
      c.outside-3.ensures,
      c.outside-2.ensures,
      c.outside.ensures,
      task,
    )
