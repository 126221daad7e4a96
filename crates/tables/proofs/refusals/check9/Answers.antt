-- The definition's own test.
use Rattle.tables.specs.Refusals.{check9}
use Rattle.tables.proofs.refusals.check9.Goals as goal

pub returns : goal.returns
unfolding check9
returns c = c.refuse.ensures
