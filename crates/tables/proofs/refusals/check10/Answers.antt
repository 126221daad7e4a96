-- The definition's own test.
use Rattle.tables.specs.Refusals.{check10}
use Rattle.tables.proofs.refusals.check10.Goals as goal

pub returns : goal.returns
unfolding check10
returns c = c.refuse.ensures
