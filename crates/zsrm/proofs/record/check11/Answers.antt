-- The definition's own test.
use Rattle.zsrm.specs.Record.{check11}
use Rattle.zsrm.proofs.record.check11.Goals as goal

pub returns : goal.returns
unfolding check11
returns c = c.refuse.ensures
