-- The definition's own test.
use Rattle.zsrm.specs.Record.{check12}
use Rattle.zsrm.proofs.record.check12.Goals as goal

pub returns : goal.returns
unfolding check12
returns c = c.refuse.ensures
