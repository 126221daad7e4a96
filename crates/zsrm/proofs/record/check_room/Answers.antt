-- The definition's own test; two 32-bit numbers have a sum below 2 ^ 64.
use Rattle.zsrm.specs.Record.{check_room}
use Rattle.zsrm.proofs.record.check_room.Goals as goal

pub returns : goal.returns
unfolding check_room
returns c = c.refuse.ensures
