-- The low byte, and 256 times the high one.
use Rattle.std.proofs.Common.{arith}
use Rattle.tables.proofs.Laws.Bytes.{number2}
use Rattle.zsrm.proofs.bytes.number2.Goals as goal

pub returns : goal.returns
returns c = rw number2 (omega (arith, c.from_le_bytes.ensures))
