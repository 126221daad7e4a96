-- The four bytes, each 256 times the one before it.
use Rattle.std.proofs.Common.{arith}
use Rattle.tables.proofs.Laws.Bytes.{number4}
use Rattle.tables.proofs.bytes.whole_number.Goals as goal

pub returns : goal.returns
returns c = rw number4 (omega (arith, c.from_le_bytes.ensures))
