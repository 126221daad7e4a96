-- Past the end all four are 0.
use Rattle.std.proofs.Common.{arith}
use Rattle.tables.proofs.Laws.Bytes.{number_past, number4}
use Rattle.tables.proofs.bytes.number_at.Goals as goal

pub returns-then-bytes-at : goal.returns-then-bytes-at
returns-then-bytes-at c = number_past 4 _ _ c.if-bytes-at.true

pub returns : goal.returns
returns c = rw number4 (omega (arith, c.from_le_bytes.ensures))
