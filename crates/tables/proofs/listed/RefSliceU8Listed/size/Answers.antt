-- Four bytes for each number.
use mathlib.Core.Path.{sym}
use Rattle.tables.proofs.Laws.Bytes.{length_numbers}
use Rattle.tables.proofs.listed.RefSliceU8Listed.size.Goals as goal

pub returns : goal.returns
returns c = sym (length_numbers 4 _)
