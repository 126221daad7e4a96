-- The number of the four bytes at its place; past the last whole one there is none, and the default stands there.
use mathlib.Core.Path.{sym, ◌∙◌}
use Rattle.tables.proofs.Laws.Bytes.{numbers_at, numbers_past}
use Rattle.tables.proofs.bytes.number_in.Goals as goal

pub returns-then-i-bytes : goal.returns-then-i-bytes
returns-then-i-bytes c = c.number_at.ensures ∙ sym (numbers_at 4 _ _ c.if-i-bytes.true)

pub returns-else-i-bytes : goal.returns-else-i-bytes
returns-else-i-bytes c = sym (numbers_past 4 _ _ c.if-i-bytes.false)
