-- A store at the task's place; of a task past the list's end there is no place.
use mathlib.Core.Path.{sym}
use lib.Seq.{set_out}
use Rattle.tables.proofs.refusals.note.Goals as goal

pub returns-else-at-noted : goal.returns-else-at-noted
returns-else-at-noted c = sym (set_out _ _ _ c.if-at-noted.false)
