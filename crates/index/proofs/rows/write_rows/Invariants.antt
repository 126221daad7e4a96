-- The invariant: the rows before row r are written, and the counts are those of the entries before its multiple.
use Prim.Native.Nat.{◌*◌}
use mathlib.Core.List.{◌++◌}
use mathlib.Core.Path.{◌≡◌}
use lib.ListN.{drop, length, take}
use Rattle.tables.specs.Tables.{lists}
use Rattle.index.specs.Code.{counts_of}
use Rattle.index.specs.Counts.{plan}
use Rattle.index.specs.Rows.{row_number, row_by_row, row_width}
use Rattle.index.proofs.rows.write_rows.Given as goal

abbrev pub invariant-loop-r : goal.invariant-loop-r
invariant-loop-r l =
    (length l.index ≡ length l.initial.index)
    × (l.index ≡ row_by_row (row_width l.given.tasks.now) l.r (row_number (plan l.given.tasks.now l.given.jobs.now l.given.horizon) l.schedule) ++ drop (l.r * row_width l.given.tasks.now) l.initial.index)
    × (l.counts ≡ counts_of (lists l.given.tasks.now l.given.jobs.now) (take (l.r * 64) l.schedule))
