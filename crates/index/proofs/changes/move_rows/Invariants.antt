-- The invariant: r is past the tick's row, and the rows before r are as the replacement makes them (`Moving`). Since no number strays, none
-- wraps.
use Prim.Native.Nat.{◌*◌, ◌<◌}
use Rattle.index.specs.Rows.{row_count}
use Rattle.index.proofs.Laws.Changes.{Moving}
use Rattle.index.proofs.changes.move_rows.Given as goal

abbrev pub invariant-loop-row : goal.invariant-loop-row
invariant-loop-row l = (l.tick < l.row * 64) × Moving l.given.tasks.now l.initial.index l.tick l.old l.new (row_count l.given.horizon) l.index l.row
