-- The list holds the entries of the first t ticks, the record is the one that they lead to, and what is kept beside it is true of it.
use Prim.Native.Nat.{◌-◌, ◌≤◌}
use mathlib.Core.Path.{◌≡◌}
use lib.ListN.{length, take}
use Rattle.tables.specs.Tables.{lists}
use Rattle.zsrm.specs.Code.Underway.{Kept}
use Rattle.zsrm.specs.Given.{given}
use Rattle.zsrm.specs.Run.{entries_by}
use Rattle.zsrm.specs.Tick.{choice}
use Rattle.zsrm.proofs.Laws.Going.{Going}
use Rattle.zsrm.proofs.runs.run_from.Given as goal

abbrev pub invariant-loop-t : goal.invariant-loop-t
invariant-loop-t l =
    (l.t ≤ length l.initial.schedule) × (length l.schedule ≡ length l.initial.schedule) × Kept (lists l.tasks l.jobs) l.s
    × Going (given l.mode l.tasks l.jobs) (choice (given l.mode l.tasks l.jobs) l.tie) l.initial.s.«record» l.s.«record» l.t
    × (take l.t l.schedule ≡ entries_by (given l.mode l.tasks l.jobs) (choice (given l.mode l.tasks l.jobs) l.tie) l.initial.s.«record» l.t)

abbrev pub decreases-loop-t : goal.decreases-loop-t
decreases-loop-t l = length l.initial.schedule - l.t
