-- The list holds the entries that are chosen in the first t ticks, as many of them are counted as are not the claimed ones, the record is the
-- one that they lead to, and what is kept beside it is true of it. The previous entry is kept at most in the first stretch, since a stretch
-- that is not the last ends at a scheduling instant.
use Prim.Native.Nat.{◌-◌, ◌<◌, ◌≤◌}
use mathlib.Core.Path.{◌≡◌}
use lib.ListN.{length, take}
use Rattle.tables.specs.Tables.{lists}
use Rattle.zsrm.specs.Code.Underway.{Kept}
use Rattle.zsrm.specs.Given.{given}
use Rattle.zsrm.specs.Mend.{keeps_previous, mend_choice}
use Rattle.zsrm.specs.Run.{entries_by}
use Rattle.zsrm.proofs.Laws.Going.{Going}
use Rattle.zsrm.proofs.Laws.Mending.{Compared}
use Rattle.zsrm.proofs.mending.mend_from.Given as goal

abbrev pub invariant-loop-t : goal.invariant-loop-t
invariant-loop-t l =
    (l.t ≤ length l.initial.into) × (length l.into ≡ length l.initial.into) × Kept (lists l.tasks l.jobs) l.s
    × Going (given l.mode l.tasks l.jobs) (mend_choice (given l.mode l.tasks l.jobs)) l.initial.s.«record» l.s.«record» l.t
    × (take l.t l.into ≡ entries_by (given l.mode l.tasks l.jobs) (mend_choice (given l.mode l.tasks l.jobs)) l.initial.s.«record» l.t)
    × Compared (given l.mode l.tasks l.jobs) l.initial.s.«record» l.claimed l.changed l.t × (l.t < length l.initial.into → l.keeps ≡ keeps_previous (given l.mode l.tasks l.jobs) l.s.«record»)

abbrev pub decreases-loop-t : goal.decreases-loop-t
decreases-loop-t l = length l.initial.into - l.t
