-- What is left to claim from tick t on is what the whole schedule claims. At t any entry that may run is legal, unless t is the end: it is
-- tick 0 or a scheduling instant. What is kept beside the record is true of it.
use Prim.Native.Nat.{◌-◌, ◌<◌, ◌≤◌}
use lib.ListN.{length}
use Rattle.tables.specs.Tables.{lists}
use Rattle.zsrm.specs.Code.Underway.{Kept}
use Rattle.zsrm.specs.Given.{given}
use Rattle.zsrm.proofs.Laws.Claims.{Replaying}
use Rattle.zsrm.proofs.Laws.Leaps.{Free}
use Rattle.zsrm.proofs.claims.walk.Given as goal

abbrev pub invariant-loop-t : goal.invariant-loop-t
invariant-loop-t l =
    (l.t ≤ length l.schedule) × (length l.schedule ≤ 16384) × Replaying (given l.mode l.tasks l.jobs) l.schedule l.s.«record» l.t
    × (l.t < length l.schedule → Free (given l.mode l.tasks l.jobs) l.s.«record» l.s.«record».previous) × Kept (lists l.tasks l.jobs) l.s

abbrev pub decreases-loop-t : goal.decreases-loop-t
decreases-loop-t l = length l.schedule - l.t
