-- Before every piece the record is on the way to the horizon.
use Prim.Native.Nat.{◌-◌}
use Rattle.planter.specs.Code.{OnTheWay}
use Rattle.planter.specs.Table.{planter}
use Rattle.planter.proofs.admission.run_to.Given as goal

abbrev pub invariant-loop-rec : goal.invariant-loop-rec
invariant-loop-rec l = OnTheWay (planter l.mode l.jobs) l.horizon l.rec

abbrev pub decreases-loop-rec : goal.decreases-loop-rec
decreases-loop-rec l = l.horizon - l.rec.tick
