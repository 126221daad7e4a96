-- The reasons, as the calls answer them.
use Prim.Native.Nat.{ℕ}
use mathlib.Core.Path.{ap, ap₂}
use mathlib.Core.Bool.{Bool, ◌&&◌, ◌||◌}
use lib.Dec.{eqb}
use Rattle.tables.specs.declared.fields.Job.{Job}
use Rattle.zsrm.specs.Code.Claims.{instant_at}
use Rattle.zsrm.proofs.claims.is_instant_by.Goals as goal

pub returns : goal.returns
unfolding instant_at
returns c =
    let a = c.args in
    ap₂ (λ (x y : Bool). x || y)
    (ap₂ (λ (x y : Bool). x || y)
    (ap₂ (λ (x y : Bool). x || y) (ap (λ (x : Job). eqb x.arrival a.t) c.job_at-job.ensures) c.is_finished_at.ensures)
    (ap (λ (x : ℕ). eqb x a.t) c.zero_slack_instant.ensures))
    (ap (λ (x : ℕ). (a.se && eqb a.last a.j) && eqb a.place.done x) c.nominal_of.ensures)
