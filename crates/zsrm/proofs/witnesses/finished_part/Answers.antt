-- A finishing instant lies within the schedule, at or after arrival; every other standing has the empty part.
use Prim.Native.Nat.{◌+◌, ◌-◌, ℕ, ◌≤◌}
use mathlib.Core.Path.{◌≡◌, refl, ap, subst}
use mathlib.Core.List.{[], List}
use native.Mathlib.Omega.{arith}
use lib.ListN.{length, take, drop}
use borrow.Author.Rules.{rules}
use Rattle.zsrm.specs.declared.record.Standing.{Standing}
use Rattle.zsrm.specs.declared.record.Standing.TheVariants.{NotArrived, Unfinished, Finished, Ended}
use Rattle.tables.specs.declared.fields.Job.{Job}
use Rattle.tables.specs.Tables.{arrival}
use Rattle.tables.specs.Fields.{job_at}
use Rattle.zsrm.specs.Verdict.{Shows, part_to}
use Rattle.zsrm.specs.Code.Claims.{FitsIn}
use Rattle.zsrm.proofs.witnesses.finished_part.Goals as goal

-- the standings that are not `Finished` have the empty part, which begins at 0
not_finished : (a b o : ℕ) (l : List ℕ) (s : Standing) → ((x : ℕ) → s ≡ Finished x → ⊥) → Shows (b, o) (part_to a l s) (b, 0 + o) []
not_finished a b o l NotArrived h = record { holds = refl; block = refl; byte = omega arith }
not_finished a b o l Unfinished h = record { holds = refl; block = refl; byte = omega arith }
not_finished a b o l (Finished f) h = absurd (h f refl)
not_finished a b o l (Ended e) h = record { holds = refl; block = refl; byte = omega arith }

-- what the code reads is the arrival, and the part from there to f fits
record Reads (jobs schedule : List ℕ) (j f from : ℕ) : Type 0 where
  is : from ≡ arrival jobs j
  after : from ≤ f
  within : f ≤ length schedule

read : (jobs schedule : List ℕ) (j f : ℕ) (s : Standing) (x : Job) → FitsIn (arrival jobs j) schedule s → s ≡ Finished f → x ≡ job_at jobs j → Reads jobs schedule j f x.arrival
read jobs schedule j f s x p q r =
    let w = subst (FitsIn (arrival jobs j) schedule) q p in
    let e : x.arrival ≡ arrival jobs j = ap (λ (y : Job). y.arrival) r in
    record { is = e; after = omega (arith, w.0); within = w.1 }

pub returns-in_default : goal.returns-in_default
returns-in_default c =
    not_finished (arrival c.args.jobs.now c.args.j) _ _ c.args.schedule.now c.args.standing c.in_default.not-Finished

pub slice_bounds-result-count-2 : goal.slice_bounds-result-count-2
slice_bounds-result-count-2 c =
    let w = read c.args.jobs.now c.args.schedule.now c.args.j c.in-Finished.f
    c.args.standing _ c.requires c.in-Finished.is c.job_at-job.ensures in
    search rules

pub slice_bounds-result-start-2 : goal.slice_bounds-result-start-2
slice_bounds-result-start-2 c =
    let w = read c.args.jobs.now c.args.schedule.now c.args.j c.in-Finished.f
    c.args.standing _ c.requires c.in-Finished.is c.job_at-job.ensures in
    omega arith

pub slice_bounds-result-end-2 : goal.slice_bounds-result-end-2
slice_bounds-result-end-2 c =
    let w = read c.args.jobs.now c.args.schedule.now c.args.j c.in-Finished.f
    c.args.standing _ c.requires c.in-Finished.is c.job_at-job.ensures in
    omega arith

pub returns : goal.returns
returns c =
    let f = c.in-Finished.f in
    let w = read c.args.jobs.now c.args.schedule.now c.args.j f c.args.standing
    _ c.requires c.in-Finished.is c.job_at-job.ensures in
    rw c.in-Finished.is
    (record { holds = ap (λ (a : ℕ). take (f - a) (drop a c.args.schedule.now)) w.is; block = refl; byte = omega (arith, w.is) })
