-- What is certain for the planter's down-force jobs, in either mode, in every legal schedule, and so in every run from the fresh record and
-- in going on from such a run's record. Everything here follows from the library's promise: of its proofs only Promise is cited. The checks
-- of `tables` say besides that no execution time exceeds its overload time.
--
-- `planter mode jobs` is the planter's table with a caller's mode and jobs; each `..Answer` of the library at it is the whole contract of the
-- function of that name in src/calls. `..Said` says an answer in numbers, each of which has a name, as in the library's promise.
use Prim.Native.Nat.{◌*◌, ◌+◌, ◌<◌, suc, zero, ℕ, ◌≤◌}
use mathlib.Core.Bool.{Bool}
use mathlib.Core.List.{◌++◌, List}
use mathlib.Core.Path.{ap, refl, subst, sym, ◌∙◌, ◌≡◌}
use native.Mathlib.Omega.{arith}
use lib.ListN.{length, get_or-eq_default}
use borrow.Author.Tests.{leb-true, ltb-true}
use Rattle.bits.proofs.Laws.Bools.{apart}
use Rattle.tables.specs.Outcomes.{Done}
use Rattle.tables.specs.Refusals.{check_lists, check_schedule}
use Rattle.tables.specs.Said.{done, outcome_said}
use Rattle.tables.specs.Tables.{arrival, criticality, deadline, deadline_instant, execution, job_count, job_criticality, offset, overload, task_count, task_of, zero_slack_instant}
use Rattle.tables.proofs.Laws.Accepted.{accepted_job, lists_jobs}
use Rattle.tables.proofs.Laws.Refusals.{before_first}
use Rattle.tables.proofs.Laws.Said.{outcome_said_law}
use Rattle.zsrm.specs.declared.mode.Mode.{Mode}
use Rattle.zsrm.specs.declared.record.Record.{Record}
use Rattle.zsrm.specs.declared.tie.Tie.TheVariants.{Stay}
use Rattle.zsrm.specs.Answers.{claim_answer, go_on_answer, go_on_schedule, replay_answer, run_answer, run_schedule, verdict_answer, witness_answer}
use Rattle.zsrm.specs.Record.{standing_at, suspended_at}
use Rattle.zsrm.specs.Run.{replayed}
use Rattle.zsrm.specs.Said.{accepted_ended, accepted_late, claim_said, ended, finished_at, late, legal, met, not_missed, standing_said, verdict_said, witness_said}
use Rattle.zsrm.specs.Topmost.{Topmost, assured}
use Rattle.zsrm.proofs.Promise as library
use Rattle.planter.specs.Table.{down_force, planter, table}

-- Demand 3's premise: down-force is strictly more critical than depth and log, and 12 + 8 is within 20.
pub down_force_topmost : Topmost table down_force
unfolding task_count criticality offset overload deadline
down_force_topmost = record { known = ltb-true 0 3 refl; above = less; fits = leb-true (offset table down_force + overload table down_force) (deadline table down_force) refl }
  where
    less : (i : ℕ) → i < 3 → (i ≡ 0 → ⊥) → criticality table i < 3
    less zero l ne = absurd (ne refl)
    less (suc zero) l ne = ltb-true 2 3 refl
    less (suc (suc zero)) l ne = ltb-true 1 3 refl
    less (suc (suc (suc i))) l ne = absurd (omega arith)

-- no task of the table, and nothing past it, is more critical
most_critical : (k : ℕ) → criticality table k ≤ 3
unfolding criticality
most_critical zero = leb-true 3 3 refl
most_critical (suc zero) = leb-true 2 3 refl
most_critical (suc (suc zero)) = leb-true 1 3 refl
most_critical (suc (suc (suc k))) = omega (arith, get_or-eq_default table 0 {n = 7 * suc (suc (suc k)) + 4} (omega arith))

-- A record at the end of a legal schedule of so many ticks.
pub record Planned (mode : Mode) (jobs : List ℕ) (horizon : ℕ) (r : Record) : Type 0 where
  pub schedule : List ℕ
  pub legal_throughout : claim_said (claim_answer (planter mode jobs) horizon schedule) ≡ legal
  pub at_its_end : r ≡ replayed (planter mode jobs) schedule

-- The record of a run from the fresh record is one ..
pub run_planned : (mode : Mode) (jobs : List ℕ) (horizon : ℕ) (lent : List ℕ) → outcome_said (run_answer (planter mode jobs) Stay horizon lent).outcome ≡ done
    → Planned mode jobs horizon (run_answer (planter mode jobs) Stay horizon lent).«record»
run_planned mode jobs horizon lent ok =
    record {
      schedule = run_schedule (planter mode jobs) Stay horizon lent;
      legal_throughout = library.run_is_legal (planter mode jobs) Stay horizon lent ok;
      at_its_end = library.run_record_law (planter mode jobs) Stay horizon lent ok;
    }

-- .. so is that of a replay whose schedule is legal ..
pub replay_planned : (mode : Mode) (jobs : List ℕ) (horizon : ℕ) (schedule : List ℕ) → claim_said (claim_answer (planter mode jobs) horizon schedule) ≡ legal
    → Planned mode jobs horizon (replay_answer (planter mode jobs) horizon schedule).«record»
replay_planned mode jobs horizon schedule ok =
    record { schedule = schedule; legal_throughout = ok; at_its_end = (library.replay_legal (planter mode jobs) horizon schedule ok).0 }

-- .. and going on from such a record is done as far as tick 16,384, and gives one again.
pub go_on_planned : (mode : Mode) (jobs : List ℕ) (horizon : ℕ) (r : Record) → Planned mode jobs horizon r
    → (ticks : ℕ) (lent : List ℕ) → length lent ≡ ticks → horizon + ticks ≤ 16384
    → (outcome_said (go_on_answer (planter mode jobs) Stay r ticks lent).outcome ≡ done)
    × Planned mode jobs (horizon + ticks) (go_on_answer (planter mode jobs) Stay r ticks lent).«record»
go_on_planned mode jobs horizon r p ticks lent whole room =
    let g = planter mode jobs in
    let s = p.schedule in
    let says = p.legal_throughout in
    subst (λ (x : Record). (outcome_said (go_on_answer g Stay x ticks lent).outcome ≡ done) × Planned mode jobs (horizon + ticks) (go_on_answer g Stay x ticks lent).«record»)
    (sym p.at_its_end) (
      library.legal_go_on_done g horizon s says ticks lent whole room Stay,
      record {
        schedule = s ++ go_on_schedule g Stay (replayed g s) ticks lent;
        legal_throughout = library.stay_goes_on_legally g horizon s says ticks lent whole room;
        at_its_end = library.legal_go_on_record g horizon s says ticks lent whole room Stay;
      },
    )

-- ## A down-force job of the list
module _ (mode : Mode) (jobs : List ℕ) (j : ℕ) (l : j < job_count jobs) (its : task_of jobs j ≡ down_force) where
  -- It is due 20 ticks after its arrival, and assured 12 ticks plus its execution time after it.
  pub due : deadline_instant (planter mode jobs).lists j ≡ arrival jobs j + 20
  unfolding deadline_instant deadline
  due = rw its

  assured_at : assured (planter mode jobs) j ≡ arrival jobs j + 12 + execution jobs j
  unfolding assured zero_slack_instant offset
  assured_at = rw its

  top_criticality : job_criticality (planter mode jobs).lists j ≡ 3
  unfolding job_criticality criticality
  top_criticality = rw its

  -- At the end of a legal schedule.
  module _ (horizon : ℕ) (r : Record) (p : Planned mode jobs horizon r) where
    -- The checks let no down-force job run longer than 8 ticks.
    short : execution jobs j ≤ 8
    unfolding check_schedule overload outcome_said
    short =
        let checked = outcome_said_law (check_schedule (planter mode jobs).lists horizon (length p.schedule)) Done
        ((library.legal_exactly (planter mode jobs) horizon p.schedule).0 p.legal_throughout).0 in
        let within = (accepted_job table jobs (lists_jobs (planter mode jobs).lists (before_first (check_lists (planter mode jobs).lists) _ checked)) j l).within in
        subst (λ (k : ℕ). execution jobs j ≤ overload table k) its within

    -- It has finished by arrival + 12 + its execution time, if the horizon reaches that far.
    pub finishes_by : arrival jobs j + 12 + execution jobs j ≤ horizon
        → (f : ℕ) × (standing_said (standing_at r j) ≡ finished_at f) × (f ≤ arrival jobs j + 12 + execution jobs j)
    finishes_by h =
        let w = library.finishes_by (planter mode jobs) horizon p.schedule p.legal_throughout down_force down_force_topmost j l its (omega (arith, assured_at)) in
        (w.0, ap (λ (x : Record). standing_said (standing_at x j)) p.at_its_end ∙ w.1, omega (arith, assured_at, w.2))

    -- It is never suspended: 0 ticks are counted.
    pub never_suspended : suspended_at r j ≡ 0
    never_suspended =
        ap (λ (x : Record). suspended_at x j) p.at_its_end
        ∙ library.never_suspended_at_end (planter mode jobs) horizon p.schedule p.legal_throughout down_force down_force_topmost j l its

    -- It is never ended.
    pub never_ended : verdict_said (verdict_answer (planter mode jobs) r j) ≡ ended → ⊥
    unfolding job_criticality
    never_ended says =
        let g = planter mode jobs in
        let e = ((library.ended_exactly g r j).0 says).1 in
        let at = sym (ap (λ (x : Record). standing_said (standing_at x j)) p.at_its_end) ∙ e.1 in
        let w = library.ended_by_overrun g horizon p.schedule p.legal_throughout j l e.0 at in
        omega (arith, w.2, top_criticality, most_critical (task_of jobs w.0))

    -- Where its deadline lies within the horizon ..
    module _ (within : arrival jobs j + 20 ≤ horizon) where
      -- .. it has finished by arrival + 12 + its execution time ..
      pub finishes_in_time : (f : ℕ) × (standing_said (standing_at r j) ≡ finished_at f) × (f ≤ arrival jobs j + 12 + execution jobs j)
      finishes_in_time = finishes_by (omega (arith, short))

      -- .. is judged met ..
      pub meets : verdict_said (verdict_answer (planter mode jobs) r j) ≡ met
      meets =
          ap (λ (x : Record). verdict_said (verdict_answer (planter mode jobs) x j)) p.at_its_end
          ∙ library.meets (planter mode jobs) horizon p.schedule p.legal_throughout down_force down_force_topmost j l its (omega (arith, due))

      -- .. and so is never late, neither by exactly nor by at least any number.
      pub never_late : (n : ℕ) (is_exact : Bool) → verdict_said (verdict_answer (planter mode jobs) r j) ≡ late n is_exact → ⊥
      never_late n is_exact says = let z : ◌≡◌ {A = List ℕ} met (late n is_exact) = sym meets ∙ says in apart (cc)

  -- The witnesses against it, where its deadline lies within the horizon: a legal schedule is answered "not missed" ..
  module _ (horizon : ℕ) (schedule : List ℕ) (within : arrival jobs j + 20 ≤ horizon) where
    pub not_missed_law : claim_said (claim_answer (planter mode jobs) horizon schedule) ≡ legal → witness_said (witness_answer (planter mode jobs) horizon schedule j) ≡ not_missed
    not_missed_law ok = library.never_blamed (planter mode jobs) horizon schedule ok down_force down_force_topmost j l its (omega (arith, due))

    -- .. and no schedule at all is accepted.
    pub never_accepted : (n : ℕ) (is_exact : Bool) → witness_said (witness_answer (planter mode jobs) horizon schedule j) ≡ accepted_late n is_exact → ⊥
    never_accepted n is_exact says =
        let w = (library.witness_exactly (planter mode jobs) horizon schedule j n is_exact).0 says in
        never_late horizon (replayed (planter mode jobs) schedule) (record { schedule = schedule; legal_throughout = w.0; at_its_end = refl }) within n is_exact w.3

    pub never_accepted_ended : witness_said (witness_answer (planter mode jobs) horizon schedule j) ≡ accepted_ended → ⊥
    never_accepted_ended says = library.never_accepted_ended (planter mode jobs) horizon schedule j says

  -- So in a run from the fresh record it is judged met, where its deadline lies within the horizon ..
  pub run_meets : (horizon : ℕ) (lent : List ℕ) → outcome_said (run_answer (planter mode jobs) Stay horizon lent).outcome ≡ done → arrival jobs j + 20 ≤ horizon
      → verdict_said (verdict_answer (planter mode jobs) (run_answer (planter mode jobs) Stay horizon lent).«record» j) ≡ met
  run_meets horizon lent ok within = meets horizon (run_answer (planter mode jobs) Stay horizon lent).«record» (run_planned mode jobs horizon lent ok) within

  -- .. and in going on from that run's record, where it lies within both together. `go_on_planned` says the same of going on again.
  pub go_on_meets : (horizon : ℕ) (lent : List ℕ) → outcome_said (run_answer (planter mode jobs) Stay horizon lent).outcome ≡ done
      → (ticks : ℕ) (more : List ℕ) → length more ≡ ticks → horizon + ticks ≤ 16384 → arrival jobs j + 20 ≤ horizon + ticks
      → verdict_said (verdict_answer (planter mode jobs) (go_on_answer (planter mode jobs) Stay (run_answer (planter mode jobs) Stay horizon lent).«record» ticks more).«record» j) ≡ met
  go_on_meets horizon lent ok ticks more whole room within =
      let r = (run_answer (planter mode jobs) Stay horizon lent).«record» in
      meets (horizon + ticks) (go_on_answer (planter mode jobs) Stay r ticks more).«record» (go_on_planned mode jobs horizon r (run_planned mode jobs horizon lent ok) ticks more whole room).1 within
