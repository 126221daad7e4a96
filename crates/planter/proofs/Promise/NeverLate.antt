-- No job of the planter is ever late. At the end of every legal schedule, in either mode, each job of the list is judged met, ended or still
-- open: ended in SE alone, open only before its deadline. So it is in every run from the fresh record and in going on from such a run's record
-- (`run_planned` and `go_on_planned` in Promise), and no witness against any of its jobs is ever accepted. Of a record that a caller makes up
-- nothing is said.
--
-- This is a property of the planter's table; the argument stands in Timely. Beside the library's promise both cite its laws.
use Prim.Native.Nat.{◌<◌, ℕ, ◌≤◌}
use mathlib.Core.Bool.{Bool}
use mathlib.Core.List.{List}
use mathlib.Core.Logic.{◌⊎◌, inl, inr}
use mathlib.Core.Path.{◌≡◌, ◌∙◌, refl, subst, sym}
use native.Mathlib.Omega.{arith}
use lib.ListN.{length}
use borrow.Author.Tests.{le-leb, lt-leb}
use Rattle.bits.proofs.Laws.Bools.{apart}
use Rattle.std.specs.Prelude.{Result, Ok}
use Rattle.tables.specs.declared.answers.Refusal.{Refusal}
use Rattle.tables.specs.Outcomes.{Done}
use Rattle.tables.specs.Refusals.{check_jobs}
use Rattle.tables.specs.Tables.{deadline_instant, job_count}
use Rattle.tables.proofs.Laws.Accepted.{lists_jobs}
use Rattle.zsrm.specs.declared.answers.Verdict.{Verdict}
use Rattle.zsrm.specs.declared.mode.Mode.{Mode}
use Rattle.zsrm.specs.declared.mode.Mode.TheVariants.{S, SE}
use Rattle.zsrm.specs.declared.record.Record.{Record}
use Rattle.zsrm.specs.declared.record.Standing.{Standing}
use Rattle.zsrm.specs.declared.record.Standing.TheVariants.{Ended, Finished, NotArrived, Unfinished}
use Rattle.zsrm.specs.Answers.{verdict_answer, witness_answer}
use Rattle.zsrm.specs.Record.{standing_at}
use Rattle.zsrm.specs.Run.{replayed}
use Rattle.zsrm.specs.Said.{accepted_ended, accepted_late, ended, late, met, still_open, verdict_said, witness_said}
use Rattle.zsrm.specs.Verdict.{judged, verdict}
use Rattle.zsrm.proofs.Laws.Answers.{is_legal_law}
use Rattle.zsrm.proofs.Laws.Verdicts.{verdict_answered}
use Rattle.zsrm.proofs.Promise as library
use Rattle.planter.specs.Table.{planter, table}
use Rattle.planter.proofs.Promise.DownForce.{Planned}
use Rattle.planter.proofs.Laws.Timely.{EndsOnTime, Timed, always_on_time}

-- met; or ended, in SE; or still open, before the deadline
abbrev pub NotLate : Mode → ℕ → ℕ → Result Verdict Refusal → Type 0
NotLate mode horizon due v = (verdict_said v ≡ met) ⊎ (((verdict_said v ≡ ended) × (mode ≡ SE)) ⊎ ((verdict_said v ≡ still_open) × (horizon < due)))

module _ (mode : Mode) (jobs : List ℕ) (horizon : ℕ) (r : Record) (p : Planned mode jobs horizon r) (j : ℕ) (l : j < job_count jobs) where
  -- Each job is met, ended or still open ..
  pub met_ended_or_open : NotLate mode horizon (deadline_instant (planter mode jobs).lists j) (verdict_answer (planter mode jobs) r j)
  unfolding verdict verdict_said
  met_ended_or_open =
      let g = planter mode jobs in
      let c = is_legal_law g horizon p.schedule p.legal_throughout in
      let a = c.input in
      let ok = lists_jobs g.lists a.lists in
      let at_end = subst (λ (x : Record). EndsOnTime mode jobs ok x (length p.schedule) j) (sym p.at_its_end) (always_on_time mode jobs ok p.schedule (omega arith) c.legal j l) in
      let w = subst (λ (n : ℕ). EndsOnTime mode jobs ok r n j) a.whole at_end in
      subst (NotLate mode horizon (deadline_instant g.lists j)) (sym (verdict_answered g a.lists r w.sound j l)) (go ok (standing_at r j) w.time w.timed)
    where
      go : (ok : check_jobs table jobs ≡ Done) (x : Standing) → r.tick ≡ horizon → Timed mode jobs ok horizon (deadline_instant (planter mode jobs).lists j) x
          → NotLate mode horizon (deadline_instant (planter mode jobs).lists j) (Ok (judged (deadline_instant (planter mode jobs).lists j) r.tick x))
      go ok NotArrived time w = inr (inr (refl, w))
      go ok Unfinished time w = inr (inr (rw (lt-leb (deadline_instant (planter mode jobs).lists j) r.tick (omega (arith, w, time))), w))
      go ok (Finished f) time w = inl (rw (le-leb f _ w))
      go ok (Ended e) time w = inr (inl (refl, w))

  -- .. and so never late.
  pub never_late : (n : ℕ) (is_exact : Bool) → verdict_said (verdict_answer (planter mode jobs) r j) ≡ late n is_exact → ⊥
  never_late n is_exact says = go met_ended_or_open
    where
      go : NotLate mode horizon (deadline_instant (planter mode jobs).lists j) (verdict_answer (planter mode jobs) r j) → ⊥
      go (inl m) = apart (cc)
      go (inr (inl m)) = let z : ◌≡◌ {A = ℕ} 2 1 = cc in omega arith
      go (inr (inr m)) = let z : ◌≡◌ {A = ℕ} 3 1 = cc in omega arith

  -- So where its deadline lies within the horizon it is met or, in SE, ended ..
  pub due_met_or_ended : deadline_instant (planter mode jobs).lists j ≤ horizon
      → (verdict_said (verdict_answer (planter mode jobs) r j) ≡ met) ⊎ ((verdict_said (verdict_answer (planter mode jobs) r j) ≡ ended) × (mode ≡ SE))
  due_met_or_ended due = go met_ended_or_open
    where
      go : NotLate mode horizon (deadline_instant (planter mode jobs).lists j) (verdict_answer (planter mode jobs) r j)
          → (verdict_said (verdict_answer (planter mode jobs) r j) ≡ met) ⊎ ((verdict_said (verdict_answer (planter mode jobs) r j) ≡ ended) × (mode ≡ SE))
      go (inl m) = inl m
      go (inr (inl m)) = inr m
      go (inr (inr m)) = absurd (omega (arith, m.1))

  -- .. and in S it is met.
  pub due_met_in_s : mode ≡ S → deadline_instant (planter mode jobs).lists j ≤ horizon → verdict_said (verdict_answer (planter mode jobs) r j) ≡ met
  due_met_in_s plain due = go (due_met_or_ended due)
    where
      go : (verdict_said (verdict_answer (planter mode jobs) r j) ≡ met)
          ⊎ ((verdict_said (verdict_answer (planter mode jobs) r j) ≡ ended) × (mode ≡ SE)) → verdict_said (verdict_answer (planter mode jobs) r j) ≡ met
      go (inl m) = m
      go (inr m) = let both : S ≡ SE = sym plain ∙ m.1 in apart (cc)

-- No witness against any job is accepted, whatever its schedule.
pub never_accepted : (mode : Mode) (jobs : List ℕ) (horizon : ℕ) (schedule : List ℕ) (j n : ℕ) (is_exact : Bool)
    → witness_said (witness_answer (planter mode jobs) horizon schedule j) ≡ accepted_late n is_exact → ⊥
never_accepted mode jobs horizon schedule j n is_exact says =
    let g = planter mode jobs in
    let w = (library.witness_exactly g horizon schedule j n is_exact).0 says in
    never_late mode jobs horizon (replayed g schedule) (record { schedule = schedule; legal_throughout = w.0; at_its_end = refl }) j w.1 n is_exact w.3

pub never_accepted_ended : (mode : Mode) (jobs : List ℕ) (horizon : ℕ) (schedule : List ℕ) (j : ℕ)
    → witness_said (witness_answer (planter mode jobs) horizon schedule j) ≡ accepted_ended → ⊥
never_accepted_ended mode jobs horizon schedule j = library.never_accepted_ended (planter mode jobs) horizon schedule j
