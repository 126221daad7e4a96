-- Where a tick is no scheduling instant, the eligible jobs, and so the candidates, are those of the tick before.
-- So an entry that was legal stays a candidate, the lowest candidate is the same, and our run is a legal claim.
use Prim.Native.Nat.{◌<◌, suc, ℕ, ◌≤◌}
use mathlib.Core.Bool.{◌&&◌, ◌||◌, Bool, false, not, true}
use mathlib.Core.Path.{ap, ap₂, refl, ◌≡◌}
use native.Mathlib.Omega.{arith}
use lib.Dec.{eqb, ltb}
use borrow.Author.Tests.{eq-eqb, ltb-true}
use Rattle.bits.proofs.Laws.Below.{least_same, some_false, some_same}
use Rattle.bits.proofs.Laws.Bools.{clash, failed, same_test}
use Rattle.bits.proofs.Laws.Most.{most_there}
use Rattle.zsrm.specs.declared.record.Record.{Record}
use Rattle.zsrm.specs.declared.record.Standing.{Standing}
use Rattle.zsrm.specs.declared.record.Standing.TheVariants.{Ended, Finished, NotArrived, Unfinished}
use Rattle.zsrm.specs.Legal.{is_finished_at, scheduling_instant, instant_by}
use Rattle.zsrm.specs.Record.{consistent, done_at, standing_at}
use Rattle.zsrm.specs.Given.{Given}
use Rattle.tables.specs.Tables.{arrival, idle, job_count, job_criticality, zero_slack_instant}
use Rattle.zsrm.specs.Tick.{advanced, alive, candidate, candidate_or_idle, eligible, ends, higher_priority, lowest, past_zero_slack, some_job, standing_after, is_unfinished}
use Rattle.zsrm.proofs.Laws.Consistent.{Sound, sound_at_law}
use Rattle.zsrm.proofs.Laws.Places.{standing_advanced, opening_cases, standing_alive}
use Rattle.zsrm.proofs.Laws.Tick.{eligible_unended, top_eligible, goes_on_cases, eligible_exactly, past_exactly}

-- records with the same eligible jobs have the same candidates, the same lowest one, and the same entries may run
module _ (g : Given) (r s : Record) (same : (j : ℕ) → j < job_count g.lists.jobs → eligible g s j ≡ eligible g r j) where
  pub candidate_alike : (j : ℕ) → j < job_count g.lists.jobs → candidate g s j ≡ candidate g r j
  unfolding candidate some_job
  candidate_alike j l =
      ap₂ (λ (a b : Bool). a && not b) (same j l)
      (some_same (λ i. eligible g s i && higher_priority g i j) (λ i. eligible g r i && higher_priority g i j) (job_count g.lists.jobs)
      (λ i m. ap (λ (b : Bool). b && higher_priority g i j) (same i m)))

  pub lowest_alike : lowest g s ≡ lowest g r
  unfolding lowest
  lowest_alike = least_same (candidate g s) (candidate g r) (job_count g.lists.jobs) idle candidate_alike

  pub may_alike : (e : ℕ) → candidate_or_idle g s e ≡ candidate_or_idle g r e
  unfolding candidate_or_idle some_job
  may_alike e =
      ap₂ (λ (a b : Bool). a || (eqb e idle && not b)) (named (ltb e (job_count g.lists.jobs)) refl)
      (some_same (candidate g s) (candidate g r) (job_count g.lists.jobs) candidate_alike)
    where
      named : (b : Bool) → ltb e (job_count g.lists.jobs) ≡ b → (b && candidate g s e) ≡ (b && candidate g r e)
      named true h = candidate_alike e (ltb-true e (job_count g.lists.jobs) h)
      named false h = refl

module _ (g : Given) (r : Record) (e p : ℕ) (few : job_count g.lists.jobs ≤ 64) (sound : consistent g r ≡ true) (still : scheduling_instant g (advanced g r e) p ≡ false) where
  -- the tick after brings nothing for the job j
  record Quiet (j : ℕ) : Type 0 where
    no_arrival : arrival g.lists.jobs j ≡ suc r.tick → ⊥
    no_finish : is_finished_at (suc r.tick) (standing_at (advanced g r e) j) ≡ false
    no_slack : zero_slack_instant g.lists j ≡ suc r.tick → ⊥

  quiet : (j : ℕ) → j < job_count g.lists.jobs → Quiet j
  unfolding scheduling_instant some_job instant_by advanced
  quiet j l =
      let none = some_false (instant_by g (advanced g r e) p) (job_count g.lists.jobs) j l still in
      record { no_arrival = search failed; no_finish = search failed; no_slack = search failed }

  -- a job is alive after the tick if it was and is not ended in it, and only if it was
  still_alive : (j : ℕ) → j < job_count g.lists.jobs → alive r j ≡ true → ends g r e j ≡ false → alive (advanced g r e) j ≡ true
  unfolding alive
  still_alive j l a n =
      let s = standing_alive g r e j (omega arith) a in
      rw s (goes_on_cases g r e (λ s. is_finished_at (suc r.tick) s ≡ false → is_unfinished s ≡ true) j
      (λ q f x. clash (eq-eqb (suc r.tick) _ refl) x) (λ x y f. clash y n) (λ x y f. refl) (rw s at (quiet j l).no_finish))

  was_alive : (j : ℕ) → j < job_count g.lists.jobs → alive (advanced g r e) j ≡ true → alive r j ≡ true
  unfolding alive standing_after
  was_alive j l a = go (standing_at r j) (sound_at_law g r sound j (omega arith)) (rw (standing_advanced g r e j (omega arith)) at a)
    where
      go : (s : Standing) → Sound g r.tick j (done_at r j) s → is_unfinished (standing_after g r e j s) ≡ true → is_unfinished s ≡ true
      go NotArrived w =
          opening_cases g.lists.jobs (suc r.tick) j (λ s. is_unfinished s ≡ true → false ≡ true) (λ h b c u. u)
          (λ h b c u. absurd ((quiet j l).no_arrival (omega (arith, w.away h)))) (λ x u. u)
      go Unfinished w = λ u. refl
      go (Finished x) w = λ u. u
      go (Ended x) w = λ u. u

  -- past zero slack after the tick: past zero slack before it, and not ended
  past_before : (j : ℕ) → j < job_count g.lists.jobs → past_zero_slack g (advanced g r e) j ≡ true → past_zero_slack g r j ≡ true
  unfolding advanced
  past_before j l h =
      let w = (past_exactly g (advanced g r e) j).0 h in
      let n = (quiet j l).no_slack in
      (past_exactly g r j).1 (was_alive j l w.0, omega arith)

  past_after : (j : ℕ) → j < job_count g.lists.jobs → past_zero_slack g r j ≡ true → ends g r e j ≡ false → past_zero_slack g (advanced g r e) j ≡ true
  unfolding advanced
  past_after j l h n = let w = (past_exactly g r j).0 h in (past_exactly g (advanced g r e) j).1 (still_alive j l w.0 n, omega arith)

  eligible_stays : (j : ℕ) → j < job_count g.lists.jobs → eligible g r j ≡ true → eligible g (advanced g r e) j ≡ true
  eligible_stays j l h =
      let w = (eligible_exactly g r j).0 h in
      (eligible_exactly g (advanced g r e) j).1 (still_alive j l w.0 (eligible_unended g r e j h), λ i m p. w.1 i m (past_before i m p))

  -- the most critical job past zero slack is eligible, so not ended, and past zero slack after the tick
  eligible_was : (j : ℕ) → j < job_count g.lists.jobs → eligible g (advanced g r e) j ≡ true → eligible g r j ≡ true
  eligible_was j l h =
      let a = (eligible_exactly g (advanced g r e) j).0 h in
      (eligible_exactly g r j).1 (
        was_alive j l a.0,
        λ i m p.
            let w = most_there (past_zero_slack g r) (job_criticality g.lists) (job_count g.lists.jobs) i m p in
            let x = eligible_unended g r e w.0 (top_eligible g r w.0 w.1) in
            omega (arith, w.1.tops i m p, a.1 w.0 w.1.below (past_after w.0 w.1.below w.1.passes x)),
      )

  pub eligible_same : (j : ℕ) → j < job_count g.lists.jobs → eligible g (advanced g r e) j ≡ eligible g r j
  eligible_same j l = same_test (eligible g (advanced g r e) j) (eligible g r j) (eligible_was j l) (eligible_stays j l)

  pub candidate_same : (j : ℕ) → j < job_count g.lists.jobs → candidate g (advanced g r e) j ≡ candidate g r j
  candidate_same = candidate_alike g r (advanced g r e) eligible_same
