-- The laws of one tick, at any record, whatever led to it: who is past zero slack, eligible, a candidate; that a legal entry serves
-- every job past zero slack; what the tick does to a job alive in it; that the job that runs is not ended; which number each tick raises.
use Prim.Native.Nat.{◌<◌, ℕ, ◌≤◌, suc, ◌+◌}
use mathlib.Core.Bool.{◌&&◌, Bool, cond, false, not, true}
use mathlib.Core.Logic.Iff
use mathlib.Core.Logic.{◌⊎◌, inl, inr, ⊎_elim, ◌↔◌, ◌≢◌}
use mathlib.Core.Path.{◌≡◌, ap, refl}
use native.Mathlib.Decide.{ℕ_discrete}
use native.Mathlib.Omega.{arith}
use lib.Dec.{eqb, ltb}
use borrow.Author.Tests.{not-true, eq-eqb, eqb-false, ne_eqb}
use Rattle.bits.proofs.Laws.Below.{least_found, least_none, some_found, some_true}
use Rattle.bits.proofs.Laws.Bools.{and_false, and_false_right, and_left, and_right, and_true, clash, either, never_true, not_of, passed, by_cond}
use Rattle.bits.proofs.Laws.Most.{Most, most_there}
use Rattle.zsrm.specs.declared.record.Record.{Record}
use Rattle.zsrm.specs.Given.{Given, is_se}
use Rattle.tables.specs.Tables.{idle, job_count, job_criticality, job_priority, zero_slack_instant, execution}
use Rattle.zsrm.specs.Tick.{alive, candidate, eligible, ends, higher_priority, more_critical, over, lowest, past_zero_slack}
use Rattle.zsrm.specs.Tick.{some_job, suspended, suspended_after, waited_after, waits, done_after, finishes, goes_on, candidate_or_idle}
use Rattle.bits.proofs.Readings.{and_reads, eq_reads, lt_reads, not_reads, or_reads, and_fails, lt_fails, none_reads, some_reads, le_reads}
use Rattle.zsrm.specs.Record.{done_at, suspended_at, waited_at}
use Rattle.zsrm.specs.declared.record.Standing.{Standing}
use Rattle.zsrm.specs.declared.record.Standing.TheVariants.{Ended, Finished, Unfinished}
use Rattle.zsrm.specs.declared.mode.Mode.{Mode}
use Rattle.zsrm.specs.declared.mode.Mode.TheVariants.{S, SE}
use Rattle.bits.specs.Below.{some}

module _ (g : Given) (r : Record) where
  pub past_exactly : (j : ℕ) → past_zero_slack g r j ≡ true ↔ (alive r j ≡ true) × (zero_slack_instant g.lists j ≤ r.tick)
  unfolding past_zero_slack
  past_exactly j = and_reads Iff.rfl (le_reads _ _)

  pub suspended_exactly : (j : ℕ) → suspended g r j ≡ true
      ↔ (alive r j ≡ true) × ((i : ℕ) × (i < job_count g.lists.jobs) × ((past_zero_slack g r i ≡ true) × (job_criticality g.lists j < job_criticality g.lists i)))
  unfolding suspended some_job more_critical
  suspended_exactly j = and_reads Iff.rfl (some_reads _ (λ i. and_reads Iff.rfl (lt_reads _ _)))

  -- a job is eligible exactly when it is alive, with no more critical job past zero slack
  pub eligible_exactly : (j : ℕ) → eligible g r j ≡ true
      ↔ (alive r j ≡ true) × ((i : ℕ) → i < job_count g.lists.jobs → past_zero_slack g r i ≡ true → job_criticality g.lists i ≤ job_criticality g.lists j)
  unfolding eligible suspended some_job more_critical
  eligible_exactly j = (
    λ h. let a = and_left (alive r j) _ h in (a, none.0 (and_false a (not-true _ (and_right (alive r j) _ h)))),
    λ w. and_true w.0 (not_of (and_false_right (alive r j) (none.1 w.1))),
  )
    where
      none : some (job_count g.lists.jobs) (λ i. past_zero_slack g r i && ltb (job_criticality g.lists j) (job_criticality g.lists i)) ≡ false
          ↔ ((i : ℕ) → i < job_count g.lists.jobs → past_zero_slack g r i ≡ true → job_criticality g.lists i ≤ job_criticality g.lists j)
      none = none_reads _ (λ i. and_fails (lt_fails _ _))

  pub eligible_alive : (j : ℕ) → eligible g r j ≡ true → alive r j ≡ true
  eligible_alive j h = ((eligible_exactly j).0 h).0

  -- the most critical job past zero slack is eligible
  pub top_eligible : (k : ℕ) → Most (past_zero_slack g r) (job_criticality g.lists) (job_count g.lists.jobs) k → eligible g r k ≡ true
  top_eligible k w = (eligible_exactly k).1 (((past_exactly k).0 w.passes).0, w.tops)

  -- a job is a candidate exactly when it is eligible, with no eligible job of higher priority
  pub candidate_exactly : (j : ℕ) → candidate g r j ≡ true
      ↔ (eligible g r j ≡ true) × ((i : ℕ) → i < job_count g.lists.jobs → eligible g r i ≡ true → job_priority g.lists i ≤ job_priority g.lists j)
  unfolding candidate some_job higher_priority
  candidate_exactly j = and_reads Iff.rfl (Iff.trans (not_reads _) (none_reads _ (λ i. and_fails (lt_fails _ _))))

  pub candidate_eligible : (j : ℕ) → candidate g r j ≡ true → eligible g r j ≡ true
  candidate_eligible j h = ((candidate_exactly j).0 h).0

  -- where a job is eligible, a candidate exists
  pub some_candidate : (k : ℕ) → k < job_count g.lists.jobs → eligible g r k ≡ true → some_job g.lists.jobs (candidate g r) ≡ true
  unfolding some_job
  some_candidate k l h =
      let w = most_there (eligible g r) (job_priority g.lists) (job_count g.lists.jobs) k l h in
      some_true (candidate g r) (job_count g.lists.jobs) w.0 w.1.below ((candidate_exactly w.0).1 (w.1.passes, w.1.tops))

  -- the entry of a tick is a candidate, or idle with none
  pub runs_exactly : (e : ℕ) → candidate_or_idle g r e ≡ true
      ↔ ((e < job_count g.lists.jobs) × (candidate g r e ≡ true)) ⊎ ((e ≡ idle) × (some_job g.lists.jobs (candidate g r) ≡ false))
  unfolding candidate_or_idle
  runs_exactly e = or_reads (and_reads (lt_reads _ _) Iff.rfl) (and_reads (eq_reads _ _) (not_reads _))

  pub runs_or_idle : (e : ℕ) → candidate_or_idle g r e ≡ true
      → ((e < job_count g.lists.jobs) × (candidate g r e ≡ true)) ⊎ ((e ≡ idle) × (some_job g.lists.jobs (candidate g r) ≡ false))
  runs_or_idle e = (runs_exactly e).0

  -- the lowest candidate, or idle where there is none
  pub lowest_may : candidate_or_idle g r (lowest g r) ≡ true
  unfolding lowest some_job
  lowest_may = (runs_exactly (lowest g r)).1 (⊎_elim found none (either (some n (candidate g r))))
    where
      n : ℕ
      n = job_count g.lists.jobs

      Way : Type 0
      Way = ((lowest g r < n) × (candidate g r (lowest g r) ≡ true)) ⊎ ((lowest g r ≡ idle) × (some n (candidate g r) ≡ false))

      found : some n (candidate g r) ≡ true → Way
      found s = inl (least_found (candidate g r) n idle s)

      none : some n (candidate g r) ≡ false → Way
      none s = inr (least_none (candidate g r) n idle s, s)

  -- where a job is past zero slack, the entry of a tick is a job, alive and no less critical
  pub record Serves (j e : ℕ) : Type 0 where
    pub job : e < job_count g.lists.jobs
    pub lives : alive r e ≡ true
    pub no_less : job_criticality g.lists j ≤ job_criticality g.lists e

  pub dispatch_serves : (e j : ℕ) → candidate_or_idle g r e ≡ true → j < job_count g.lists.jobs → past_zero_slack g r j ≡ true → Serves j e
  dispatch_serves e j d l q = ⊎_elim runs none (runs_or_idle e d)
    where
      runs : (e < job_count g.lists.jobs) × (candidate g r e ≡ true) → Serves j e
      runs c =
          let x = candidate_eligible e c.1 in
          record { job = c.0; lives = eligible_alive e x; no_less = ((eligible_exactly e).0 x).1 j l q }

      none : (e ≡ idle) × (some_job g.lists.jobs (candidate g r) ≡ false) → Serves j e
      none c =
          let w = most_there (past_zero_slack g r) (job_criticality g.lists) (job_count g.lists.jobs) j l q in
          clash (some_candidate w.0 w.1.below (top_eligible w.0 w.1)) c.1

  -- the job that runs is eligible
  pub runs_eligible : (e j : ℕ) → candidate_or_idle g r e ≡ true → j < 64 → e ≡ j → eligible g r j ≡ true
  runs_eligible e j d l q =
      ⊎_elim (λ c. rw q at (candidate_eligible e c.1)) (λ c. absurd (omega (arith, c.0))) (runs_or_idle e d)

pub is_se_law : (m : Mode) → is_se m ≡ true → m ≡ SE
is_se_law S h = clash h refl
is_se_law SE h = refl

pub se_reads : (m : Mode) → is_se m ≡ true ↔ m ≡ SE
se_reads m = (is_se_law m, λ e. rw e)

-- what the tick does, its entry e being given
module _ (g : Given) (r : Record) (e : ℕ) where
  -- the job that ran has one more tick done, and no other has
  pub done_ran : (j : ℕ) → e ≡ j → done_after g r e j ≡ suc (done_at r j)
  unfolding done_after
  done_ran j q = rw (eq-eqb e j q) (omega arith)

  pub done_idle : (j : ℕ) → e ≢ j → done_after g r e j ≡ done_at r j
  unfolding done_after
  done_idle j n = rw (ne_eqb e j n) (omega arith)

  pub done_most : (j : ℕ) → done_after g r e j ≤ suc (done_at r j)
  unfolding done_after
  done_most j = by_cond (λ n. done_at r j + n ≤ suc (done_at r j)) (eqb e j) 1 0 (λ q. omega arith) (λ q. omega arith)

  -- a job that is not alive does not run
  pub done_dead : candidate_or_idle g r e ≡ true → (j : ℕ) → j < 64 → alive r j ≡ false → done_after g r e j ≡ done_at r j
  done_dead d j l a = done_idle j (λ q. clash (eligible_alive g r j (runs_eligible g r e j d l q)) a)

  -- what becomes of a job alive in the tick: it finishes, or is ended, or neither
  pub finishing : (j : ℕ) → finishes g r e j ≡ true ↔ (e ≡ j) × (done_after g r e j ≡ execution g.lists.jobs j)
  unfolding finishes
  finishing j = and_reads (eq_reads e j) (eq_reads _ _)

  pub goes_on_cases : (P : Standing → Type 0) (j : ℕ) → (e ≡ j → done_after g r e j ≡ execution g.lists.jobs j → P (Finished (suc r.tick)))
      → (finishes g r e j ≡ false → ends g r e j ≡ true → P (Ended r.tick))
      → (finishes g r e j ≡ false → ends g r e j ≡ false → P Unfinished)
      → P (goes_on g r e j)
  unfolding goes_on
  goes_on_cases P j finished ended neither =
      by_cond P (finishes g r e j) _ _ (λ x. let w = (finishing j).0 x in finished w.0 w.1)
      (λ x. by_cond P (ends g r e j) _ _ (ended x) (neither x))

  -- the job that is ended is strictly less critical than some job past zero slack, in mode SE
  pub record EndedBy (j i : ℕ) : Type 0 where
    pub job : i < job_count g.lists.jobs
    pub se : g.mode ≡ SE
    pub past : past_zero_slack g r i ≡ true
    pub more : job_criticality g.lists j < job_criticality g.lists i

  pub ends_by : (j : ℕ) → ends g r e j ≡ true → (i : ℕ) × EndedBy j i
  unfolding ends some_job over more_critical
  ends_by j h =
      let w = some_found (λ i. over g r e i && more_critical g i j) (job_count g.lists.jobs) (search passed) in
      let x = w.1 in
      let y = w.2 in
      (w.0, search (passed, is_se_law) depth 7)

  -- no eligible job is ended in its tick
  pub eligible_unended : (j : ℕ) → eligible g r j ≡ true → ends g r e j ≡ false
  eligible_unended j h =
      never_true (ends g r e j) (λ x. let w = ends_by j x in omega (arith, w.1.more, ((eligible_exactly g r j).0 h).1 w.0 w.1.job w.1.past))

  -- the job that is ended is suspended in that tick: what is over is past zero slack
  pub ended_suspended : (j : ℕ) → ends g r e j ≡ true → suspended g r j ≡ true
  unfolding ends
  ended_suspended j h =
      let w = ends_by j h in
      (suspended_exactly g r j).1 (and_left (alive r j) _ h, (w.0, w.1.job, (w.1.past, w.1.more)))

  -- a job that is suspended has one more tick suspended, and no other has
  pub suspended_more : (j : ℕ) → suspended g r j ≡ true → suspended_after g r e j ≡ suc (suspended_at r j)
  unfolding suspended_after
  suspended_more j s = rw s (omega arith)

  pub suspended_same : (j : ℕ) → suspended g r j ≡ false → suspended_after g r e j ≡ suspended_at r j
  unfolding suspended_after
  suspended_same j s = rw s (omega arith)

  -- a job that waits has one more tick waited, and no other has
  pub waited_more : (j : ℕ) → waits g r e j ≡ true → waited_after g r e j ≡ suc (waited_at r j)
  unfolding waited_after
  waited_more j w = rw w (omega arith)

  pub waited_same : (j : ℕ) → waits g r e j ≡ false → waited_after g r e j ≡ waited_at r j
  unfolding waited_after
  waited_same j w = rw w (omega arith)

  -- a job waits exactly when it is eligible and the entry is another job
  pub waiting : (j : ℕ) → waits g r e j ≡ true ↔ (eligible g r j ≡ true) × (e < job_count g.lists.jobs) × (e ≢ j)
  unfolding waits
  waiting j = Iff.trans (and_reads (and_reads Iff.rfl (lt_reads _ _)) (Iff.trans (not_reads _) (eqb-false e j, ne_eqb e j))) (λ w. (w.0.0, w.0.1, w.1), λ w. ((w.0, w.1), w.2))

  -- what the tick adds to the three numbers of job j
  pub record Raised (j done suspended waited : ℕ) : Type 0 where
    pub done_by_law : done_after g r e j ≡ done_at r j + done
    pub suspended_by : suspended_after g r e j ≡ suspended_at r j + suspended
    pub waited_by : waited_after g r e j ≡ waited_at r j + waited

  raised : (j : ℕ) (a b c : Bool) → eqb e j ≡ a → suspended g r j ≡ b → waits g r e j ≡ c → Raised j (cond a 1 0) (cond b 1 0) (cond c 1 0)
  unfolding done_after suspended_after waited_after
  raised j a b c p q w = record { done_by_law = rw p; suspended_by = rw q; waited_by = rw w }

  module _ (may : candidate_or_idle g r e ≡ true) (j : ℕ) (l : j < 64) where
    -- of a job alive in the tick exactly one is raised, by one: it runs, or is suspended, or waits
    pub one_raised : j < job_count g.lists.jobs → alive r j ≡ true → Raised j 1 0 0 ⊎ Raised j 0 1 0 ⊎ Raised j 0 0 1
    unfolding eligible
    one_raised k a = go (ℕ_discrete e j) (either (suspended g r j))
      where
        still : (eligible g r j ≡ false) ⊎ (e ≡ j) → waits g r e j ≡ false
        still (inl h) = never_true _ (λ w. clash ((waiting j).0 w).0 h)
        still (inr q) = never_true _ (λ w. ((waiting j).0 w).2 q)

        -- where a job is eligible, the entry is a job
        runs : eligible g r j ≡ true → e < job_count g.lists.jobs
        runs h = ⊎_elim (λ c. c.0) (λ c. clash (some_candidate g r j k h) c.1) (runs_or_idle g r e may)

        go : Dec (e ≡ j) → (suspended g r j ≡ true) ⊎ (suspended g r j ≡ false) → Raised j 1 0 0 ⊎ Raised j 0 1 0 ⊎ Raised j 0 0 1
        go (yes q) (inl s) = clash s (not-true _ (and_right (alive r j) _ (runs_eligible g r e j may l q)))
        go (yes q) (inr s) = inl (raised j true false false (eq-eqb e j q) s (still (inr q)))
        go (no n) (inl s) = inr (inl (raised j false true false (ne_eqb e j n) s (still (inl (and_false_right (alive r j) (ap not s))))))
        go (no n) (inr s) =
            let h : eligible g r j ≡ true = and_true a (not_of s) in
            inr (inr (raised j false false true (ne_eqb e j n) s ((waiting j).1 (h, runs h, n))))

    -- of any other none
    pub none_raised : alive r j ≡ false → Raised j 0 0 0
    none_raised a =
        raised j false false false (ne_eqb e j (λ q. clash (eligible_alive g r j (runs_eligible g r e j may l q)) a))
        (never_true _ (λ s. clash ((suspended_exactly g r j).0 s).0 a)) (never_true _ (λ w. clash (eligible_alive g r j ((waiting j).0 w).0) a))
