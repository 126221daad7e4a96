-- What accepted lists say: the ranges of their fields, and that any two jobs of one task lie at least T apart, adjacent or not.
use Prim.Native.Nat.{◌+◌, ◌<◌, suc, zero, ℕ, ◌≤◌}
use mathlib.Core.Bool.{◌&&◌, Bool, false}
use mathlib.Core.List.{List, [], ◌∷◌}
use mathlib.Core.Path.{subst, sym, ◌∙◌, ◌≡◌, ap}
use mathlib.Core.Logic.{◌⊎◌, inl, inr}
use native.Mathlib.Decide.{ℕ_discrete}
use native.Mathlib.Nat.{not-suc-le-zero}
use native.Mathlib.Omega.{arith}
use lib.Dec.{eqb, ltb}
use borrow.Author.Tests.{eq-eqb, eqb-true, lt-ltb, ltb-false, ltb-true, not-false}
use Rattle.bits.specs.Below.{greatest}
use Rattle.bits.proofs.Laws.Bools.{and_false}
use Rattle.bits.proofs.Laws.Most.{Most, greatest_found}
use Rattle.tables.specs.Outcomes.{Done}
use Rattle.tables.specs.Refusals.{before, check2, check3, check4, check5, check6, check7, check8, check_jobs, check_tasks, outside, preceding, check_lists, check9, check10, check_schedule, refuse}
use Rattle.tables.specs.Tables.{arrival, criticality, deadline, execution, job_count, nominal, overload, period}
use Rattle.tables.specs.Tables.{priority, task_count, task_of, offset, Lists, deadline_instant, job_criticality, job_priority, zero_slack_instant}
use Rattle.tables.proofs.Laws.Refusals.{ascending_at, before_first, before_second, fine, refuse_fine, all_done, before_last, first_of}

module _ (tasks : List ℕ) (ok : check_tasks tasks ≡ Done) where
  pub few_tasks : task_count tasks ≤ 16
  unfolding check_tasks check2 outside
  few_tasks = let two = refuse_fine _ _ _ (before_first (check2 tasks) _ ok) in search fine

  -- every field of an accepted task is in its range, and C ≤ Co, D ≤ T, Z ≤ D
  pub record AcceptedTask (k : ℕ) : Type 0 where
    pub period_least : 1 ≤ period tasks k
    pub period_most : period tasks k ≤ 16384
    pub deadline_least : 1 ≤ deadline tasks k
    pub deadline_most : deadline tasks k ≤ 16384
    pub nominal_least : 1 ≤ nominal tasks k
    pub nominal_most : nominal tasks k ≤ 16384
    pub overload_least : 1 ≤ overload tasks k
    pub overload_most : overload tasks k ≤ 16384
    pub criticality_most : criticality tasks k ≤ 255
    pub priority_most : priority tasks k ≤ 63
    pub offset_most : offset tasks k ≤ 16384
    pub nominal_overload : nominal tasks k ≤ overload tasks k
    pub deadline_period : deadline tasks k ≤ period tasks k
    pub offset_deadline : offset tasks k ≤ deadline tasks k

  pub accepted_task : (k : ℕ) → k < task_count tasks → AcceptedTask k
  unfolding check_tasks check3 check4 outside
  accepted_task k l =
      let both = ascending_at (λ i. before (check3 tasks i) (check4 tasks i)) (task_count tasks) k l (before_second (check2 tasks) _ ok) in
      let three = refuse_fine _ _ _ (before_first (check3 tasks k) (check4 tasks k) both) in
      let four = refuse_fine _ _ _ (before_second (check3 tasks k) (check4 tasks k) both) in
      record {
        period_least = search fine depth 9;
        period_most = search fine depth 9;
        deadline_least = search fine depth 9;
        deadline_most = search fine depth 9;
        nominal_least = search fine depth 9;
        nominal_most = search fine depth 9;
        overload_least = search fine depth 9;
        overload_most = search fine depth 9;
        criticality_most = search fine depth 9;
        priority_most = search fine depth 9;
        offset_most = search fine depth 9;
        nominal_overload = search fine;
        deadline_period = search fine;
        offset_deadline = search fine;
      }

module _ (tasks jobs : List ℕ) (ok : check_jobs tasks jobs ≡ Done) where
  pub few_jobs : job_count jobs ≤ 64
  unfolding check_jobs check5
  few_jobs =
      let five = refuse_fine _ _ _ (before_first (check5 jobs) _ ok) in
      search fine

  pub record AcceptedJob (j : ℕ) : Type 0 where
    pub known : task_of jobs j < task_count tasks
    pub early : arrival jobs j ≤ 16384
    pub within : execution jobs j ≤ overload tasks (task_of jobs j)
    pub apart : (ltb (preceding jobs j) j && ltb (arrival jobs j) (arrival jobs (preceding jobs j) + period tasks (task_of jobs j))) ≡ false

  pub accepted_job : (j : ℕ) → j < job_count jobs → AcceptedJob j
  unfolding check_jobs check6 check8
  accepted_job j l =
      let each = ascending_at (λ i. before (check6 tasks jobs i) (before (check7 jobs i) (check8 tasks jobs i))) (job_count jobs) j l (before_second (check5 jobs) _ ok) in
      let six = refuse_fine _ _ _ (before_first (check6 tasks jobs j) _ each) in
      let eight = refuse_fine _ _ _ (before_second (check7 jobs j) _ (before_second (check6 tasks jobs j) _ each)) in
      record { known = ltb-true (task_of jobs j) (task_count tasks) (search fine); early = search fine; within = search fine; apart = eight }

  -- any two jobs of one task, and not only successive ones, lie at least T apart
  Apart : ℕ → Type 0
  Apart j = (i : ℕ) → i < j → task_of jobs i ≡ task_of jobs j → arrival jobs i + period tasks (task_of jobs j) ≤ arrival jobs j

  apart_below : (n j : ℕ) → j < n → j < job_count jobs → Apart j
  unfolding Apart preceding
  apart_below zero j b l i m e = absurd (not-suc-le-zero b)
  apart_below (suc n) j b l i m e =
      go (greatest_found same j j i m (eq-eqb (task_of jobs i) (task_of jobs j) e)) (apart_below n)
    where
      same : ℕ → Bool
      same k = eqb (task_of jobs k) (task_of jobs j)

      k : ℕ
      k = greatest j same j

      T : ℕ
      T = period tasks (task_of jobs j)

      go : Most same (λ x. x) j k → ((j' : ℕ) → j' < n → j' < job_count jobs → Apart j') → arrival jobs i + T ≤ arrival jobs j
      go w ih =
          let next : arrival jobs k + T ≤ arrival jobs j = ltb-false (arrival jobs j) (arrival jobs k + T) (and_false (lt-ltb k j w.below) (accepted_job j l).apart) in
          nearer next (ℕ_discrete i k)
        where
          t : task_of jobs k ≡ task_of jobs j
          t = eqb-true (task_of jobs k) (task_of jobs j) w.passes

          nearer : arrival jobs k + T ≤ arrival jobs j → Dec (i ≡ k) → arrival jobs i + T ≤ arrival jobs j
          nearer next (yes q) = subst (λ (x : ℕ). arrival jobs x + T ≤ arrival jobs j) (sym q) next
          nearer next (no q) =
              let far : arrival jobs i + period tasks (task_of jobs k) ≤ arrival jobs k
              = ih k (omega (arith, w.below)) (omega (arith, w.below)) i (omega (arith, w.tops i m (eq-eqb (task_of jobs i) (task_of jobs j) e), q)) (e ∙ sym t) in
              omega arith

  pub apart : (i j : ℕ) → i < j → j < job_count jobs → task_of jobs i ≡ task_of jobs j → arrival jobs i + period tasks (task_of jobs j) ≤ arrival jobs j
  unfolding Apart
  apart i j m l e = apart_below (suc j) j (omega arith) l i m e

-- both lists accepted
module _ (l : Lists) (ok : check_lists l ≡ Done) where
  pub lists_tasks : check_tasks l.tasks ≡ Done
  unfolding check_lists
  lists_tasks = before_first (check_tasks l.tasks) _ ok

  pub lists_jobs : check_jobs l.tasks l.jobs ≡ Done
  unfolding check_lists
  lists_jobs = before_second (check_tasks l.tasks) _ ok

  pub lists_few : job_count l.jobs ≤ 64
  lists_few = few_jobs l.tasks l.jobs lists_jobs

  -- what a job has from its task is small: no sum of the rules wraps
  pub record Bounded (j : ℕ) : Type 0 where
    pub arrival_most : arrival l.jobs j ≤ 16384
    pub execution_most : execution l.jobs j ≤ 16384
    pub slack_instant : zero_slack_instant l j ≤ 32768
    pub deadline_instant_law : deadline_instant l j ≤ 32768
    pub priority_most : job_priority l j ≤ 63
    pub criticality_most : job_criticality l j ≤ 255

  pub bounded : (j : ℕ) → j < job_count l.jobs → Bounded j
  unfolding zero_slack_instant deadline_instant job_priority job_criticality
  bounded j b =
      let w = accepted_job l.tasks l.jobs lists_jobs j b in
      let t = accepted_task l.tasks lists_tasks (task_of l.jobs j) w.known in
      record {
        arrival_most = w.early;
        execution_most = omega arith;
        slack_instant = omega arith;
        deadline_instant_law = omega arith;
        priority_most = t.priority_most;
        criticality_most = t.criticality_most;
      }

-- what an accepted schedule says of its input
pub record Accepted (l : Lists) (horizon entries : ℕ) : Type 0 where
  pub lists : check_lists l ≡ Done
  pub bounded : horizon ≤ 16384
  pub whole : entries ≡ horizon

pub accepted : (l : Lists) (horizon entries : ℕ) → check_schedule l horizon entries ≡ Done → Accepted l horizon entries
unfolding check_schedule check9 check10 first_of
accepted l horizon entries ok =
    let w = (all_done (check_lists l ∷ check9 horizon ∷ check10 entries horizon ∷ [])).0 ok in
    record { lists = w.0; bounded = ltb-false 16384 horizon (refuse_fine _ 9 0 w.1.0); whole = eqb-true entries horizon (not-false _ (refuse_fine _ 10 0 w.1.1.0)) }

-- where the lent list is as long as the horizon, or the horizon is refused, the lists and the horizon decide
length_fits : (horizon entries : ℕ) → (entries ≡ horizon) ⊎ (16384 < horizon) → before (check9 horizon) (check10 entries horizon) ≡ check9 horizon
unfolding check9 check10 refuse before
length_fits horizon entries (inl e) = rw (eq-eqb entries horizon e) (before_last (refuse (ltb 16384 horizon) 9 0))
length_fits horizon entries (inr l) = rw (lt-ltb 16384 horizon l)

pub schedule_checked : (l : Lists) (horizon entries : ℕ) → (entries ≡ horizon) ⊎ (16384 < horizon) → check_schedule l horizon entries ≡ before (check_lists l) (check9 horizon)
unfolding check_schedule
schedule_checked l horizon entries fits = ap (before (check_lists l)) (length_fits horizon entries fits)
