-- Every refusal's number is at least 1, and number and place are small. A list that is too long is refused by its length, whatever is in it, and
-- one that passes is no longer than its limit.
use Prim.Native.Nat.{◌%◌, ◌/◌, ◌<◌, suc, zero, ℕ, ◌≤◌}
use mathlib.Core.Bool.{Bool, false, not, true, ◌||◌}
use mathlib.Core.List.{List}
use mathlib.Core.Path.{refl, ◌≡◌}
use native.Mathlib.Omega.{arith}
use lib.Dec.{eqb, lit≤}
use lib.ListN.{length}
use borrow.Author.Tests.{eqb-true, lt-ltb, not-false}
use Rattle.std.specs.Prelude.{Ok, Err}
use Rattle.tables.specs.Outcomes.{Outcome, Done, Refused}
use Rattle.tables.specs.Refusals.{ascending, before, check2, check3, check4, check5, check6, check7, check8, check_jobs, check_tasks, outside, refuse}
use Rattle.tables.specs.Tables.{job_count, task_count}
use Rattle.tables.proofs.Laws.Refusals.{fine}

abbrev pub Small : Outcome → Type 0
Small (Ok u) = Unit {0}
Small (Err w) = (1 ≤ w.number) × (w.number ≤ 13) × (w.place ≤ 64)

pub small_refuse : (b : Bool) (number place : ℕ) → 1 ≤ number → number ≤ 13 → place ≤ 64 → Small (refuse b number place)
unfolding refuse
small_refuse true n p g h k = (g, h, k)
small_refuse false n p g h k = tt

-- a later check matters only where the earlier one is done
pub small_before : (a b : Outcome) → Small a → (a ≡ Done → Small b) → Small (before a b)
unfolding before
small_before (Ok u) b h k = k refl
small_before (Err w) b h k = h

-- `search small` reads off that checks in a row are small, where each of their numbers and places is
pub ruleset small = (small_refuse, small_before, lit≤)

small_ascending : (f : ℕ → Outcome) (n : ℕ) → ((k : ℕ) → k < n → Small (f k)) → Small (ascending n f)
unfolding ascending
small_ascending f zero h = tt
small_ascending f (suc n) h = small_before (ascending n f) (f n) (small_ascending f n (λ k l. h k (omega arith))) (λ _. h n (omega arith))

pub small_tasks : (tasks : List ℕ) → Small (check_tasks tasks)
unfolding check_tasks check2 check3 check4 outside
small_tasks tasks =
    small_before (check2 tasks) _ (search small)
    (λ ok. let few : task_count tasks ≤ 16 = search fine in small_ascending _ (task_count tasks) (λ k l. let b : k ≤ 64 = omega arith in search small))

pub small_jobs : (tasks jobs : List ℕ) → Small (check_jobs tasks jobs)
unfolding check_jobs check5 check6 check7 check8
small_jobs tasks jobs =
    small_before (check5 jobs) _ (search small)
    (λ ok. let few : job_count jobs ≤ 64 = search fine in small_ascending _ (job_count jobs) (λ j l. let b : j ≤ 64 = omega arith in search small))

-- a job list of more than 192 numbers is refused by its length, as 64 jobs have 192
pub jobs_long : (tasks jobs : List ℕ) → 192 < length jobs → check_jobs tasks jobs ≡ Refused 5 0
unfolding check_jobs check5 job_count refuse before
jobs_long tasks jobs h = rw (go (not (eqb (length jobs % 3) 0)) (λ e. lt-ltb 64 (length jobs / 3) (omega (arith, eqb-true (length jobs % 3) 0 (not-false _ e)))))
  where
    go : (a : Bool) {b : Bool} → (a ≡ false → b ≡ true) → (a || b) ≡ true
    go true h = refl
    go false h = h refl

-- lists that pass have no more numbers than 16 tasks and 64 jobs
pub tasks_fit : (tasks : List ℕ) → check_tasks tasks ≡ Done → length tasks ≤ 112
unfolding check_tasks check2 outside task_count
tasks_fit tasks ok =
    let whole = eqb-true (length tasks % 7) 0 (search fine) in
    let few : length tasks / 7 ≤ 16 = search fine in
    omega arith

pub jobs_fit : (tasks jobs : List ℕ) → check_jobs tasks jobs ≡ Done → length jobs ≤ 192
unfolding check_jobs check5 job_count
jobs_fit tasks jobs ok =
    let whole = eqb-true (length jobs % 3) 0 (search fine) in
    let few : length jobs / 3 ≤ 64 = search fine in
    omega arith
