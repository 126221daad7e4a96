-- An accepted longer list has an accepted shorter one: the jobs of the shorter list have the same fields in both, and so has the job of its
-- task that precedes each; each check looks no further.
use Prim.Native.Nat.{◌%◌, ◌*◌, ◌+◌, ◌-◌, ◌<◌, suc, zero, ℕ, ◌≤◌}
use mathlib.Core.Bool.{Bool}
use mathlib.Core.List.{◌++◌, List, [], ◌∷◌}
use mathlib.Core.Path.{ap₂, refl, sym, ◌∙◌, ◌≡◌}
use native.Mathlib.Omega.{arith}
use lib.Dec.{eqb}
use lib.ListN.{length, length-append, get_or-append}
use borrow.Author.Tests.{eq-eqb, eqb-true, le-ltb, not-false}
use Rattle.bits.specs.Below.{greatest}
use Rattle.bits.proofs.Laws.Below.{greatest_same}
use Rattle.bits.proofs.Laws.Bools.{by_cond, or_left_false}
use Rattle.tables.specs.Outcomes.{Outcome, Done}
use Rattle.tables.specs.Refusals.{ascending, before, check2, check3, check4, check5, check6, check7, check8, check_jobs, check_lists, check_tasks, outside, preceding, refuse, check_schedule}
use Rattle.tables.specs.Tables.{arrival, criticality, deadline, execution, job_count, lists, nominal, offset, overload, period, priority, task_count, task_of}
use Rattle.tables.proofs.Laws.Accepted.{few_jobs, lists_jobs, accepted}
use Rattle.tables.proofs.Laws.Refusals.{ascending_at, before_first, before_second, refuse_fine}
use Rattle.tables.proofs.Laws.Small.{jobs_long}
use Rattle.zsrm.specs.declared.mode.Mode.{Mode}
use Rattle.planter.specs.declared.answers.Admission.{Admission}
use Rattle.planter.specs.Admission.{appended}
use Rattle.planter.specs.Answers.{admission, admit_answer, refused_admission}
use Rattle.planter.specs.Table.{planter, table}
use Rattle.planter.proofs.Laws.Changes.{admission_refused}
use Rattle.planter.proofs.Laws.Pieces.{piece_accepted}

-- checks that are fine one by one are fine in a row
all_fine : (f : ℕ → Outcome) (n : ℕ) → ((k : ℕ) → k < n → f k ≡ Done) → ascending n f ≡ Done
unfolding ascending before
all_fine f zero h = refl
all_fine f (suc n) h = rw (all_fine f n (λ k l. h k (omega arith))) (h n (omega arith))

greatest_most : (f : ℕ → Bool) (n d m : ℕ) → n ≤ m → d ≤ m → greatest n f d ≤ m
unfolding greatest
greatest_most f zero d m a b = b
greatest_most f (suc n) d m a b =
    by_cond (λ x. x ≤ m) (f n) n (greatest n f d) (λ _. omega arith) (λ _. greatest_most f n d m (omega arith) b)

module _ (tasks jobs more : List ℕ) (three : length more ≡ 3) where
  -- below the shorter list's end both lists have the same numbers
  module _ (j : ℕ) (l : j < job_count jobs) where
    task_same : task_of (jobs ++ more) j ≡ task_of jobs j
    unfolding task_of job_count
    task_same = get_or-append jobs more 0 (3 * j) (omega arith)

    arrival_same : arrival (jobs ++ more) j ≡ arrival jobs j
    unfolding arrival job_count
    arrival_same = get_or-append jobs more 0 (3 * j + 1) (omega arith)

    execution_same : execution (jobs ++ more) j ≡ execution jobs j
    unfolding execution job_count
    execution_same = get_or-append jobs more 0 (3 * j + 2) (omega arith)

  preceding_same : (j : ℕ) → j < job_count jobs → preceding (jobs ++ more) j ≡ preceding jobs j
  unfolding preceding
  preceding_same j l =
      greatest_same (λ i. eqb (task_of (jobs ++ more) i) (task_of (jobs ++ more) j)) (λ i. eqb (task_of jobs i) (task_of jobs j)) j j
      (λ k m. ap₂ eqb (task_same k (omega arith)) (task_same j l))

  preceding_most : (j : ℕ) → preceding jobs j ≤ j
  unfolding preceding
  preceding_most j = greatest_most (λ i. eqb (task_of jobs i) (task_of jobs j)) j j j (omega arith) (omega arith)

  checked : List ℕ → ℕ → Outcome
  checked list j = before (check6 tasks list j) (before (check7 list j) (check8 tasks list j))

  checked_same : (j : ℕ) → j < job_count jobs → checked (jobs ++ more) j ≡ checked jobs j
  unfolding checked check6 check7 check8
  checked_same j l =
      rw (preceding_same j l, task_same j l, execution_same j l, arrival_same j l, arrival_same (j - 1) (omega arith), arrival_same (preceding jobs j) (omega (arith, preceding_most j)))

  pub one_more : job_count (jobs ++ more) ≡ job_count jobs + 1
  unfolding job_count
  one_more = omega (arith, length-append jobs more)

  pub shorter_jobs : check_jobs tasks (jobs ++ more) ≡ Done → check_jobs tasks jobs ≡ Done
  unfolding check_jobs check5 checked refuse before
  shorter_jobs ok =
      let five = refuse_fine _ _ _ (before_first (check5 (jobs ++ more)) _ ok) in
      let thirds = eqb-true (length (jobs ++ more) % 3) 0 (not-false _ (or_left_false _ _ five)) in
      let mine : length jobs % 3 ≡ 0 = omega (arith, thirds, length-append jobs more) in
      let few : job_count jobs ≤ 64 = omega (arith, few_jobs tasks (jobs ++ more) ok, one_more) in
      rw (eq-eqb (length jobs % 3) 0 mine, le-ltb 64 (job_count jobs) few)
      (all_fine (checked jobs) (job_count jobs)
      (λ k l. sym (checked_same k l) ∙ ascending_at (checked (jobs ++ more)) (job_count (jobs ++ more)) k (omega (arith, one_more)) (before_second (check5 (jobs ++ more)) _ ok)))

-- The planter's table passes its checks.
pub table_accepted : check_tasks table ≡ Done
unfolding check_tasks check2 check3 check4 ascending before refuse outside task_count period deadline nominal overload criticality priority offset
table_accepted = refl

-- the lists are checked by their jobs alone
by_jobs : (jobs : List ℕ) → check_lists (lists table jobs) ≡ check_jobs table jobs
unfolding check_lists before
by_jobs jobs = rw table_accepted

module _ (jobs : List ℕ) (task arrival execution : ℕ) where
  -- An accepted longer list has an accepted shorter one.
  pub shorter_accepted : check_lists (lists table (appended jobs task arrival execution)) ≡ Done → check_lists (lists table jobs) ≡ Done
  unfolding appended
  shorter_accepted ok = by_jobs jobs ∙ shorter_jobs table jobs (task ∷ arrival ∷ execution ∷ []) refl (lists_jobs (lists table (appended jobs task arrival execution)) ok)

  -- At any horizon, too.
  pub shorter_runs : (mode : Mode) (horizon : ℕ) → check_schedule (lists table (appended jobs task arrival execution)) horizon horizon ≡ Done → check_schedule (lists table jobs) horizon horizon ≡ Done
  shorter_runs mode horizon ok =
      let w = accepted (lists table (appended jobs task arrival execution)) horizon horizon ok in
      piece_accepted (planter mode jobs) (shorter_accepted w.lists) horizon w.bounded

  -- A list with no room for the job is refused with 5.
  pub full_refused : (mode : Mode) (horizon : ℕ) (made : Admission) → 189 < length jobs → made ≡ refused_admission 5 0 → made ≡ admit_answer mode jobs horizon task arrival execution
  unfolding admit_answer appended check_schedule before
  full_refused mode horizon made full e =
      let long = jobs_long table (appended jobs task arrival execution) (omega (arith, length-append jobs (task ∷ arrival ∷ execution ∷ []))) in
      admission_refused mode jobs (appended jobs task arrival execution) horizon 5 0 made (rw (by_jobs (appended jobs task arrival execution), long)) e

  -- The list that the code wrote is the longer one.
  module _ (mode : Mode) (horizon : ℕ) (list : List ℕ) (is : list ≡ appended jobs task arrival execution) where
    pub written_runs : check_schedule (lists table list) horizon horizon ≡ Done → check_schedule (lists table jobs) horizon horizon ≡ Done
    written_runs ok = shorter_runs mode horizon (rw is at ok)

    pub written_admits : (made : Admission) → made ≡ admission mode jobs list horizon → made ≡ admit_answer mode jobs horizon task arrival execution
    unfolding admit_answer
    written_admits made e = rw is at e
