-- Document 01, "Refusal numbers": each check alone, under its number, and the order of those that a task table and a job list meet. 1, 11 and
-- 12 stand with the modes and records that they are about, 14 with the listing's text.
use Rattle.std.specs.Prelude.{ℕ, zero, suc, ◌+◌, ◌-◌, ◌%◌, Bool, true, false, not, ◌&&◌, ◌||◌, List, length, ltb, eqb, Err}
use Rattle.bits.specs.Below.{greatest}
use Rattle.tables.specs.Outcomes.{Outcome, Done, Refused}
use Rattle.tables.specs.Tables.{Lists, task_count, period, deadline, nominal, overload, criticality, priority, offset, job_count, task_of, arrival, execution}

-- A check refuses, with its number and place, exactly when its test passes.
unfoldable pub refuse : Bool → ℕ → ℕ → Outcome
refuse true number place = Refused number place
refuse false number place = Done

-- The first refusal goes first.
unfoldable pub before : Outcome → Outcome → Outcome
before Done later = later
before (Err refusal) later = Err refusal

-- The checks of the places below the bound, ascending.
unfoldable pub ascending : ℕ → (ℕ → Outcome) → Outcome
ascending zero check = Done
ascending (suc n) check = before (ascending n check) (check n)

unfoldable pub outside : ℕ → ℕ → ℕ → Bool
outside low high x = ltb x low || ltb high x

module _ (tasks : List ℕ) where
  -- 2: the task list's length is no multiple of 7, or there is no task, or over 16
  unfoldable pub check2 : Outcome
  check2 = refuse (not (eqb (length tasks % 7) 0) || outside 1 16 (task_count tasks)) 2 0

  -- 3: a field of task k is outside its range
  unfoldable pub check3 : ℕ → Outcome
  check3 k =
      refuse
      (outside 1 16384 (period tasks k) || outside 1 16384 (deadline tasks k) || outside 1 16384 (nominal tasks k)
      || outside 1 16384 (overload tasks k) || ltb 255 (criticality tasks k) || ltb 63 (priority tasks k)
      || ltb 16384 (offset tasks k))
      3 k

  -- 4: C > Co, D > T or Z > D
  unfoldable pub check4 : ℕ → Outcome
  check4 k =
      refuse
      (ltb (overload tasks k) (nominal tasks k) || ltb (period tasks k) (deadline tasks k)
      || ltb (deadline tasks k) (offset tasks k))
      4 k

  -- 2, then the tasks ascending, 3 before 4 for each
  unfoldable pub check_tasks : Outcome
  check_tasks = before check2 (ascending (task_count tasks) (λ k. before (check3 k) (check4 k)))

-- 5: the job list's length is no multiple of 3, or there are over 64 jobs
unfoldable pub check5 : List ℕ → Outcome
check5 jobs = refuse (not (eqb (length jobs % 3) 0) || ltb 64 (job_count jobs)) 5 0

-- The preceding job of its task is the nearest above it in the list; where there is none, the job itself is named.
unfoldable pub preceding : List ℕ → ℕ → ℕ
preceding jobs j = greatest j (λ i. eqb (task_of jobs i) (task_of jobs j)) j

module _ (tasks jobs : List ℕ) where
  -- 6: the job's task is not in the table, its arrival is over 16,384, or c > Co
  unfoldable pub check6 : ℕ → Outcome
  check6 j =
      refuse
      (not (ltb (task_of jobs j) (task_count tasks)) || ltb 16384 (arrival jobs j)
      || ltb (overload tasks (task_of jobs j)) (execution jobs j))
      6 j

-- 7: its arrival lies before that of the job above it in the list
unfoldable pub check7 : List ℕ → ℕ → Outcome
check7 jobs j = refuse (ltb 0 j && ltb (arrival jobs j) (arrival jobs (j - 1))) 7 j

module _ (tasks jobs : List ℕ) where
  -- 8: it comes less than T after the preceding job of its task
  unfoldable pub check8 : ℕ → Outcome
  check8 j =
      refuse
      (ltb (preceding jobs j) j && ltb (arrival jobs j) (arrival jobs (preceding jobs j) + period tasks (task_of jobs j)))
      8 j

  -- 5, then the jobs ascending, 6, 7, 8 for each
  unfoldable pub check_jobs : Outcome
  check_jobs = before (check5 jobs) (ascending (job_count jobs) (λ j. before (check6 tasks jobs j) (before (check7 jobs j) (check8 j))))

-- what every entry point that is given tasks and jobs checks first
unfoldable pub check_lists : Lists → Outcome
check_lists l = before (check_tasks l.tasks) (check_jobs l.tasks l.jobs)

-- 9: the horizon is over 16,384
unfoldable pub check9 : ℕ → Outcome
check9 horizon = refuse (ltb 16384 horizon) 9 0

-- 10: the schedule list's length differs from the horizon
unfoldable pub check10 : ℕ → ℕ → Outcome
check10 entries horizon = refuse (not (eqb entries horizon)) 10 0

-- what every entry point that is given lists, a horizon and a schedule checks: of a schedule, the number of its entries
unfoldable pub check_schedule : Lists → ℕ → ℕ → Outcome
check_schedule l horizon entries = before (check_lists l) (before (check9 horizon) (check10 entries horizon))

-- 13: the call names a job not in the list
unfoldable pub check13 : List ℕ → ℕ → Outcome
check13 jobs j = refuse (not (ltb j (job_count jobs))) 13 0

module _ {A : Type 0} where
  -- what a refusal's number and place give, or the answer where nothing is refused
  unfoldable pub unless : Outcome → (ℕ → ℕ → A) → A → A
  unless (Err refusal) refused answer = refused refusal.number refusal.place
  unless Done refused answer = answer
