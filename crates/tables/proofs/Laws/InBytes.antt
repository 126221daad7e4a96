-- Tables and job lists that lie in bytes: a count of bytes which makes no whole number is refused as the list's own length is, so that one
-- test refuses both.
use Prim.Native.Nat.{◌%◌, ◌*◌, ◌+◌, ◌/◌, ℕ, ◌≤◌}
use mathlib.Core.Bool.{Bool, false, not, true, ◌||◌}
use mathlib.Core.List.{List}
use mathlib.Core.Path.{ap, refl, sym, ◌∙◌, ◌≡◌}
use native.Mathlib.Omega.{arith}
use lib.Dec.{eqb, ltb}
use lib.ListN.{get_or, length}
use borrow.Author.Tests.{eq-eqb}
use Rattle.tables.specs.Outcomes.{Outcome, Done}
use Rattle.tables.specs.declared.fields.Job.{Job}
use Rattle.tables.specs.declared.fields.Task.{Task}
use Rattle.tables.specs.Bytes.{check_jobs_in, check_lists_in, check_tasks_in, number_at, numbers_in, uneven}
use Rattle.tables.specs.Fields.{task_at, job_at}
use Rattle.tables.specs.Refusals.{ascending, before, check2, check3, check4, check5, check_jobs, check_lists, check_tasks, outside, refuse}
use Rattle.tables.specs.Tables.{arrival, criticality, deadline, execution, job_count, lists, nominal, offset, overload, period, priority, task_count, task_of}
use Rattle.tables.proofs.Laws.Accepted.{few_tasks}
use Rattle.tables.proofs.Laws.Bytes.{length_numbers, numbers_at}
use Rattle.tables.proofs.Laws.Noted.{job_checked}
use Rattle.tables.proofs.Laws.Refusals.{before_second, fine}
use Rattle.tables.proofs.Laws.Small.{Small, small, small_jobs, small_tasks}

-- two tests in a row that refuse alike are one
refuse_either : (a b : Bool) (number place : ℕ) (c : Outcome)
    → before (refuse a number place) (before (refuse b number place) c) ≡ before (refuse (a || b) number place) c
unfolding refuse before
refuse_either true b number place c = refl
refuse_either false b number place c = refl

-- four bytes that are there are the number at their place
spelled : (bytes : List ℕ) (i at : ℕ) {x : ℕ} → at ≡ i * 4 → at + 4 ≤ length bytes → x ≡ number_at 4 bytes at → x ≡ get_or (numbers_in 4 bytes) i 0
spelled bytes i at e h q = q ∙ ap (number_at 4 bytes) e ∙ sym (numbers_at 4 bytes i (omega arith))

-- and so are the numbers of a task, and those of a job
pub whole_task : (bytes : List ℕ) (k : ℕ) {T D C Co crit prio Z : ℕ} → 28 * k + 28 ≤ length bytes
    → T ≡ number_at 4 bytes (28 * k) → D ≡ number_at 4 bytes (28 * k + 4) → C ≡ number_at 4 bytes (28 * k + 8) → Co ≡ number_at 4 bytes (28 * k + 12)
    → crit ≡ number_at 4 bytes (28 * k + 16) → prio ≡ number_at 4 bytes (28 * k + 20) → Z ≡ number_at 4 bytes (28 * k + 24)
    → ◌≡◌ {A = Task} (record { period = T; deadline = D; nominal = C; overload = Co; criticality = record { 0 = crit }; priority = record { 0 = prio }; offset = Z })
    (task_at (numbers_in 4 bytes) k)
unfolding period deadline nominal overload criticality priority offset
whole_task bytes k h a b c d e f g =
    rw (
      spelled bytes (7 * k) (28 * k) (omega arith) (omega arith) a,
      spelled bytes (7 * k + 1) (28 * k + 4) (omega arith) (omega arith) b,
      spelled bytes (7 * k + 2) (28 * k + 8) (omega arith) (omega arith) c,
      spelled bytes (7 * k + 3) (28 * k + 12) (omega arith) (omega arith) d,
      spelled bytes (7 * k + 4) (28 * k + 16) (omega arith) (omega arith) e,
      spelled bytes (7 * k + 5) (28 * k + 20) (omega arith) (omega arith) f,
      spelled bytes (7 * k + 6) (28 * k + 24) (omega arith) (omega arith) g,
    )

pub whole_job : (bytes : List ℕ) (j : ℕ) {task a c : ℕ} → 12 * j + 12 ≤ length bytes
    → task ≡ number_at 4 bytes (12 * j) → a ≡ number_at 4 bytes (12 * j + 4) → c ≡ number_at 4 bytes (12 * j + 8)
    → ◌≡◌ {A = Job} (record { task = task; arrival = a; execution = c }) (job_at (numbers_in 4 bytes) j)
unfolding task_of arrival execution
whole_job bytes j h p q r =
    rw (
      spelled bytes (3 * j) (12 * j) (omega arith) (omega arith) p,
      spelled bytes (3 * j + 1) (12 * j + 4) (omega arith) (omega arith) q,
      spelled bytes (3 * j + 2) (12 * j + 8) (omega arith) (omega arith) r,
    )

module _ (bytes : List ℕ) where
  pub tasks_counted : length bytes / 4 / 7 ≡ task_count (numbers_in 4 bytes)
  unfolding task_count
  tasks_counted = rw (length_numbers 4 bytes)

  pub jobs_counted : length bytes / 4 / 3 ≡ job_count (numbers_in 4 bytes)
  unfolding job_count
  jobs_counted = rw (length_numbers 4 bytes)

  -- a table's length refused by one test
  pub tasks_in : check_tasks_in bytes
      ≡ before (refuse (not (eqb (length bytes % 4) 0) || (not (eqb (length bytes / 4 % 7) 0) || (ltb (length bytes / 4 / 7) 1 || ltb 16 (length bytes / 4 / 7)))) 2 0)
      (ascending (length bytes / 4 / 7) (λ k. before (check3 (numbers_in 4 bytes) k) (check4 (numbers_in 4 bytes) k)))
  unfolding check_tasks_in uneven check_tasks check2 outside task_count
  tasks_in = rw (length_numbers 4 bytes) (refuse_either (not (eqb (length bytes % 4) 0)) _ 2 0 _)

-- a job list's
pub jobs_in : (tasks jobs : List ℕ) → check_jobs_in tasks jobs
    ≡ before (refuse (not (eqb (length jobs % 4) 0) || (not (eqb (length jobs / 4 % 3) 0) || ltb 64 (length jobs / 4 / 3))) 5 0)
    (ascending (length jobs / 4 / 3) (job_checked (numbers_in 4 tasks) (numbers_in 4 jobs)))
unfolding check_jobs_in uneven check_jobs check5 job_count
jobs_in tasks jobs = rw (length_numbers 4 jobs) (refuse_either (not (eqb (length jobs % 4) 0)) _ 5 0 _)

module _ (tasks jobs : List ℕ) where
  -- lists that pass in bytes pass as the numbers that they spell
  pub spelled_lists : check_lists_in tasks jobs ≡ Done → check_lists (lists (numbers_in 4 tasks) (numbers_in 4 jobs)) ≡ Done
  unfolding check_lists_in check_tasks_in check_jobs_in check_lists
  spelled_lists ok =
      let two : check_tasks (numbers_in 4 tasks) ≡ Done = search fine in
      let five : check_jobs (numbers_in 4 tasks) (numbers_in 4 jobs) ≡ Done = search fine in
      rw (two, five) (unfold before in refl)

  -- and where the bytes make whole numbers, the checks are the same
  pub whole_lists : length tasks % 4 ≡ 0 → length jobs % 4 ≡ 0 → check_lists_in tasks jobs ≡ check_lists (lists (numbers_in 4 tasks) (numbers_in 4 jobs))
  unfolding check_lists_in check_tasks_in check_jobs_in check_lists uneven refuse before
  whole_lists whole_tasks whole_jobs = rw (eq-eqb (length tasks % 4) 0 whole_tasks, eq-eqb (length jobs % 4) 0 whole_jobs)

  pub small_lists_in : Small (check_lists_in tasks jobs)
  unfolding check_lists_in check_tasks_in check_jobs_in uneven
  small_lists_in = search (small, small_tasks, small_jobs) depth 12
