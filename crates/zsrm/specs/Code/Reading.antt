-- What a call from C reads of its lists, each task and each job once: six numbers of a task, five of a job, and the jobs of each task as a
-- word. No contract that callers see cites it; the laws in proofs/Laws/Reading join it to the lists and their checks.
use Rattle.std.specs.Prelude.{ℕ, ◌+◌, ◌*◌, ◌≤◌, ◌<◌, not, ◌||◌, List, [], ◌∷◌, ◌≡◌, eqb, ltb, length, get_or}
use Rattle.tables.specs.Outcomes.{Outcome}
use Rattle.tables.specs.declared.fields.Job.{Job}
use Rattle.tables.specs.declared.fields.Task.{Task}
use Rattle.tables.specs.Refusals.{refuse, before}
use Rattle.tables.specs.Tables.{task_count, period, nominal, overload, criticality, priority, offset, job_count, task_of, arrival, execution, job_nominal, zero_slack_instant, Lists}
use Rattle.zsrm.specs.Tick.{job_word}

-- a task's six numbers: T, Co, C, Z, criticality, priority
abbrev pub task_row : Task → List ℕ
task_row task = task.period ∷ task.overload ∷ task.nominal ∷ task.offset ∷ task.criticality.0 ∷ task.priority.0 ∷ []

-- they fit 16 bits
pub record TaskFits (task : Task) : Type 0 where
  pub period_fits : task.period < 65536
  pub overload_fits : task.overload < 65536
  pub nominal_fits : task.nominal < 65536
  pub offset_fits : task.offset < 65536
  pub criticality_fits : task.criticality.0 < 65536
  pub priority_fits : task.priority.0 < 65536

-- the list holds the numbers of the tasks
pub record Tasked (tasks of : List ℕ) : Type 0 where
  pub periods : (k : ℕ) → k < task_count tasks → get_or of (6 * k) 0 ≡ period tasks k
  pub overloads : (k : ℕ) → k < task_count tasks → get_or of (6 * k + 1) 0 ≡ overload tasks k
  pub nominals : (k : ℕ) → k < task_count tasks → get_or of (6 * k + 2) 0 ≡ nominal tasks k
  pub offsets : (k : ℕ) → k < task_count tasks → get_or of (6 * k + 3) 0 ≡ offset tasks k
  pub criticalities : (k : ℕ) → k < task_count tasks → get_or of (6 * k + 4) 0 ≡ criticality tasks k
  pub priorities : (k : ℕ) → k < task_count tasks → get_or of (6 * k + 5) 0 ≡ priority tasks k

-- 6, 7, 8 of job j by what is kept: the tasks' numbers, what is noted for each task, the tasks' count, the arrival above it
unfoldable pub job_tested : List ℕ → List ℕ → ℕ → ℕ → Job → ℕ → Outcome
job_tested of noted count above job j =
    before (refuse (not (ltb job.task count) || ltb 16384 job.arrival || ltb (get_or of (6 * job.task + 1) 0) job.execution) 6 j)
    (before (refuse (ltb job.arrival above) 7 j) (refuse (ltb job.arrival (get_or noted job.task 0)) 8 j))

-- a job's five numbers by its task's: arrival, execution time, zero-slack instant, C, task
unfoldable pub job_row : List ℕ → Job → List ℕ
job_row of job = job.arrival ∷ job.execution ∷ (job.arrival + get_or of (6 * job.task + 3) 0) ∷ get_or of (6 * job.task + 2) 0 ∷ job.task ∷ []

-- they fit 16 bits
pub record JobFits (of : List ℕ) (job : Job) : Type 0 where
  pub known : job.task < 16
  pub arrival_fits : job.arrival ≤ 16384
  pub execution_fits : job.execution ≤ 16384
  pub offset_fits : get_or of (6 * job.task + 3) 0 ≤ 16384

-- no job is in any of the 16 words
pub record Cleared (words : List ℕ) : Type 0 where
  pub size : length words ≡ 16
  pub clear : (k : ℕ) → k < 16 → get_or words k 0 ≡ 0

-- the list holds the numbers of the jobs, and the words the jobs of each task
pub record Jobbed (l : Lists) (out words : List ℕ) : Type 0 where
  pub size : length out ≡ 320
  pub arrivals : (j : ℕ) → j < job_count l.jobs → get_or out (5 * j) 0 ≡ arrival l.jobs j
  pub executions : (j : ℕ) → j < job_count l.jobs → get_or out (5 * j + 1) 0 ≡ execution l.jobs j
  pub slacks : (j : ℕ) → j < job_count l.jobs → get_or out (5 * j + 2) 0 ≡ zero_slack_instant l j
  pub nominals : (j : ℕ) → j < job_count l.jobs → get_or out (5 * j + 3) 0 ≡ job_nominal l j
  pub tasks_of : (j : ℕ) → j < job_count l.jobs → get_or out (5 * j + 4) 0 ≡ task_of l.jobs j
  pub words_size : length words ≡ 16
  pub jobs_of : (k : ℕ) → k < 16 → get_or words k 0 ≡ job_word l.jobs (λ j. eqb (task_of l.jobs j) k)
