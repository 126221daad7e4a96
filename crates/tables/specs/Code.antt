-- What the code keeps of the jobs above the one that it checks, so that each job is looked at once. No contract that callers see cites it;
-- proofs/Laws/Noted joins it to 6, 7 and 8.
use Rattle.std.specs.Prelude.{ℕ, zero, suc, ◌+◌, ◌<◌, cond, List, ◌≡◌, eqb, get_or, length}
use Rattle.tables.specs.declared.fields.Task.{Task}
use Rattle.tables.specs.declared.fields.Job.{Job}
use Rattle.tables.specs.Fields.{task_at, job_at}
use Rattle.tables.specs.Tables.{task_count, period, task_of, arrival}

-- the arrival of the last of the first n jobs, 0 where there is none
unfoldable pub last_arrival : List ℕ → ℕ → ℕ
last_arrival jobs zero = 0
last_arrival jobs (suc n) = arrival jobs n

-- the soonest that a job of task k may arrive behind the first n jobs: a period after the last of them that is of the task, else 0
unfoldable pub soonest : List ℕ → List ℕ → ℕ → ℕ → ℕ
soonest tasks jobs zero k = 0
soonest tasks jobs (suc n) k = cond (eqb (task_of jobs n) k) (arrival jobs n + period tasks k) (soonest tasks jobs n k)

-- it is noted for each of the first 16 tasks
pub record Noted (tasks jobs : List ℕ) (n : ℕ) (noted : List ℕ) : Type 0 where
  pub long : length noted ≡ 16
  pub each : (k : ℕ) → k < 16 → get_or noted k 0 ≡ soonest tasks jobs n k

-- what is seen of job j: the job, its task, how many tasks there are, the arrival above it, and, if its task is one of them, from when on that
-- allows it
pub record Seen (tasks jobs : List ℕ) (j : ℕ) (job : Job) (task : Task) (count above from : ℕ) : Type 0 where
  pub own : job ≡ job_at jobs j
  pub of_task_law : task ≡ task_at tasks job.task
  pub tasks_counted : count ≡ task_count tasks
  pub last : above ≡ last_arrival jobs j
  pub allowed : job.task < task_count tasks → from ≡ soonest tasks jobs j job.task
