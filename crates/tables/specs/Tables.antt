-- Document 01, "Tables and lists": what the numbers of a task table and of a job list are. Reading past a list's end gives 0, so
-- that every definition has a value for every input; the checks refuse such lists.
use Rattle.std.specs.Prelude.{ℕ, ◌+◌, ◌*◌, ◌/◌, List, length, get_or}

-- A task table has seven numbers per task; tasks are numbered from 0.
unfoldable pub task_count : List ℕ → ℕ
task_count tasks = length tasks / 7

-- In this order: period T, deadline D, nominal time C, overload time Co, criticality, priority, zero-slack offset Z.
module _ (tasks : List ℕ) (k : ℕ) where
  unfoldable pub period : ℕ
  period = get_or tasks (7 * k) 0

  unfoldable pub deadline : ℕ
  deadline = get_or tasks (7 * k + 1) 0

  unfoldable pub nominal : ℕ
  nominal = get_or tasks (7 * k + 2) 0

  unfoldable pub overload : ℕ
  overload = get_or tasks (7 * k + 3) 0

  unfoldable pub criticality : ℕ
  criticality = get_or tasks (7 * k + 4) 0

  unfoldable pub priority : ℕ
  priority = get_or tasks (7 * k + 5) 0

  unfoldable pub offset : ℕ
  offset = get_or tasks (7 * k + 6) 0

-- A job list has three numbers per job: task, arrival, execution time c; jobs are numbered from 0.
unfoldable pub job_count : List ℕ → ℕ
job_count jobs = length jobs / 3

module _ (jobs : List ℕ) (j : ℕ) where
  unfoldable pub task_of : ℕ
  task_of = get_or jobs (3 * j) 0

  unfoldable pub arrival : ℕ
  arrival = get_or jobs (3 * j + 1) 0

  unfoldable pub execution : ℕ
  execution = get_or jobs (3 * j + 2) 0

-- A schedule has one number per tick: a job number, or this one for idle. Entry t covers the time from t to t + 1.
abbrev pub idle : ℕ
idle = 65535

-- A task table and a job list.
pub record Lists : Type 0 where
  pub tasks : List ℕ
  pub jobs : List ℕ

abbrev pub lists : List ℕ → List ℕ → Lists
lists tasks jobs = record { tasks = tasks; jobs = jobs }

-- What a job has from its task.
module _ (l : Lists) (j : ℕ) where
  unfoldable pub job_criticality : ℕ
  job_criticality = criticality l.tasks (task_of l.jobs j)

  unfoldable pub job_priority : ℕ
  job_priority = priority l.tasks (task_of l.jobs j)

  unfoldable pub job_nominal : ℕ
  job_nominal = nominal l.tasks (task_of l.jobs j)

  -- arrival + Z
  unfoldable pub zero_slack_instant : ℕ
  zero_slack_instant = arrival l.jobs j + offset l.tasks (task_of l.jobs j)

  -- arrival + D
  unfoldable pub deadline_instant : ℕ
  deadline_instant = arrival l.jobs j + deadline l.tasks (task_of l.jobs j)
