-- Request One, the schedule in stretches, indexed by task: what an entry is given to, and how many entries are given to it.
use Rattle.std.specs.Prelude.{ℕ, ◌+◌, ◌-◌, Bool, cond, ◌&&◌, ◌||◌, List, [], ◌∷◌, eqb, ltb, drop, take}
use Rattle.std.specs.List.{list_all}
use Rattle.tables.specs.Tables.{Lists, idle, job_count, lists, task_count, task_of}

-- what all calls are given beside a schedule: a task table, a job list and a horizon
pub record Plan : Type 0 where
  pub lists : Lists
  pub horizon : ℕ

-- as a call is given them
abbrev pub plan : List ℕ → List ℕ → ℕ → Plan
plan tasks jobs horizon = record { lists = lists tasks jobs; horizon = horizon }

-- The entry is a job of the list or idle.
unfoldable pub job_or_idle : List ℕ → ℕ → Bool
job_or_idle jobs entry = ltb entry (job_count jobs) || eqb entry idle

-- Every one of these entries is.
unfoldable pub all_jobs_or_idle : List ℕ → List ℕ → Bool
all_jobs_or_idle jobs entries = list_all (job_or_idle jobs) entries

-- Tasks are counted by their numbers and, last, idle: the task count means idle.
unfoldable pub column : Lists → ℕ → ℕ
column l entry = cond (eqb entry idle) (task_count l.tasks) (task_of l.jobs entry)

-- The entry is given to task c, or to idle where c is the task count. One that is neither job nor idle is given to none.
unfoldable pub gives : Lists → ℕ → ℕ → Bool
gives l c entry = job_or_idle l.jobs entry && eqb (column l entry) c

-- how many of these entries are given to it
unfoldable pub ticks : Lists → ℕ → List ℕ → ℕ
ticks l c [] = 0
ticks l c (entry ∷ entries) = cond (gives l c entry) 1 0 + ticks l c entries

-- the entries from tick a up to tick b
unfoldable pub entries_between : ℕ → ℕ → List ℕ → List ℕ
entries_between a b schedule = take (b - a) (drop a schedule)
