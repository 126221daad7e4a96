-- How the code counts. No contract that callers see cites it.
use Rattle.std.specs.Prelude.{ℕ, ◌+◌, ◌-◌, ◌*◌, ◌≤◌, cond, true, ◌||◌, List, Option, Some, None, Result, Ok, ◌≡◌, ltb, length}
use Rattle.bits.specs.Below.{list_from}
use Rattle.tables.specs.declared.answers.Refusal.{Refusal}
use Rattle.tables.specs.Outcomes.{Refused}
use Rattle.tables.specs.Refusals.{refuse, unless}
use Rattle.tables.specs.Tables.{Lists, task_count}
use Rattle.index.specs.declared.given.Plan as lent
use Rattle.index.specs.Counts.{Plan, plan, all_jobs_or_idle, column, job_or_idle, entries_between, ticks}
use Rattle.index.specs.Rows.{index_number, row_count, row_width}

-- what a call is given, as the definitions take it
abbrev pub plan_of : lent.Plan → Plan
plan_of given = plan given.tasks.now given.jobs.now given.horizon

-- the ticks of these entries, by column: 16 tasks and idle at most
unfoldable pub counts_of : Lists → List ℕ → List ℕ
counts_of l entries = list_from 0 17 (λ c. ticks l c entries)

-- What the checks leave of the lists.
pub record Checked (l : Lists) : Type 0 where
  pub few : task_count l.tasks ≤ 16
  pub within : (entry : ℕ) → job_or_idle l.jobs entry ≡ true → column l entry ≤ task_count l.tasks

-- What they leave of the horizon and the index.
pub record Sized (tasks : List ℕ) (horizon : ℕ) (index : List ℕ) : Type 0 where
  pub few : task_count tasks ≤ 16
  pub short : horizon ≤ 16384
  pub indexed : length index ≡ row_count horizon * row_width tasks

-- how many of these entries are given to c; none where one is neither job nor idle
unfoldable pub tally : Lists → ℕ → List ℕ → Option ℕ
tally l c entries = cond (all_jobs_or_idle l.jobs entries) (Some (ticks l c entries)) None

-- the tests of both ends' tallies, in the order of `check_ends`, and the difference
unfoldable pub difference : ℕ → Option ℕ → Option ℕ → Result ℕ Refusal
difference horizon (Some first) (Some second) =
    unless (refuse (ltb horizon first || ltb horizon second || ltb second first) 16 0) Refused (Ok (second - first))
difference horizon (Some first) None = Refused 16 0
difference horizon None second = Refused 16 0

-- what is read for an end t, from row r on
unfoldable pub tally_from : Lists → List ℕ → List ℕ → ℕ → ℕ → ℕ → Option ℕ
tally_from l schedule index c r t =
    cond (all_jobs_or_idle l.jobs (entries_between (r * 64) t schedule))
    (Some (index_number l.tasks index r c + ticks l c (entries_between (r * 64) t schedule))) None
