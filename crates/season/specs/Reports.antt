-- Document 02, Ten: two reports joined, the empty report, and refusal 18. A report may hold anything: its rows from min(tasks, 16) on are not
-- looked at, and in the answer of a call that is done they are 0.
use Rattle.std.specs.Prelude.{ℕ, min, Bool, cond, not, ◌||◌, List, eqb, ltb, get_or, replicate}
use Rattle.bits.specs.Below.{every, list_from}
use Rattle.tables.specs.Outcomes.{Outcome}
use Rattle.tables.specs.Refusals.{refuse}
use Rattle.season.specs.declared.answers.Report.{Report}
use Rattle.season.specs.declared.answers.Row.{Row}
use Rattle.season.specs.Rows.{fits, join_row, empty_row}

-- how many rows of a report of so many tasks are looked at
abbrev pub task_rows : ℕ → ℕ
task_rows tasks = min tasks 16

unfoldable pub row_at : Report → ℕ → Row
row_at r k = get_or r.rows k empty_row

-- row k: as said below n, else 0
unfoldable pub row_below : ℕ → (ℕ → Row) → ℕ → Row
row_below n f k = cond (ltb k n) (f k) empty_row

-- sixteen such rows
unfoldable pub rows_of : ℕ → (ℕ → Row) → List Row
rows_of n f = list_from 0 16 (row_below n f)

unfoldable pub joined_row : Report → Report → ℕ → Row
joined_row a b k = join_row (row_at a k) (row_at b k)

-- The two reports' rows joined, task by task.
unfoldable pub joined : Report → Report → Report
joined a b = record { tasks = a.tasks; rows = rows_of (task_rows a.tasks) (joined_row a b) }

unfoldable pub all_fit : Report → Report → Bool
all_fit a b = every (task_rows a.tasks) (λ k. fits (joined_row a b k))

-- 18: a sum or count would pass 4,294,967,295, or the report to be added has another number of tasks
unfoldable pub check18 : Report → Report → Outcome
check18 a b = refuse (not (eqb a.tasks b.tasks) || not (all_fit a b)) 18 0

-- The report of no runs.
unfoldable pub empty_report : ℕ → Report
empty_report tasks = record { tasks = tasks; rows = replicate 16 empty_row }
