-- Document 02, Ten: over any number of finished runs of one table, added one by one; two reports joined equal one report over all runs of both.
use Rattle.std.specs.Prelude.{ℕ, ◌<◌, true, List, [], ◌∷◌, ◌++◌, ◌≡◌}
use Rattle.tables.specs.Refusals.{check_tasks, unless}
use Rattle.tables.specs.Said.{done, outcome_said}
use Rattle.tables.specs.Tables.{job_count, lists, task_count}
use Rattle.zsrm.specs.declared.mode.Mode.{Mode}
use Rattle.zsrm.specs.declared.record.Record.{Record}
use Rattle.zsrm.specs.Answers.{check_verdicts}
use Rattle.zsrm.specs.Given.{Given, given}
use Rattle.season.specs.declared.answers.Report.{Report}
use Rattle.season.specs.declared.answers.Reported.{Reported}
use Rattle.season.specs.declared.answers.Row.{Row}
use Rattle.season.specs.Own.{own_row}
use Rattle.season.specs.Answers.{add_answer, empty_answer, join_answer}
use Rattle.season.specs.Reports.{row_at, task_rows, rows_of}
use Rattle.season.specs.Rows.{fits, join_row, empty_row}

-- A finished run: its mode, its jobs, and the record that it returned.
pub record Run : Type 0 where
  pub mode : Mode
  pub jobs : List ℕ
  pub returned : Record

-- How a report is made by these calls: begun empty, a run added, two reports joined.
pub data Season : Type 0 where
  begun : Season
  added : Season → Run → Season
  merged : Season → Season → Season

unfoldable pub runs_of : Season → List Run
runs_of begun = []
runs_of (added s run) = runs_of s ++ (run ∷ [])
runs_of (merged s t) = runs_of s ++ runs_of t

-- runs added one by one
unfoldable pub add_all : Season → List Run → Season
add_all s [] = s
add_all s (run ∷ runs) = add_all (added s run) runs

-- One call after another; a refusal on the way is the answer.
unfoldable pub and_then : Reported → (Report → Reported) → Reported
and_then x next = unless x.outcome (λ number place. x) (next x.report)

-- Two answers that are alike: refused both with one number and place, or done both with one report.
abbrev pub Alike : Reported → Reported → Type 0
Alike x y = (x.outcome ≡ y.outcome) × (outcome_said x.outcome ≡ done → x.report ≡ y.report)

-- The same number of tasks, and the same rows of them: all that is looked at.
pub record Same (a c : Report) : Type 0 where
  pub tasks_are : a.tasks ≡ c.tasks
  pub rows_are : (k : ℕ) → k < task_rows a.tasks → row_at a k ≡ row_at c k

module _ (tasks : List ℕ) where
  -- what a run was made from: its mode, the one table, its jobs
  abbrev pub run_given : Run → Given
  run_given run = given run.mode tasks run.jobs

  -- what the last of the calls answers
  unfoldable pub season_answer : Season → Reported
  season_answer begun = empty_answer tasks
  season_answer (added s run) = and_then (season_answer s) (λ report. add_answer report (run_given run) run.returned)
  season_answer (merged s t) = and_then (season_answer s) (λ a. and_then (season_answer t) (λ b. join_answer a b))

  -- a run's own row of task k, and that of all runs
  abbrev pub row_in : ℕ → Run → Row
  row_in k run = own_row (lists tasks run.jobs) run.returned k (job_count run.jobs)

  unfoldable pub total_row : ℕ → List Run → Row
  total_row k [] = empty_row
  total_row k (run ∷ runs) = join_row (row_in k run) (total_row k runs)

  -- One report over all runs.
  unfoldable pub report_over : List Run → Report
  report_over runs = record { tasks = task_count tasks; rows = rows_of (task_count tasks) (λ k. total_row k runs) }

  -- The run is accepted: 2 to 8 and 11.
  abbrev pub Accepted : Run → Type 0
  Accepted run = outcome_said (check_verdicts (run_given run) run.returned) ≡ done

  abbrev pub AllAccepted : List Run → Type 0
  AllAccepted [] = Unit {0}
  AllAccepted (run ∷ runs) = Accepted run × AllAccepted runs

  -- The table and every run are accepted, and no count and no sum over all runs passes 4,294,967,295.
  pub record Fitting (runs : List Run) : Type 0 where
    pub table : outcome_said (check_tasks tasks) ≡ done
    pub each : AllAccepted runs
    pub totals : (k : ℕ) → k < task_count tasks → fits (total_row k runs) ≡ true
