-- Document 02, Ten: a run's own report. Jobs are judged by the library, from the run's record.
use Rattle.std.specs.Prelude.{ℕ, zero, suc, ◌-◌, cond, eqb}
use Rattle.bits.specs.Below.{list_from}
use Rattle.tables.specs.Tables.{Lists, arrival, job_count, task_count, task_of}
use Rattle.zsrm.specs.declared.answers.Verdict.{Verdict}
use Rattle.zsrm.specs.declared.record.Record.{Record}
use Rattle.zsrm.specs.declared.record.Standing.{Standing}
use Rattle.zsrm.specs.declared.record.Standing.TheVariants.{NotArrived, Unfinished, Finished, Ended}
use Rattle.zsrm.specs.Record.{standing_at}
use Rattle.zsrm.specs.Verdict.{verdict}
use Rattle.season.specs.declared.answers.Report.{Report}
use Rattle.season.specs.declared.answers.Row.{Row}
use Rattle.season.specs.Rows.{join_row, empty_row}
use Rattle.zsrm.specs.declared.answers.Verdict.TheVariants as verdicts

-- counts, and no finished job
abbrev pub count_row : ℕ → ℕ → ℕ → ℕ → Row
count_row met late ended opened =
    record { met = met; late = late; ended = ended; «open» = opened; finished = 0; sum = 0; least = 0; greatest = 0 }

-- One job, met, late, ended or open; the verdict on a job of the list is no refusal.
abbrev pub judged_row : Verdict → Row
judged_row verdicts.Met = count_row 1 0 0 0
judged_row (verdicts.Late by is_exact) = count_row 0 1 0 0
judged_row verdicts.Ended = count_row 0 0 1 0
judged_row verdicts.Open = count_row 0 0 0 1

-- A finished job has a response, finishing instant minus arrival; a late job that is alive has none.
abbrev pub with_response : Row → ℕ → Standing → Row
with_response r arrival NotArrived = r
with_response r arrival Unfinished = r
with_response r arrival (Finished f) =
    record {
      met = r.met;
      late = r.late;
      ended = r.ended;
      «open» = r.«open»;
      finished = 1;
      sum = f - arrival;
      least = f - arrival;
      greatest = f - arrival;
    }
with_response r arrival (Ended e) = r

unfoldable pub job_row : Verdict → ℕ → Standing → Row
job_row v arrival s = with_response (judged_row v) arrival s

module _ (l : Lists) (r : Record) where
  -- the row of job j alone
  unfoldable pub job_row_at : ℕ → Row
  job_row_at j = job_row (verdict l r j) (arrival l.jobs j) (standing_at r j)

  -- the row of task k over the first n jobs
  unfoldable pub own_row : ℕ → ℕ → Row
  own_row k zero = empty_row
  own_row k (suc n) = cond (eqb (task_of l.jobs n) k) (join_row (own_row k n) (job_row_at n)) (own_row k n)

  -- the report over the first n jobs
  unfoldable pub own_up_to : ℕ → Report
  own_up_to n = record { tasks = task_count l.tasks; rows = list_from 0 16 (λ k. own_row k n) }

  -- and over all
  unfoldable pub own_report : Report
  own_report = own_up_to (job_count l.jobs)
