-- Document 02, Ten, read over jobs: which of them are met, late, ended, open and finished, and what their responses are; and over all jobs of
-- a task in all runs, what the numbers of its row come to.
use Rattle.std.specs.Prelude.{ℕ, ◌+◌, ◌-◌, ◌<◌, Bool, cond, false, true, ◌&&◌, ◌≡◌, eqb}
use mathlib.Core.List.{List, [], ◌∷◌, Memᴰ}
use Rattle.bits.specs.Below.{count, sum_below}
use Rattle.tables.specs.Tables.{arrival, job_count, task_of}
use Rattle.zsrm.specs.declared.answers.Verdict.{Verdict}
use Rattle.zsrm.specs.declared.record.Standing.{Standing}
use Rattle.zsrm.specs.declared.record.Standing.TheVariants.{NotArrived, Unfinished, Finished, Ended}
use Rattle.zsrm.specs.Answers.{verdict_answer}
use Rattle.zsrm.specs.Record.{standing_at}
use Rattle.zsrm.specs.Said.{finished_at, standing_said}
use Rattle.zsrm.specs.Verdict.{is_ended, is_late, is_met, is_open, verdict_is}
use Rattle.season.specs.declared.answers.Row.{Row}
use Rattle.season.specs.Season.{Run, run_given}

-- The job has finished.
abbrev pub is_finished : Standing → Bool
is_finished NotArrived = false
is_finished Unfinished = false
is_finished (Finished f) = true
is_finished (Ended e) = false

-- Its response is its finishing instant minus its arrival; 0 where it has not finished.
abbrev pub response_of : ℕ → Standing → ℕ
response_of arrival NotArrived = 0
response_of arrival Unfinished = 0
response_of arrival (Finished f) = f - arrival
response_of arrival (Ended e) = 0

-- a number of each run, summed over the runs
unfoldable pub sum_over : (Run → ℕ) → List Run → ℕ
sum_over f [] = 0
sum_over f (run ∷ runs) = f run + sum_over f runs

module _ (k : ℕ) where
  -- Job j of the run is one of task k.
  abbrev pub is_of_task : Run → ℕ → Bool
  is_of_task run j = eqb (task_of run.jobs j) k

  -- how many jobs of task k, in all runs, pass
  abbrev pub jobs_over : (Run → ℕ → Bool) → List Run → ℕ
  jobs_over test = sum_over (λ run. count (job_count run.jobs) (λ j. is_of_task run j && test run j))

  -- how many have finished
  abbrev pub finished_over : List Run → ℕ
  finished_over = jobs_over (λ run j. is_finished (standing_at run.returned j))

  -- the sum of their responses
  abbrev pub responses_over : List Run → ℕ
  responses_over =
      sum_over (λ run. sum_below (job_count run.jobs) (λ j. cond (is_of_task run j) (response_of (arrival run.jobs j) (standing_at run.returned j)) 0))

  -- One of the runs has a finished job of task k whose response is v.
  pub record Response (runs : List Run) (v : ℕ) : Type 0 where
    pub run : Run
    pub its_run : Memᴰ run runs
    pub job : ℕ
    pub listed : job < job_count run.jobs
    pub its_task : task_of run.jobs job ≡ k
    pub instant : ℕ
    pub its_standing : standing_said (standing_at run.returned job) ≡ finished_at instant
    pub is : v ≡ instant - arrival run.jobs job

module _ (tasks : List ℕ) (k : ℕ) where
  -- how many jobs of task k, in all runs, the library judges so
  abbrev pub judged_over : (Verdict → Bool) → List Run → ℕ
  judged_over so = jobs_over k (λ run j. verdict_is so (verdict_answer (run_given tasks run) run.returned j))

  -- The counts and the sum of a row are those of all jobs of task k in all runs.
  pub record Counted (runs : List Run) (row : Row) : Type 0 where
    pub met : row.met ≡ judged_over is_met runs
    pub late : row.late ≡ judged_over is_late runs
    pub ended : row.ended ≡ judged_over is_ended runs
    pub «open» : row.«open» ≡ judged_over is_open runs
    pub finished : row.finished ≡ finished_over k runs
    pub sum : row.sum ≡ responses_over k runs
