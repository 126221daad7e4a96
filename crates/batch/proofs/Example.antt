-- Small batches, by computation: one table under one statement.
use Prim.Native.Nat.{ℕ}
use mathlib.Core.Path.{refl, ◌≡◌}
use mathlib.Core.List.{List, [], ◌∷◌, map}
use Rattle.bits.specs.Below.{count, every, greatest, least, list_from, some}
use Rattle.tables.specs.Refusals.{ascending, before, check2, check3, check4, check5, check6, check7, check8, check9}
use Rattle.tables.specs.Refusals.{check10, check_jobs, check_lists, check_tasks, outside, preceding, refuse, unless, check_schedule}
use Rattle.tables.specs.Said.{done, outcome_said, refused}
use Rattle.tables.specs.Tables.{arrival, criticality, deadline, deadline_instant, execution, idle, job_count, job_criticality, job_nominal}
use Rattle.tables.specs.Tables.{job_priority, nominal, offset, overload, period, priority, task_count, task_of, zero_slack_instant}
use Rattle.zsrm.specs.declared.mode.Mode.TheVariants.{S}
use Rattle.zsrm.specs.Answers.{run_schedule}
use Rattle.zsrm.specs.Record.{arrived, arriving, done_at, fresh, fresh_place, opening, place_at, standing_at, suspended_at, waited_at}
use Rattle.zsrm.specs.Run.{entries_by, final_by, replay, run_entries, run_record}
use Rattle.zsrm.specs.Tick.{advanced, alive, candidate, choice, done_after, eligible, ends, finishes, goes_on, higher_priority, keeps}
use Rattle.zsrm.specs.Tick.{lowest, more_critical, over, past_zero_slack, place_after, some_job, standing_after, suspended, suspended_after, waited_after, waits}
use Rattle.batch.specs.Answers.{batch_answer, batch_schedule, checked}
use Rattle.batch.specs.Refusals.{check17, check_batch, check_call, check_runs, goes_first, with_run}
use Rattle.batch.specs.Runs.{given_of, jobs_before, list_of, offer, place_of, schedule_of, schedules_of}

-- document 01's example table: 8 8 4 4 1 2 4 / 20 16 5 10 2 1 10
abbrev tasks : List ℕ
tasks = 8 ∷ 8 ∷ 4 ∷ 4 ∷ 1 ∷ 2 ∷ 4 ∷ 20 ∷ 16 ∷ 5 ∷ 10 ∷ 2 ∷ 1 ∷ 10 ∷ []

-- what is said of a batch in mode S at horizon 3: the outcome, the run, and the schedule
pub record Result : Type 0 where
  pub outcome : List ℕ
  pub run : ℕ
  pub schedule : List ℕ

-- a flat list, job counts and a lent list, with what is said of them
pub data Row : Type 0 where
  gives : List ℕ → List ℕ → List ℕ → Result → Row

abbrev result : List ℕ → ℕ → List ℕ → Result
result outcome run schedule = record { outcome = outcome; run = run; schedule = schedule }

abbrev answered : Row → Result
answered (gives jobs counts lent t) =
    result (outcome_said (batch_answer (offer S tasks jobs counts 3) lent).outcome) (batch_answer (offer S tasks jobs counts 3) lent).run (batch_schedule (offer S tasks jobs counts 3) lent)

abbrev expected : Row → Result
expected (gives jobs counts lent t) = t

abbrev six : List ℕ
six = 7 ∷ 7 ∷ 7 ∷ 7 ∷ 7 ∷ 7 ∷ []

-- 0 0 2, and 0 1 1 with 1 1 5: two runs. 0 0 2 alone, after an empty list. The first row's second list with its job 0 at 2: 7 of its job 1,
-- with run 1. Counts of four jobs, and a lent list of five entries: 17. No lists: done.
abbrev table : List Row
table =
    gives (0 ∷ 0 ∷ 2 ∷ 0 ∷ 1 ∷ 1 ∷ 1 ∷ 1 ∷ 5 ∷ []) (1 ∷ 2 ∷ []) six (result done 0 (0 ∷ 0 ∷ idle ∷ idle ∷ 0 ∷ 1 ∷ []))
    ∷ gives (0 ∷ 0 ∷ 2 ∷ []) (0 ∷ 1 ∷ []) six (result done 0 (idle ∷ idle ∷ idle ∷ 0 ∷ 0 ∷ idle ∷ []))
    ∷ gives (0 ∷ 0 ∷ 2 ∷ 0 ∷ 2 ∷ 1 ∷ 1 ∷ 1 ∷ 5 ∷ []) (1 ∷ 2 ∷ []) six (result (refused 7 1) 1 six)
    ∷ gives (0 ∷ 0 ∷ 2 ∷ 0 ∷ 1 ∷ 1 ∷ 1 ∷ 1 ∷ 5 ∷ []) (1 ∷ 3 ∷ []) six (result (refused 17 0) 0 six)
    ∷ gives (0 ∷ 0 ∷ 2 ∷ []) (0 ∷ 1 ∷ []) (7 ∷ 7 ∷ 7 ∷ 7 ∷ 7 ∷ []) (result (refused 17 0) 0 (7 ∷ 7 ∷ 7 ∷ 7 ∷ 7 ∷ []))
    ∷ gives [] [] [] (result done 0 [])
    ∷ []

pub examples : map answered table ≡ map expected table
unfolding some every least greatest count list_from task_count period deadline nominal overload criticality priority offset job_count task_of arrival
    execution job_criticality job_priority job_nominal zero_slack_instant deadline_instant refuse before ascending outside check2 check3 check4 check_tasks
    check5 preceding check6 check7 check8 check_jobs check_lists check9 check10 unless outcome_said place_at done_at suspended_at waited_at standing_at
    arriving arrived opening fresh_place fresh alive some_job more_critical higher_priority past_zero_slack suspended eligible candidate lowest keeps choice
    done_after over ends finishes suspended_after waits waited_after goes_on standing_after place_after advanced replay entries_by final_by run_entries
    run_record check_schedule run_schedule jobs_before list_of place_of given_of schedule_of schedules_of with_run goes_first check17 check_call check_runs
    check_batch checked batch_answer batch_schedule
examples = refl
