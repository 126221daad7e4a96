-- Document 01's table, with a task 0 that drops a seed every 8 ticks and a task 1 that runs over its nominal time once or twice: what `judge`
-- answers, by computation. One table under one statement.
use Prim.Native.Nat.{ℕ}
use mathlib.Core.Bool.{true}
use mathlib.Core.List.{List, [], ◌++◌, ◌∷◌, map}
use mathlib.Core.Path.{ap, refl, ◌≡◌}
use lib.ListN.{get_or, length}
use Rattle.std.specs.Prelude.{Result, Ok}
use Rattle.bits.specs.Below.{every, greatest, least, list_from, some}
use Rattle.tables.specs.declared.answers.Refusal.{Refusal}
use Rattle.tables.specs.Refusals.{ascending, before, check13, check2, check3, check4, check5, check6, check7, check8, check_jobs, check_lists, check_tasks, outside, preceding, refuse, unless}
use Rattle.tables.specs.Said.{refused}
use Rattle.tables.specs.Tables.{arrival, criticality, deadline, deadline_instant, execution, job_count, job_criticality, job_nominal, job_priority}
use Rattle.tables.specs.Tables.{nominal, offset, overload, period, priority, task_count, task_of, zero_slack_instant}
use Rattle.zsrm.specs.declared.answers.Verdict.{Verdict}
use Rattle.zsrm.specs.declared.answers.Verdict.TheVariants.{Ended, Late, Met}
use Rattle.zsrm.specs.declared.mode.Mode.{Mode}
use Rattle.zsrm.specs.declared.mode.Mode.TheVariants.{S, SE}
use Rattle.zsrm.specs.declared.record.Record.{Record}
use Rattle.zsrm.specs.declared.tie.Tie.TheVariants.{Lowest}
use Rattle.zsrm.specs.Answers.{check_verdict, check_verdicts, verdict_answer}
use Rattle.zsrm.specs.Given.{given}
use Rattle.zsrm.specs.Record.{arrived, arriving, check11, consistent, done_at, fresh, fresh_place, opening, place_at, sound_at, sound_previous, standing_at, suspended_at, waited_at}
use Rattle.zsrm.specs.Run.{entries_by, final_by, replay, run_record}
use Rattle.zsrm.specs.Tick.{advanced, alive, candidate, choice, done_after, eligible, ends, finishes, goes_on, higher_priority, keeps}
use Rattle.zsrm.specs.Tick.{lowest, more_critical, over, past_zero_slack, place_after, some_job, standing_after, suspended, suspended_after, waited_after, waits}
use Rattle.zsrm.specs.Verdict.{verdict}
use Rattle.window.specs.Answers.{judge_answer}
use Rattle.window.specs.Refusals.{check19, check20, check_judge}
use Rattle.window.specs.Said.{one_fails, all_pass, windows_said}
use Rattle.window.specs.Windows.{activations, fails, first_failing, how_many, jobs_below, windows_of, misses, opens, verdicts_on, window, window_count}

abbrev tasks : List ℕ
tasks = 8 ∷ 8 ∷ 4 ∷ 4 ∷ 1 ∷ 2 ∷ 4 ∷ 20 ∷ 16 ∷ 5 ∷ 10 ∷ 2 ∷ 1 ∷ 10 ∷ []

-- six seeds, jobs 0, 2, 3, 4, 6 and 7, and two jobs of task 1, the first of which takes 10 ticks where 5 are nominal, and the second c
abbrev seeds : ℕ → List ℕ
seeds c =
    (0 ∷ 0 ∷ 4 ∷ []) ++ (1 ∷ 0 ∷ 10 ∷ []) ++ (0 ∷ 8 ∷ 4 ∷ []) ++ (0 ∷ 16 ∷ 4 ∷ []) ++ (0 ∷ 24 ∷ 4 ∷ []) ++ (1 ∷ 24 ∷ c ∷ []) ++ (0 ∷ 32 ∷ 4 ∷ []) ++ (0 ∷ 40 ∷ 4 ∷ [])

-- our run's record at the horizon
abbrev ran : Mode → List ℕ → ℕ → Record
ran mode list horizon = run_record (given mode tasks list) Lowest horizon

-- what is said in a mode, of a job list, with the record of its run in a mode at a horizon, of a task and a pair
pub data Row : Type 0 where
  gives : Mode → List ℕ → Mode → ℕ → ℕ → ℕ → ℕ → List ℕ → Row

abbrev answered : Row → List ℕ
answered (gives mode list ran_in horizon task m k t) = windows_said (judge_answer (given mode tasks list) (ran ran_in list horizon) task m k)

abbrev expected : Row → List ℕ
expected (gives mode list ran_in horizon task m k t) = t

-- Where job 1 or job 5 takes 10 ticks, the seed that arrives 8 ticks later is missed: late in S, ended in SE. These are jobs 2 and 6, the
-- second seed and the fifth: four in a row miss two, from job 2 on, and three in a row never do. With a c of 5 job 6 is met. At 32 jobs 6
-- and 7 are open: six in a row then miss one, and at 48 two, from the same job on. A list with no job passes. The refusals: K = 0, K over 64,
-- m > K, this before a task that is not in the table; before both 11, for a record in which jobs are ended in mode S, and 6, for a c over
-- the overload time.
abbrev table : List Row
table =
    gives SE (seeds 10) SE 48 0 1 7 (all_pass 0)
    ∷ gives SE (seeds 10) SE 48 0 1 4 (one_fails 2 2 0)
    ∷ gives S (seeds 10) S 48 0 1 4 (one_fails 2 2 0)
    ∷ gives SE (seeds 10) SE 48 0 0 4 (one_fails 0 1 0)
    ∷ gives SE (seeds 10) SE 48 0 2 4 (all_pass 0)
    ∷ gives SE (seeds 10) SE 48 0 1 3 (all_pass 0)
    ∷ gives SE (seeds 5) SE 48 0 1 4 (all_pass 0)
    ∷ gives SE (seeds 10) SE 32 0 1 4 (all_pass 2)
    ∷ gives SE (seeds 10) SE 32 0 0 6 (one_fails 0 1 2)
    ∷ gives SE (seeds 10) SE 48 0 0 6 (one_fails 0 2 0)
    ∷ gives SE (seeds 10) SE 48 1 0 2 (all_pass 0)
    ∷ gives SE [] SE 48 0 0 1 (all_pass 0)
    ∷ gives SE (seeds 10) SE 48 0 0 0 (refused 19 0)
    ∷ gives SE (seeds 10) SE 48 0 1 65 (refused 19 0)
    ∷ gives SE (seeds 10) SE 48 2 5 4 (refused 19 0)
    ∷ gives SE (seeds 10) SE 48 2 1 4 (refused 20 0)
    ∷ gives S (seeds 10) SE 48 2 5 4 (refused 11 0)
    ∷ gives SE (seeds 11) SE 48 2 5 4 (refused 6 5)
    ∷ []

-- and the verdicts on the seeds in either mode
abbrev verdicts_in : Mode → List (Result Verdict Refusal)
verdicts_in mode = verdicts_on (given mode tasks (seeds 10)) (ran mode (seeds 10) 48) 0

pub examples : (map answered table ≡ map expected table)
    × (verdicts_in S ≡ Ok Met ∷ Ok (Late 2 true) ∷ Ok Met ∷ Ok Met ∷ Ok (Late 2 true) ∷ Ok Met ∷ [])
    × (verdicts_in SE ≡ Ok Met ∷ Ok Ended ∷ Ok Met ∷ Ok Met ∷ Ok Ended ∷ Ok Met ∷ [])
unfolding some every least greatest list_from task_count period deadline nominal overload criticality priority offset job_count task_of arrival execution
    job_criticality job_priority job_nominal zero_slack_instant deadline_instant refuse before ascending outside check2 check3 check4 check_tasks check5
    preceding check6 check7 check8 check_jobs check_lists check11 check13 place_at done_at suspended_at waited_at standing_at arriving arrived opening
    fresh_place fresh sound_at sound_previous consistent alive some_job more_critical higher_priority past_zero_slack suspended eligible candidate lowest
    keeps choice done_after over ends finishes suspended_after waits waited_after goes_on standing_after place_after advanced replay entries_by final_by
    run_record verdict unless check_verdict verdict_answer jobs_below activations verdicts_on how_many misses opens window window_count fails first_failing
    windows_of check19 check20 check_verdicts check_judge judge_answer windows_said
examples = (refl, refl, refl)

-- the n-th row
row : (n : ℕ) → get_or (map answered table) n [] ≡ get_or (map expected table) n []
row n = ap (λ (l : List (List ℕ)). get_or l n []) examples.0

-- A smaller K may turn a pass into a failure where the task has fewer than the larger K jobs: of these six seeds (1, 7) passes, as there is
-- no window of seven, and (1, 4) fails.
pub smaller_window_fails : (length (activations (seeds 10) 0) ≡ 6)
    × (windows_said (judge_answer (given SE tasks (seeds 10)) (ran SE (seeds 10) 48) 0 1 7) ≡ all_pass 0)
    × (windows_said (judge_answer (given SE tasks (seeds 10)) (ran SE (seeds 10) 48) 0 1 4) ≡ one_fails 2 2 0)
unfolding activations jobs_below job_count task_of
smaller_window_fails = (refl, row 0, row 1)
