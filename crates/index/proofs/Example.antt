-- A night's planting, and small schedules at the edges: what the three calls answer and write, by computation.
use Prim.Native.Nat.{ℕ, zero, suc, ◌+◌, ◌*◌}
use mathlib.Core.List.{List, [], ◌++◌, ◌∷◌}
use mathlib.Core.Path.{refl, ◌≡◌}
use lib.ListN.{replicate, set}
use Rattle.bits.specs.Below.{greatest, list_from, some}
use Rattle.tables.specs.Refusals.{ascending, before, check10, check2, check3, check4, check5, check6, check7, check8}
use Rattle.tables.specs.Refusals.{check9, check_jobs, check_lists, check_tasks, outside, preceding, refuse, unless, check_schedule}
use Rattle.tables.specs.Said.{done, outcome_said, refused}
use Rattle.tables.specs.Tables.{arrival, criticality, deadline, execution, idle, job_count, nominal, offset, overload, period, priority, task_count, task_of}
use Rattle.index.specs.Answers.{between_answer, build_answer, build_index, check_asked, check_between, check_change, check_placed, moved, replace_answer, replace_index, replace_schedule}
use Rattle.index.specs.Counts.{Plan, all_jobs_or_idle, column, plan, gives, job_or_idle, entries_between, ticks}
use Rattle.index.specs.Refusals.{built_from, check_built, check_ends, check_entries, check_length, check_range, check_task, check_tick, count_at, leaves, since, strays}
use Rattle.index.specs.Rows.{index_of, index_number, row_number, row_by_row}
use Rattle.index.specs.Said.{counted, count_said}

-- ## From midnight to six, a tick being a minute

-- down-force, depth and the log, every 20, 10 and 40 minutes
abbrev tasks : List ℕ
tasks = 20 ∷ 20 ∷ 4 ∷ 8 ∷ 3 ∷ 2 ∷ 12 ∷ 10 ∷ 10 ∷ 3 ∷ 4 ∷ 2 ∷ 3 ∷ 6 ∷ 40 ∷ 40 ∷ 6 ∷ 6 ∷ 1 ∷ 1 ∷ 30 ∷ []

-- n rounds of 40 minutes, with seven jobs each
unfoldable pub jobs : ℕ → List ℕ
jobs zero = []
jobs (suc n) =
    jobs n ++ (0 ∷ (40 * n) ∷ 4 ∷ []) ++ (1 ∷ (40 * n) ∷ 3 ∷ []) ++ (2 ∷ (40 * n) ∷ 6 ∷ []) ++ (1 ∷ (40 * n + 10) ∷ 3 ∷ [])
    ++ (0 ∷ (40 * n + 20) ∷ 4 ∷ []) ++ (1 ∷ (40 * n + 20) ∷ 3 ∷ []) ++ (1 ∷ (40 * n + 30) ∷ 3 ∷ [])

-- each job as planned
unfoldable pub minutes : ℕ → List ℕ
minutes zero = []
minutes (suc n) =
    minutes n ++ replicate 3 (7 * n + 1) ++ replicate 4 (7 * n) ++ replicate 3 (7 * n + 2) ++ replicate 3 (7 * n + 3)
    ++ replicate 3 (7 * n + 2) ++ replicate 4 idle ++ replicate 3 (7 * n + 5) ++ replicate 4 (7 * n + 4)
    ++ replicate 3 idle ++ replicate 3 (7 * n + 6) ++ replicate 7 idle

unfoldable pub night : Plan
night = plan tasks (jobs 9) 360

-- before minutes 0, 64, 128, 192, 256 and 320: down-force, depth, log, idle
abbrev rows : List ℕ
rows =
    (0 ∷ 0 ∷ 0 ∷ 0 ∷ []) ++ (13 ∷ 21 ∷ 12 ∷ 18 ∷ []) ++ (28 ∷ 39 ∷ 19 ∷ 42 ∷ []) ++ (40 ∷ 59 ∷ 30 ∷ 63 ∷ [])
    ++ (52 ∷ 78 ∷ 42 ∷ 84 ∷ []) ++ (64 ∷ 96 ∷ 48 ∷ 112 ∷ [])

pub night_built : build_index night (minutes 9) (replicate 24 7) ≡ rows
unfolding some greatest list_from task_count period deadline nominal overload criticality priority offset job_count task_of arrival execution refuse
    before ascending outside check2 check3 check4 check_tasks check5 preceding check6 check7 check8 check_jobs check_lists check9 check10 unless
    job_or_idle all_jobs_or_idle column gives ticks row_by_row row_number index_of check_schedule check_length built_from check_built build_answer build_index jobs
    minutes night
night_built = refl

-- From 2 to 5 o'clock, minute 120 up to minute 300, depth had 54 minutes, down-force 36, the log 30, and 60 were idle.
unfoldable pub asked : List ℕ → List ℕ → List (List ℕ)
asked schedule index =
    count_said (between_answer night schedule index 0 120 300) ∷ count_said (between_answer night schedule index 1 120 300)
    ∷ count_said (between_answer night schedule index 2 120 300) ∷ count_said (between_answer night schedule index 3 120 300) ∷ []

pub from_two_to_five : asked (minutes 9) rows ≡ counted 36 ∷ counted 54 ∷ counted 30 ∷ counted 60 ∷ []
unfolding greatest task_count period deadline nominal overload criticality priority offset job_count task_of arrival execution refuse before ascending
    outside check2 check3 check4 check_tasks check5 preceding check6 check7 check8 check_jobs check_lists check9 check10 unless job_or_idle all_jobs_or_idle
    column gives ticks entries_between index_number check_schedule check_length check_range check_task since count_at check_ends check_asked check_between
    between_answer count_said jobs minutes night asked
from_two_to_five = refl

-- Minute 215 was the depth job's, 38, and not the log's, 37: in the rows of minutes 256 and 320 one more is depth's and one less the log's.
abbrev corrected : List ℕ
corrected =
    (0 ∷ 0 ∷ 0 ∷ 0 ∷ []) ++ (13 ∷ 21 ∷ 12 ∷ 18 ∷ []) ++ (28 ∷ 39 ∷ 19 ∷ 42 ∷ []) ++ (40 ∷ 59 ∷ 30 ∷ 63 ∷ [])
    ++ (52 ∷ 79 ∷ 41 ∷ 84 ∷ []) ++ (64 ∷ 97 ∷ 47 ∷ 112 ∷ [])

pub minute_replaced : (replace_schedule night (minutes 9) rows 215 38 ≡ set (minutes 9) 215 38) × (replace_index night (minutes 9) rows 215 38 ≡ corrected)
unfolding some greatest list_from task_count period deadline nominal overload criticality priority offset job_count task_of arrival execution refuse
    before ascending outside check2 check3 check4 check_tasks check5 preceding check6 check7 check8 check_jobs check_lists check9 check10 unless
    job_or_idle column row_by_row index_number check_schedule check_length check_tick check_entries leaves strays moved check_placed check_change replace_answer
    replace_schedule replace_index jobs minutes night
minute_replaced = (refl, refl)

pub asked_again : asked (set (minutes 9) 215 38) corrected ≡ counted 36 ∷ counted 55 ∷ counted 29 ∷ counted 60 ∷ []
unfolding greatest task_count period deadline nominal overload criticality priority offset job_count task_of arrival execution refuse before ascending
    outside check2 check3 check4 check_tasks check5 preceding check6 check7 check8 check_jobs check_lists check9 check10 unless job_or_idle all_jobs_or_idle
    column gives ticks entries_between index_number check_schedule check_length check_range check_task since count_at check_ends check_asked check_between
    between_answer count_said jobs minutes night asked
asked_again = refl

-- ## At the edges: the depth task alone, with one job of 3 ticks at 0

abbrev alone : ℕ → Plan
alone horizon = plan (10 ∷ 10 ∷ 3 ∷ 4 ∷ 2 ∷ 3 ∷ 6 ∷ []) (0 ∷ 0 ∷ 3 ∷ []) horizon

-- the first three ticks are the job's
abbrev first : ℕ → List ℕ
first n = replicate 3 0 ++ replicate n idle

unfoldable pub ask : ℕ → List ℕ → List ℕ → ℕ → ℕ → ℕ → List ℕ
ask horizon schedule index task a b = count_said (between_answer (alone horizon) schedule index task a b)

abbrev questions : List (List ℕ)
questions =
    ask 0 [] (0 ∷ 0 ∷ []) 0 0 0
    ∷ ask 5 (first 2) (0 ∷ 0 ∷ []) 0 0 5
    ∷ ask 5 (first 2) (0 ∷ 0 ∷ []) 1 2 5
    ∷ ask 63 (first 60) (0 ∷ 0 ∷ []) 1 1 63
    ∷ ask 64 (first 61) (0 ∷ 0 ∷ 3 ∷ 61 ∷ []) 1 1 64
    ∷ ask 65 (first 62) (0 ∷ 0 ∷ 3 ∷ 61 ∷ []) 1 0 65
    -- an index not made by these calls
    ∷ ask 5 (first 2) (1 ∷ 0 ∷ []) 0 0 5
    ∷ ask 5 (first 2) (3 ∷ 0 ∷ []) 0 0 5
    ∷ ask 64 (first 61) (3 ∷ 0 ∷ 1 ∷ 0 ∷ []) 0 0 64
    ∷ ask 5 (first 2) (4294967295 ∷ 0 ∷ []) 0 0 5
    -- 15, and 15 before 16
    ∷ ask 5 (first 2) (0 ∷ 0 ∷ []) 0 2 1
    ∷ ask 5 (first 2) (0 ∷ []) 2 0 6
    -- 16: the length, the task, an entry read
    ∷ ask 5 (first 2) (0 ∷ []) 0 0 5
    ∷ ask 5 (first 2) (0 ∷ 0 ∷ []) 2 0 5
    ∷ ask 3 (0 ∷ 5 ∷ 0 ∷ []) (0 ∷ 0 ∷ []) 0 0 1
    ∷ ask 3 (0 ∷ 5 ∷ 0 ∷ []) (0 ∷ 0 ∷ []) 0 0 2
    -- 9 and 10 before them
    ∷ ask 16385 [] [] 0 2 1
    ∷ ask 5 (first 3) [] 0 2 1
    ∷ []

abbrev answered : List (List ℕ)
answered =
    counted 0 ∷ counted 3 ∷ counted 2 ∷ counted 60 ∷ counted 61 ∷ counted 62 ∷ counted 3 ∷ refused 16 0 ∷ refused 16 0 ∷ refused 16 0
    ∷ refused 15 0 ∷ refused 15 0 ∷ refused 16 0 ∷ refused 16 0 ∷ counted 1 ∷ refused 16 0 ∷ refused 9 0 ∷ refused 10 0 ∷ []

pub edges_asked : questions ≡ answered
unfolding greatest task_count period deadline nominal overload criticality priority offset job_count task_of arrival execution refuse before ascending
    outside check2 check3 check4 check_tasks check5 preceding check6 check7 check8 check_jobs check_lists check9 check10 unless job_or_idle all_jobs_or_idle
    column gives ticks entries_between index_number check_schedule check_length check_range check_task since count_at check_ends check_asked check_between
    between_answer count_said ask
edges_asked = refl

-- an answer, and the index afterwards
unfoldable pub builds : ℕ → List ℕ → List ℕ → List (List ℕ)
builds horizon schedule index = outcome_said (build_answer (alone horizon) schedule index) ∷ build_index (alone horizon) schedule index ∷ []

unfoldable pub replaces : List ℕ → ℕ → ℕ → List (List ℕ)
replaces index tick entry = outcome_said (replace_answer (alone 64) (first 61) index tick entry) ∷ replace_index (alone 64) (first 61) index tick entry ∷ []

pub edges_built : builds 0 [] (7 ∷ 7 ∷ []) ++ builds 64 (first 61) (replicate 4 7) ++ builds 3 (0 ∷ 5 ∷ 0 ∷ [])
    (7 ∷ 7 ∷ []) ++ builds 64 (first 60 ++ (5 ∷ [])) (replicate 4 7) ++ builds 64 (first 61) (replicate 3 7)
    ≡ (done ∷ (0 ∷ 0 ∷ []) ∷ []) ++ (done ∷ (0 ∷ 0 ∷ 3 ∷ 61 ∷ []) ∷ []) ++ (done ∷ (0 ∷ 0 ∷ []) ∷ []) ++ (refused 16 0 ∷ replicate 4 7 ∷ []) ++ (refused 16 0 ∷ replicate 3 7 ∷ [])
unfolding greatest list_from task_count period deadline nominal overload criticality priority offset job_count task_of arrival execution refuse before
    ascending outside check2 check3 check4 check_tasks check5 preceding check6 check7 check8 check_jobs check_lists check9 check10 unless outcome_said
    job_or_idle all_jobs_or_idle column gives ticks row_by_row row_number index_of check_schedule check_length built_from check_built build_answer build_index builds
edges_built = refl

-- At tick 0 of 64 the job gives way to idle; then an old count of 0, one that would stay above the horizon, and a new one at it; the same
-- column; a tick not below the horizon; an entry that is neither job nor idle.
pub edges_replaced : replaces (0 ∷ 0 ∷ 3 ∷ 61 ∷ []) 0 idle ++ replaces (0 ∷ 0 ∷ 0 ∷ 61 ∷ []) 0 idle ++ replaces (0 ∷ 0 ∷ 66 ∷ 0 ∷ []) 0 idle ++ replaces (0 ∷ 0 ∷ 3 ∷ 64 ∷ []) 0 idle
    ++ replaces (9 ∷ 9 ∷ 0 ∷ 99 ∷ []) 0 0 ++ replaces (0 ∷ 0 ∷ 3 ∷ 61 ∷ []) 64 0 ++ replaces (0 ∷ 0 ∷ 3 ∷ 61 ∷ []) 0 1
    ≡ (done ∷ (0 ∷ 0 ∷ 2 ∷ 62 ∷ []) ∷ []) ++ (refused 16 0 ∷ (0 ∷ 0 ∷ 0 ∷ 61 ∷ []) ∷ []) ++ (refused 16 0 ∷ (0 ∷ 0 ∷ 66 ∷ 0 ∷ []) ∷ []) ++ (refused 16 0 ∷ (0 ∷ 0 ∷ 3 ∷ 64 ∷ []) ∷ [])
    ++ (done ∷ (9 ∷ 9 ∷ 0 ∷ 99 ∷ []) ∷ []) ++ (refused 15 0 ∷ (0 ∷ 0 ∷ 3 ∷ 61 ∷ []) ∷ []) ++ (refused 16 0 ∷ (0 ∷ 0 ∷ 3 ∷ 61 ∷ []) ∷ [])
unfolding some greatest list_from task_count period deadline nominal overload criticality priority offset job_count task_of arrival execution refuse
    before ascending outside check2 check3 check4 check_tasks check5 preceding check6 check7 check8 check_jobs check_lists check9 check10 unless
    outcome_said job_or_idle column row_by_row index_number check_schedule check_length check_tick check_entries leaves strays moved check_placed check_change
    replace_answer replace_schedule replace_index replaces
edges_replaced = refl
