-- A season of three runs in two reports, joined, and what is shown of them: by computation. The table is document 01's, and so are the runs:
-- its traced cases 1, 3 and 5. Then a count that would pass 4,294,967,295, another number of tasks, a least without a finished job, and
-- a least of 0 beside none.
use Prim.Native.Nat.{ℕ}
use mathlib.Core.List.{List, [], ◌∷◌, ◌++◌}
use mathlib.Core.Path.{refl, ◌≡◌}
use lib.ListN.{replicate}
use Rattle.bits.specs.Below.{every, greatest, least, list_from, some}
use Rattle.tables.specs.Outcomes.{Done, Refused}
use Rattle.tables.specs.Refusals.{ascending, before, check2, check3, check4, check5, check6, check7, check8, check_jobs, check_lists, check_tasks, outside, preceding, refuse, unless}
use Rattle.tables.specs.Said.{done, outcome_said}
use Rattle.tables.specs.Tables.{arrival, criticality, deadline, deadline_instant, execution, job_count, job_criticality, job_nominal, job_priority}
use Rattle.tables.specs.Tables.{nominal, offset, overload, period, priority, task_count, task_of, zero_slack_instant}
use Rattle.zsrm.specs.declared.mode.Mode.{Mode}
use Rattle.zsrm.specs.declared.mode.Mode.TheVariants.{S, SE}
use Rattle.zsrm.specs.declared.tie.Tie.TheVariants.{Stay}
use Rattle.zsrm.specs.Answers.{check_verdicts}
use Rattle.zsrm.specs.Given.{given}
use Rattle.zsrm.specs.Record.{arrived, arriving, check11, consistent, done_at, fresh, fresh_place, opening, place_at, sound_at, sound_previous, standing_at, suspended_at, waited_at}
use Rattle.zsrm.specs.Run.{entries_by, final_by, replay, run_record}
use Rattle.zsrm.specs.Tick.{advanced, alive, candidate, choice, done_after, eligible, ends, finishes, goes_on, higher_priority, keeps}
use Rattle.zsrm.specs.Tick.{lowest, more_critical, over, past_zero_slack, place_after, some_job, standing_after, suspended, suspended_after, waited_after, waits}
use Rattle.zsrm.specs.Verdict.{verdict}
use Rattle.text.specs.Decimal.{decimal, digits, size, spaced}
use Rattle.season.specs.declared.answers.Report.{Report}
use Rattle.season.specs.declared.answers.Row.{Row}
use Rattle.season.specs.Extremes.{extremes_of}
use Rattle.season.specs.Said.{extremes_said}
use Rattle.season.specs.Mean.{mean_of}
use Rattle.season.specs.Own.{job_row, job_row_at, own_report, own_row, own_up_to}
use Rattle.season.specs.Answers.{add_answer, empty_answer, join_answer, reported}
use Rattle.season.specs.Reports.{all_fit, check18, empty_report, joined, joined_row, row_at, row_below, rows_of}
use Rattle.season.specs.Rows.{fits, join_row, empty_row}
use Rattle.season.specs.Season.{Run, Season, added, and_then, begun, merged, season_answer}
use Rattle.season.specs.Show.{counts, row_line, row_lines, showing}

-- 8 8 4 4 1 2 4 / 20 16 5 10 2 1 10
abbrev tasks : List ℕ
tasks = 8 ∷ 8 ∷ 4 ∷ 4 ∷ 1 ∷ 2 ∷ 4 ∷ 20 ∷ 16 ∷ 5 ∷ 10 ∷ 2 ∷ 1 ∷ 10 ∷ []

-- list A, the middle job having this execution time
abbrev list_a : ℕ → List ℕ
list_a c = 0 ∷ 0 ∷ 4 ∷ 1 ∷ 0 ∷ c ∷ 0 ∷ 8 ∷ 4 ∷ []

abbrev run : Mode → ℕ → ℕ → Run
run mode c horizon = record { mode = mode; jobs = list_a c; returned = run_record (given mode tasks (list_a c)) Stay horizon }

-- the runs of one planter, and those of another
abbrev one : Season
one = added (added begun (run S 5 16)) (run S 10 16)

abbrev other : Season
other = added begun (run SE 10 18)

-- what is shown of a season's report
abbrev shown : Season → List ℕ
shown s = showing (season_answer tasks s).report

--   task 0 3 1 0 0 4 5 4 1 3
--   task 1 2 0 0 0 11 16 13 1 2
abbrev text_one : List ℕ
text_one = (116 ∷ 97 ∷ 115 ∷ 107 ∷ 32 ∷ 48 ∷ 32 ∷ 51 ∷ 32 ∷ 49 ∷ 32 ∷ 48 ∷ 32 ∷ 48 ∷ 32 ∷ 52 ∷ 32 ∷ 53 ∷ 32 ∷ 52 ∷ 32 ∷ 49 ∷ 32 ∷ 51 ∷ 10 ∷ []) ++ (116 ∷ 97 ∷ 115 ∷ 107 ∷ 32 ∷ 49 ∷ 32 ∷ 50 ∷ 32 ∷ 48 ∷ 32 ∷ 48 ∷ 32 ∷ 48 ∷ 32 ∷ 49 ∷ 49 ∷ 32 ∷ 49 ∷ 54 ∷ 32 ∷ 49 ∷ 51 ∷ 32 ∷ 49 ∷ 32 ∷ 50 ∷ 10 ∷ [])

--   task 0 1 0 1 0 4 4 4 0 1
--   task 1 1 0 0 0 16 16 16 0 1
abbrev text_other : List ℕ
text_other = (116 ∷ 97 ∷ 115 ∷ 107 ∷ 32 ∷ 48 ∷ 32 ∷ 49 ∷ 32 ∷ 48 ∷ 32 ∷ 49 ∷ 32 ∷ 48 ∷ 32 ∷ 52 ∷ 32 ∷ 52 ∷ 32 ∷ 52 ∷ 32 ∷ 48 ∷ 32 ∷ 49 ∷ 10 ∷ []) ++ (116 ∷ 97 ∷ 115 ∷ 107 ∷ 32 ∷ 49 ∷ 32 ∷ 49 ∷ 32 ∷ 48 ∷ 32 ∷ 48 ∷ 32 ∷ 48 ∷ 32 ∷ 49 ∷ 54 ∷ 32 ∷ 49 ∷ 54 ∷ 32 ∷ 49 ∷ 54 ∷ 32 ∷ 48 ∷ 32 ∷ 49 ∷ 10 ∷ [])

--   task 0 4 1 1 0 4 5 4 1 4
--   task 1 3 0 0 0 11 16 14 1 3
abbrev text_both : List ℕ
text_both = (116 ∷ 97 ∷ 115 ∷ 107 ∷ 32 ∷ 48 ∷ 32 ∷ 52 ∷ 32 ∷ 49 ∷ 32 ∷ 49 ∷ 32 ∷ 48 ∷ 32 ∷ 52 ∷ 32 ∷ 53 ∷ 32 ∷ 52 ∷ 32 ∷ 49 ∷ 32 ∷ 52 ∷ 10 ∷ []) ++ (116 ∷ 97 ∷ 115 ∷ 107 ∷ 32 ∷ 49 ∷ 32 ∷ 51 ∷ 32 ∷ 48 ∷ 32 ∷ 48 ∷ 32 ∷ 48 ∷ 32 ∷ 49 ∷ 49 ∷ 32 ∷ 49 ∷ 54 ∷ 32 ∷ 49 ∷ 52 ∷ 32 ∷ 49 ∷ 32 ∷ 51 ∷ 10 ∷ [])

--   task 0 1 1 0 0 4 4 4 0 1
--   task 1 0 0 0 0 - - - - -
abbrev text_dashes : List ℕ
text_dashes = (116 ∷ 97 ∷ 115 ∷ 107 ∷ 32 ∷ 48 ∷ 32 ∷ 49 ∷ 32 ∷ 49 ∷ 32 ∷ 48 ∷ 32 ∷ 48 ∷ 32 ∷ 52 ∷ 32 ∷ 52 ∷ 32 ∷ 52 ∷ 32 ∷ 48 ∷ 32 ∷ 49 ∷ 10 ∷ []) ++ (116 ∷ 97 ∷ 115 ∷ 107 ∷ 32 ∷ 49 ∷ 32 ∷ 48 ∷ 32 ∷ 48 ∷ 32 ∷ 48 ∷ 32 ∷ 48 ∷ 32 ∷ 45 ∷ 32 ∷ 45 ∷ 32 ∷ 45 ∷ 32 ∷ 45 ∷ 32 ∷ 45 ∷ 10 ∷ [])

-- the three outcomes are done, and the texts are those
pub season_done : (outcome_said (season_answer tasks one).outcome ≡ done)
    × (outcome_said (season_answer tasks other).outcome ≡ done) × (outcome_said (season_answer tasks (merged one other)).outcome ≡ done)
unfolding outcome_said some every least greatest list_from task_count period deadline nominal overload criticality priority offset job_count task_of
    arrival execution job_criticality job_priority job_nominal zero_slack_instant deadline_instant refuse before ascending outside check2 check3 check4
    check_tasks check5 preceding check6 check7 check8 check_jobs check_lists check11 unless place_at done_at suspended_at waited_at standing_at arriving
    arrived opening fresh_place fresh sound_at sound_previous consistent alive some_job more_critical higher_priority past_zero_slack suspended eligible
    candidate lowest keeps choice done_after over ends finishes suspended_after waits waited_after goes_on standing_after place_after advanced replay
    entries_by final_by run_record verdict join_row fits row_at row_below rows_of joined_row joined all_fit check18 reported join_answer empty_report empty_answer
    job_row job_row_at own_row own_up_to own_report check_verdicts add_answer and_then season_answer mean_of
season_done = (refl, refl, refl)

pub season_shown : (shown one ≡ text_one) × (shown other ≡ text_other) × (shown (merged one other) ≡ text_both) × (shown (merged other one) ≡ text_both)
unfolding some every least greatest list_from task_count period deadline nominal overload criticality priority offset job_count task_of arrival execution
    job_criticality job_priority job_nominal zero_slack_instant deadline_instant refuse before ascending outside check2 check3 check4 check_tasks check5
    preceding check6 check7 check8 check_jobs check_lists check11 unless place_at done_at suspended_at waited_at standing_at arriving arrived opening
    fresh_place fresh sound_at sound_previous consistent alive some_job more_critical higher_priority past_zero_slack suspended eligible candidate lowest
    keeps choice done_after over ends finishes suspended_after waits waited_after goes_on standing_after place_after advanced replay entries_by final_by
    run_record verdict join_row fits row_at row_below rows_of joined_row joined all_fit check18 reported join_answer empty_report empty_answer job_row job_row_at
    own_row own_up_to own_report check_verdicts add_answer and_then season_answer mean_of size digits decimal spaced counts row_line row_lines showing
season_shown = (refl, refl, refl, refl)

abbrev row : ℕ → ℕ → ℕ → ℕ → ℕ → ℕ → ℕ → ℕ → Row
row m l e o n s x y = record { met = m; late = l; ended = e; «open» = o; finished = n; sum = s; least = x; greatest = y }

abbrev report : ℕ → Row → Report
report n r = record { tasks = n; rows = r ∷ replicate 15 empty_row }

-- a job finished after 4 ticks, one late and alive; and a task without jobs
pub lines_shown : showing (report 2 (row 1 1 0 0 1 4 4 4)) ≡ text_dashes
unfolding some every list_from row_at mean_of size digits decimal spaced counts row_line row_lines showing
lines_shown = refl

-- 4,294,967,295 jobs met and one more; one task and two: 18, the report as it was
abbrev full : Report
full = report 1 (row 4294967295 0 0 0 0 0 0 0)

abbrev more : Report
more = report 1 (row 1 0 0 0 0 0 0 0)

pub refused_eighteen : (join_answer full more ≡ record { outcome = Refused 18 0; report = full })
    × (join_answer (empty_report 1) (empty_report 2) ≡ record { outcome = Refused 18 0; report = empty_report 1 })
unfolding every list_from refuse unless join_row fits row_at row_below rows_of joined_row joined all_fit check18 reported join_answer empty_report
refused_eighteen = (refl, refl)

-- a least of 7 without a finished job: it is not taken, and becomes 0
pub stale : join_answer (report 1 (row 0 0 0 0 0 0 7 7)) (report 1 (row 1 0 0 0 1 9 9 9)) ≡ record { outcome = Done; report = report 1 (row 1 0 0 0 1 9 9 9) }
unfolding every list_from refuse unless join_row fits row_at row_below rows_of joined_row joined all_fit check18 reported join_answer
stale = refl

pub stale_neutral : join_answer (report 1 (row 0 0 0 0 0 0 7 7)) (empty_report 1) ≡ record { outcome = Done; report = empty_report 1 }
unfolding every list_from refuse unless join_row fits row_at row_below rows_of joined_row joined all_fit check18 reported join_answer empty_report
stale_neutral = refl

-- a job that finished as it arrived has 0 for both; without a finished job there are none
pub extremes_apart : (extremes_said (extremes_of (row 1 0 0 0 1 0 0 0)) ≡ 0 ∷ 0 ∷ []) × (extremes_said (extremes_of (row 0 1 0 0 0 0 0 0)) ≡ 0 ∷ [])
unfolding extremes_of extremes_said
extremes_apart = (refl, refl)
