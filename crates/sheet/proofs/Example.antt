-- Document 01's example of the listing, and refused texts, by computation: one table under one statement.
use Prim.Native.Nat.{ℕ}
use mathlib.Core.Path.{refl, ◌≡◌}
use mathlib.Core.List.{List, [], ◌∷◌, ◌++◌, map}
use Rattle.bits.specs.Below.{count, every, greatest, least, list_from, some}
use Rattle.text.specs.Decimal.{as_number, decimal, digits, leading, number_within, size, spelled}
use Rattle.sheet.specs.Grammar.{field_at, first_line, fields_from, parsed_of}
use Rattle.sheet.specs.Listing.{behind_first, entry, given_listing, instant, job_line, job_lines, lateness, line, listing, longest}
use Rattle.sheet.specs.Listing.{longest_from, printed, refused_line, run_line, run_listing, stretch, stretch_lines, stretches, verdict_line, verdict_word}
use Rattle.zsrm.specs.Record.{suspended_at, waited_at, arrived, arriving, done_at, fresh, fresh_place, opening, place_at, standing_at}
use Rattle.tables.specs.Refusals.{ascending, before, check2, check3, check4, check5, check6, check7, check8, check9, check_jobs, check_lists, check_tasks, outside, preceding, refuse, unless}
use Rattle.zsrm.specs.Run.{entries_by, replay, run_entries, run_record, final_by}
use Rattle.tables.specs.Tables.{arrival, criticality, deadline, deadline_instant, execution, job_count, job_criticality, job_nominal, job_priority}
use Rattle.tables.specs.Tables.{nominal, overload, period, priority, task_count, task_of, offset, zero_slack_instant}
use Rattle.zsrm.specs.Tick.{advanced, alive, candidate, choice, done_after, eligible, ends, finishes, goes_on, higher_priority, more_critical}
use Rattle.zsrm.specs.Tick.{over, past_zero_slack, place_after, some_job, standing_after, suspended, suspended_after, waited_after, waits, keeps, lowest}
use Rattle.zsrm.specs.Verdict.{verdict}
use mathlib.Core.Bool.{false, true}
use Rattle.zsrm.specs.declared.answers.Verdict.TheVariants.{Late}
use Rattle.zsrm.specs.declared.record.Place.{Place}
use Rattle.zsrm.specs.declared.record.Standing.{Standing}
use Rattle.zsrm.specs.declared.record.Standing.TheVariants.{Finished, Unfinished}

abbrev joined : List (List ℕ) → List ℕ
joined [] = []
joined (l ∷ ls) = l ++ joined ls

-- S 16 2 3 / 8 8 4 4 1 2 4 / 20 16 5 10 2 1 10 / 0 0 4 / 1 0 5 / 0 8 4
abbrev input : List (List ℕ)
input =
    (83 ∷ 32 ∷ 49 ∷ 54 ∷ 32 ∷ 50 ∷ 32 ∷ 51 ∷ 10 ∷ [])
    ∷ (56 ∷ 32 ∷ 56 ∷ 32 ∷ 52 ∷ 32 ∷ 52 ∷ 32 ∷ 49 ∷ 32 ∷ 50 ∷ 32 ∷ 52 ∷ 10 ∷ [])
    ∷ (50 ∷ 48 ∷ 32 ∷ 49 ∷ 54 ∷ 32 ∷ 53 ∷ 32 ∷ 49 ∷ 48 ∷ 32 ∷ 50 ∷ 32 ∷ 49 ∷ 32 ∷ 49 ∷ 48 ∷ 10 ∷ [])
    ∷ (48 ∷ 32 ∷ 48 ∷ 32 ∷ 52 ∷ 10 ∷ [])
    ∷ (49 ∷ 32 ∷ 48 ∷ 32 ∷ 53 ∷ 10 ∷ [])
    ∷ (48 ∷ 32 ∷ 56 ∷ 32 ∷ 52 ∷ 10 ∷ [])
    ∷ []

-- run S 16 / 0 4 0 / 4 8 1 / 8 10 2 / 10 11 1 / 11 13 2 / 13 16 - / job 0 met 4 0 0 / job 1 met 11 0 6 / job 2 met 13 1 0
abbrev output : List (List ℕ)
output =
    (114 ∷ 117 ∷ 110 ∷ 32 ∷ 83 ∷ 32 ∷ 49 ∷ 54 ∷ 10 ∷ [])
    ∷ (48 ∷ 32 ∷ 52 ∷ 32 ∷ 48 ∷ 10 ∷ [])
    ∷ (52 ∷ 32 ∷ 56 ∷ 32 ∷ 49 ∷ 10 ∷ [])
    ∷ (56 ∷ 32 ∷ 49 ∷ 48 ∷ 32 ∷ 50 ∷ 10 ∷ [])
    ∷ (49 ∷ 48 ∷ 32 ∷ 49 ∷ 49 ∷ 32 ∷ 49 ∷ 10 ∷ [])
    ∷ (49 ∷ 49 ∷ 32 ∷ 49 ∷ 51 ∷ 32 ∷ 50 ∷ 10 ∷ [])
    ∷ (49 ∷ 51 ∷ 32 ∷ 49 ∷ 54 ∷ 32 ∷ 45 ∷ 10 ∷ [])
    ∷ (106 ∷ 111 ∷ 98 ∷ 32 ∷ 48 ∷ 32 ∷ 109 ∷ 101 ∷ 116 ∷ 32 ∷ 52 ∷ 32 ∷ 48 ∷ 32 ∷ 48 ∷ 10 ∷ [])
    ∷ (106 ∷ 111 ∷ 98 ∷ 32 ∷ 49 ∷ 32 ∷ 109 ∷ 101 ∷ 116 ∷ 32 ∷ 49 ∷ 49 ∷ 32 ∷ 48 ∷ 32 ∷ 54 ∷ 10 ∷ [])
    ∷ (106 ∷ 111 ∷ 98 ∷ 32 ∷ 50 ∷ 32 ∷ 109 ∷ 101 ∷ 116 ∷ 32 ∷ 49 ∷ 51 ∷ 32 ∷ 49 ∷ 32 ∷ 48 ∷ 10 ∷ [])
    ∷ []

-- a text and what is printed for it
pub data Row : Type 0 where
  prints : List ℕ → List ℕ → Row

abbrev text : Row → List ℕ
text (prints t l) = t

abbrev shown : Row → List ℕ
shown (prints t l) = l

-- Document 01's example; then six digits, a small letter, no final newline, a byte after the last line, 17 tasks: 14; and no task: 2.
abbrev table : List Row
table =
    prints (joined input) (joined output)
    ∷ prints (83 ∷ 32 ∷ 48 ∷ 48 ∷ 48 ∷ 48 ∷ 49 ∷ 54 ∷ 32 ∷ 50 ∷ 32 ∷ 51 ∷ 10 ∷ []) (114 ∷ 101 ∷ 102 ∷ 117 ∷ 115 ∷ 101 ∷ 100 ∷ 32 ∷ 49 ∷ 52 ∷ 32 ∷ 48 ∷ 10 ∷ [])
    ∷ prints (115 ∷ 32 ∷ 49 ∷ 54 ∷ 32 ∷ 48 ∷ 32 ∷ 48 ∷ 10 ∷ []) (114 ∷ 101 ∷ 102 ∷ 117 ∷ 115 ∷ 101 ∷ 100 ∷ 32 ∷ 49 ∷ 52 ∷ 32 ∷ 48 ∷ 10 ∷ [])
    ∷ prints (69 ∷ 32 ∷ 49 ∷ 54 ∷ 32 ∷ 48 ∷ 32 ∷ 48 ∷ []) (114 ∷ 101 ∷ 102 ∷ 117 ∷ 115 ∷ 101 ∷ 100 ∷ 32 ∷ 49 ∷ 52 ∷ 32 ∷ 48 ∷ 10 ∷ [])
    ∷ prints (69 ∷ 32 ∷ 49 ∷ 54 ∷ 32 ∷ 48 ∷ 32 ∷ 48 ∷ 10 ∷ 10 ∷ []) (114 ∷ 101 ∷ 102 ∷ 117 ∷ 115 ∷ 101 ∷ 100 ∷ 32 ∷ 49 ∷ 52 ∷ 32 ∷ 48 ∷ 10 ∷ [])
    ∷ prints (83 ∷ 32 ∷ 49 ∷ 32 ∷ 49 ∷ 55 ∷ 32 ∷ 48 ∷ 10 ∷ []) (114 ∷ 101 ∷ 102 ∷ 117 ∷ 115 ∷ 101 ∷ 100 ∷ 32 ∷ 49 ∷ 52 ∷ 32 ∷ 48 ∷ 10 ∷ [])
    ∷ prints (69 ∷ 32 ∷ 49 ∷ 54 ∷ 32 ∷ 48 ∷ 32 ∷ 48 ∷ 10 ∷ []) (114 ∷ 101 ∷ 102 ∷ 117 ∷ 115 ∷ 101 ∷ 100 ∷ 32 ∷ 50 ∷ 32 ∷ 48 ∷ 10 ∷ [])
    ∷ []

pub examples : map (λ r. listing (text r)) table ≡ map shown table
unfolding some every least greatest count task_count period deadline nominal overload criticality priority offset job_count task_of arrival execution
    job_criticality job_priority job_nominal zero_slack_instant deadline_instant refuse before ascending outside check2 check3 check4 check_tasks check5
    preceding check6 check7 check8 check_jobs check_lists check9 place_at done_at suspended_at waited_at standing_at arriving arrived opening fresh_place
    fresh alive some_job more_critical higher_priority past_zero_slack suspended eligible candidate lowest keeps choice done_after over ends finishes
    suspended_after waits waited_after goes_on standing_after place_after advanced replay entries_by final_by run_entries run_record verdict unless list_from
    leading spelled as_number number_within digits size decimal field_at fields_from first_line parsed_of behind_first line refused_line run_line entry
    longest_from longest stretch stretch_lines stretches verdict_word instant lateness verdict_line job_line job_lines printed run_listing given_listing
    listing
examples = refl

-- a late job's line: `job 2 late 18 =2 6 0` where it has finished, `job 2 late - >=0 6 0` where it is alive
abbrev late : Standing → Place
late s = record { done = 4; suspended = 6; waited = 0; standing = s }

pub late_lines : (verdict_line 2 (Late 2 true) (late (Finished 18)) ≡ 106 ∷ 111 ∷ 98 ∷ 32 ∷ 50 ∷ 32 ∷ 108 ∷ 97 ∷ 116 ∷ 101 ∷ 32 ∷ 49 ∷ 56 ∷ 32 ∷ 61 ∷ 50 ∷ 32 ∷ 54 ∷ 32 ∷ 48 ∷ 10 ∷ [])
    × (verdict_line 2 (Late 0 false) (late Unfinished) ≡ 106 ∷ 111 ∷ 98 ∷ 32 ∷ 50 ∷ 32 ∷ 108 ∷ 97 ∷ 116 ∷ 101 ∷ 32 ∷ 45 ∷ 32 ∷ 62 ∷ 61 ∷ 48 ∷ 32 ∷ 54 ∷ 32 ∷ 48 ∷ 10 ∷ [])
unfolding verdict_line line behind_first verdict_word instant lateness decimal size digits
late_lines = (refl, refl)
