-- Document 01, "The listing": the output text, as bytes.
use Rattle.std.specs.Prelude.{ℕ, zero, suc, Bool, cond, false, true, List, [], ◌∷◌, ◌++◌, eqb}
use Rattle.text.specs.Decimal.{decimal}
use Rattle.zsrm.specs.declared.mode.Mode.{Mode}
use Rattle.zsrm.specs.declared.tie.Tie.TheVariants.{Lowest}
use Rattle.zsrm.specs.declared.mode.Mode.TheVariants.{S, SE}
use Rattle.zsrm.specs.declared.record.Place.{Place}
use Rattle.zsrm.specs.declared.record.Record.{Record}
use Rattle.zsrm.specs.declared.record.Standing.{Standing}
use Rattle.zsrm.specs.declared.record.Standing.TheVariants.{NotArrived, Unfinished, Finished, Ended}
use Rattle.zsrm.specs.declared.answers.Verdict.{Verdict}
use Rattle.tables.specs.Tables.{Lists, idle, job_count}
use Rattle.tables.specs.Refusals.{before, check9, check_lists, unless}
use Rattle.zsrm.specs.Record.{place_at}
use Rattle.zsrm.specs.Run.{run_entries, run_record}
use Rattle.zsrm.specs.Verdict.{verdict}
use Rattle.sheet.specs.Grammar.{Parsed, parsed, malformed, parsed_of}
use Rattle.zsrm.specs.Given.{Given, given}
use Rattle.zsrm.specs.declared.answers.Verdict.TheVariants as verdicts

-- the words behind a line's first, a space before each, and the newline
unfoldable pub behind_first : List (List ℕ) → List ℕ
behind_first [] = 10 ∷ []
behind_first (w ∷ ws) = 32 ∷ (w ++ behind_first ws)

-- A line: words one space apart, ended by a newline.
unfoldable pub line : List ℕ → List (List ℕ) → List ℕ
line w ws = w ++ behind_first ws

-- `-`
abbrev pub dash : List ℕ
dash = 45 ∷ []

-- A refusal is one line: the word `refused`, number, place.
unfoldable pub refused_line : ℕ → ℕ → List ℕ
refused_line number place = line (114 ∷ 101 ∷ 102 ∷ 117 ∷ 115 ∷ 101 ∷ 100 ∷ []) (decimal number ∷ decimal place ∷ [])

-- the mode letters `S` and `E`
abbrev pub letter : Mode → List ℕ
letter S = 83 ∷ []
letter SE = 69 ∷ []

-- Line 1: the word `run`, mode, horizon.
unfoldable pub run_line : Mode → ℕ → List ℕ
run_line mode horizon = line (114 ∷ 117 ∷ 110 ∷ []) (letter mode ∷ decimal horizon ∷ [])

-- a schedule entry: a job number, or `-` for idle
unfoldable pub entry : ℕ → List ℕ
entry e = cond (eqb e idle) dash (decimal e)

-- a stretch of equal entries: first tick, tick after the last, the entry
pub record Stretch : Type 0 where
  pub first : ℕ
  pub next : ℕ
  pub entry : ℕ

-- the stretches from tick t on, where e has stood since tick `first`; the next entries are given
unfoldable pub longest_from : ℕ → ℕ → ℕ → List ℕ → List Stretch
longest_from first e t [] = record { first = first; next = t; entry = e } ∷ []
longest_from first e t (d ∷ ds) =
    cond (eqb d e) (longest_from first e (suc t) ds) (record { first = first; next = t; entry = e } ∷ longest_from t d (suc t) ds)

-- Each longest stretch of equal entries.
unfoldable pub longest : List ℕ → List Stretch
longest [] = []
longest (e ∷ es) = longest_from 0 e 1 es

-- The line of a stretch: first tick, tick after the last, job or `-`.
unfoldable pub stretch : ℕ → ℕ → ℕ → List ℕ
stretch first next e = line (decimal first) (decimal next ∷ entry e ∷ [])

-- a line for each
unfoldable pub stretch_lines : List Stretch → List ℕ
stretch_lines [] = []
stretch_lines (s ∷ ss) = stretch s.first s.next s.entry ++ stretch_lines ss

-- the lines of the longest stretches of given entries
unfoldable pub stretches : List ℕ → List ℕ
stretches es = stretch_lines (longest es)

-- the words `met`, `late`, `ended`, `open`; the verdict on a job of the list is no refusal
unfoldable pub verdict_word : Verdict → List ℕ
verdict_word verdicts.Met = 109 ∷ 101 ∷ 116 ∷ []
verdict_word (verdicts.Late by is_exact) = 108 ∷ 97 ∷ 116 ∷ 101 ∷ []
verdict_word verdicts.Ended = 101 ∷ 110 ∷ 100 ∷ 101 ∷ 100 ∷ []
verdict_word verdicts.Open = 111 ∷ 112 ∷ 101 ∷ 110 ∷ []

-- finishing instant or ending tick, `-` where there is neither
unfoldable pub instant : Standing → List ℕ
instant NotArrived = dash
instant Unfinished = dash
instant (Finished f) = decimal f
instant (Ended e) = decimal e

-- `=` where a number is exact, `>=` where it is at least that
abbrev pub sign : Bool → List ℕ
sign true = 61 ∷ []
sign false = 62 ∷ 61 ∷ []

-- by how much a job is late, for late only, as in `=2` and `>=0`
unfoldable pub lateness : Verdict → List (List ℕ)
lateness verdicts.Met = []
lateness (verdicts.Late by is_exact) = (sign is_exact ++ decimal by) ∷ []
lateness verdicts.Ended = []
lateness verdicts.Open = []

-- The word `job`, number, verdict, the instant, by how much, and the ticks suspended and waited.
unfoldable pub verdict_line : ℕ → Verdict → Place → List ℕ
verdict_line j verdict p =
    line (106 ∷ 111 ∷ 98 ∷ []) (decimal j ∷ verdict_word verdict ∷ instant p.standing ∷ (lateness verdict ++ (decimal p.suspended ∷ decimal p.waited ∷ [])))

module _ (l : Lists) where
  -- the line of job j from a record
  unfoldable pub job_line : Record → ℕ → List ℕ
  job_line r j = verdict_line j (verdict l r j) (place_at r j)

  -- the lines of the first n jobs
  unfoldable pub job_lines : Record → ℕ → List ℕ
  job_lines r zero = []
  job_lines r (suc n) = job_lines r n ++ job_line r n

module _ (g : Given) where
  -- what is printed of entries and the record that they end with: line 1, the stretches, the jobs
  unfoldable pub printed : ℕ → List ℕ → Record → List ℕ
  printed horizon es r = run_line g.mode horizon ++ (stretches es ++ job_lines g.lists r (job_count g.lists.jobs))

  -- what is printed of our run that takes the lowest job number among equals
  unfoldable pub run_listing : ℕ → List ℕ
  run_listing horizon = printed horizon (run_entries g Lowest horizon) (run_record g Lowest horizon)

  -- the refusals of the lists and of the horizon, lowest first, or the run
  unfoldable pub given_listing : ℕ → List ℕ
  given_listing horizon = unless (before (check_lists g.lists) (check9 horizon)) refused_line (run_listing horizon)

-- A malformed text is 14, before all else.
abbrev pub parsed_listing : Parsed → List ℕ
parsed_listing (parsed mode horizon tasks jobs) = given_listing (given mode tasks jobs) horizon
parsed_listing malformed = refused_line 14 0

-- What the program prints for an input text.
unfoldable pub listing : List ℕ → List ℕ
listing text = parsed_listing (parsed_of text)
