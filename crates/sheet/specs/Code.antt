-- How the code computes: the sheet by value, what the parts of the reading answer, and what the writing of a run asks. The contract of
-- `listing` does not cite it.
use Rattle.std.specs.Prelude.{ℕ, ◌/◌, ◌≤◌, true, List, Option, Some, None, ◌≡◌, length, replicate}
use Rattle.std.proofs.lemmas.List.Edits.{sets}
use Rattle.tables.specs.Outcomes.{Done}
use Rattle.zsrm.specs.declared.record.Record.{Record}
use Rattle.zsrm.specs.declared.mode.Mode.{Mode}
use Rattle.zsrm.specs.Record.{consistent}
use Rattle.tables.specs.Refusals.{check_lists}
use Rattle.tables.specs.Tables.{lists}
use Rattle.sheet.specs.declared.input.Head.{Head}
use Rattle.sheet.specs.declared.input.Sheet.{Sheet}
use Rattle.sheet.specs.Grammar.{Numbers, Parsed, bad, got, malformed, parsed, parsed_of}
use Rattle.zsrm.specs.Given.{given}

-- room for 16 tasks and for 64 jobs, all zeros
unfoldable pub no_tasks : List ℕ
no_tasks = replicate 112 0

unfoldable pub no_jobs : List ℕ
no_jobs = replicate 192 0

-- What was read as a sheet by value: the lists stand at the front of their rooms.
abbrev pub as_sheet : Parsed → Option Sheet
as_sheet (parsed mode horizon table list) =
    Some
    (record {
      mode = mode;
      horizon = horizon;
      tasks = length table / 7;
      jobs = length list / 3;
      table = sets no_tasks 0 table;
      list = sets no_jobs 0 list;
    })
as_sheet malformed = None

unfoldable pub sheet_of : List ℕ → Option Sheet
sheet_of text = as_sheet (parsed_of text)

-- the position after the numbers, which then stand at the list's front; where one is not there, only that is said
unfoldable pub NumbersAre : Numbers → Option ℕ → List ℕ → List ℕ → Type 0
NumbersAre (got vs k) r before after = (r ≡ Some k) × (after ≡ sets before 0 vs)
NumbersAre bad r before after = r ≡ None

-- at most 16 tasks and 64 jobs
abbrev pub Few : Option Head → Type 0
Few (Some head) = (head.tasks ≤ 16) × (head.jobs ≤ 64)
Few None = Unit {0}

-- lists that no check refuses, and a record that is consistent with them: each of their jobs has a verdict
pub record Judgeable (mode : Mode) (tasks jobs : List ℕ) (r : Record) : Type 0 where
  pub lists : check_lists (lists tasks jobs) ≡ Done
  pub sound : consistent (given mode tasks jobs) r ≡ true
