-- Document 02, Ten: a report shown, as bytes. One line per task, its words one space apart, ended by a newline:
-- `task K MET LATE ENDED OPEN LEAST GREATEST QUOTIENT REMAINDER COUNT`. The bytes: space is 32, newline 10, `-` 45.
use Rattle.std.specs.Prelude.{ℕ, zero, suc, List, [], ◌∷◌, ◌++◌, Option, Some, None}
use Rattle.text.specs.Decimal.{decimal, spaced}
use Rattle.season.specs.declared.answers.Mean.{Mean}
use Rattle.season.specs.declared.answers.Report.{Report}
use Rattle.season.specs.declared.answers.Row.{Row}
use Rattle.season.specs.Mean.{mean_of}
use Rattle.season.specs.Reports.{row_at, task_rows}

-- `task`
abbrev pub task_word : List ℕ
task_word = 116 ∷ 97 ∷ 115 ∷ 107 ∷ []

abbrev pub dash : List ℕ
dash = 45 ∷ []

-- the jobs met, late, ended and open
unfoldable pub counts : Row → List (List ℕ)
counts r = decimal r.met ∷ decimal r.late ∷ decimal r.ended ∷ decimal r.«open» ∷ []

-- the least and greatest response, and the mean as quotient, remainder and count; `-` each where no job finished
abbrev pub responses : ℕ → ℕ → Option Mean → List (List ℕ)
responses least greatest None = dash ∷ dash ∷ dash ∷ dash ∷ dash ∷ []
responses least greatest (Some mean) =
    decimal least ∷ decimal greatest ∷ decimal mean.quotient ∷ decimal mean.remainder ∷ decimal mean.count ∷ []

-- The line of task k.
unfoldable pub row_line : ℕ → Row → List ℕ
row_line k r = task_word ++ (spaced (decimal k ∷ (counts r ++ responses r.least r.greatest (mean_of r))) ++ (10 ∷ []))

-- the lines of the first n tasks
unfoldable pub row_lines : Report → ℕ → List ℕ
row_lines r zero = []
row_lines r (suc n) = row_lines r n ++ row_line n (row_at r n)

-- What is shown of a report.
unfoldable pub showing : Report → List ℕ
showing r = row_lines r (task_rows r.tasks)
