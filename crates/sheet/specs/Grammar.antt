-- Document 01, "The listing": the input text. A first line with mode letter (S or E), horizon, task count and job count; a line of seven
-- numbers for each task; a line of three for each job. Decimal, one space apart, each line ended by a newline, 1 to 5 digits; anything
-- else is malformed. The bytes: space is 32, newline 10, S 83, E 69; 256 stands for the end of the text.
use Rattle.std.specs.Prelude.{ℕ, zero, suc, ◌+◌, ◌*◌, ◌%◌, Bool, ◌&&◌, ◌||◌, cond, List, [], ◌∷◌, length, get_or, leb, eqb, Option, Some, None}
use Rattle.text.specs.Decimal.{Number, Value, Malformed}
use Rattle.text.specs.Decimal.{decimal_at}
use Rattle.zsrm.specs.declared.mode.Mode.{Mode}
use Rattle.zsrm.specs.declared.mode.Mode.TheVariants.{S, SE}
use Rattle.sheet.specs.declared.input.Head.{Head}

-- A number counts where the byte behind it is the one wanted; the position is then the one after that byte.
abbrev pub ended_by : List ℕ → ℕ → Number → Number
ended_by text end (Value v k) = cond (eqb (get_or text k 256) end) (Value v (k + 1)) Malformed
ended_by text end Malformed = Malformed

-- The number at a position, with the byte behind it.
unfoldable pub field_at : List ℕ → ℕ → ℕ → Number
field_at text at end = ended_by text end (decimal_at text at)

-- Where `per` numbers make a line, number i has a newline behind it if it is the line's last, and one space otherwise.
abbrev pub byte_behind : ℕ → ℕ → ℕ
byte_behind per i = cond (eqb ((i + 1) % per) 0) 10 32

-- numbers that were read, with the position after them, or a number that is not there
pub data Numbers : Type 0 where
  got : List ℕ → ℕ → Numbers
  bad : Numbers

abbrev pub with_first : ℕ → Numbers → Numbers
with_first v (got vs k) = got (v ∷ vs) k
with_first v bad = bad

abbrev pub with_rest : Number → (ℕ → Numbers) → Numbers
with_rest (Value v k) rest = with_first v (rest k)
with_rest Malformed rest = bad

-- n numbers in lines of `per`, the first of them being number i.
unfoldable pub fields_from : List ℕ → ℕ → ℕ → ℕ → ℕ → Numbers
fields_from text per i zero at = got [] at
fields_from text per i (suc n) at = with_rest (field_at text at (byte_behind per i)) (λ k. fields_from text per (suc i) n k)

-- The mode letter is S or E.
abbrev pub is_mode : ℕ → Bool
is_mode b = eqb b 83 || eqb b 69

abbrev pub mode_of_letter : ℕ → Mode
mode_of_letter b = cond (eqb b 83) S SE

abbrev pub heading : ℕ → ℕ → ℕ → ℕ → ℕ → Option Head
heading letter horizon tasks jobs next =
    Some (record { letter = letter; horizon = horizon; tasks = tasks; jobs = jobs; next = next })

abbrev pub with_number : Number → (ℕ → ℕ → Option Head) → Option Head
with_number (Value v k) rest = rest v k
with_number Malformed rest = None

-- The first line: mode letter, horizon, task count, job count. A task count over 16 or a job count over 64 is malformed.
unfoldable pub first_line : List ℕ → Option Head
first_line text =
    cond (is_mode (get_or text 0 256) && eqb (get_or text 1 256) 32)
    (with_number (field_at text 2 32)
    (λ horizon a. with_number (field_at text a 32)
    (λ tasks b. with_number (field_at text b 10)
    (λ jobs e. cond (leb tasks 16 && leb jobs 64) (heading (get_or text 0 256) horizon tasks jobs e) None))))
    None

-- an input text: mode, horizon, the task table and the job list
pub data Parsed : Type 0 where
  parsed : Mode → ℕ → List ℕ → List ℕ → Parsed
  malformed : Parsed

abbrev pub with_head : Option Head → (ℕ → ℕ → ℕ → ℕ → ℕ → Parsed) → Parsed
with_head (Some head) rest = rest head.letter head.horizon head.tasks head.jobs head.next
with_head None rest = malformed

abbrev pub with_numbers : Numbers → (List ℕ → ℕ → Parsed) → Parsed
with_numbers (got vs k) rest = rest vs k
with_numbers bad rest = malformed

-- The whole text: first line, a line of seven per task, a line of three per job, and no byte after the last line.
unfoldable pub parsed_of : List ℕ → Parsed
parsed_of text =
    with_head (first_line text)
    (λ letter horizon tasks jobs a. with_numbers (fields_from text 7 0 (tasks * 7) a)
    (λ table b. with_numbers (fields_from text 3 0 (jobs * 3) b)
    (λ list e. cond (eqb e (length text)) (parsed (mode_of_letter letter) horizon table list) malformed)))
