-- Laws of a report's lines: the parts that the code writes, and how long they are.
use Prim.Native.Nat.{ℕ, ◌+◌, ◌*◌, ◌-◌, ◌<◌, ◌≤◌}
use mathlib.Core.List.{List, [], ◌∷◌, ◌++◌, append_assoc}
use mathlib.Core.Path.{◌≡◌}
use native.Mathlib.Decide.{dec_lt}
use native.Mathlib.Numerals.{add-one}
use native.Mathlib.Omega.{arith}
use lib.Dec.{lit≤}
use lib.ListN.{length, length-append}
use Rattle.std.specs.Prelude.{Option, Some, None}
use Rattle.text.specs.Decimal.{decimal, numbers, spaced}
use Rattle.text.specs.Wrote.{Put, Wrote}
use Rattle.text.proofs.Laws.Put.{put_all, put_more, spaced_append}
use Rattle.text.proofs.Laws.Writing.{decimal_few, decimal_length}
use Rattle.season.specs.declared.answers.Mean.{Mean}
use Rattle.season.specs.declared.answers.Report.{Report}
use Rattle.season.specs.declared.answers.Row.{Row}
use Rattle.season.specs.Code.{Short}
use Rattle.season.specs.Mean.{mean_of}
use Rattle.season.specs.Reports.{row_at}
use Rattle.season.specs.Show.{counts, responses, row_line, row_lines, showing, task_word}

-- a task's line, in the parts that the code writes
pub row_text : (k : ℕ) (x : Row) {mean : Option Mean} → mean ≡ mean_of x
    → task_word ++ (numbers (k ∷ x.met ∷ x.late ∷ x.ended ∷ x.«open» ∷ []) ++ (spaced (responses x.least x.greatest mean) ++ (10 ∷ []))) ≡ row_line k x
unfolding row_line counts numbers
row_text k x {mean} e =
    rw (← e, spaced_append (decimal k ∷ counts x) (responses x.least x.greatest mean), append_assoc)

short_responses : (least greatest : ℕ) (mean : Option Mean) → Short mean → length (spaced (responses least greatest mean)) ≤ 46
unfolding spaced
short_responses least greatest None h = lit≤ tt
short_responses least greatest (Some m) h = simp length-append (omega (arith, decimal_length least, decimal_length greatest))

-- a line has at most 96 bytes beside its task's number, where quotient, remainder and count have at most 21 digits
pub line_length : (k : ℕ) (x : Row) {mean : Option Mean} → mean ≡ mean_of x → Short mean → length (row_line k x) ≤ 96 + length (decimal k)
unfolding numbers spaced
line_length k x {mean} e short =
    rw (← row_text k x e)
    (simp length-append (omega (arith, decimal_length x.met, decimal_length x.late, decimal_length x.ended, decimal_length x.«open», short_responses x.least x.greatest mean short)))

-- the line's parts written, all of the line is
pub put_row : (k : ℕ) (x : Row) {mean : Option Mean} → mean ≡ mean_of x → Short mean → {l m : List ℕ} {at r : ℕ}
    → Put l at (task_word ++ (numbers (k ∷ x.met ∷ x.late ∷ x.ended ∷ x.«open» ∷ []) ++ (spaced (responses x.least x.greatest mean) ++ (10 ∷ [])))) m r
    → Put l at (row_line k x) m r × (r ≤ at + (96 + length (decimal k)))
put_row k x e short w =
    let whole = rw (row_text k x e) at w in
    (whole, omega (arith, whole.next_is, line_length k x e short))

-- in 2,048 bytes all of it is written, if the writing stops before the end
pub shown_all : (report : Report) {l m : List ℕ} {k : ℕ} → Put l 0 (showing report) m k → 2048 ≤ length l → k ≤ 1558 → Wrote l 0 (showing report) m k
shown_all report w long few = put_all w (omega (arith, w.next_is))

pub put_rows : (report : Report) (k : ℕ) {x : Row} {l m n : List ℕ} {at a b : ℕ} → x ≡ row_at report k → Put l at (row_lines report k) m a → Put m a (row_line k x) n b
    → Put l at (row_lines report (k + 1)) n b
unfolding row_lines
put_rows report k e v w = rw (add-one, ← e) (put_more v w)

-- sixteen lines have at most 1,558
pub lines_most : (k at next : ℕ) → k < 16 → at ≤ 97 * k + (k - 10) → next ≤ at + (96 + length (decimal k)) → next ≤ 97 * (k + 1) + ((k + 1) - 10)
lines_most k at next few h l = go (dec_lt k 10)
  where
    go : Dec (k < 10) → next ≤ 97 * (k + 1) + ((k + 1) - 10)
    go (yes m) = omega (arith, decimal_few 0 k (omega arith) m)
    go (no m) = omega (arith, decimal_few 1 k (omega arith) (omega arith))
