-- Laws of the listing's lines: the parts that the code writes, and how long they are.
use Prim.Native.Nat.{ℕ, suc, ◌+◌, ◌*◌, ◌≤◌, ◌<◌}
use mathlib.Core.Path.{◌≡◌, ◌∙◌, refl, ap}
use mathlib.Core.List.{List, [], ◌∷◌, ◌++◌, append_assoc, append-nil}
use mathlib.Core.Bool.{Bool, true, false, cond}
use native.Mathlib.Numerals.{add-one}
use native.Mathlib.Omega.{arith}
use lib.ListN.{length, get_or, drop, length-append, drop_of_length-le}
use lib.Seq.{drop-cons}
use lib.Dec.{eqb, lit≤}
use borrow.Author.Tests.{eq-eqb, ne_eqb}
use Rattle.bits.proofs.Laws.Bools.{by_cond}
use Rattle.text.specs.Decimal.{decimal, numbers, spaced}
use Rattle.zsrm.specs.declared.mode.Mode.{Mode}
use Rattle.zsrm.specs.declared.mode.Mode.TheVariants.{S, SE}
use Rattle.zsrm.specs.declared.record.Place.{Place}
use Rattle.zsrm.specs.declared.record.Standing.{Standing}
use Rattle.zsrm.specs.declared.record.Standing.TheVariants.{NotArrived, Unfinished, Finished, Ended}
use Rattle.zsrm.specs.declared.answers.Verdict.{Verdict}
use Rattle.sheet.specs.Listing.{behind_first, lateness, line, verdict_word, instant, verdict_line, entry, longest, longest_from, run_line, stretch, stretch_lines, stretches}
use Rattle.text.specs.Wrote.{Put}
use Rattle.zsrm.specs.declared.answers.Verdict.TheVariants as verdicts
use Rattle.text.proofs.Laws.Put.{put_more, put_none}
use Rattle.text.proofs.Laws.Writing.{decimal_length}

pub entry_idle : (e : ℕ) → e ≡ 65535 → entry e ≡ 45 ∷ []
unfolding entry
entry_idle e q = rw (eq-eqb _ _ q)

pub entry_job : (e : ℕ) → (e ≡ 65535 → ⊥) → entry e ≡ decimal e
unfolding entry
entry_job e q = rw (ne_eqb _ _ q)

entry_length : (e : ℕ) → length (entry e) ≤ 10
unfolding entry
entry_length e = by_test (eqb e 65535)
  where
    by_test : (b : Bool) → length (cond b (45 ∷ []) (decimal e)) ≤ 10
    by_test true = omega arith
    by_test false = decimal_length e

stretch_length : (first next e : ℕ) → length (stretch first next e) ≤ 33
unfolding stretch line behind_first
stretch_length first next e =
    simp length-append (omega (arith, decimal_length first, decimal_length next, entry_length e))

-- what is known before tick t: the lines written, and the stretch that stands
pub record Stretched (l : List ℕ) (at : ℕ) (sch : List ℕ) (m : List ℕ) (first cur k t : ℕ) : Type 0 where
  pub begun : first < t
  pub within : t ≤ length sch
  pub done : List ℕ
  pub wrote : Put l at done m k
  pub rest : done ++ stretch_lines (longest_from first cur t (drop t sch)) ≡ stretches sch

pub stretched_first : (l : List ℕ) (at : ℕ) (sch : List ℕ) → (length sch ≡ 0 → ⊥) → Stretched l at sch l 0 (get_or sch 0 0) at 1
unfolding longest stretches
stretched_first l at [] h = absurd (h refl)
stretched_first l at (e ∷ es) h =
    record { begun = omega arith; within = omega arith; done = []; wrote = put_none l at; rest = refl }

module _ {l m sch : List ℕ} {at first cur k t : ℕ} (s : Stretched l at sch m first cur k t) (h : t < length sch) where
  pub stretched_same : get_or sch t 0 ≡ cur → Stretched l at sch m first cur k (t + 1)
  unfolding longest_from
  stretched_same e =
      let b = s.begun in
      let r : longest_from first cur t (drop t sch) ≡ longest_from first cur (t + 1) (drop (t + 1) sch) = rw (add-one, drop-cons sch t 0 h, eq-eqb _ _ e) in
      record {
        begun = omega arith;
        within = omega arith;
        done = s.done;
        wrote = s.wrote;
        rest = rw (← r) s.rest;
      }

  pub stretched_new : {r : List ℕ} {j : ℕ} → (get_or sch t 0 ≡ cur → ⊥) → Put m k (stretch first t cur) r j → Stretched l at sch r t (get_or sch t 0) j (t + 1)
  unfolding longest_from stretch_lines
  stretched_new {r} {j} ne w =
      let d = s.done in
      let q : stretch_lines (longest_from first cur t (drop t sch)) ≡ stretch first t cur ++ stretch_lines (longest_from t (get_or sch t 0) (t + 1) (drop (t + 1) sch))
      = rw (add-one, drop-cons sch t 0 h, ne_eqb _ _ ne) in
      record {
        begun = omega arith;
        within = omega arith;
        done = d ++ stretch first t cur;
        wrote = put_more s.wrote w;
        rest = rw (append_assoc, ← q) s.rest;
      }

pub stretched_end : {l m sch : List ℕ} {at first cur k t : ℕ} → Stretched l at sch m first cur k t → length sch ≤ t → {r : List ℕ} {j : ℕ}
    → Put m k (stretch first (length sch) cur) r j
    → Put l at (stretches sch) r j
unfolding longest_from stretch_lines
stretched_end {l} {m} {sch} {at} {first} {cur} {k} {t} s h {r} {j} w =
    let e : s.done ++ stretch first t cur ≡ stretches sch = rw (drop_of_length-le sch {i = t} h, append-nil) at s.rest in
    let last : t ≡ length sch = omega (arith, s.within) in
    rw (← e, last) (put_more s.wrote w)

pub stretches_none : (l : List ℕ) (at : ℕ) (sch : List ℕ) → length sch ≡ 0 → Put l at (stretches sch) l at
unfolding longest stretch_lines stretches
stretches_none l at [] h = put_none l at
stretches_none l at (e ∷ es) h = absurd (omega arith)

word_length : (v : Verdict) → length (verdict_word v) ≤ 5
unfolding verdict_word
word_length verdicts.Met = lit≤ tt
word_length (verdicts.Late by is_exact) = lit≤ tt
word_length verdicts.Ended = lit≤ tt
word_length verdicts.Open = lit≤ tt

instant_length : (s : Standing) → length (instant s) ≤ 10
unfolding instant
instant_length NotArrived = lit≤ tt
instant_length Unfinished = lit≤ tt
instant_length (Finished f) = decimal_length f
instant_length (Ended e) = decimal_length e

-- words behind a line's first, written in two parts
behind_words : (xs ys : List (List ℕ)) → spaced xs ++ behind_first ys ≡ behind_first (xs ++ ys)
unfolding spaced behind_first
behind_words [] ys = refl
behind_words (x ∷ xs) ys = rw (append_assoc, behind_words xs ys)

pub line_end : (xs : List (List ℕ)) → spaced xs ++ (10 ∷ []) ≡ behind_first xs
unfolding behind_first
line_end xs = behind_words xs [] ∙ ap behind_first (append-nil xs)

late_length : (v : Verdict) → length (spaced (lateness v)) ≤ 13
unfolding spaced lateness
late_length verdicts.Met = lit≤ tt
late_length (verdicts.Late by true) = simp length-append (omega (arith, decimal_length by))
late_length (verdicts.Late by false) = simp length-append (omega (arith, decimal_length by))
late_length verdicts.Ended = lit≤ tt
late_length verdicts.Open = lit≤ tt

-- a job's line, in the parts that the code writes
pub job_text : (j : ℕ) (v : Verdict) (p : Place)
    → (106 ∷ 111 ∷ 98 ∷ []) ++ (numbers (j ∷ []) ++ (spaced (verdict_word v ∷ instant p.standing ∷ lateness v) ++ (numbers (p.suspended ∷ p.waited ∷ []) ++ (10 ∷ [])))) ≡ verdict_line j v p
unfolding verdict_line line numbers
job_text j v p =
    let two = decimal p.suspended ∷ decimal p.waited ∷ [] in
    rw (line_end two, behind_words (verdict_word v ∷ instant p.standing ∷ lateness v) two, behind_words (decimal j ∷ []))

pub job_length : (j : ℕ) (v : Verdict) (p : Place) → length (verdict_line j v p) ≤ 67
unfolding numbers spaced
job_length j v p =
    rw (← job_text j v p)
    (simp length-append (omega (arith, decimal_length j, word_length v, instant_length p.standing, late_length v, decimal_length p.suspended, decimal_length p.waited)))

pub head_length : (mode : Mode) (horizon : ℕ) → length (run_line mode horizon) ≤ 17
unfolding run_line line behind_first
head_length S horizon = simp length-append (omega (arith, decimal_length horizon))
head_length SE horizon = simp length-append (omega (arith, decimal_length horizon))

-- a line of at most 33 bytes for each stretch, and a tick at least for each
from_length : (es : List ℕ) (first e t : ℕ) → length (stretch_lines (longest_from first e t es)) ≤ 33 + 33 * length es
unfolding longest_from stretch_lines
from_length [] first e t = simp length-append (omega (arith, stretch_length first t e))
from_length (d ∷ es) first e t =
    by_cond (λ ss. length (stretch_lines ss) ≤ 33 + 33 * suc (length es)) (eqb d e) _ _
    (λ h. omega (arith, from_length es first e (suc t)))
    (λ h. simp length-append (omega (arith, stretch_length first t e, from_length es t d (suc t))))

pub stretches_length : (es : List ℕ) → length (stretches es) ≤ 33 * length es
unfolding longest stretch_lines stretches
stretches_length [] = omega arith
stretches_length (e ∷ es) = omega (arith, from_length es 0 e 1)
