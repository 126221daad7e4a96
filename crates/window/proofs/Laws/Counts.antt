-- Laws of counting verdicts: of lists end to end, of two lists place by place, and of a window within another.
use Prim.Native.Nat.{ℕ, zero, suc, ◌+◌, ◌-◌, ◌<◌, ◌≤◌}
use mathlib.Core.Bool.{Bool, cond, false, true}
use mathlib.Core.List.{List, [], ◌++◌, ◌∷◌}
use mathlib.Core.Path.{ap, refl, subst, sym, ◌∙◌, ◌≡◌}
use native.Mathlib.Nat.{not-suc-le-zero}
use native.Mathlib.Omega.{arith}
use lib.ListN.{drop, get_or, length, length-drop, take}
use lib.Seq.{get_or-drop, get_or-take, length-take-le, take-add}
use Rattle.bits.proofs.Laws.Bools.{at_most_one}
use Rattle.std.specs.Prelude.{Result}
use Rattle.tables.specs.declared.answers.Refusal.{Refusal}
use Rattle.zsrm.specs.declared.answers.Verdict.{Verdict}
use Rattle.zsrm.specs.Verdict.{missed, verdict_is}
use Rattle.window.specs.Windows.{how_many, misses, window}

one_rise : (a b : Bool) → (a ≡ true → b ≡ true) → cond a 1 0 ≤ cond b 1 0
one_rise true b h = rw (h refl) (omega arith)
one_rise false b h = omega arith

one_none : (b : Bool) (n : ℕ) → cond b 1 0 + n ≡ 0 → b ≡ false
one_none true n e = absurd (omega arith)
one_none false n e = refl

module _ (test : Verdict → Bool) where
  pub many_append : (xs ys : List (Result Verdict Refusal)) → how_many test (xs ++ ys) ≡ how_many test xs + how_many test ys
  unfolding how_many
  many_append [] ys = omega arith
  many_append (v ∷ vs) ys = omega (arith, many_append vs ys)

  pub many_one_more : (vs : List (Result Verdict Refusal)) (v : Result Verdict Refusal) → how_many test (vs ++ (v ∷ [])) ≡ how_many test vs + cond (verdict_is test v) 1 0
  unfolding how_many
  many_one_more vs v = omega (arith, many_append vs (v ∷ []))

  pub many_most : (vs : List (Result Verdict Refusal)) → how_many test vs ≤ length vs
  unfolding how_many
  many_most [] = omega arith
  many_most (v ∷ vs) = omega (arith, at_most_one (verdict_is test v), many_most vs)

  -- where what passes in one list passes in the other, no fewer pass there
  pub many_rise : (d d' : Result Verdict Refusal) (vs vs' : List (Result Verdict Refusal)) → length vs ≡ length vs'
      → ((p : ℕ) → p < length vs → verdict_is test (get_or vs p d) ≡ true → verdict_is test (get_or vs' p d') ≡ true) → how_many test vs ≤ how_many test vs'
  unfolding how_many
  many_rise d d' [] vs' e h = omega arith
  many_rise d d' (v ∷ vs) [] e h = absurd (omega arith)
  many_rise d d' (v ∷ vs) (v' ∷ vs') e h =
      omega (arith, one_rise (verdict_is test v) (verdict_is test v') (h 0 (omega arith)), many_rise d d' vs vs' (omega arith) (λ p l. h (suc p) (omega arith)))

  -- none passes where the number is 0, and there alone
  pub many_none : (d : Result Verdict Refusal) (vs : List (Result Verdict Refusal)) → ((p : ℕ) → p < length vs → verdict_is test (get_or vs p d) ≡ false) → how_many test vs ≡ 0
  unfolding how_many
  many_none d [] h = refl
  many_none d (v ∷ vs) h = rw (h 0 (omega arith)) (omega (arith, many_none d vs (λ p l. h (suc p) (omega arith))))

  pub none_counted : (d : Result Verdict Refusal) (vs : List (Result Verdict Refusal)) → how_many test vs ≡ 0 → (p : ℕ) → p < length vs → verdict_is test (get_or vs p d) ≡ false
  unfolding how_many
  none_counted d [] e p l = absurd (not-suc-le-zero l)
  none_counted d (v ∷ vs) e zero l = one_none (verdict_is test v) (how_many test vs) e
  none_counted d (v ∷ vs) e (suc p) l = none_counted d vs (omega arith) p (omega arith)

module _ (vs : List (Result Verdict Refusal)) where
  -- a window within the verdicts has k of them, the i-th and those after it
  pub window_length : (k i : ℕ) → i + k ≤ length vs → length (window vs k i) ≡ k
  unfolding window
  window_length k i l = length-take-le k (drop i vs) (omega (arith, length-drop i vs))

  pub window_at : (d : Result Verdict Refusal) (k i p : ℕ) → p < k → get_or (window vs k i) p d ≡ get_or vs (i + p) d
  unfolding window
  window_at d k i p l = get_or-take k (drop i vs) p d l ∙ get_or-drop i vs p d

  -- the misses of a window are those by its end that are not before its start
  pub misses_window : (k i : ℕ) → misses (take (i + k) vs) ≡ misses (take i vs) + misses (window vs k i)
  unfolding misses window
  misses_window k i = ap (how_many missed) (take-add i k vs) ∙ many_append missed (take i vs) (take k (drop i vs))

  pub misses_rise : (a b : ℕ) → a ≤ b → misses (take a vs) ≤ misses (take b vs)
  misses_rise a b l =
      let e : a + (b - a) ≡ b = omega arith in
      subst (λ (n : ℕ). misses (take a vs) ≤ misses (take n vs)) e (omega (arith, misses_window (b - a) a))

  -- a window within another has no more misses
  pub window_within : (k i k' i' : ℕ) → i' ≤ i → i + k ≤ i' + k' → misses (window vs k i) ≤ misses (window vs k' i')
  window_within k i k' i' starts ends =
      omega (arith, misses_window k i, misses_window k' i', misses_rise i' i starts, misses_rise (i + k) (i' + k') ends)

-- where what is missed in a window is missed in the other, the other has no fewer misses
pub window_rise : (d d' : Result Verdict Refusal) (vs vs' : List (Result Verdict Refusal)) (k i : ℕ) → i + k ≤ length vs → i + k ≤ length vs'
    → ((p : ℕ) → p < i + k → verdict_is missed (get_or vs p d) ≡ true → verdict_is missed (get_or vs' p d') ≡ true) → misses (window vs k i) ≤ misses (window vs' k i)
unfolding misses
window_rise d d' vs vs' k i l l' h =
    let n = window_length vs k i l in
    many_rise missed d d' (window vs k i) (window vs' k i) (n ∙ sym (window_length vs' k i l'))
    (λ p b m. ap (verdict_is missed) (window_at vs' d' k i p (omega arith)) ∙ h (i + p) (omega arith) (ap (verdict_is missed) (sym (window_at vs d k i p (omega arith))) ∙ m))

-- a window has no misses where none of its verdicts is missed
pub window_none : (d : Result Verdict Refusal) (vs : List (Result Verdict Refusal)) (k i : ℕ) → i + k ≤ length vs
    → ((p : ℕ) → i ≤ p → p < i + k → verdict_is missed (get_or vs p d) ≡ false) → misses (window vs k i) ≡ 0
unfolding misses
window_none d vs k i l h =
    let n = window_length vs k i l in
    many_none missed d (window vs k i) (λ p b. ap (verdict_is missed) (window_at vs d k i p (omega arith)) ∙ h (i + p) (omega arith) (omega arith))
