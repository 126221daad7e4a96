-- What a passed or failed test tells: `&&`, `||`, `not`, `cond` and equality.
-- The rulesets at the end let `search` read a chain of tests, or make one.
use Prim.Native.Nat.{ℕ, ◌≤◌}
use mathlib.Core.Path.{◌≡◌, refl, sym, ap, ◌∙◌, subst}
use mathlib.Core.Logic.{◌⊎◌, inl, inr}
use mathlib.Core.Bool.{Bool, true, false, not, ◌&&◌, ◌||◌, cond, true≢false, false≢true}
use native.Mathlib.Omega.{arith}
use lib.Dec.{eqb}
use borrow.Author.Tests.{ltb-false, leb-false, eqb-false, not-false, ltb-true, leb-true, eqb-true, not-true, lt-ltb, le-leb, eq-eqb}

-- two constructors are never equal, which `cc` finds
pub apart : {A : Type 0} → ◌≡◌ {A = ℕ} 0 1 → A
apart z = absurd (omega arith)

-- a test passes or fails, and which is kept
pub either : (b : Bool) → (b ≡ true) ⊎ (b ≡ false)
either true = inl refl
either false = inr refl

-- a property of both branches, each where its test says so, is one of the choice
pub by_cond : {A : Type 0} (P : A → Type 0) (b : Bool) (x y : A) → (b ≡ true → P x) → (b ≡ false → P y) → P (cond b x y)
by_cond P true x y h k = h refl
by_cond P false x y h k = k refl

-- one or none is at most one
pub at_most_one : (b : Bool) → cond b 1 0 ≤ 1
at_most_one true = omega arith
at_most_one false = omega arith

pub and_left : (a b : Bool) → (a && b) ≡ true → a ≡ true
and_left true b e = refl
and_left false b e = e

pub and_right : (a b : Bool) → (a && b) ≡ true → b ≡ true
and_right true b e = e
and_right false b e = absurd (false≢true e)

pub and_true : {a b : Bool} → a ≡ true → b ≡ true → (a && b) ≡ true
and_true {a} {b} p q = subst (λ (x : Bool). (x && b) ≡ true) (sym p) q

-- a conjunction that failed, whose first part passed
pub and_false : {a b : Bool} → a ≡ true → (a && b) ≡ false → b ≡ false
and_false {a} {b} p e = subst (λ (x : Bool). (x && b) ≡ false) p e

pub and_false_right : (a : Bool) {b : Bool} → b ≡ false → (a && b) ≡ false
and_false_right true q = q
and_false_right false q = refl

pub not_of : {b : Bool} → b ≡ false → not b ≡ true
not_of q = ap not q

pub or_left_false : (a b : Bool) → (a || b) ≡ false → a ≡ false
or_left_false true b e = e
or_left_false false b e = refl

pub or_right_false : (a b : Bool) → (a || b) ≡ false → b ≡ false
or_right_false true b e = absurd (true≢false e)
or_right_false false b e = e

pub or_cases : (a b : Bool) → (a || b) ≡ true → (a ≡ true) ⊎ (b ≡ true)
or_cases true b e = inl refl
or_cases false b e = inr e

pub or_false_right : (a : Bool) → (a || false) ≡ true → a ≡ true
or_false_right true e = refl
or_false_right false e = e

pub or_left : {a : Bool} (b : Bool) → a ≡ true → (a || b) ≡ true
or_left {a} b p = subst (λ (x : Bool). (x || b) ≡ true) (sym p) refl

pub or_right : (a : Bool) {b : Bool} → b ≡ true → (a || b) ≡ true
or_right true p = refl
or_right false p = p

pub clash : {A : Type 0} {b : Bool} → b ≡ true → b ≡ false → A
clash p q = absurd (true≢false (sym p ∙ q))

-- two tests that pass together are one
pub same_test : (a b : Bool) → (a ≡ true → b ≡ true) → (b ≡ true → a ≡ true) → a ≡ b
same_test true b h k = sym (h refl)
same_test false true h k = k refl
same_test false false h k = refl

-- a test of equality reads the same either way round
pub eqb_swap : (a b : ℕ) → eqb a b ≡ eqb b a
eqb_swap a b = same_test (eqb a b) (eqb b a) (λ t. eq-eqb b a (sym (eqb-true a b t))) (λ t. eq-eqb a b (sym (eqb-true b a t)))

pub never_true : (b : Bool) → (b ≡ true → ⊥) → b ≡ false
never_true true h = absurd (h refl)
never_true false h = refl

-- `search passed` reads a part of a conjunction of tests that passed, `search failed` one of a disjunction that failed; `search passes` shows one from its parts
pub ruleset passed = (and_left, and_right, ltb-true, leb-true, eqb-true, not-true)

pub ruleset failed = (or_left_false, or_right_false, eqb-false, ltb-false, leb-false, not-false)

pub ruleset passes = (and_true, not_of, lt-ltb, le-leb, eq-eqb)
