-- When a test passes, said by quantifiers: for each way to make a test, from when its parts pass.
use Prim.Native.Nat.{ℕ, zero, suc, ◌<◌, ◌≤◌}
use mathlib.Core.Path.{◌≡◌, sym, ap, ◌∙◌}
use mathlib.Core.Logic.{◌↔◌, ◌⊎◌, inl, inr, ⊎_elim, ⊎_map}
use mathlib.Core.Bool.{Bool, true, false, not, ◌&&◌, ◌||◌, cond}
use native.Mathlib.Omega.{arith}
use native.Mathlib.Nat.{not-suc-le-zero}
use lib.Dec.{leb, ltb, eqb}
use borrow.Author.Tests.{ltb-true, ltb-false, leb-true, eqb-true, lt-ltb, le-ltb, le-leb, eq-eqb, not-true}
use Rattle.bits.specs.Below.{some, every, least, greatest}
use Rattle.bits.proofs.Laws.Bools.{either, clash, never_true, and_left, and_right, and_true, and_false, not_of, or_cases, or_left, or_right}
use Rattle.bits.proofs.Laws.Below.{some_true, some_found, some_false, none_passes, every_at, every_true, least_none, least_found, least_is, last_or_below, greatest_none}
use Rattle.bits.proofs.Laws.Most.{greatest_is, greatest_found}

pub lt_reads : (x y : ℕ) → ltb x y ≡ true ↔ x < y
lt_reads x y = (ltb-true x y, lt-ltb x y)

pub le_reads : (x y : ℕ) → leb x y ≡ true ↔ x ≤ y
le_reads x y = (leb-true x y, le-leb x y)

pub eq_reads : (x y : ℕ) → eqb x y ≡ true ↔ x ≡ y
eq_reads x y = (eqb-true x y, eq-eqb x y)

pub lt_fails : (x y : ℕ) → ltb x y ≡ false ↔ y ≤ x
lt_fails x y = (ltb-false x y, le-ltb x y)

pub not_reads : (b : Bool) → not b ≡ true ↔ b ≡ false
not_reads b = (not-true b, not_of)

module _ {a b : Bool} {A B : Type 0} where
  pub and_reads : (a ≡ true ↔ A) → (b ≡ true ↔ B) → (a && b) ≡ true ↔ A × B
  and_reads p q = (λ h. (p.0 (and_left a b h), q.0 (and_right a b h)), λ w. and_true (p.1 w.0) (q.1 w.1))

  pub or_reads : (a ≡ true ↔ A) → (b ≡ true ↔ B) → (a || b) ≡ true ↔ A ⊎ B
  or_reads p q = (λ h. ⊎_map p.0 q.0 (or_cases a b h), ⊎_elim (λ x. or_left b (p.1 x)) (λ x. or_right a (q.1 x)))

  -- the second test is asked only where the first fails
  pub or_else : (a ≡ false ↔ A) → (b ≡ true ↔ B) → (a || b) ≡ true ↔ (A → B)
  or_else p q =
      (λ h x. q.0 (rw (p.1 x) at h), λ w. ⊎_elim (λ h. or_left b h) (λ h. or_right a (q.1 (w (p.0 h)))) (either a))

-- the second test fails wherever the first passes
pub and_fails : {a b : Bool} {B : Type 0} → (b ≡ false ↔ B) → (a && b) ≡ false ↔ (a ≡ true → B)
and_fails {a} {b} q = (λ h p. q.0 (and_false p h), λ w. never_true (a && b) (λ h. clash (and_right a b h) (q.1 (w (and_left a b h)))))

module _ {f : ℕ → Bool} {P : ℕ → Type 0} (n : ℕ) where
  pub some_reads : ((i : ℕ) → f i ≡ true ↔ P i) → some n f ≡ true ↔ ((i : ℕ) × (i < n) × P i)
  some_reads h =
      (λ s. let w = some_found f n s in (w.0, w.1, (h w.0).0 w.2), λ w. some_true f n w.0 w.1 ((h w.0).1 w.2))

  pub none_reads : ((i : ℕ) → f i ≡ false ↔ P i) → some n f ≡ false ↔ ((i : ℕ) → i < n → P i)
  none_reads h = (λ s i l. (h i).0 (some_false f n i l s), λ w. none_passes f n (λ i l. (h i).1 (w i l)))

  pub every_reads : ((i : ℕ) → f i ≡ true ↔ P i) → every n f ≡ true ↔ ((i : ℕ) → i < n → P i)
  every_reads h = (λ s i l. (h i).0 (every_at f n i l s), λ w. every_true f n (λ i l. (h i).1 (w i l)))

-- where d is no number below the bound, the search gives d exactly when none passes
pub least_none_reads : (f : ℕ → Bool) (n d : ℕ) → n ≤ d → least n f d ≡ d ↔ ((i : ℕ) → i < n → f i ≡ false)
least_none_reads f n d m =
    (λ e i l. some_false f n i l (never_true (some n f) (λ s. omega (arith, least_found f n d s))), λ w. least_none f n d (none_passes f n w))

-- no number that passes is below the least
least_le : (f : ℕ → Bool) (n d k : ℕ) → k < n → f k ≡ true → least n f d ≤ k
unfolding least
least_le f zero d k l p = absurd (not-suc-le-zero l)
least_le f (suc n) d k l p = go (last_or_below n k l) (either (some n f)) (least_le f n)
  where
    go : (k ≡ n) ⊎ (k < n) → (some n f ≡ true) ⊎ (some n f ≡ false) → ((d' k' : ℕ) → k' < n → f k' ≡ true → least n f d' ≤ k')
        → least n f (cond (f n) n d) ≤ k
    go (inr m) s ih = ih (cond (f n) n d) k m p
    go (inl e) (inl s) ih = omega (arith, least_found f n (cond (f n) n d) s)
    go (inl e) (inr s) ih = rw (ap f (sym e) ∙ p) (omega (arith, least_none f n n s))

module _ (f : ℕ → Bool) (n d k : ℕ) (l : k < n) (m : n ≤ d) where
  passes : (some n f ≡ false → ⊥) → some n f ≡ true
  passes h = ⊎_elim (λ s. s) (λ s. absurd (h s)) (either (some n f))

  -- it gives k exactly when k passes and none below it does
  pub least_reads : least n f d ≡ k ↔ (f k ≡ true) × ((i : ℕ) → i < k → f i ≡ false)
  least_reads = (
    λ e. (
      ap f (sym e) ∙ (least_found f n d (passes (λ s. omega (arith, least_none f n d s)))).1,
      λ i b. never_true (f i) (λ p. omega (arith, least_le f n d i (omega arith) p)),
    ),
    λ w. least_is f n d k l (none_passes f k w.1) w.0,
  )

  -- and the other search exactly when k passes and none between it and the bound does
  pub greatest_reads : greatest n f d ≡ k ↔ (f k ≡ true) × ((i : ℕ) → k < i → i < n → f i ≡ false)
  greatest_reads = (
    λ e. let x = some_found f n (passes (λ s. omega (arith, greatest_none f n d s))) in
        let w = rw e at (greatest_found f n d x.0 x.1 x.2) in
        (w.passes, λ i a b. never_true (f i) (λ p. omega (arith, w.tops i b p))),
    λ w. greatest_is f n d k
        (record { below = l; passes = w.0; tops = λ i b p. ltb-false k i (never_true (ltb k i) (λ h. clash p (w.1 i (ltb-true k i h) b))) }),
  )
