-- Where some number below a bound passes a test, one that passes has the greatest key, and `greatest_key` is that key.
-- With the number itself for its key, that one is what `greatest` of specs/Below.antt finds.
use Prim.Native.Nat.{ℕ, zero, suc, ◌+◌, ◌≤◌, ◌<◌}
use mathlib.Core.Path.{◌≡◌, refl, sym, ap, ap₂, ◌∙◌}
use mathlib.Core.Logic.{◌⊎◌, inl, inr}
use mathlib.Core.Bool.{Bool, true, false, cond, ◌&&◌, ◌||◌}
use native.Mathlib.Omega.{arith}
use native.Mathlib.Decide.{dec_le}
use native.Mathlib.Nat.{not-suc-le-zero, le_of_eq, le_trans}
use native.Mathlib.Numerals.{add-one}
use lib.Dec.{ltb}
use borrow.Author.Tests.{le-ltb, ltb-false, ltb-true}
use Rattle.bits.specs.Below.{greatest, greatest_key, some}
use Rattle.bits.proofs.Laws.Bools.{either, clash, never_true}
use Rattle.bits.proofs.Laws.Below.{last_or_below, greatest_skip, greatest_here}

module _ (f : ℕ → Bool) (key : ℕ → ℕ) where
  -- k passes, and whatever passes below n has no greater key
  pub record Most (n k : ℕ) : Type 0 where
    pub below : k < n
    pub passes : f k ≡ true
    pub tops : (i : ℕ) → i < n → f i ≡ true → key i ≤ key k

  -- none below n passes, or there is a greatest
  Searched : ℕ → Type 0
  Searched n = ((k : ℕ) × Most n k) ⊎ ((i : ℕ) → i < n → f i ≡ false)

  searched : (n : ℕ) → Searched n
  unfolding Searched
  searched zero = inr (λ i h. absurd (not-suc-le-zero h))
  searched (suc n) = go (either (f n)) (searched n)
    where
      -- n itself is the greatest
      newest : f n ≡ true → ((i : ℕ) → i < n → f i ≡ true → key i ≤ key n) → Most (suc n) n
      newest p h = record { below = omega arith; passes = p; tops = λ i l q. top i q (last_or_below n i l) }
        where
          top : (i : ℕ) → f i ≡ true → (i ≡ n) ⊎ (i < n) → key i ≤ key n
          top i q (inl e) = le_of_eq (ap key e)
          top i q (inr l) = h i l q

      -- one before n stays the greatest
      kept : (k : ℕ) → Most n k → (f n ≡ true → key n ≤ key k) → Most (suc n) k
      kept k w h = record { below = omega arith; passes = w.passes; tops = λ i l q. top i q (last_or_below n i l) }
        where
          top : (i : ℕ) → f i ≡ true → (i ≡ n) ⊎ (i < n) → key i ≤ key k
          top i q (inl e) = le_trans (le_of_eq (ap key e)) (h (ap f (sym e) ∙ q))
          top i q (inr l) = w.tops i l q

      pick : (k : ℕ) → Most n k → f n ≡ true → Dec (key n ≤ key k) → Searched (suc n)
      pick k w p (yes le) = inl (k, kept k w (λ _. le))
      pick k w p (no gt) = inl (n, newest p (λ i l q. le_trans (w.tops i l q) (omega arith)))

      go : (f n ≡ true) ⊎ (f n ≡ false) → Searched n → Searched (suc n)
      go (inl p) (inl w) = pick w.0 w.1 p (dec_le (key n) (key w.0))
      go (inl p) (inr none) = inl (n, newest p (λ i l q. clash q (none i l)))
      go (inr p) (inl w) = inl (w.0, kept w.0 w.1 (λ q. clash q p))
      go (inr p) (inr none) = inr (λ i l. never_true i (last_or_below n i l))
        where
          never_true : (i : ℕ) → (i ≡ n) ⊎ (i < n) → f i ≡ false
          never_true i (inl e) = ap f e ∙ p
          never_true i (inr l) = none i l

  pub most_there : (n j : ℕ) → j < n → f j ≡ true → (k : ℕ) × Most n k
  unfolding Searched
  most_there n j h p = go (searched n)
    where
      go : Searched n → (k : ℕ) × Most n k
      go (inl w) = w
      go (inr none) = clash p (none j h)

module _ (f : ℕ → Bool) where
  -- with its own number for a key, the one with the greatest key is the greatest number that passes
  pub greatest_is : (n d k : ℕ) → Most f (λ p. p) n k → greatest n f d ≡ k
  greatest_is zero d k w = absurd (not-suc-le-zero w.below)
  greatest_is (suc n) d k w = go (last_or_below n k w.below) (greatest_is n d k)
    where
      go : (k ≡ n) ⊎ (k < n) → (Most f (λ p. p) n k → greatest n f d ≡ k) → greatest (suc n) f d ≡ k
      go (inl e) ih = greatest_here f n d (ap f (sym e) ∙ w.passes) ∙ sym e
      go (inr l) ih =
          greatest_skip f n d (never_true (f n) (λ t. omega (arith, w.tops n (omega arith) t)))
          ∙ ih (record { below = l; passes = w.passes; tops = λ i m. w.tops i (omega arith) })

  -- where some number passes, the greatest is below the bound, passes, and no other that passes is above it
  pub greatest_found : (n d i : ℕ) → i < n → f i ≡ true → Most f (λ p. p) n (greatest n f d)
  greatest_found n d i l p = let w = most_there f (λ p. p) n i l p in rw (greatest_is n d w.0 w.1) w.1

-- some number that passes has a key above x exactly where the greatest key is
pub greatest_key_law : (f : ℕ → Bool) (key : ℕ → ℕ) (n x : ℕ) → some n (λ i. f i && ltb x (key i)) ≡ ltb x (greatest_key n f key)
unfolding some greatest_key
greatest_key_law f key zero x = sym (le-ltb x 0 (omega arith))
greatest_key_law f key (suc n) x =
    ap (λ (b : Bool). (f n && ltb x (key n)) || b) (greatest_key_law f key n x) ∙ go (f n) (either (ltb m (key n))) (either (ltb x (key n))) (either (ltb x m))
  where
    m : ℕ
    m = greatest_key n f key

    go : (b : Bool) → (ltb m (key n) ≡ true) ⊎ (ltb m (key n) ≡ false) → (ltb x (key n) ≡ true) ⊎ (ltb x (key n) ≡ false) → (ltb x m ≡ true) ⊎ (ltb x m ≡ false)
        → ((b && ltb x (key n)) || ltb x m) ≡ ltb x (cond (b && ltb m (key n)) (key n) m)
    go false p q r = refl
    go true (inl p) (inl q) r = rw (p, q)
    go true (inl p) (inr q) (inl r) = absurd (omega (arith, ltb-true m (key n) p, ltb-false x (key n) q, ltb-true x m r))
    go true (inl p) (inr q) (inr r) = rw (p, q, r)
    go true (inr p) (inl q) (inl r) = rw (p, q, r)
    go true (inr p) (inl q) (inr r) = absurd (omega (arith, ltb-false m (key n) p, ltb-true x (key n) q, ltb-false x m r))
    go true (inr p) (inr q) r = rw (p, q)

-- a loop has found the greatest so far
pub greatest_key_more : (f : ℕ → Bool) (key : ℕ → ℕ) (j m v : ℕ) → m ≡ greatest_key j f key → v ≡ cond (f j && ltb m (key j)) (key j) m → v ≡ greatest_key (j + 1) f key
unfolding greatest_key
greatest_key_more f key j m v p q = rw add-one (q ∙ ap (λ (x : ℕ). cond (f j && ltb x (key j)) (key j) x) p)

pub greatest_key_all : (f : ℕ → Bool) (key : ℕ → ℕ) (n j m : ℕ) → j ≤ n → n ≤ j → m ≡ greatest_key j f key → m ≡ greatest_key n f key
greatest_key_all f key n j m a b p = p ∙ ap (λ (k : ℕ). greatest_key k f key) (omega arith)

-- a number that fails changes nothing
pub greatest_key_skip : (f : ℕ → Bool) (key : ℕ → ℕ) (j : ℕ) → f j ≡ false → greatest_key (suc j) f key ≡ greatest_key j f key
unfolding greatest_key
greatest_key_skip f key j e = ap (λ (b : Bool). cond (b && ltb (greatest_key j f key) (key j)) (key j) (greatest_key j f key)) e

-- tests and keys that agree where the test passes
pub greatest_key_same : (f h : ℕ → Bool) (key other : ℕ → ℕ) (n : ℕ) → ((k : ℕ) → k < n → f k ≡ h k) → ((k : ℕ) → k < n → h k ≡ true → key k ≡ other k)
    → greatest_key n f key ≡ greatest_key n h other
unfolding greatest_key
greatest_key_same f h key other zero p q = refl
greatest_key_same f h key other (suc n) p q =
    ap₂ (λ (b : Bool) (x : ℕ). cond (b && ltb x (key n)) (key n) x) (p n (omega arith))
    (greatest_key_same f h key other n (λ k l. p k (omega arith)) (λ k l. q k (omega arith)))
    ∙ go (h n) (q n (omega arith))
  where
    go : (b : Bool) → (b ≡ true → key n ≡ other n)
        → cond (b && ltb (greatest_key n h other) (key n)) (key n) (greatest_key n h other) ≡ cond (b && ltb (greatest_key n h other) (other n)) (other n) (greatest_key n h other)
    go true e = ap (λ (x : ℕ). cond (ltb (greatest_key n h other) x) x (greatest_key n h other)) (e refl)
    go false e = refl
