-- The laws of the tests over the numbers below a bound, as a proof about a definition, or a loop, asks for them.
-- A law by the name of a definition and -same says that tests that agree below the bound give it one answer.
use Prim.Native.Nat.{◌+◌, ◌-◌, ◌<◌, suc, zero, ℕ, ◌≤◌}
use mathlib.Core.Bool.{◌&&◌, Bool, cond, false, false≢true, true, ◌||◌}
use mathlib.Core.List.{List, ◌∷◌}
use mathlib.Core.Logic.{inl, inr, ◌⊎◌}
use mathlib.Core.Path.{ap, ap₂, refl, subst, sym, ◌∙◌, ◌≡◌}
use native.Mathlib.Decide.{ℕ_discrete}
use native.Mathlib.Nat.{not-suc-le-zero}
use native.Mathlib.Numerals.{add-one}
use native.Mathlib.Omega.{arith}
use lib.ListN.{get_or, length}
use Rattle.bits.specs.Below.{count, every, greatest, least, list_from, some}
use Rattle.bits.proofs.Laws.Bools.{and_left, and_right, and_true, clash, either, never_true, or_cases, or_false_right, or_left, or_left_false, or_right, or_right_false}

-- a number below suc n is n or below n
pub last_or_below : (n k : ℕ) → k < suc n → (k ≡ n) ⊎ (k < n)
last_or_below n k h = go (ℕ_discrete k n)
  where
    go : Dec (k ≡ n) → (k ≡ n) ⊎ (k < n)
    go (yes e) = inl e
    go (no ne) = inr (omega arith)

module _ (f : ℕ → Bool) where
  pub some_true : (n k : ℕ) → k < n → f k ≡ true → some n f ≡ true
  unfolding some
  some_true zero k h p = absurd (not-suc-le-zero h)
  some_true (suc n) k h p = go (last_or_below n k h) (some_true n k)
    where
      go : (k ≡ n) ⊎ (k < n) → (k < n → f k ≡ true → some n f ≡ true) → (f n || some n f) ≡ true
      go (inl e) ih = or_left (some n f) (ap f (sym e) ∙ p)
      go (inr l) ih = or_right (f n) (ih l p)

  pub some_found : (n : ℕ) → some n f ≡ true → (k : ℕ) × (k < n) × (f k ≡ true)
  unfolding some
  some_found zero e = absurd (false≢true e)
  some_found (suc n) e = go (or_cases (f n) (some n f) e) (some_found n)
    where
      go : (f n ≡ true) ⊎ (some n f ≡ true) → (some n f ≡ true → (k : ℕ) × (k < n) × (f k ≡ true)) → (k : ℕ) × (k < suc n) × (f k ≡ true)
      go (inl p) ih = (n, omega arith, p)
      go (inr q) ih = let w = ih q in (w.0, omega arith, w.2)

  -- a number that fails changes nothing
  pub some_skip : (n : ℕ) → f n ≡ false → some (suc n) f ≡ some n f
  unfolding some
  some_skip n e = ap (λ (b : Bool). b || some n f) e

  pub some_false : (n k : ℕ) → k < n → some n f ≡ false → f k ≡ false
  some_false n k h e = never_true (f k) (λ p. clash (some_true n k h p) e)

  pub none_passes : (n : ℕ) → ((k : ℕ) → k < n → f k ≡ false) → some n f ≡ false
  none_passes n h = never_true (some n f) (λ p. let w = some_found n p in clash w.2 (h w.0 w.1))

  pub every_at : (n k : ℕ) → k < n → every n f ≡ true → f k ≡ true
  unfolding every
  every_at zero k h e = absurd (not-suc-le-zero h)
  every_at (suc n) k h e = go (last_or_below n k h) (every_at n k)
    where
      go : (k ≡ n) ⊎ (k < n) → (k < n → every n f ≡ true → f k ≡ true) → f k ≡ true
      go (inl q) ih = ap f q ∙ and_left (f n) (every n f) e
      go (inr l) ih = ih l (and_right (f n) (every n f) e)

  pub every_true : (n : ℕ) → ((k : ℕ) → k < n → f k ≡ true) → every n f ≡ true
  unfolding every
  every_true zero h = refl
  every_true (suc n) h = and_true (h n (omega arith)) (every_true n (λ k l. h k (omega arith)))

  pub least_skip : (n d : ℕ) → f n ≡ false → least (suc n) f d ≡ least n f d
  unfolding least
  least_skip n d e = ap (λ (b : Bool). least n f (cond b n d)) e

  -- where none passes the least is d; else it is below the bound and passes
  pub least_none : (n d : ℕ) → some n f ≡ false → least n f d ≡ d
  unfolding some least
  least_none zero d e = refl
  least_none (suc n) d e =
      ap (λ (b : Bool). least n f (cond b n d)) (or_left_false (f n) (some n f) e)
      ∙ least_none n d (or_right_false (f n) (some n f) e)

  pub least_found : (n d : ℕ) → some n f ≡ true → (least n f d < n) × (f (least n f d) ≡ true)
  unfolding some least
  least_found zero d e = absurd (false≢true e)
  least_found (suc n) d e = go (either (some n f)) (least_found n)
    where
      Found : ℕ → Type 0
      Found k = (k < suc n) × (f k ≡ true)

      go : (some n f ≡ true) ⊎ (some n f ≡ false) → ((d' : ℕ) → some n f ≡ true → (least n f d' < n) × (f (least n f d') ≡ true))
          → Found (least n f (cond (f n) n d))
      go (inl s) ih = let w = ih (cond (f n) n d) s in (omega arith, w.1)
      go (inr s) ih =
          let p : f n ≡ true = subst (λ (b : Bool). (f n || b) ≡ true → f n ≡ true) (sym s) (λ q. or_false_right (f n) q) e in
          subst Found (sym (ap (λ (b : Bool). least n f (cond b n d)) p ∙ least_none n n s)) (omega arith, p)

  -- an upward loop that stops at the first that passes
  pub least_is : (n d i : ℕ) → i < n → some i f ≡ false → f i ≡ true → least n f d ≡ i
  unfolding least
  least_is zero d i l q p = absurd (not-suc-le-zero l)
  least_is (suc n) d i l q p = go (last_or_below n i l) (least_is n)
    where
      go : (i ≡ n) ⊎ (i < n) → ((d' i' : ℕ) → i' < n → some i' f ≡ false → f i' ≡ true → least n f d' ≡ i') → least n f (cond (f n) n d) ≡ i
      go (inl e) ih =
          ap (λ (b : Bool). least n f (cond b n d)) (ap f (sym e) ∙ p)
          ∙ least_none n n (ap (λ (k : ℕ). some k f) (sym e) ∙ q) ∙ sym e
      go (inr m) ih = ih (cond (f n) n d) i m q p

  -- the greatest is the last number where it passes, and lies below it where it fails
  pub greatest_skip : (n d : ℕ) → f n ≡ false → greatest (suc n) f d ≡ greatest n f d
  unfolding greatest
  greatest_skip n d q = ap (λ (b : Bool). cond b n (greatest n f d)) q

  pub greatest_here : (n d : ℕ) → f n ≡ true → greatest (suc n) f d ≡ n
  unfolding greatest
  greatest_here n d p = ap (λ (b : Bool). cond b n (greatest n f d)) p

  -- a downward loop at n goes past n - 1 where that fails, stops there where it passes, and at 0 has found none
  pub greatest_down : (n d : ℕ) → 0 < n → f (n - 1) ≡ false → greatest n f d ≡ greatest (n - 1) f d
  greatest_down n d l q = let e : n ≡ suc (n - 1) = omega arith in ap (λ (k : ℕ). greatest k f d) e ∙ greatest_skip (n - 1) d q

  pub greatest_stop : (n d : ℕ) → 0 < n → f (n - 1) ≡ true → greatest n f d ≡ n - 1
  greatest_stop n d l p = let e : n ≡ suc (n - 1) = omega arith in ap (λ (k : ℕ). greatest k f d) e ∙ greatest_here (n - 1) d p

  pub greatest_end : (n d : ℕ) → n ≤ 0 → greatest n f d ≡ d
  unfolding greatest
  greatest_end zero d l = refl
  greatest_end (suc n) d l = absurd (not-suc-le-zero l)

  -- where none passes the greatest is d
  pub greatest_none : (n d : ℕ) → some n f ≡ false → greatest n f d ≡ d
  unfolding some greatest
  greatest_none zero d e = refl
  greatest_none (suc n) d e = greatest_skip n d (or_left_false (f n) (some n f) e) ∙ greatest_none n d (or_right_false (f n) (some n f) e)

-- tests that agree below the bound
module _ (f h : ℕ → Bool) where
  pub some_same : (n : ℕ) → ((k : ℕ) → k < n → f k ≡ h k) → some n f ≡ some n h
  unfolding some
  some_same zero q = refl
  some_same (suc n) q = ap (λ (b : Bool). b || some n f) (q n (omega arith)) ∙ ap (λ (b : Bool). h n || b) (some_same n (λ k l. q k (omega arith)))

  pub least_same : (n d : ℕ) → ((k : ℕ) → k < n → f k ≡ h k) → least n f d ≡ least n h d
  unfolding least
  least_same zero d q = refl
  least_same (suc n) d q =
      ap (λ (b : Bool). least n f (cond b n d)) (q n (omega arith)) ∙ least_same n (cond (h n) n d) (λ k l. q k (omega arith))

  pub greatest_same : (n d : ℕ) → ((k : ℕ) → k < n → f k ≡ h k) → greatest n f d ≡ greatest n h d
  unfolding greatest
  greatest_same zero d q = refl
  greatest_same (suc n) d q = ap₂ (λ (b : Bool) (x : ℕ). cond b n x) (q n (omega arith)) (greatest_same n d (λ k l. q k (omega arith)))

  pub count_same : (n : ℕ) → ((k : ℕ) → k < n → f k ≡ h k) → count n f ≡ count n h
  unfolding count
  count_same zero q = refl
  count_same (suc n) q = ap₂ (λ (b : Bool) (x : ℕ). cond b 1 0 + x) (q n (omega arith)) (count_same n (λ k l. q k (omega arith)))

module _ (f : ℕ → Bool) where
  pub count_nothing : count 0 f ≡ 0
  unfolding count
  count_nothing = refl

  pub count_next : (n : ℕ) → count (suc n) f ≡ cond (f n) 1 0 + count n f
  unfolding count
  count_next n = refl

  pub count_most : (n : ℕ) → count n f ≤ n
  unfolding count
  count_most zero = omega arith
  count_most (suc n) = go (f n) (count_most n)
    where
      go : (b : Bool) → count n f ≤ n → cond b 1 0 + count n f ≤ suc n
      go true h = omega arith
      go false h = omega arith

  pub count_none : (n : ℕ) → ((k : ℕ) → k < n → f k ≡ false) → count n f ≡ 0
  unfolding count
  count_none zero h = refl
  count_none (suc n) h = rw (h n (omega arith), count_none n (λ k l. h k (omega arith)))

  pub count_some : (n k : ℕ) → k < n → f k ≡ true → 0 < count n f
  unfolding count
  count_some zero k l h = absurd (not-suc-le-zero l)
  count_some (suc n) k l h = go (last_or_below n k l) (count_some n k)
    where
      go : (k ≡ n) ⊎ (k < n) → (k < n → f k ≡ true → 0 < count n f) → 0 < cond (f n) 1 0 + count n f
      go (inl e) ih = rw (sym (ap f e) ∙ h) (omega arith)
      go (inr b) ih = omega (arith, ih b h)

  pub count_parts : (a b : ℕ) → count (a + b) f ≡ count b (λ i. f (a + i)) + count a f
  unfolding count
  count_parts a zero = let none : a + 0 ≡ a = omega arith in omega (arith, ap (λ (n : ℕ). count n f) none)
  count_parts a (suc b) =
      let next : a + suc b ≡ suc (a + b) = omega arith in
      ap (λ (n : ℕ). count n f) next ∙ omega (arith, count_parts a b)

module _ {A : Type 0} where
  pub length_list_from : (i n : ℕ) (f : ℕ → A) → length (list_from i n f) ≡ n
  unfolding list_from
  length_list_from i zero f = refl
  length_list_from i (suc n) f = ap suc (length_list_from (suc i) n f)

  pub get_or_list_from : (i n : ℕ) (f : ℕ → A) (k : ℕ) (d : A) → k < n → get_or (list_from i n f) k d ≡ f (i + k)
  unfolding list_from
  get_or_list_from i zero f k d h = absurd (not-suc-le-zero h)
  get_or_list_from i (suc n) f zero d h = ap f (omega arith)
  get_or_list_from i (suc n) f (suc k) d h = get_or_list_from (suc i) n f k d (omega arith) ∙ ap f (omega arith)

  pub get_or_list : (n : ℕ) (f : ℕ → A) (k : ℕ) (d : A) → k < n → get_or (list_from 0 n f) k d ≡ f k
  get_or_list n f k d h = get_or_list_from 0 n f k d h ∙ ap f (omega arith)

-- an upward search as a loop meets it: none below j passes, and b tells whether j does
module _ (f : ℕ → Bool) where
  pub scan_on : (j : ℕ) (b : Bool) → some j f ≡ false → b ≡ f j → b ≡ false → some (j + 1) f ≡ false
  unfolding some
  scan_on j b p q e = rw (add-one, some, sym q ∙ e) p

  pub scan_end : (n j : ℕ) → j ≤ n → n ≤ j → some j f ≡ false → some n f ≡ false
  scan_end n j a b p = ap (λ (k : ℕ). some k f) (let e : n ≡ j = omega arith in e) ∙ p

  -- "every" as a loop gathers it: w tells of those below j, b of j
  pub every_on : (j : ℕ) (w b v : Bool) → w ≡ every j f → b ≡ f j → v ≡ (b && w) → v ≡ every (j + 1) f
  unfolding every
  every_on j w b v p q r = rw (add-one, r, q, p, every)

-- lists of values that agree
list_from_same : {A : Type 0} (f h : ℕ → A) (i n : ℕ) → ((k : ℕ) → k < i + n → f k ≡ h k) → list_from i n f ≡ list_from i n h
unfolding list_from
list_from_same f h i zero q = refl
list_from_same {A} f h i (suc n) q =
    ap₂ (λ (x : A) (l : List A). x ∷ l) (q i (omega arith)) (list_from_same f h (suc i) n (λ k l. q k (omega arith)))

pub list_same : {A : Type 0} (n : ℕ) (f h : ℕ → A) → ((k : ℕ) → k < n → f k ≡ h k) → list_from 0 n f ≡ list_from 0 n h
list_same n f h q = list_from_same f h 0 n (λ k l. q k (omega arith))
