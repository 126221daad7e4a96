-- Tests over the numbers below a bound: what "some", "every", "the lowest", "the nearest below", "how many", "the sum", "the greatest
-- key" and "bit p is set exactly when" are written with. Each test takes its last number first, so that an upward loop's next turn is its definition's own clause.
use Rattle.std.specs.Prelude.{ℕ, zero, suc, ◌+◌, ◌/◌, ◌%◌, ◌^◌, Bool, true, false, ◌&&◌, ◌||◌, cond, List, [], ◌∷◌, eqb, ltb}

-- some number below the bound passes
unfoldable pub some : ℕ → (ℕ → Bool) → Bool
some zero f = false
some (suc n) f = f n || some n f

-- every number below the bound passes
unfoldable pub every : ℕ → (ℕ → Bool) → Bool
every zero f = true
every (suc n) f = f n && every n f

-- the least number below the bound that passes, or d where none does
unfoldable pub least : ℕ → (ℕ → Bool) → ℕ → ℕ
least zero f d = d
least (suc n) f d = least n f (cond (f n) n d)

-- the greatest number below the bound that passes, or d where none does
unfoldable pub greatest : ℕ → (ℕ → Bool) → ℕ → ℕ
greatest zero f d = d
greatest (suc n) f d = cond (f n) n (greatest n f d)

-- how many numbers below the bound pass
unfoldable pub count : ℕ → (ℕ → Bool) → ℕ
count zero f = 0
count (suc n) f = cond (f n) 1 0 + count n f

-- f 0 + f 1 + .., of n values
unfoldable pub sum_below : ℕ → (ℕ → ℕ) → ℕ
sum_below zero f = 0
sum_below (suc n) f = f n + sum_below n f

-- the greatest key among the numbers below the bound that pass, 0 where none does
unfoldable pub greatest_key : ℕ → (ℕ → Bool) → (ℕ → ℕ) → ℕ
greatest_key zero f key = 0
greatest_key (suc n) f key = cond (f n && ltb (greatest_key n f key) (key n)) (key n) (greatest_key n f key)

-- the word whose bit p is set exactly when p is below the bound and passes
unfoldable pub word : ℕ → (ℕ → Bool) → ℕ
word zero f = 0
word (suc n) f = cond (f n) (2 ^ n) 0 + word n f

-- bit p of a word is set
unfoldable pub bit : ℕ → ℕ → Bool
bit w p = eqb (w / 2 ^ p % 2) 1

module _ {A : Type 0} where
  -- f i ∷ f (i + 1) ∷ .., of n values
  unfoldable pub list_from : ℕ → ℕ → (ℕ → A) → List A
  list_from i zero f = []
  list_from i (suc n) f = f i ∷ list_from (suc i) n f
