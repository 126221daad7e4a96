-- The laws of sums over the numbers below a bound.
use Prim.Native.Nat.{◌+◌, ◌<◌, suc, zero, ℕ}
use mathlib.Core.Logic.{◌≢◌}
use mathlib.Core.Path.{refl, subst, ◌≡◌}
use native.Mathlib.Decide.{ℕ_discrete}
use native.Mathlib.Omega.{arith}
use Rattle.bits.specs.Below.{sum_below}

-- summands that agree below the bound
pub sum_same : (n : ℕ) (f h : ℕ → ℕ) → ((j : ℕ) → j < n → h j ≡ f j) → sum_below n h ≡ sum_below n f
unfolding sum_below
sum_same zero f h same = refl
sum_same (suc n) f h same = let ih = sum_same n f h (λ j l. same j (omega arith)) in omega (arith, same n (omega arith))

-- one summand is one more
pub sum_more : (n e : ℕ) (f h : ℕ → ℕ) → e < n → h e ≡ suc (f e) → ((j : ℕ) → j < n → e ≢ j → h j ≡ f j) → sum_below n h ≡ suc (sum_below n f)
unfolding sum_below
sum_more zero e f h l more same = absurd (omega arith)
sum_more (suc n) e f h l more same = go (ℕ_discrete e n) (λ m. sum_more n e f h m more (λ j k z. same j (omega arith) z))
  where
    go : Dec (e ≡ n) → (e < n → sum_below n h ≡ suc (sum_below n f)) → h n + sum_below n h ≡ suc (f n + sum_below n f)
    go (yes q) ih =
        let here : h n ≡ suc (f n) = subst (λ (x : ℕ). h x ≡ suc (f x)) q more in
        let rest = sum_same n f h (λ j k. same j (omega arith) (λ z. omega arith)) in
        omega arith
    go (no q) ih = omega (arith, ih (omega arith), same n (omega arith) q)
