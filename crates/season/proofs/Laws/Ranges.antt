-- Law of a test that `all` makes of the numbers below a bound.
use Prim.Native.Nat.{ℕ, ◌<◌}
use mathlib.Core.Bool.{Bool, false, true}
use mathlib.Core.Path.{ap, sym, ◌∙◌, ◌≡◌}
use native.Mathlib.Omega.{arith}
use lib.ListN.{get_or, length}
use Rattle.std.specs.Bool.{MatchBool}
use Rattle.std.specs.List.{AllWithin, HoldsAt, range_with_len}
use Rattle.std.proofs.lemmas.List.FromFn.{get_or-range_with_len, length-range_with_len}
use Rattle.bits.specs.Below.{every}
use Rattle.bits.proofs.Laws.Below.{every_at, every_true}
use Rattle.bits.proofs.Laws.Bools.{clash, never_true}

module _ (n : ℕ) (f : ℕ → Bool) where
  at : (k : ℕ) → k < n → k ≡ get_or (range_with_len 0 n) k 0
  at k l = omega (arith, get_or-range_with_len 0 n k 0 l)

  pub every_of : (r : Bool)
      → MatchBool r (AllWithin (λ k. f k ≡ true) (range_with_len 0 n) 0 (length (range_with_len 0 n)))
      ((k : ℕ) × (k < length (range_with_len 0 n)) × HoldsAt (λ k. f k ≡ false) (range_with_len 0 n) k)
      → r ≡ every n f
  every_of true h = sym (every_true f n (λ k l. ap f (at k l) ∙ h k 0 (omega arith) (omega (arith, length-range_with_len 0 n))))
  every_of false (k, l, h) =
      let below : k < n = omega (arith, length-range_with_len 0 n) in
      sym (never_true (every n f) (λ p. clash (every_at f n k below p) (ap f (at k below) ∙ h 0)))
