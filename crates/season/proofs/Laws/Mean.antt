-- Laws of the mean: what its three numbers are, that equal numbers are equal answers, and that quotient and count have at most 11 digits
-- together.
use Prim.Native.Nat.{ℕ, zero, suc, ◌+◌, ◌*◌, ◌-◌, ◌/◌, ◌%◌, ◌^◌, ◌<◌, ◌≤◌}
use mathlib.Core.Bool.{Bool, false, true}
use mathlib.Core.Path.{ap, refl, ◌∙◌, ◌≡◌}
use native.Mathlib.Decide.{dec_le}
use native.Mathlib.Nat.{div-mul-le_self, le_trans, lt_of_not-le, mul-le-mul, pow-le-pow_right, pow-suc}
use native.Mathlib.Omega.{arith}
use lib.Dec.{lit<, ltb}
use lib.ListN.{length}
use lib.Pow.{pow-add}
use borrow.Author.Tests.{ltb-false, ltb-true}
use Rattle.std.specs.Prelude.{Option, Some, None}
use Rattle.bits.proofs.Laws.Bools.{apart}
use Rattle.text.specs.Decimal.{decimal, size}
use Rattle.text.proofs.Laws.Writing.{length_digits, size_more, size_most, size_one, size_some}
use Rattle.season.specs.declared.answers.Mean.{Mean}
use Rattle.season.specs.Said.{mean_said}

mean_same : {q r n x y z : ℕ} → q ≡ x → r ≡ y → n ≡ z
    → ◌≡◌ {A = Option Mean} (Some (record { quotient = q; remainder = r; count = n })) (Some (record { quotient = x; remainder = y; count = z }))
mean_same p q r = rw (p, q, r)

pub mean_said_law : (a b : Option Mean) → mean_said a ≡ mean_said b → a ≡ b
unfolding mean_said
mean_said_law None None e = refl
mean_said_law None (Some m) e = apart (cc)
mean_said_law (Some m) None e = apart (cc)
mean_said_law (Some m) (Some n) e = mean_same (cc) (cc) (cc)

-- ## Digits

size_none : (x : ℕ) → size 0 x ≡ 0
unfolding size
size_none x = refl

-- a number of so many digits is at least the least of these
tens : (n x : ℕ) → 10 ≤ x → (1 ≤ n → 10 ^ (size n (x / 10) - 1) ≤ x / 10) → 10 ^ size n (x / 10) ≤ x
tens zero x h ih = rw (size_none (x / 10)) (omega arith)
tens (suc m) x h ih =
    let some = size_some m (x / 10) in
    let e : size (suc m) (x / 10) ≡ suc (size (suc m) (x / 10) - 1) = omega arith in
    let p : 10 ^ size (suc m) (x / 10) ≡ 10 ^ (size (suc m) (x / 10) - 1) * 10 = ap (λ (k : ℕ). 10 ^ k) e ∙ pow-suc 10 (size (suc m) (x / 10) - 1) in
    let l = ih (omega arith) in
    omega arith

size_least : (n x : ℕ) → 1 ≤ n → 1 ≤ x → 10 ^ (size n x - 1) ≤ x
size_least zero x h some = absurd (omega arith)
size_least (suc n) x h some = go (ltb x 10) refl (size_least n (x / 10))
  where
    go : (b : Bool) → ltb x 10 ≡ b → (1 ≤ n → 1 ≤ x / 10 → 10 ^ (size n (x / 10) - 1) ≤ x / 10) → 10 ^ (size (suc n) x - 1) ≤ x
    go true e ih =
        let z : size (suc n) x - 1 ≡ 0 = omega (arith, size_one n x (ltb-true x 10 e)) in
        rw z some
    go false e ih =
        let big = ltb-false x 10 e in
        let z : size (suc n) x - 1 ≡ size n (x / 10) = omega (arith, size_more n x big) in
        rw z (tens n x big (λ m. ih m (omega arith)))

-- quotient and count, where the sum has at most 10 digits
mean_digits : (s n : ℕ) → 0 < n → s < 10 ^ 10 → size 10 (s / n) + size 10 n ≤ 11
mean_digits s n some small = go (dec_le 1 (s / n))
  where
    go : Dec (1 ≤ s / n) → size 10 (s / n) + size 10 n ≤ 11
    go (yes h) =
        let product : 10 ^ (size 10 (s / n) - 1 + (size 10 n - 1)) ≤ s
        = rw (pow-add 10 (size 10 (s / n) - 1) (size 10 n - 1)) (le_trans (mul-le-mul (size_least 10 (s / n) (omega arith) h) (size_least 10 n (omega arith) some)) (div-mul-le_self s n)) in
        let few : size 10 (s / n) - 1 + (size 10 n - 1) < 10
        = lt_of_not-le (λ (l : 10 ≤ size 10 (s / n) - 1 + (size 10 n - 1)). let p : 10 ^ 10 ≤ 10 ^ (size 10 (s / n) - 1 + (size 10 n - 1)) = pow-le-pow_right (lit< tt) l in omega arith) in
        omega arith
    go (no h) = omega (arith, size_one 9 (s / n) (omega arith), size_most 10 n)

pub mean_length : (s n : ℕ) → 0 < n → s < 4294967296 → length (decimal (s / n)) + length (decimal (s % n)) + length (decimal n) ≤ 21
unfolding decimal
mean_length s n some small =
    omega (arith, mean_digits s n some (omega arith), size_most 10 (s % n), length_digits (size 10 (s / n)) (s / n), length_digits (size 10 (s % n)) (s % n), length_digits (size 10 n) n)
