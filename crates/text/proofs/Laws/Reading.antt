-- Laws of reading: the digits before a position and those from it on.
use Prim.Native.Nat.{◌*◌, ◌+◌, ◌-◌, ◌<◌, ◌^◌, suc, zero, ℕ, ◌≤◌}
use mathlib.Core.Bool.{Bool, ◌&&◌, cond, false, true}
use mathlib.Core.List.{List, [], ◌∷◌}
use mathlib.Core.Path.{ap, refl, ◌∙◌, ◌≡◌}
use native.Mathlib.Nat.{pow-le-pow_right, pow-suc}
use native.Mathlib.Numerals.{add-one}
use native.Mathlib.Omega.{arith}
use lib.Dec.{leb, lit<}
use lib.ListN.{drop, get_or, length}
use lib.Seq.{drop-nil}
use borrow.Author.Tests.{le-leb, leb-true, lt-leb}
use Rattle.bits.proofs.Laws.Bools.{apart}
use Rattle.text.specs.Decimal.{Malformed, Number, Value}
use Rattle.text.specs.Decimal.{is_digit, as_number, leading, number_within, spelled}

-- a byte stands only within the text
pub in_range : (l : List ℕ) (i : ℕ) → get_or l i 256 < 256 → i < length l
in_range [] i h = absurd (omega arith)
in_range (x ∷ xs) zero h = omega arith
in_range (x ∷ xs) (suc i) h = let r = in_range xs i h in omega arith

pub leading_more : (s : List ℕ) (k : ℕ) → is_digit (get_or s k 256) ≡ true → leading (drop k s) ≡ get_or s k 256 ∷ leading (drop (suc k) s)
unfolding leading
leading_more [] k e = apart (cc)
leading_more (x ∷ xs) zero e = rw e
leading_more (x ∷ xs) (suc k) e = leading_more xs k e

pub leading_stop : (s : List ℕ) (k : ℕ) → is_digit (get_or s k 256) ≡ false → leading (drop k s) ≡ []
unfolding leading
leading_stop [] k e = rw drop-nil
leading_stop (x ∷ xs) zero e = rw e
leading_stop (x ∷ xs) (suc k) e = leading_stop xs k e

pub digit_yes : (b : ℕ) → 48 ≤ b → b ≤ 57 → is_digit b ≡ true
digit_yes b l h = rw (le-leb _ _ l, le-leb _ _ h)

pub digit_low : (b : ℕ) → b < 48 → is_digit b ≡ false
digit_low b l = rw (lt-leb _ _ l)

pub digit_high : (b : ℕ) → 48 ≤ b → 57 < b → is_digit b ≡ false
digit_high b l h = rw (le-leb _ _ l, lt-leb _ _ h)

-- what a reader knows after n digits: their value, and what is left to read
pub record Read (s : List ℕ) (most at value n k : ℕ) : Type 0 where
  pub few : n ≤ most
  pub place : k ≡ at + n
  pub small : value < 10 ^ n
  pub same : spelled 0 (leading (drop at s)) ≡ spelled value (leading (drop k s))
  pub count : length (leading (drop at s)) ≡ n + length (leading (drop k s))

pub read_none : (s : List ℕ) (most at : ℕ) → Read s most at 0 0 at
read_none s most at = record { few = omega arith; place = omega arith; small = lit< tt; same = refl; count = omega arith }

pub read_small : (value n : ℕ) → value < 10 ^ n → n < 10 → value < 1000000000
read_small value n h l =
    let p : 10 ^ n ≤ 10 ^ 9 = pow-le-pow_right (lit< tt) {i = n} {j = 9} (omega arith) in
    omega arith

module _ {s : List ℕ} {most at value n k : ℕ} (r : Read s most at value n k) where
  pub read_more : (b : ℕ) → n < most → b ≡ get_or s k 256 → 48 ≤ b → b ≤ 57 → Read s most at (value * 10 + (b - 48)) (n + 1) (k + 1)
  unfolding spelled
  read_more b l e lo hi =
      let m : leading (drop k s) ≡ b ∷ leading (drop (k + 1) s) = rw (add-one, e) (leading_more s k (rw (← e) (digit_yes b lo hi))) in
      let p : 10 ^ (n + 1) ≡ 10 ^ n * 10 = rw add-one (pow-suc 10 n) in
      let v = r.small in
      let c = r.count in
      let c' = ap length m in
      let q = r.place in
      record {
        few = omega arith;
        place = omega arith;
        small = omega arith;
        same = r.same ∙ rw m;
        count = omega arith;
      }

  pub read_long : (b : ℕ) → most ≤ n → b ≡ get_or s k 256 → 48 ≤ b → b ≤ 57 → number_within most s at ≡ Malformed
  unfolding number_within as_number
  read_long b l e lo hi =
      let m : leading (drop k s) ≡ b ∷ leading (drop (suc k) s) = rw e (leading_more s k (rw (← e) (digit_yes b lo hi))) in
      let c = r.count in
      let c' = ap length m in
      let long : most < length (leading (drop at s)) = omega arith in
      let some : 1 ≤ length (leading (drop at s)) = omega arith in
      rw (le-leb _ _ some, lt-leb _ _ long)

  -- all digits are read, and they spell the value
  module _ (e : is_digit (get_or s k 256) ≡ false) where
    all : (length (leading (drop at s)) ≡ n) × (spelled 0 (leading (drop at s)) ≡ value)
    unfolding spelled
    all =
        let m = leading_stop s k e in
        (omega (arith, r.count, ap length m), r.same ∙ rw m)

    pub read_nothing : n < 1 → number_within most s at ≡ Malformed
    unfolding number_within as_number
    read_nothing l = rw (all.0, lt-leb _ _ l)

    pub read_large : 1 ≤ n → 4294967295 < value → number_within most s at ≡ Malformed
    unfolding number_within as_number
    read_large l h = rw (all.0, all.1, le-leb _ _ l, le-leb _ _ r.few, lt-leb _ _ h)

    pub read_end : 1 ≤ n → value ≤ 4294967295 → number_within most s at ≡ Value value k
    unfolding number_within as_number
    read_end l h = rw (all.0, all.1, le-leb _ _ l, le-leb _ _ r.few, le-leb _ _ h, r.place)

-- the position after a number
abbrev pub after_of : Number → ℕ
after_of (Value v after) = after
after_of Malformed = 0

-- a number ends after its digits
pub number_ends : (most : ℕ) (s : List ℕ) (at v k : ℕ) → number_within most s at ≡ Value v k → k ≤ at + most
unfolding number_within as_number
number_ends most s at v k = by_test (leading (drop at s)) (leb 1 (length (leading (drop at s)))) (leb (length (leading (drop at s))) most) _ refl
  where
    by_test : (ds : List ℕ) (some few within : Bool) → leb (length ds) most ≡ few → cond (some && few && within) (Value (spelled 0 ds) (at + length ds)) Malformed ≡ Value v k
        → k ≤ at + most
    by_test ds true true true q e =
        let p : at + length ds ≡ k = ap after_of e in
        omega (arith, leb-true (length ds) most q)
    by_test ds true true false q e = apart (cc)
    by_test ds true false within q e = apart (cc)
    by_test ds false few within q e = apart (cc)
