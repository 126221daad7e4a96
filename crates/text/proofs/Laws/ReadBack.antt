-- Laws of reading what was written: the digits written are those read, and they spell the number.
use Prim.Native.Nat.{◌%◌, ◌*◌, ◌+◌, ◌-◌, ◌/◌, ◌<◌, ◌^◌, suc, zero, ℕ, ◌≤◌}
use mathlib.Core.Bool.{false, true}
use mathlib.Core.List.{◌++◌, List, [], append_assoc, append-nil, ◌∷◌}
use mathlib.Core.Path.{ap, refl, ◌∙◌, ◌≡◌}
use native.Mathlib.Nat.{pow-suc}
use native.Mathlib.Omega.{arith}
use lib.ListN.{drop, get_or, length, take}
use lib.Seq.{drop_at, length-take-le, sets-eq}
use borrow.Author.Tests.{le-leb}
use Rattle.text.specs.Decimal.{Value}
use Rattle.text.specs.Wrote.{Put}
use Rattle.text.specs.Decimal.{decimal, digits, is_digit, as_number, leading, number_within, size, spelled}
use Rattle.text.proofs.Laws.Reading.{digit_yes, leading_stop}
use Rattle.text.proofs.Laws.Put.{put_all}
use Rattle.text.proofs.Laws.Writing.{length_digits, size_some, sizes}

-- every byte written is a digit
leading_digits : (n x : ℕ) (r : List ℕ) → leading (digits n x ++ r) ≡ digits n x ++ leading r
unfolding digits leading
leading_digits zero x r = refl
leading_digits (suc n) x r =
    let d : is_digit (48 + x % 10) ≡ true = digit_yes (48 + x % 10) (omega arith) (omega arith) in
    let front = append_assoc (digits n (x / 10)) ((48 + x % 10) ∷ []) in
    rw (front r, front (leading r), leading_digits n (x / 10) ((48 + x % 10) ∷ r), d)

spelled_last : (acc : ℕ) (xs : List ℕ) (d : ℕ) → spelled acc (xs ++ (d ∷ [])) ≡ spelled acc xs * 10 + (d - 48)
unfolding spelled
spelled_last acc [] d = refl
spelled_last acc (x ∷ xs) d = spelled_last (acc * 10 + (x - 48)) xs d

-- n digits spell every number that has no more
spelled_digits : (n x : ℕ) → x < 10 ^ n → spelled 0 (digits n x) ≡ x
unfolding spelled digits
spelled_digits zero x h = let p : x < 1 = h in omega arith
spelled_digits (suc n) x h =
    let p : x < 10 ^ n * 10 = rw pow-suc at h in
    let r = spelled_digits n (x / 10) (omega arith) in
    spelled_last 0 (digits n (x / 10)) (48 + x % 10) ∙ rw r (omega arith)

-- a number of at most so many digits, within 32 bits
pub back : {out m : List ℕ} {at k : ℕ} (few x : ℕ) → few ≤ 9 → x < 10 ^ suc few → x ≤ 4294967295 → Put out at (decimal x) m k → at + length (decimal x) ≤ length out
    → is_digit (get_or out k 256) ≡ false
    → number_within (suc few) m at ≡ Value x k
unfolding number_within as_number decimal
back {out} {m} {at} {k} few x small h within w room end =
    let s = sizes 9 few x h small in
    let n = length_digits (size 10 x) x in
    let next : k ≡ at + size 10 x = omega (arith, (put_all w room).next_is) in
    let stop = rw next at end in
    let d : drop at m ≡ decimal x ++ drop (at + size 10 x) out
    = ap (drop at) (w.after_is ∙ sets-eq (decimal x) out at room ∙ rw (n, append_assoc)) ∙ drop_at (take at out) _ at (length-take-le at out (omega arith)) in
    let r : leading (drop at m) ≡ digits (size 10 x) x
    = ap leading d ∙ leading_digits (size 10 x) x _ ∙ rw (leading_stop out _ stop, append-nil) in
    rw (r, n, le-leb _ _ (size_some 9 x), le-leb _ _ s.most, spelled_digits (size 10 x) x s.enough, le-leb _ _ within, next)
