-- The promise: what is written for a number is read back.
use Prim.Native.Nat.{◌+◌, ◌<◌, ℕ, ◌≤◌}
use mathlib.Core.Bool.{false}
use mathlib.Core.List.{List}
use mathlib.Core.Path.{◌≡◌}
use native.Mathlib.Omega.{arith}
use lib.ListN.{get_or, length}
use Rattle.text.specs.Decimal.{Value}
use Rattle.text.specs.Decimal.{decimal, is_digit, decimal_at, wide_at}
use Rattle.text.specs.Wrote.{Put}
use Rattle.text.proofs.Laws.ReadBack.{back}

-- What `put_number` leaves where the number fits and no digit stands behind it, `read` gives back if it has at most 5 digits, and ends
-- where the writing did.
pub read_back : {out m : List ℕ} {at k : ℕ} (x : ℕ) → x < 100000 → Put out at (decimal x) m k → at + length (decimal x) ≤ length out
    → is_digit (get_or out k 256) ≡ false
    → decimal_at m at ≡ Value x k
read_back x h w room end = back 4 x (omega arith) h (omega arith) w room end

-- `read_wide` gives every number of 32 bits back.
pub read_wide_back : {out m : List ℕ} {at k : ℕ} (x : ℕ) → x ≤ 4294967295 → Put out at (decimal x) m k → at + length (decimal x) ≤ length out
    → is_digit (get_or out k 256) ≡ false
    → wide_at m at ≡ Value x k
read_wide_back x h w room end = back 9 x (omega arith) (omega arith) h w room end
