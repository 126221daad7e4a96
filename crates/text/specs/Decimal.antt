-- Decimal text: what stands at a position of a text, and what is written for a number.
-- A text is a list of bytes; `0` to `9` are the bytes 48 to 57.
use Rattle.std.specs.Prelude.{◌%◌, ◌*◌, ◌+◌, ◌-◌, ◌/◌, suc, zero, ℕ, ◌&&◌, Bool, cond, ◌++◌, List, [], map, ◌∷◌, leb, ltb, drop, length, Option, Some, None}

-- what stands at a position: a value, with the position after its last digit, or no number
abbrev pub Number : Type 0
Number = Option (ℕ × ℕ)

pattern abbrev pub Value : ℕ → ℕ → Number
Value v after = Some (v, after)

pattern abbrev pub Malformed : Number
Malformed = None

-- a byte is a digit
abbrev pub is_digit : ℕ → Bool
is_digit b = leb 48 b && leb b 57

-- the digits that a text begins with
unfoldable pub leading : List ℕ → List ℕ
leading [] = []
leading (b ∷ bs) = cond (is_digit b) (b ∷ leading bs) []

-- the number that digits spell, after digits that spelled acc
unfoldable pub spelled : ℕ → List ℕ → ℕ
spelled acc [] = acc
spelled acc (d ∷ ds) = spelled (acc * 10 + (d - 48)) ds

-- 1 to n digits are a number where 32 bits hold it, and it ends after them; leading zeros are allowed
unfoldable pub as_number : ℕ → List ℕ → ℕ → Number
as_number n ds at = cond (leb 1 (length ds) && leb (length ds) n && leb (spelled 0 ds) 4294967295) (Value (spelled 0 ds) (at + length ds)) Malformed

-- the number at a position: all the digits that follow, n at most
unfoldable pub number_within : ℕ → List ℕ → ℕ → Number
number_within n text at = as_number n (leading (drop at text)) at

-- the number of 1 to 5 digits at a position; 32 bits hold each of these
abbrev pub decimal_at : List ℕ → ℕ → Number
decimal_at text at = number_within 5 text at

-- the number of 1 to 10 digits at a position, 4,294,967,295 at most
abbrev pub wide_at : List ℕ → ℕ → Number
wide_at text at = number_within 10 text at

-- the last n digits of x
unfoldable pub digits : ℕ → ℕ → List ℕ
digits zero x = []
digits (suc n) x = digits n (x / 10) ++ ((48 + x % 10) ∷ [])

-- how many digits x has, n being the most that are counted
unfoldable pub size : ℕ → ℕ → ℕ
size zero x = 0
size (suc n) x = cond (ltb x 10) 1 (suc (size n (x / 10)))

-- x in decimal without leading zeros; 32-bit numbers have at most 10 digits
unfoldable pub decimal : ℕ → List ℕ
decimal x = digits (size 10 x) x

-- words, a space before each
unfoldable pub spaced : List (List ℕ) → List ℕ
spaced [] = []
spaced (w ∷ ws) = 32 ∷ (w ++ spaced ws)

-- numbers, a space before each
unfoldable pub numbers : List ℕ → List ℕ
numbers xs = spaced (map decimal xs)
