-- What the functions on 64-bit words answer, where `count` and `greatest` over the bits do not say it already.
-- A word is the number below 2 ^ 64 that it stands for.
use Rattle.std.specs.Prelude.{ℕ, not, ◌&&◌, ◌||◌, eqb, leb}
use Rattle.bits.specs.Below.{word, bit, least}

-- the word with bit p set too; a p of 64 or more names no bit, and the word is as it was
unfoldable pub with_bit : ℕ → ℕ → ℕ
with_bit w p = word 64 (λ q. bit w q || eqb q p)

-- the bits of the one word that the other lacks
unfoldable pub without : ℕ → ℕ → ℕ
without v w = word 64 (λ p. bit v p && not (bit w p))

-- the word without its lowest set bit
unfoldable pub without_lowest : ℕ → ℕ
without_lowest w = word 64 (λ p. bit w p && not (eqb p (least 64 (bit w) 64)))

-- the bits of the word at a and above
unfoldable pub from : ℕ → ℕ → ℕ
from w a = word 64 (λ p. leb a p && bit w p)
