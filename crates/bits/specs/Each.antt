-- The set bits of a word one by one, from the lowest on: what a turn of a loop over them meets, and what is left behind it.
use Rattle.std.specs.Prelude.{ℕ, ◌<◌, ◌≡◌, Option, Some, None}
use Rattle.bits.specs.Below.{bit, least}
use Rattle.bits.specs.Word.{without_lowest}
use Rattle.bits.specs.declared.SetBits.{SetBits}

-- p is the lowest set bit of what is left, which is then left without it
pub record Meets (s : SetBits) (p : ℕ) (t : SetBits) : Type 0 where
  pub below : p < 64
  pub some : 0 < s.rest
  pub lowest : p ≡ least 64 (bit s.rest) 64
  pub left : t.rest ≡ without_lowest s.rest

-- there is one where a bit is set; where none is, none is left
abbrev pub Gives : SetBits → Option ℕ → SetBits → Type 0
Gives s None t = (s.rest ≡ 0) × (t.rest ≡ 0)
Gives s (Some p) t = Meets s p t
