-- Bytes written into a buffer from a position on, and nothing else changed; the position after them. `sets` stores each byte that has a
-- place in the buffer, and no other.
use Rattle.std.specs.Prelude.{ℕ, ◌+◌, ◌-◌, min, ◌≡◌, List, length}
use Rattle.std.proofs.lemmas.List.Edits.{sets}

-- All of them, and the position is behind the last: said where the buffer has room for all, which is then said beside it.
pub record Wrote (before : List ℕ) (at : ℕ) (bytes : List ℕ) (after : List ℕ) (next : ℕ) : Type 0 where
  pub next_is : next ≡ at + length bytes
  pub after_is : after ≡ sets before at bytes

-- As many of them as there is room for; behind the buffer's end there is none.
pub record Put (before : List ℕ) (at : ℕ) (bytes : List ℕ) (after : List ℕ) (next : ℕ) : Type 0 where
  pub next_is : next ≡ at + min (length bytes) (length before - at)
  pub after_is : after ≡ sets before at bytes
