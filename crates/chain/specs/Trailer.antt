-- "Each followed by a trailer: byte place of its table's start, byte place of the preceding trailer (4,294,967,295 for none), layout number,
-- count of tasks. Every number is 32-bit little-endian": of the crate `tables`, `number_at 4` and, written, `bytes_of 4`.
use Rattle.std.specs.Prelude.{ℕ, ◌+◌, ◌-◌, ◌*◌, Bool, false, not, cond, List, [], ◌∷◌, eqb, Option, Some, None}
use Rattle.tables.specs.Bytes.{number_at}
use Rattle.chain.specs.declared.layout.Layout.{Layout}
use Rattle.chain.specs.declared.trailer.Trailer.{Trailer}
use Rattle.chain.specs.Layout.{width}

-- the place that means that there is no preceding trailer
abbrev pub none : ℕ
none = 4294967295

-- the trailer whose first byte is at a place
unfoldable pub trailer_at : List ℕ → ℕ → Trailer
trailer_at file at =
    record {
      start = number_at 4 file at;
      before = number_at 4 file (at + 4);
      layout = number_at 4 file (at + 8);
      count = number_at 4 file (at + 12);
    }

-- its four numbers, in this order
unfoldable pub trailer_numbers : Trailer → List ℕ
trailer_numbers t = t.start ∷ t.before ∷ t.layout ∷ t.count ∷ []

-- where the preceding trailer ends, byte 0 if there is none
unfoldable pub end_of : ℕ → ℕ
end_of place = cond (eqb place none) 0 (place + 16)

-- "In a layout the reader knows, its fields fill exactly the bytes up to that trailer": they do not.
unfoldable pub misfits : Option Layout → Trailer → ℕ → Bool
misfits (Some layout) t at = not (eqb (t.start + t.count * width layout * 4) at)
misfits None t at = false

-- "Reading starts at the last 16 bytes": the place of the last trailer, none where no byte is used.
unfoldable pub last_place : ℕ → ℕ
last_place used = cond (eqb used 0) none (used - 16)
