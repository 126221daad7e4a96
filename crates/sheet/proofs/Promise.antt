-- What is printed for a text, malformed or not; that 544,977 bytes are room for any listing; and that a text's first 1,845 bytes decide.
use Prim.Native.Nat.{ℕ, ◌*◌, ◌<◌, ◌≤◌}
use mathlib.Core.List.{List}
use mathlib.Core.Path.{ap, sym, ◌∙◌, ◌≡◌}
use native.Mathlib.Omega.{arith}
use native.Mathlib.Decide.{dec_le}
use lib.ListN.{length, take}
use lib.Seq.{length-take-le, take_all}
use Rattle.sheet.specs.declared.input.Sheet.{Sheet}
use Rattle.sheet.specs.Grammar.{Parsed, malformed, parsed, parsed_of}
use Rattle.sheet.specs.Listing.{given_listing, listing, parsed_listing, refused_line}
use Rattle.text.specs.Wrote.{Put, Wrote}
use Rattle.sheet.proofs.Laws.Runs.{given_length, refused_length}
use Rattle.sheet.proofs.Laws.WellFormed.{WellFormed, long}
use Rattle.zsrm.specs.Given.{given}
use Rattle.text.proofs.Laws.Put.{put_all, put_length}

pub listing_malformed : (s : List ℕ) → parsed_of s ≡ malformed → refused_line 14 0 ≡ listing s
unfolding listing
listing_malformed s e = rw e

pub listing_formed : (s : List ℕ) {sheet : Sheet} → WellFormed s sheet
    → given_listing (given sheet.mode (take (sheet.tasks * 7) sheet.table) (take (sheet.jobs * 3) sheet.list)) sheet.horizon ≡ listing s
unfolding listing
listing_formed s t = rw t.says

parsed_length : (p : Parsed) → length (parsed_listing p) ≤ 544977
parsed_length (parsed mode horizon tasks jobs) = given_length (given mode tasks jobs) horizon
parsed_length malformed = omega (arith, refused_length 14 0)

pub listing_length : (s : List ℕ) → length (listing s) ≤ 544977
unfolding listing
listing_length s = parsed_length (parsed_of s)

-- in 600,000 bytes all of it is written, and the position after it lies within them
pub listing_fits : (s : List ℕ) {l m : List ℕ} {k : ℕ} → 600000 ≤ length l → Put l 0 (listing s) m k → Wrote l 0 (listing s) m k × (k ≤ length m)
listing_fits s h w = (put_all w (omega (arith, listing_length s)), omega (arith, w.next_is, put_length w))

-- The listing is that of the text's first 1,845 bytes: one more than the longest well-formed text has. So nothing more need be read.
pub first_bytes_decide : (s : List ℕ) → listing (take 1845 s) ≡ listing s
first_bytes_decide s = by_length (dec_le (length s) 1845)
  where
    by_length : Dec (length s ≤ 1845) → listing (take 1845 s) ≡ listing s
    by_length (yes h) = ap listing (take_all 1845 s h)
    by_length (no h) =
        let more : 1845 < length s = omega arith in
        let cut = length-take-le 1845 s (omega arith) in
        sym (listing_malformed (take 1845 s) (long (take 1845 s) (omega arith))) ∙ listing_malformed s (long s (omega arith))
