-- The four bytes are stored, one behind the other, where there is room for them.
use Rattle.std.proofs.Common.{arith, sym, ap, ◌∙◌, ◌≡◌, ◌∷◌, [], ◌%◌, ◌/◌, ◌+◌, ◌≤◌, ℕ, length}
use Rattle.std.proofs.lemmas.List.Edits.{sets}
use Rattle.tables.specs.Bytes.{number_bytes}
use Rattle.tables.proofs.Laws.Bytes.{bytes4, middle_put, put_fits, put_past}
use Rattle.tables.proofs.bytes.put_at.Goals as goal

pub returns-then-bytes-at : goal.returns-then-bytes-at
returns-then-bytes-at c = put_past 4 _ _ _ (omega (arith, c.if-bytes-at.true))

pub returns-then-bytes-at-lt4 : goal.returns-then-bytes-at-lt4
returns-then-bytes-at-lt4 c = put_past 4 _ _ _ (omega (arith, c.if-bytes-at-lt4.true))

pub returns : goal.returns
returns c =
    let a = c.args in
    let high : a.number / 16777216 % 256 ≡ a.number / 16777216 = omega arith in
    let stored : c.copy_from_slice.new.self ≡ number_bytes 4 a.number =
    c.copy_from_slice.ensures.after ∙ c.to_le_bytes.ensures ∙ ap (λ (x : ℕ). a.number % 256 ∷ a.number / 256 % 256 ∷ a.number / 65536 % 256 ∷ x ∷ []) high ∙ sym (bytes4 a.number) in
    let room : a.at + 4 ≤ length a.bytes.now = omega arith in
    middle_put a.bytes.now c.copy_from_slice.new.self a.at _ (omega (arith, c.copy_from_slice.ensures.len)) (omega (arith, c.copy_from_slice.ensures.len))
    ∙ ap (sets a.bytes.now a.at) stored ∙ sym (put_fits 4 a.bytes.now a.at a.number room)
