-- The two bytes are stored, one behind the other.
use Rattle.std.proofs.Common.{arith, sym, ap, ◌∙◌, ◌≡◌, ◌∷◌, [], ◌%◌, ◌/◌, ◌+◌, ◌*◌, ◌≤◌, ℕ, length}
use Rattle.std.proofs.lemmas.List.Edits.{sets}
use Rattle.tables.specs.Bytes.{number_bytes}
use Rattle.tables.proofs.Laws.Bytes.{bytes2, middle_put, put_fits}
use Rattle.zsrm.proofs.bytes.put2.Goals as goal

pub returns : goal.returns
returns c =
    let a = c.args in
    let high : a.entry / 256 % 256 ≡ a.entry / 256 = omega arith in
    let stored : c.copy_from_slice.new.self ≡ number_bytes 2 a.entry =
    c.copy_from_slice.ensures.after ∙ c.to_le_bytes.ensures ∙ ap (λ (x : ℕ). a.entry % 256 ∷ x ∷ []) high ∙ sym (bytes2 a.entry) in
    let room : a.i * 2 + 2 ≤ length a.bytes.now = omega arith in
    middle_put a.bytes.now c.copy_from_slice.new.self (a.i * 2) _ (omega (arith, c.copy_from_slice.ensures.len)) (omega (arith, c.copy_from_slice.ensures.len))
    ∙ ap (sets a.bytes.now (a.i * 2)) stored ∙ sym (put_fits 2 a.bytes.now (a.i * 2) a.entry room)
