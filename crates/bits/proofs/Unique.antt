-- Each contract leaves one answer: `Learnt` is what a function's contract says of the arguments and the result.
use Prim.Native.Nat.{ℕ}
use mathlib.Core.Path.{ap, sym, ◌∙◌, ◌≡◌}
use contract.Lifetimes.{Lfts}
use Rattle.bits.specs.declared.SetBits.{SetBits}
use Rattle.bits.proofs.each.Reads as each
use Rattle.bits.proofs.has_bit.Reads as has-bit
use Rattle.bits.proofs.highest.Reads as highest
use Rattle.bits.proofs.lowest.Reads as lowest
use Rattle.bits.proofs.one_if.Reads as one-if
use Rattle.bits.proofs.ones.Reads as ones
use Rattle.bits.proofs.with_bit.Reads as with-bit
use Rattle.bits.proofs.with_bit_if.Reads as with-bit-if
use Rattle.bits.proofs.without.Reads as without
use Rattle.bits.proofs.without_lowest.Reads as without-lowest

pub with_bit_one : (κs : Lfts 0) (a : _) (r s : _) (e f : _) → with-bit.Learnt κs a r e → with-bit.Learnt κs a s f → r ≡ s
with_bit_one κs a r s e f p q = p ∙ sym q

pub with_bit_if_one : (κs : Lfts 0) (a : _) (r s : _) (e f : _) → with-bit-if.Learnt κs a r e → with-bit-if.Learnt κs a s f → r ≡ s
with_bit_if_one κs a r s e f p q = p ∙ sym q

pub has_bit_one : (κs : Lfts 0) (a : _) (r s : _) (e f : _) → has-bit.Learnt κs a r e → has-bit.Learnt κs a s f → r ≡ s
has_bit_one κs a r s e f p q = p ∙ sym q

pub without_one : (κs : Lfts 0) (a : _) (r s : _) (e f : _) → without.Learnt κs a r e → without.Learnt κs a s f → r ≡ s
without_one κs a r s e f p q = p ∙ sym q

pub ones_one : (κs : Lfts 0) (a : _) (r s : _) (e f : _) → ones.Learnt κs a r e → ones.Learnt κs a s f → r ≡ s
ones_one κs a r s e f p q = p ∙ sym q

pub highest_one : (κs : Lfts 0) (a : _) (r s : _) (e f : _) → highest.Learnt κs a r e → highest.Learnt κs a s f → r ≡ s
highest_one κs a r s e f p q = p ∙ sym q

pub lowest_one : (κs : Lfts 0) (a : _) (r s : _) (e f : _) → lowest.Learnt κs a r e → lowest.Learnt κs a s f → r ≡ s
lowest_one κs a r s e f p q = p ∙ sym q

pub without_lowest_one : (κs : Lfts 0) (a : _) (r s : _) (e f : _) → without-lowest.Learnt κs a r e → without-lowest.Learnt κs a s f → r ≡ s
without_lowest_one κs a r s e f p q = p ∙ sym q

pub each_one : (κs : Lfts 0) (a : _) (r s : SetBits) (e f : _) → each.Learnt κs a r e → each.Learnt κs a s f → r ≡ s
each_one κs a r s e f p q = let of : ℕ → SetBits = λ w. record { rest = w } in ap of (p ∙ sym q)

pub one_if_one : (κs : Lfts 0) (a : _) (r s : _) (e f : _) → one-if.Learnt κs a r e → one-if.Learnt κs a s f → r ≡ s
one_if_one κs a r s e f p q = p ∙ sym q
