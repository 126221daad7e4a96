-- `bits::has_bit` meets its contract. Bit p is the last of the word shifted by p; a p of 64 or more names no bit.
use mathlib.Core.Path.{refl, sym}
use native.Mathlib.Omega.{arith}
use borrow.Author.Rules.{rules}
use Rattle.bits.specs.Below.{bit}
use Rattle.bits.proofs.Laws.Word.{bit_above}
use Rattle.bits.proofs.has_bit.Statement.{statement}
use Rattle.bits.proofs.has_bit.Tie as tie

pub has_bit_spec : {M : Type 1} → statement M
unfolding bit
has_bit_spec =
    tie.close
    (tie.spec (λ c. search rules) (λ c. refl) (λ c. sym (bit_above c.before.args.w 64 c.before.args.p c.before.ranges.w.fits (omega arith))))
