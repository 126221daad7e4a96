-- `bits::with_bit` meets its contract. For p below 64 nothing is shifted out, and `|` sets the bit;
-- any other p names no bit, and the word is the word of its own bits.
use mathlib.Core.Path.{sym}
use native.Mathlib.Omega.{arith}
use borrow.Author.Rules.{rules}
use Rattle.bits.proofs.Laws.Word.{with_bit_or, with_bit_above}
use Rattle.bits.proofs.with_bit.Statement.{statement}
use Rattle.bits.proofs.with_bit.Tie as tie

pub with_bit_spec : {M : Type 1} → statement M
with_bit_spec =
    tie.close
    (tie.spec (λ c. search rules) (λ c. with_bit_or c.before.args.w c.before.args.p c.before.ranges.w.fits (omega arith))
    (λ c. sym (with_bit_above c.before.args.w c.before.args.p c.before.ranges.w.fits (omega arith))))
