-- `bits::ones` meets its contract. A word is the word of its bits,
-- and the ones of a test's word are as many as pass.
use Rattle.bits.proofs.Laws.Word.{ones_bits}
use Rattle.bits.proofs.ones.Statement.{statement}
use Rattle.bits.proofs.ones.Tie as tie

pub ones_spec : {M : Type 1} → statement M
ones_spec = tie.close (tie.spec (λ c. ones_bits c.args.w 64 c.ranges.w.fits))
