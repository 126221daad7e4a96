-- `bits::without` meets its contract: what is in v and in w is taken out of v.
use Rattle.bits.proofs.Laws.Word.{without_xor}
use Rattle.bits.proofs.without.Statement.{statement}
use Rattle.bits.proofs.without.Tie as tie

pub without_spec : {M : Type 1} → statement M
without_spec = tie.close (tie.spec (λ c. without_xor c.args.v c.args.w c.ranges.v.fits c.ranges.w.fits))
