-- `bits::lowest` meets its contract: below the lowest set bit stand the trailing zeros.
use Rattle.bits.proofs.Laws.Word.{lowest_bit}
use Rattle.bits.proofs.lowest.Statement.{statement}
use Rattle.bits.proofs.lowest.Tie as tie

pub lowest_spec : {M : Type 1} → statement M
lowest_spec = tie.close (tie.spec (λ c. lowest_bit c.args.w 64))
