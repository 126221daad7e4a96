-- Where a bit is set the lowest is below 64, and the word that is left is less.
use Rattle.std.proofs.Common.{arith, rules}
use Rattle.bits.proofs.Laws.Word.{lowest_set, without_lowest_less}
use Rattle.bits.proofs.SetBitsIterator.next.Goals as goal

pub returns-clause-steps : goal.returns-clause-steps
returns-clause-steps c =
    let set = lowest_set c.args.self.now.rest (omega arith) (omega arith) in
    record { below = omega (arith, set.0, c.lowest-p.ensures); some = omega arith; lowest = c.lowest-p.ensures; left = c.without_lowest-self.ensures }

pub returns-clause-goes : goal.returns-clause-goes
returns-clause-goes c =
    let less = without_lowest_less c.args.self.now.rest (omega arith) (omega arith) in
    record { on = λ _. omega (arith, less, c.without_lowest-self.ensures); keeps = search rules; rests = search rules }
