-- What is noted, or what looking back finds.
use native.Mathlib.Omega.{arith}
use Rattle.tables.proofs.refusals.soonest.Goals as goal

pub bounds-noted-k : goal.bounds-noted-k
bounds-noted-k g c = omega (arith, c.requires.long)

pub returns-then-k-lt16 : goal.returns-then-k-lt16
returns-then-k-lt16 g c = c.requires.each _ c.if-k-lt16.true

pub returns-else-k-lt16 : goal.returns-else-k-lt16
returns-else-k-lt16 g c = c.looked_back.ensures
