-- By the definition's own test; the place is 32 bits long.
use borrow.Author.Tests.{eq-eqb, ne_eqb}
use Rattle.chain.specs.Trailer.{end_of}
use Rattle.chain.proofs.trailer.end_of.Goals as goal

pub returns-then-before-eq-NONE : goal.returns-then-before-eq-NONE
unfolding end_of
returns-then-before-eq-NONE c = rw (eq-eqb _ _ c.if-before-eq-NONE.true)

pub returns-else-before-eq-NONE : goal.returns-else-before-eq-NONE
unfolding end_of
returns-else-before-eq-NONE c = rw (ne_eqb _ _ c.if-before-eq-NONE.false)
