-- By the definition's own test; a difference below 0 is 0.
use borrow.Author.Tests.{eq-eqb, ne_eqb}
use Rattle.chain.specs.Trailer.{last_place}
use Rattle.chain.proofs.trailer.last_place.Goals as goal

pub returns-then-used-eq0 : goal.returns-then-used-eq0
unfolding last_place
returns-then-used-eq0 c = rw (eq-eqb _ _ c.if-used-eq0.true)

pub returns-else-used-eq0 : goal.returns-else-used-eq0
unfolding last_place
returns-else-used-eq0 c = rw (ne_eqb _ _ c.if-used-eq0.false, c.saturating_sub.ensures)
