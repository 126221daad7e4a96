-- The test passed, or it failed.
use Rattle.tables.specs.Refusals.{refuse}
use Rattle.tables.proofs.refusals.refuse.Goals as goal

pub returns-then-test : goal.returns-then-test
unfolding refuse
returns-then-test c = rw c.if-test.true

pub returns-else-test : goal.returns-else-test
unfolding refuse
returns-else-test c = rw c.if-test.false
