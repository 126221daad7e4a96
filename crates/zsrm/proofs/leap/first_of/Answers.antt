-- Each branch is the one that the test picks.
use borrow.Author.Tests.{le-ltb, lt-ltb}
use Rattle.zsrm.specs.Code.Underway.{first_in}
use Rattle.zsrm.proofs.leap.first_of.Goals as goal

pub returns-then-lowest-came : goal.returns-then-lowest-came
unfolding first_in
returns-then-lowest-came c = rw (← c.lowest-lowest.ensures, lt-ltb _ _ c.if-lowest-came.true)

pub returns-else-lowest-came : goal.returns-else-lowest-came
unfolding first_in
returns-else-lowest-came c = rw (← c.lowest-lowest.ensures, le-ltb _ _ c.if-lowest-came.false)
