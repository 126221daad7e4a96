-- The entry's own place, where it is one of the jobs.
use borrow.Author.Tests.{le-ltb, lt-ltb}
use Rattle.zsrm.specs.Record.{done_at, place_at}
use Rattle.zsrm.specs.Code.Underway.{done_in}
use Rattle.zsrm.proofs.leap.done_in.Goals as goal

pub returns-then-entry-n : goal.returns-then-entry-n
unfolding done_in done_at place_at
returns-then-entry-n c = rw (lt-ltb _ _ c.if-entry-n.true)

pub returns-else-entry-n : goal.returns-else-entry-n
unfolding done_in
returns-else-entry-n c = rw (le-ltb _ _ c.if-entry-n.false)
