-- By whether a job has finished.
use borrow.Author.Tests.{le-ltb, lt-ltb}
use Rattle.season.specs.Extremes.{extremes_of}
use Rattle.season.proofs.means.extremes.Goals as goal

pub returns-then-row-gt0 : goal.returns-then-row-gt0
unfolding extremes_of
returns-then-row-gt0 c = rw (lt-ltb 0 _ c.if-row-gt0.true)

pub returns-else-row-gt0 : goal.returns-else-row-gt0
unfolding extremes_of
returns-else-row-gt0 c = rw (le-ltb 0 _ c.if-row-gt0.false)
