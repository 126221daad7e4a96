-- The invariant: the jobs below j, of at most 64, pass, and what is kept of them is what the lists say. The first that does not pass is the
-- outcome.
use Prim.Native.Nat.{◌-◌, ◌≤◌}
use Rattle.tables.specs.Bytes.{numbers_in}
use Rattle.zsrm.proofs.Laws.Reading.{JobsRead}
use Rattle.zsrm.proofs.reading.read_jobs.Given as goal

abbrev pub invariant-loop-j : goal.invariant-loop-j
invariant-loop-j l = (l.j ≤ l.n) × (l.n ≤ 64) × JobsRead (numbers_in 4 l.tasks) (numbers_in 4 l.jobs) l.j l.noted l.above l.out l.words

abbrev pub decreases-loop-j : goal.decreases-loop-j
decreases-loop-j l = l.n - l.j
