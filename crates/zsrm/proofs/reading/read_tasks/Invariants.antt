-- The invariant: the tasks below k, of at most 16, pass, and their numbers are in the list. The first that does not pass is the outcome.
use Prim.Native.Nat.{◌-◌, ◌≤◌}
use Rattle.tables.specs.Bytes.{numbers_in}
use Rattle.zsrm.proofs.Laws.Reading.{TasksRead}
use Rattle.zsrm.proofs.reading.read_tasks.Given as goal

abbrev pub invariant-loop-k : goal.invariant-loop-k
invariant-loop-k l = (l.k ≤ l.count) × (l.count ≤ 16) × TasksRead (numbers_in 4 l.tasks) l.of l.k

abbrev pub decreases-loop-k : goal.decreases-loop-k
decreases-loop-k l = l.count - l.k
