-- What is carried stands for what it stood for before the loop, as each job that is counted has come; and the loop ends at one that has not.
use Prim.Native.Nat.{◌-◌}
use Rattle.zsrm.specs.Code.Compact.{Onward}
use Rattle.zsrm.proofs.compact.arrive.Given as goal

abbrev pub invariant-loop-next : goal.invariant-loop-next
invariant-loop-next l = Onward l.g l.n l.t l.initial.next l.next

abbrev pub decreases-loop-next : goal.decreases-loop-next
decreases-loop-next l = l.n - l.next.came
