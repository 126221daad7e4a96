-- Behind the levels stand the words of the tasks below k.
use Rattle.zsrm.specs.Code.Masks.{MasksTo}
use Rattle.zsrm.proofs.masks.put_less.Given as goal

abbrev pub invariant-loop-k : goal.invariant-loop-k
invariant-loop-k l = MasksTo l.of l.words l.n l.n l.k l.masks
