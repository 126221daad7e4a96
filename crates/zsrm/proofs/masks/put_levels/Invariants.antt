-- The words of the tasks below k stand each at its level, which is below 16 as the task does not exceed itself.
use Rattle.zsrm.specs.Code.Masks.{MasksTo}
use Rattle.zsrm.proofs.masks.put_levels.Given as goal

abbrev pub invariant-loop-k : goal.invariant-loop-k
invariant-loop-k l = MasksTo l.of l.words l.n l.k 0 l.masks
