-- The digits behind place i stand, and the last one of `rest` at it.
use Rattle.text.proofs.Laws.Writing.{Ending}
use Rattle.text.proofs.put_digits.Given as goal

abbrev pub invariant-loop-rest : goal.invariant-loop-rest
invariant-loop-rest l = Ending l.x l.room l.i l.rest

abbrev pub decreases-loop-rest : goal.decreases-loop-rest
decreases-loop-rest l = l.i
