-- The loop has met the set bits of a front of the word, and joined what is less critical than each that is over.
use Rattle.bits.proofs.Laws.Sweep.{Swept}
use Rattle.zsrm.specs.Code.Masks.{less_of, over_in}
use Rattle.zsrm.proofs.Laws.Masks.{sweep_to}
use Rattle.zsrm.proofs.masks.ended_of.Given as goal

abbrev pub invariant-loop-j : goal.invariant-loop-j
invariant-loop-j l = Swept (sweep_to (over_in l.g l.done l.entry) (less_of l.masks l.g) l.among) l.among l.j-iterator.rest l.ended
