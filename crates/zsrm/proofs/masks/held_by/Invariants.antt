-- The loop has met the set bits of a front of the word, and joined what is less critical than each.
use mathlib.Core.Bool.{true}
use Rattle.bits.proofs.Laws.Sweep.{Swept}
use Rattle.zsrm.specs.Code.Masks.{less_of}
use Rattle.zsrm.proofs.Laws.Masks.{sweep_to}
use Rattle.zsrm.proofs.masks.held_by.Given as goal

abbrev pub invariant-loop-j : goal.invariant-loop-j
invariant-loop-j l = Swept (sweep_to (λ _. true) (less_of l.masks l.g) l.among) l.among l.j-iterator.rest l.held
