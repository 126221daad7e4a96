-- The loop has met the set bits of a front of the word: it has collected those less critical than c, and the priorities of the others.
use mathlib.Core.Bool.{not}
use lib.Dec.{ltb}
use Rattle.bits.proofs.Laws.Sweep.{Swept, word_to, keys_to}
use Rattle.zsrm.specs.Code.Gathered.{criticality_in, priority_in}
use Rattle.zsrm.proofs.look.held_of.Given as goal

abbrev pub invariant-loop-j : goal.invariant-loop-j
invariant-loop-j l = Swept (word_to (λ i. ltb (criticality_in l.g i) l.c.0) l.among) l.among l.j-iterator.rest l.jobs × Swept (keys_to (λ i. not (ltb (criticality_in l.g i) l.c.0)) l.among (priority_in l.g)) l.among l.j-iterator.rest l.ready
