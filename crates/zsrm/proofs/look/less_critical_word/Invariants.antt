-- The loop has met the set bits of a front of the word: it has collected those less critical than c.
use lib.Dec.{ltb}
use Rattle.bits.proofs.Laws.Sweep.{Swept, word_to}
use Rattle.zsrm.specs.Code.Gathered.{criticality_in}
use Rattle.zsrm.proofs.look.less_critical_word.Given as goal

abbrev pub invariant-loop-j : goal.invariant-loop-j
invariant-loop-j l = Swept (word_to (λ i. ltb (criticality_in l.g i) l.c.0) l.among) l.among l.j-iterator.rest l.jobs
