-- The loop has met the set bits of a front of the word: it has collected those past zero slack, and found the greatest criticality among them.
use lib.Dec.{leb}
use Rattle.bits.proofs.Laws.Sweep.{Swept, word_to, most_to}
use Rattle.zsrm.specs.Code.Gathered.{slack_in, criticality_in}
use Rattle.zsrm.proofs.look.past_of.Given as goal

abbrev pub invariant-loop-j : goal.invariant-loop-j
invariant-loop-j l = Swept (word_to (λ i. leb (slack_in l.g i) l.t) l.among) l.among l.j-iterator.rest l.jobs × Swept (most_to (λ i. leb (slack_in l.g i) l.t) l.among (criticality_in l.g)) l.among l.j-iterator.rest l.most.0
