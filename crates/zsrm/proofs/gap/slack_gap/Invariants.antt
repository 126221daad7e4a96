-- The loop has met the set bits of a front of the word: it has gone no farther than their instants, and collected those that lie ahead.
use lib.Dec.{ltb}
use Rattle.bits.proofs.Laws.Sweep.{Swept, word_to}
use Rattle.zsrm.specs.Code.Gathered.{slack_in, slack_gap}
use Rattle.zsrm.proofs.gap.slack_gap.Given as goal

abbrev pub invariant-loop-j : goal.invariant-loop-j
invariant-loop-j l = Swept (slack_gap l.g l.early l.t l.most) l.early l.j-iterator.rest l.ticks × Swept (word_to (λ i. ltb l.t (slack_in l.g i)) l.early) l.early l.j-iterator.rest l.still
