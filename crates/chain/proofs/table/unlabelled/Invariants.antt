-- The first i numbers are laid; number i is that of task i / 7, of eight numbers, at place i % 7.
use Rattle.chain.specs.Table.{unlabelled}
use Rattle.chain.proofs.Laws.Table.{Laid}
use Rattle.chain.proofs.table.unlabelled.Given as goal

abbrev pub invariant-loop-i : goal.invariant-loop-i
invariant-loop-i l = Laid 112 (unlabelled l.table) l.out l.i
