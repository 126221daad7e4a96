-- The first i numbers are laid.
use Rattle.chain.specs.Table.{numbers_from}
use Rattle.chain.proofs.Laws.Table.{Laid}
use Rattle.chain.proofs.table.decode.Given as goal

abbrev pub invariant-loop-i : goal.invariant-loop-i
invariant-loop-i l = Laid 128 (numbers_from l.file l.start l.n) l.out l.i
