-- The lines of the stretches that ended before tick t are written, and the stretch that stands has begun at `first`.
use Rattle.sheet.proofs.Laws.Lines.{Stretched}
use Rattle.sheet.proofs.output.put_stretches.Given as goal

abbrev pub invariant-loop-t : goal.invariant-loop-t
invariant-loop-t l = Stretched l.initial.out l.at l.schedule l.out l.first l.current l.k l.t
