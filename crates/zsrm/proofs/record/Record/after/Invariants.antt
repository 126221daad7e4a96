-- The places below j are the next ones, from the first on; the others are as they were.
use Rattle.zsrm.proofs.Laws.Next.{MadeUpTo}
use Rattle.zsrm.proofs.record.Record.after.Given as goal

abbrev pub invariant-loop-j : goal.invariant-loop-j
invariant-loop-j l = MadeUpTo l.g l.first l.last (record { tick = l.t; previous = l.initial.out.previous; places = l.initial.out.places }) l.k l.ticked l.out l.j
