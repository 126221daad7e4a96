-- The changes of the jobs below j are there.
use Rattle.bits.proofs.Laws.Arrays.{Written}
use Rattle.planter.specs.Admission.{blank_change}
use Rattle.planter.specs.Code.{change_of}
use Rattle.planter.proofs.admission.changed.Given as goal

abbrev pub invariant-loop-j : goal.invariant-loop-j
invariant-loop-j l = Written blank_change (change_of l.old l.new) l.initial.out.changes l.out.changes 64 l.j
