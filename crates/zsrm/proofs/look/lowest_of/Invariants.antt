-- No set bit that the loop has met is a job of the priority.
use mathlib.Core.Bool.{false}
use lib.Dec.{eqb}
use Rattle.bits.proofs.Laws.Sweep.{Swept, some_to}
use Rattle.zsrm.specs.Code.Gathered.{priority_in}
use Rattle.zsrm.proofs.look.lowest_of.Given as goal

abbrev pub invariant-loop-j : goal.invariant-loop-j
invariant-loop-j l = Swept (some_to (λ i. eqb (priority_in l.g i) l.p.0) l.among) l.among l.j-iterator.rest false
