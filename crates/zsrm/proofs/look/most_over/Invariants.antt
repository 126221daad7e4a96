-- The loop has met the set bits of a front of the word: it has found the greatest criticality among those that are over.
use Prim.Native.Nat.{ℕ, ◌+◌}
use mathlib.Core.Bool.{Bool, cond}
use lib.Dec.{eqb, ltb}
use Rattle.bits.proofs.Laws.Sweep.{Swept, most_to}
use Rattle.zsrm.specs.Record.{done_at}
use Rattle.zsrm.specs.declared.record.Record.{Record}
use Rattle.zsrm.specs.Code.Gathered.{criticality_in, nominal_in}
use mathlib.Core.List.{List}
use Rattle.zsrm.proofs.look.most_over.Given as goal

-- job i has done more than C, with one more where it is the entry
abbrev test : List ℕ → Record → ℕ → ℕ → Bool
test g r e i = ltb (nominal_in g i) (done_at r i + cond (eqb e i) 1 0)

abbrev pub invariant-loop-j : goal.invariant-loop-j
invariant-loop-j l = Swept (most_to (test l.g l.rec l.entry) l.among (criticality_in l.g)) l.among l.j-iterator.rest l.most.0
