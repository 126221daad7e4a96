-- The bytes so far are put.
use lib.ListN.{take}
use Rattle.text.specs.Wrote.{Put}
use Rattle.text.proofs.put_text.Given as goal

abbrev pub invariant-loop-b : goal.invariant-loop-b
invariant-loop-b l = Put l.initial.out l.at (take l.b-index l.text) l.out l.k
