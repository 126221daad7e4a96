-- What is found is 0 just where all entries so far are this one.
use mathlib.Core.Bool.{not}
use mathlib.Core.Path.{◌≡◌}
use lib.Dec.{eqb}
use Rattle.tables.specs.Bytes.{numbers_in}
use Rattle.zsrm.specs.Code.Calls.{others_in}
use Rattle.zsrm.proofs.c_claim.differs.Given as goal

abbrev pub invariant-loop-i : goal.invariant-loop-i
invariant-loop-i l = not (eqb l.found 0) ≡ others_in (numbers_in 2 l.schedule) l.t l.entry l.i
