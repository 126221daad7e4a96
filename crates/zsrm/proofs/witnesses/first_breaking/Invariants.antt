-- No job below i breaks it.
use mathlib.Core.Bool.{false}
use mathlib.Core.Path.{◌≡◌}
use Rattle.bits.specs.Below.{some}
use Rattle.tables.specs.Tables.{lists}
use Rattle.zsrm.specs.Verdict.{breaks}
use Rattle.zsrm.proofs.witnesses.first_breaking.Given as goal

abbrev pub invariant-loop-i : goal.invariant-loop-i
invariant-loop-i l = some l.i (breaks (lists l.tasks l.jobs) l.j) ≡ false
