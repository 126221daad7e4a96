-- All entries so far are this one.
use mathlib.Core.Bool.{false}
use mathlib.Core.Path.{◌≡◌}
use Rattle.bits.specs.Below.{some}
use Rattle.tables.specs.Bytes.{numbers_in}
use Rattle.zsrm.proofs.Laws.Underway.{stops}
use Rattle.zsrm.proofs.c_claim.same_until.Given as goal

abbrev pub invariant-loop-many : goal.invariant-loop-many
invariant-loop-many l = some l.many (stops (numbers_in 2 l.schedule) l.t l.entry l.k) ≡ false
