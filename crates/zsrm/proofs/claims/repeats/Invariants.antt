-- None of the first i entries from t on is another.
use mathlib.Core.Bool.{false}
use mathlib.Core.Path.{◌≡◌}
use Rattle.bits.specs.Below.{some}
use Rattle.zsrm.proofs.Laws.Underway.{stops}
use Rattle.zsrm.proofs.claims.repeats.Given as goal

abbrev pub invariant-loop-i : goal.invariant-loop-i
invariant-loop-i l = some l.i (stops l.schedule l.t l.entry l.most) ≡ false
