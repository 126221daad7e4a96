-- No level below q meets the set.
use mathlib.Core.Bool.{false}
use mathlib.Core.Path.{◌≡◌}
use Rattle.bits.specs.Below.{some}
use Rattle.zsrm.specs.Code.Masks.{meets_at}
use Rattle.zsrm.proofs.masks.top_of.Given as goal

abbrev pub invariant-loop-q : goal.invariant-loop-q
invariant-loop-q l = some l.q (meets_at l.masks l.among) ≡ false
