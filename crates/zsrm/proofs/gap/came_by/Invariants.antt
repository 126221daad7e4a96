-- No job from the first on and below j is still to come.
use mathlib.Core.Bool.{false, ◌&&◌}
use mathlib.Core.Path.{◌≡◌}
use lib.Dec.{leb, ltb}
use Rattle.bits.specs.Below.{some}
use Rattle.zsrm.specs.Code.Gathered.{arrival_in}
use Rattle.zsrm.proofs.gap.came_by.Given as goal

abbrev pub invariant-loop-j : goal.invariant-loop-j
invariant-loop-j l = some l.j (λ i. leb l.first i && ltb l.t (arrival_in l.g i)) ≡ false
