-- The number of both scales, without the priority.
use Prim.Native.Nat.{ℕ, ◌/◌}
use mathlib.Core.Path.{ap}
use Rattle.zsrm.specs.Code.Gathered.{criticality_in}
use Rattle.zsrm.proofs.gather.criticality_in.Goals as goal

pub returns : goal.returns
unfolding criticality_in
returns c = ap (λ (x : ℕ). x / 64) c.scales_in.ensures
