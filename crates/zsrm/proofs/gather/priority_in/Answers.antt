-- The number of both scales, without the criticality.
use Prim.Native.Nat.{ℕ, ◌%◌}
use mathlib.Core.Path.{ap}
use Rattle.zsrm.specs.Code.Gathered.{priority_in}
use Rattle.zsrm.proofs.gather.priority_in.Goals as goal

pub returns : goal.returns
unfolding priority_in
returns c = ap (λ (x : ℕ). x % 64) c.scales_in.ensures
