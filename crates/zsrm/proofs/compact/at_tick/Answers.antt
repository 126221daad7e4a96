-- The jobs that come are counted; then, where the instant has come, those past it are dropped.
use Prim.Native.Nat.{ℕ, ◌<◌}
use mathlib.Core.Path.{subst, sym}
use native.Mathlib.Omega.{arith}
use Rattle.zsrm.specs.Code.Gathered.{arrival_in}
use Rattle.zsrm.proofs.Laws.Compact.{onward_then}
use Rattle.zsrm.proofs.compact.at_tick.Goals as goal

pub returns-then-next-t : goal.returns-then-next-t
returns-then-next-t c =
    let s = c.args in
    record { onward = onward_then s.g.now s.n s.t s.going c.arrive-next.result c.pruned.result c.arrive-next.ensures.onward (c.pruned.ensures.onward s.n (omega arith)); later = subst (λ (m : ℕ). m < s.n → s.t < arrival_in s.g.now m) (sym c.pruned.ensures.came) c.arrive-next.ensures.later; ahead = c.pruned.ensures.ahead }
