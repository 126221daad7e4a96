-- What the loop over the early jobs answers: who of them is still early, and as far as none of their instants lies.
use Prim.Native.Nat.{ℕ, ◌+◌, ◌-◌}
use mathlib.Core.Path.{ap, refl}
use native.Mathlib.Omega.{arith}
use Rattle.zsrm.proofs.Laws.Compact.{pruned_ahead, pruned_onward, slack_within}
use Rattle.zsrm.proofs.compact.pruned.Goals as goal

pub overflow_add-result : goal.overflow_add-result
overflow_add-result c =
    let s = c.args in
    let b = slack_within s.g.now s.going.early s.t (65535 - s.t) in
    let x = c.slack_gap-ahead.ensures.ticks in
    record { fits = omega (arith, b, x) }

pub returns : goal.returns
returns c =
    let s = c.args in
    let x = ap (λ (k : ℕ). s.t + k) c.slack_gap-ahead.ensures.ticks in
    let e = c.slack_gap-ahead.ensures.early in
    record { onward = pruned_onward s.g.now s.t (65535 - s.t) s.going _ refl e refl x (omega arith); ahead = pruned_ahead s.g.now s.t (65535 - s.t) s.going _ refl e refl x (omega arith); came = refl }
