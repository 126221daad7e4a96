use Prim.Native.Nat.{ℕ, ◌≤◌}
use mathlib.Core.Bool.{Bool}
use mathlib.Core.Path.{◌≡◌}
use native.Mathlib.Omega.{arith}
use Rattle.std.specs.Prelude.{cond}
use Rattle.bits.proofs.Laws.Bools.{at_most_one}
use Rattle.zsrm.proofs.Laws.Mending.{others_all, others_more, others_most, others_none}
use Rattle.zsrm.proofs.mending.count_others.Goals as goal

pub loop-i-init : goal.loop-i-init
loop-i-init c = let a = c.args in others_none a.entries.now a.entry

small : (b : Bool) (n : ℕ) → n ≡ cond b 1 0 → n ≤ 1
small b n e = omega (arith, e, at_most_one b)

pub overflow_add-others : goal.overflow_add-others
overflow_add-others c =
    let a = c.args in
    omega (arith, others_most a.entries.now a.entry c.loop-i.i c.loop-i.others c.loop-i.invariant, small _ _ c.one_if-others.ensures, c.requires)

pub loop-i-preserved : goal.loop-i-preserved
loop-i-preserved c =
    let a = c.args in
    others_more a.entries.now a.entry c.loop-i.i c.loop-i.others _ (omega arith) c.loop-i.invariant (omega (arith, c.one_if-others.ensures))

pub returns : goal.returns
returns c =
    let a = c.args in
    others_all a.entries.now a.entry c.loop-i.i c.loop-i.others c.loop-i.invariant (omega arith)
