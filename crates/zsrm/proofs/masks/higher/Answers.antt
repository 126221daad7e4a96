use Prim.Native.Nat.{◌+◌}
use native.Mathlib.Omega.{arith}
use Rattle.zsrm.proofs.Laws.Masks.{higher_none, higher_more, higher_most}
use Rattle.zsrm.proofs.masks.higher.Goals as goal

pub loop-m-init : goal.loop-m-init
loop-m-init c = let s = c.args in higher_none s.of.now s.p.0

pub overflow_add-found : goal.overflow_add-found
overflow_add-found c =
    let s = c.args in omega (
      arith,
      higher_most s.of.now (c.loop-m.m + 1) s.p.0,
      higher_more s.of.now c.loop-m.m s.p.0 c.loop-m.found _ _ c.loop-m.invariant c.priority_at-its.ensures c.one_if-one.ensures,
    )

pub loop-m-preserved : goal.loop-m-preserved
loop-m-preserved c = let s = c.args in higher_more s.of.now c.loop-m.m s.p.0 c.loop-m.found _ _ c.loop-m.invariant c.priority_at-its.ensures c.one_if-one.ensures
