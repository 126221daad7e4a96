use mathlib.Core.Path.{refl}
use native.Mathlib.Omega.{arith}
use Rattle.zsrm.proofs.Laws.Claiming.{entry_read, others_more, others_none}
use Rattle.zsrm.proofs.c_claim.differs.Goals as goal

pub loop-i-init : goal.loop-i-init
loop-i-init c = others_none _ _ _

pub loop-i-preserved : goal.loop-i-preserved
loop-i-preserved c =
    let on = c.loop-i-test.true in
    others_more _ _ _ c.loop-i.i c.loop-i.found _ _ c.loop-i.invariant (entry_read c.args.schedule.now _ _ (omega arith) c.number2-its.ensures) refl
