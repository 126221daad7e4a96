use mathlib.Core.Bool.{not}
use mathlib.Core.Path.{ap, refl}
use native.Mathlib.Omega.{arith}
use Rattle.bits.specs.Below.{some}
use Rattle.zsrm.proofs.Laws.Underway.{repeats_end, repeats_met, repeats_on}
use borrow.Author.Tests.{eq-eqb, ne_eqb}
use Rattle.zsrm.proofs.claims.repeats.Goals as goal

pub loop-i-init : goal.loop-i-init
loop-i-init c = unfold some in refl

pub returns-then-schedule-t : goal.returns-then-schedule-t
returns-then-schedule-t c =
    let a = c.args in
    repeats_met a.schedule.now a.t a.entry a.most c.loop-i.i _ (omega arith) c.loop-i.invariant refl (ap not (ne_eqb _ _ c.if-schedule-t.true))

pub loop-i-preserved : goal.loop-i-preserved
loop-i-preserved c =
    let a = c.args in
    repeats_on a.schedule.now a.t a.entry a.most c.loop-i.i _ c.loop-i.invariant refl (ap not (eq-eqb _ _ c.if-schedule-t.false))

pub returns : goal.returns
returns c =
    let a = c.args in
    repeats_end a.schedule.now a.t a.entry a.most c.loop-i.i (omega arith) (omega arith) c.loop-i.invariant
