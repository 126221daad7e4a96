use native.Mathlib.Omega.{arith}
use Rattle.tables.specs.Bytes.{numbers_in}
use Rattle.zsrm.proofs.Laws.Claiming.{entry_read, same_met, same_on, same_start}
use Rattle.zsrm.proofs.Laws.Underway.{repeats_end}
use Rattle.zsrm.proofs.c_claim.same_until.Goals as goal

pub loop-many-init : goal.loop-many-init
loop-many-init c = let s = c.args in same_start (numbers_in 2 s.schedule.now) s.t s.entry s.k

pub returns-then-its-entry : goal.returns-then-its-entry
returns-then-its-entry c =
    let on = c.loop-many-test.true in
    same_met (numbers_in 2 c.args.schedule.now) c.args.t c.args.entry c.args.k c.loop-many.many _ on c.loop-many.invariant
    (entry_read c.args.schedule.now _ _ (omega arith) c.number2-its.ensures) c.if-its-entry.true

pub loop-many-preserved : goal.loop-many-preserved
loop-many-preserved c =
    let on = c.loop-many-test.true in
    same_on (numbers_in 2 c.args.schedule.now) c.args.t c.args.entry c.args.k c.loop-many.many _ c.loop-many.invariant
    (entry_read c.args.schedule.now _ _ (omega arith) c.number2-its.ensures) c.if-its-entry.false

pub returns : goal.returns
returns c = let s = c.args in repeats_end (numbers_in 2 s.schedule.now) s.t s.entry s.k c.loop-many.many (omega arith) (omega arith) c.loop-many.invariant
