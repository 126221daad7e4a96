use Prim.Native.Nat.{◌/◌}
use mathlib.Core.Path.{refl}
use native.Mathlib.Omega.{arith}
use lib.Dec.{eqb}
use lib.ListN.{length}
use borrow.Author.Rules.{rules}
use Rattle.zsrm.specs.Bytes.{given_bytes}
use Rattle.zsrm.proofs.Laws.Calls.{call_fits}
use Rattle.zsrm.proofs.Laws.Claiming.{claiming_ends, claiming_none, claiming_room, claiming_stops, claiming_turns, Turned}
use Rattle.zsrm.proofs.Laws.Masks.{zeros_read}
use Rattle.zsrm.proofs.c_claim.claim_bytes.Goals as goal

pub loop-t-init : goal.loop-t-init
loop-t-init c = (omega arith, claiming_none _ _ _ _ _ c.requires.call c.args.schedule.now c.requires.schedule_len_bound _ _ refl (λ j _. zeros_read 64 j) refl refl refl refl)

pub overflow_cast-t : goal.overflow_cast-t
overflow_cast-t c =
    let limit = c.requires.schedule_len_bound in
    let b = c.loop-t.invariant.0 in
    search rules

pub at_tick-seen-requires : goal.at_tick-seen-requires
at_tick-seen-requires c =
    let w = call_fits _ _ _ _ _ c.requires.call in
    let limit = c.requires.schedule_len_bound in
    let on = c.loop-t-test.true in
    (omega arith, w)

pub number2-entry-requires : goal.number2-entry-requires
number2-entry-requires c =
    let on = c.loop-t-test.true in
    omega (arith, on)

pub overflow_cast-t-then-may_stand : goal.overflow_cast-t-then-may_stand
overflow_cast-t-then-may_stand c =
    let limit = c.requires.schedule_len_bound in
    let b = c.loop-t.invariant.0 in
    search rules

pub overflow_cast-ticks : goal.overflow_cast-ticks
overflow_cast-ticks c =
    let limit = c.requires.schedule_len_bound in
    let b = c.loop-t.invariant.0 in
    search rules

pub reach_of-reach-requires : goal.reach_of-reach-requires
reach_of-reach-requires c =
    let w = call_fits _ _ _ _ _ c.requires.call in
    (c.loop-t-test.true, c.at_tick-seen.ensures.ahead, w)

pub run_on-ran-requires : goal.run_on-ran-requires
run_on-ran-requires c =
    let w = call_fits _ _ _ _ _ c.requires.call in (
      w,
      claiming_room _ _ _ _ _ c.requires.call c.args.schedule.now c.requires.schedule_len_bound c.loop-t.done c.loop-t.going c.loop-t.t c.loop-t.invariant.1 c.loop-t-test.true
          c.at_tick-seen.result c.at_tick-seen.ensures.onward c.at_tick-seen.ensures.later c.at_tick-seen.ensures.ahead _ _ c.reach_of-reach.ensures,
    )

pub differs-requires : goal.differs-requires
differs-requires c =
    let within = ((let lemma_turned : let a = c.args in Turned (given_bytes a.mode a.tasks.now a.jobs.now) a.g.now a.masks.now (length a.jobs.now / 12) (eqb a.mode 1) a.schedule.now c.loop-t.done c.at_tick-seen.result c.loop-t.t c.number2-entry.result c.run_on-ran.result.ticks = claiming_turns _ _ _ _ _ c.requires.call c.args.schedule.now c.requires.schedule_len_bound c.loop-t.done c.loop-t.going c.loop-t.t c.loop-t.invariant.1 c.loop-t-test.true c.at_tick-seen.result c.at_tick-seen.ensures.onward c.at_tick-seen.ensures.later c.at_tick-seen.ensures.ahead _ c.number2-entry.ensures _ c.eligible_of-eligible.ensures _ c.may_stand.ensures c.if-may_stand.true _ c.reach_of-reach.ensures _ c.run_on-ran.ensures.ticks in lemma_turned)).within in
    omega (arith, within)

pub same_until-requires : goal.same_until-requires
same_until-requires c =
    let within = ((let lemma_turned : let a = c.args in Turned (given_bytes a.mode a.tasks.now a.jobs.now) a.g.now a.masks.now (length a.jobs.now / 12) (eqb a.mode 1) a.schedule.now c.loop-t.done c.at_tick-seen.result c.loop-t.t c.number2-entry.result c.run_on-ran.result.ticks = claiming_turns _ _ _ _ _ c.requires.call c.args.schedule.now c.requires.schedule_len_bound c.loop-t.done c.loop-t.going c.loop-t.t c.loop-t.invariant.1 c.loop-t-test.true c.at_tick-seen.result c.at_tick-seen.ensures.onward c.at_tick-seen.ensures.later c.at_tick-seen.ensures.ahead _ c.number2-entry.ensures _ c.eligible_of-eligible.ensures _ c.may_stand.ensures c.if-may_stand.true _ c.reach_of-reach.ensures _ c.run_on-ran.ensures.ticks in lemma_turned)).within in
    omega (arith, within)

pub overflow_add-result : goal.overflow_add-result
overflow_add-result c =
    let w = (let lemma_turned : let a = c.args in Turned (given_bytes a.mode a.tasks.now a.jobs.now) a.g.now a.masks.now (length a.jobs.now / 12) (eqb a.mode 1) a.schedule.now c.loop-t.done c.at_tick-seen.result c.loop-t.t c.number2-entry.result c.run_on-ran.result.ticks = claiming_turns _ _ _ _ _ c.requires.call c.args.schedule.now c.requires.schedule_len_bound c.loop-t.done c.loop-t.going c.loop-t.t c.loop-t.invariant.1 c.loop-t-test.true c.at_tick-seen.result c.at_tick-seen.ensures.onward c.at_tick-seen.ensures.later c.at_tick-seen.ensures.ahead _ c.number2-entry.ensures _ c.eligible_of-eligible.ensures _ c.may_stand.ensures c.if-may_stand.true _ c.reach_of-reach.ensures _ c.run_on-ran.ensures.ticks in lemma_turned) in
    let limit = w.short in
    let before = w.before _ c.differs.ensures c.if-differs.true _ c.same_until.ensures in
    search rules

pub overflow_cast-result : goal.overflow_cast-result
overflow_cast-result c =
    let w = (let lemma_turned : let a = c.args in Turned (given_bytes a.mode a.tasks.now a.jobs.now) a.g.now a.masks.now (length a.jobs.now / 12) (eqb a.mode 1) a.schedule.now c.loop-t.done c.at_tick-seen.result c.loop-t.t c.number2-entry.result c.run_on-ran.result.ticks = claiming_turns _ _ _ _ _ c.requires.call c.args.schedule.now c.requires.schedule_len_bound c.loop-t.done c.loop-t.going c.loop-t.t c.loop-t.invariant.1 c.loop-t-test.true c.at_tick-seen.result c.at_tick-seen.ensures.onward c.at_tick-seen.ensures.later c.at_tick-seen.ensures.ahead _ c.number2-entry.ensures _ c.eligible_of-eligible.ensures _ c.may_stand.ensures c.if-may_stand.true _ c.reach_of-reach.ensures _ c.run_on-ran.ensures.ticks in lemma_turned) in
    let limit = w.short in
    let before = w.before _ c.differs.ensures c.if-differs.true _ c.same_until.ensures in
    search rules

pub overflow_add-result-then-differs : goal.overflow_add-result-then-differs
overflow_add-result-then-differs c =
    let w = (let lemma_turned : let a = c.args in Turned (given_bytes a.mode a.tasks.now a.jobs.now) a.g.now a.masks.now (length a.jobs.now / 12) (eqb a.mode 1) a.schedule.now c.loop-t.done c.at_tick-seen.result c.loop-t.t c.number2-entry.result c.run_on-ran.result.ticks = claiming_turns _ _ _ _ _ c.requires.call c.args.schedule.now c.requires.schedule_len_bound c.loop-t.done c.loop-t.going c.loop-t.t c.loop-t.invariant.1 c.loop-t-test.true c.at_tick-seen.result c.at_tick-seen.ensures.onward c.at_tick-seen.ensures.later c.at_tick-seen.ensures.ahead _ c.number2-entry.ensures _ c.eligible_of-eligible.ensures _ c.may_stand.ensures c.if-may_stand.true _ c.reach_of-reach.ensures _ c.run_on-ran.ensures.ticks in lemma_turned) in
    let limit = w.short in
    let before = w.before _ c.differs.ensures c.if-differs.true _ c.same_until.ensures in
    search rules

pub returns-then-differs : goal.returns-then-differs
returns-then-differs c = ((let lemma_turned : let a = c.args in Turned (given_bytes a.mode a.tasks.now a.jobs.now) a.g.now a.masks.now (length a.jobs.now / 12) (eqb a.mode 1) a.schedule.now c.loop-t.done c.at_tick-seen.result c.loop-t.t c.number2-entry.result c.run_on-ran.result.ticks = claiming_turns _ _ _ _ _ c.requires.call c.args.schedule.now c.requires.schedule_len_bound c.loop-t.done c.loop-t.going c.loop-t.t c.loop-t.invariant.1 c.loop-t-test.true c.at_tick-seen.result c.at_tick-seen.ensures.onward c.at_tick-seen.ensures.later c.at_tick-seen.ensures.ahead _ c.number2-entry.ensures _ c.eligible_of-eligible.ensures _ c.may_stand.ensures c.if-may_stand.true _ c.reach_of-reach.ensures _ c.run_on-ran.ensures.ticks in lemma_turned)).breaks _ c.differs.ensures c.if-differs.true _ c.same_until.ensures

pub overflow_add-t : goal.overflow_add-t
overflow_add-t c =
    let w = (let lemma_turned : let a = c.args in Turned (given_bytes a.mode a.tasks.now a.jobs.now) a.g.now a.masks.now (length a.jobs.now / 12) (eqb a.mode 1) a.schedule.now c.loop-t.done c.at_tick-seen.result c.loop-t.t c.number2-entry.result c.run_on-ran.result.ticks = claiming_turns _ _ _ _ _ c.requires.call c.args.schedule.now c.requires.schedule_len_bound c.loop-t.done c.loop-t.going c.loop-t.t c.loop-t.invariant.1 c.loop-t-test.true c.at_tick-seen.result c.at_tick-seen.ensures.onward c.at_tick-seen.ensures.later c.at_tick-seen.ensures.ahead _ c.number2-entry.ensures _ c.eligible_of-eligible.ensures _ c.may_stand.ensures c.if-may_stand.true _ c.reach_of-reach.ensures _ c.run_on-ran.ensures.ticks in lemma_turned) in
    let limit = w.short in
    let within = w.within in
    search rules

pub loop-t-smaller : goal.loop-t-smaller
loop-t-smaller c =
    let w = (let lemma_turned : let a = c.args in Turned (given_bytes a.mode a.tasks.now a.jobs.now) a.g.now a.masks.now (length a.jobs.now / 12) (eqb a.mode 1) a.schedule.now c.loop-t.done c.at_tick-seen.result c.loop-t.t c.number2-entry.result c.run_on-ran.result.ticks = claiming_turns _ _ _ _ _ c.requires.call c.args.schedule.now c.requires.schedule_len_bound c.loop-t.done c.loop-t.going c.loop-t.t c.loop-t.invariant.1 c.loop-t-test.true c.at_tick-seen.result c.at_tick-seen.ensures.onward c.at_tick-seen.ensures.later c.at_tick-seen.ensures.ahead _ c.number2-entry.ensures _ c.eligible_of-eligible.ensures _ c.may_stand.ensures c.if-may_stand.true _ c.reach_of-reach.ensures _ c.run_on-ran.ensures.ticks in lemma_turned) in
    omega (arith, w.one, w.within)

pub loop-t-preserved : goal.loop-t-preserved
loop-t-preserved c =
    let w = (let lemma_turned : let a = c.args in Turned (given_bytes a.mode a.tasks.now a.jobs.now) a.g.now a.masks.now (length a.jobs.now / 12) (eqb a.mode 1) a.schedule.now c.loop-t.done c.at_tick-seen.result c.loop-t.t c.number2-entry.result c.run_on-ran.result.ticks = claiming_turns _ _ _ _ _ c.requires.call c.args.schedule.now c.requires.schedule_len_bound c.loop-t.done c.loop-t.going c.loop-t.t c.loop-t.invariant.1 c.loop-t-test.true c.at_tick-seen.result c.at_tick-seen.ensures.onward c.at_tick-seen.ensures.later c.at_tick-seen.ensures.ahead _ c.number2-entry.ensures _ c.eligible_of-eligible.ensures _ c.may_stand.ensures c.if-may_stand.true _ c.reach_of-reach.ensures _ c.run_on-ran.ensures.ticks in lemma_turned) in
    (w.within, w.on _ c.differs.ensures c.if-differs.false _ _ c.run_on-ran.ensures.alive refl refl refl c.run_on-ran.ensures.done)

pub overflow_cast-result-else-may_stand : goal.overflow_cast-result-else-may_stand
overflow_cast-result-else-may_stand c =
    let limit = c.requires.schedule_len_bound in
    let b = c.loop-t.invariant.0 in
    search rules

pub overflow_add-result-else-may_stand : goal.overflow_add-result-else-may_stand
overflow_add-result-else-may_stand c =
    let limit = c.requires.schedule_len_bound in
    let b = c.loop-t.invariant.0 in
    search rules

pub returns-else-may_stand : goal.returns-else-may_stand
returns-else-may_stand c =
    claiming_stops _ _ _ _ _ c.requires.call c.args.schedule.now c.requires.schedule_len_bound c.loop-t.done c.loop-t.going c.loop-t.t c.loop-t.invariant.1 c.loop-t-test.true
    c.at_tick-seen.result c.at_tick-seen.ensures.onward c.at_tick-seen.ensures.later c.at_tick-seen.ensures.ahead _ c.number2-entry.ensures _ c.eligible_of-eligible.ensures _ c.may_stand.ensures c.if-may_stand.false

pub returns : goal.returns
returns c = claiming_ends _ _ _ _ _ c.requires.call c.args.schedule.now c.requires.schedule_len_bound c.loop-t.done c.loop-t.going c.loop-t.t c.loop-t.invariant.1 c.loop-t.invariant.0 (omega arith)
