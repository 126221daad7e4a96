use Prim.Native.Nat.{◌+◌, ◌/◌, ◌≤◌}
use mathlib.Core.Path.{ap, refl, ◌∙◌}
use native.Mathlib.Omega.{arith}
use lib.ListN.{length}
use borrow.Author.Rules.{rules}
use Rattle.tables.proofs.Laws.Accepted.{lists_few}
use Rattle.zsrm.specs.Code.Masks.{lowest_of}
use Rattle.zsrm.proofs.Laws.Calls.{call_fits}
use Rattle.zsrm.proofs.Laws.RunBytes.{running_all, running_more, running_none, running_one, running_room, running_within}
use Rattle.zsrm.proofs.c_run.run_bytes.Goals as goal

pub loop-t-init : goal.loop-t-init
loop-t-init c = (omega arith, running_none _ _ _ _ (lists_few _ c.requires.call.ok) refl refl)

pub overflow_cast-t : goal.overflow_cast-t
overflow_cast-t c = let b = (let lemma_short : length c.args.schedule.now / 2 ≤ 16384 = let b = c.requires.schedule_len_bound.0 in omega (arith, b) in lemma_short) in search rules

pub at_tick-here-requires : goal.at_tick-here-requires
at_tick-here-requires c = let f = call_fits _ _ _ _ _ c.requires.call in (omega (arith, c.loop-t-test.true, (let lemma_short : length c.args.schedule.now / 2 ≤ 16384 = let b = c.requires.schedule_len_bound.0 in omega (arith, b) in lemma_short)), f)

pub overflow_cast-t-in-loop-t : goal.overflow_cast-t-in-loop-t
overflow_cast-t-in-loop-t c = let b = (let lemma_short : length c.args.schedule.now / 2 ≤ 16384 = let b = c.requires.schedule_len_bound.0 in omega (arith, b) in lemma_short) in search rules

pub overflow_cast-ticks : goal.overflow_cast-ticks
overflow_cast-ticks c = let b = (let lemma_short : length c.args.schedule.now / 2 ≤ 16384 = let b = c.requires.schedule_len_bound.0 in omega (arith, b) in lemma_short) in search rules

pub reach_of-reach-requires : goal.reach_of-reach-requires
reach_of-reach-requires c = let f = call_fits _ _ _ _ _ c.requires.call in (c.loop-t-test.true, c.at_tick-here.ensures.ahead, f)

pub run_on-on-requires : goal.run_on-on-requires
run_on-on-requires c =
    let chose = c.lowest_of-entry.ensures ∙ ap (lowest_of _) c.eligible_of-eligible.ensures in
    let f = call_fits _ _ _ _ _ c.requires.call in (
      f,
      running_room _ _ _ _ _ c.requires.call _ _ _ _ _ c.loop-t.invariant.1 _ c.at_tick-here.ensures.onward c.at_tick-here.ensures.later c.at_tick-here.ensures.ahead _ chose _ c.loop-t-test.true
          ((let lemma_short : length c.args.schedule.now / 2 ≤ 16384 = let b = c.requires.schedule_len_bound.0 in omega (arith, b) in lemma_short)) _ c.reach_of-reach.ensures,
    )

pub fill_bytes-requires : goal.fill_bytes-requires
fill_bytes-requires c = omega (arith, (let lemma_within : c.loop-t.t + c.run_on-on.result.ticks ≤ length c.args.schedule.now / 2 = let chose = c.lowest_of-entry.ensures ∙ ap (lowest_of _) c.eligible_of-eligible.ensures in running_within _ _ _ _ _ c.requires.call _ _ _ _ _ c.loop-t.invariant.1 _ c.at_tick-here.ensures.onward c.at_tick-here.ensures.later c.at_tick-here.ensures.ahead _ chose _ c.loop-t-test.true ((let lemma_short : length c.args.schedule.now / 2 ≤ 16384 = let b = c.requires.schedule_len_bound.0 in omega (arith, b) in lemma_short)) _ c.reach_of-reach.ensures _ c.run_on-on.ensures.ticks in lemma_within), c.loop-t.invariant.1.written.long)

-- the tick behind it
pub overflow_add-t : goal.overflow_add-t
overflow_add-t c = let far = (let lemma_within : c.loop-t.t + c.run_on-on.result.ticks ≤ length c.args.schedule.now / 2 = let chose = c.lowest_of-entry.ensures ∙ ap (lowest_of _) c.eligible_of-eligible.ensures in running_within _ _ _ _ _ c.requires.call _ _ _ _ _ c.loop-t.invariant.1 _ c.at_tick-here.ensures.onward c.at_tick-here.ensures.later c.at_tick-here.ensures.ahead _ chose _ c.loop-t-test.true ((let lemma_short : length c.args.schedule.now / 2 ≤ 16384 = let b = c.requires.schedule_len_bound.0 in omega (arith, b) in lemma_short)) _ c.reach_of-reach.ensures _ c.run_on-on.ensures.ticks in lemma_within) in let b = (let lemma_short : length c.args.schedule.now / 2 ≤ 16384 = let b = c.requires.schedule_len_bound.0 in omega (arith, b) in lemma_short) in search rules

pub overflow_cast-t-in-loop-t-2 : goal.overflow_cast-t-in-loop-t-2
overflow_cast-t-in-loop-t-2 c = let far = (let lemma_within : c.loop-t.t + c.run_on-on.result.ticks ≤ length c.args.schedule.now / 2 = let chose = c.lowest_of-entry.ensures ∙ ap (lowest_of _) c.eligible_of-eligible.ensures in running_within _ _ _ _ _ c.requires.call _ _ _ _ _ c.loop-t.invariant.1 _ c.at_tick-here.ensures.onward c.at_tick-here.ensures.later c.at_tick-here.ensures.ahead _ chose _ c.loop-t-test.true ((let lemma_short : length c.args.schedule.now / 2 ≤ 16384 = let b = c.requires.schedule_len_bound.0 in omega (arith, b) in lemma_short)) _ c.reach_of-reach.ensures _ c.run_on-on.ensures.ticks in lemma_within) in let b = (let lemma_short : length c.args.schedule.now / 2 ≤ 16384 = let b = c.requires.schedule_len_bound.0 in omega (arith, b) in lemma_short) in search rules

pub kept-going-requires : goal.kept-going-requires
kept-going-requires c = (omega (arith, (let lemma_within : c.loop-t.t + c.run_on-on.result.ticks ≤ length c.args.schedule.now / 2 = let chose = c.lowest_of-entry.ensures ∙ ap (lowest_of _) c.eligible_of-eligible.ensures in running_within _ _ _ _ _ c.requires.call _ _ _ _ _ c.loop-t.invariant.1 _ c.at_tick-here.ensures.onward c.at_tick-here.ensures.later c.at_tick-here.ensures.ahead _ chose _ c.loop-t-test.true ((let lemma_short : length c.args.schedule.now / 2 ≤ 16384 = let b = c.requires.schedule_len_bound.0 in omega (arith, b) in lemma_short)) _ c.reach_of-reach.ensures _ c.run_on-on.ensures.ticks in lemma_within), (let lemma_short : length c.args.schedule.now / 2 ≤ 16384 = let b = c.requires.schedule_len_bound.0 in omega (arith, b) in lemma_short)))

pub overflow_add-t-in-loop-t : goal.overflow_add-t-in-loop-t
overflow_add-t-in-loop-t c = let far = (let lemma_within : c.loop-t.t + c.run_on-on.result.ticks ≤ length c.args.schedule.now / 2 = let chose = c.lowest_of-entry.ensures ∙ ap (lowest_of _) c.eligible_of-eligible.ensures in running_within _ _ _ _ _ c.requires.call _ _ _ _ _ c.loop-t.invariant.1 _ c.at_tick-here.ensures.onward c.at_tick-here.ensures.later c.at_tick-here.ensures.ahead _ chose _ c.loop-t-test.true ((let lemma_short : length c.args.schedule.now / 2 ≤ 16384 = let b = c.requires.schedule_len_bound.0 in omega (arith, b) in lemma_short)) _ c.reach_of-reach.ensures _ c.run_on-on.ensures.ticks in lemma_within) in let b = (let lemma_short : length c.args.schedule.now / 2 ≤ 16384 = let b = c.requires.schedule_len_bound.0 in omega (arith, b) in lemma_short) in search rules

pub loop-t-smaller : goal.loop-t-smaller
loop-t-smaller c = omega (arith, (let lemma_one : 1 ≤ c.run_on-on.result.ticks = let chose = c.lowest_of-entry.ensures ∙ ap (lowest_of _) c.eligible_of-eligible.ensures in running_one _ _ _ _ _ c.requires.call _ _ _ _ _ c.loop-t.invariant.1 _ c.at_tick-here.ensures.onward c.at_tick-here.ensures.later c.at_tick-here.ensures.ahead _ chose _ c.loop-t-test.true ((let lemma_short : length c.args.schedule.now / 2 ≤ 16384 = let b = c.requires.schedule_len_bound.0 in omega (arith, b) in lemma_short)) _ c.reach_of-reach.ensures _ c.run_on-on.ensures.ticks in lemma_one), (let lemma_within : c.loop-t.t + c.run_on-on.result.ticks ≤ length c.args.schedule.now / 2 = let chose = c.lowest_of-entry.ensures ∙ ap (lowest_of _) c.eligible_of-eligible.ensures in running_within _ _ _ _ _ c.requires.call _ _ _ _ _ c.loop-t.invariant.1 _ c.at_tick-here.ensures.onward c.at_tick-here.ensures.later c.at_tick-here.ensures.ahead _ chose _ c.loop-t-test.true ((let lemma_short : length c.args.schedule.now / 2 ≤ 16384 = let b = c.requires.schedule_len_bound.0 in omega (arith, b) in lemma_short)) _ c.reach_of-reach.ensures _ c.run_on-on.ensures.ticks in lemma_within))

pub loop-t-preserved : goal.loop-t-preserved
loop-t-preserved c =
    let chose = c.lowest_of-entry.ensures ∙ ap (lowest_of _) c.eligible_of-eligible.ensures in (
      (let lemma_within : c.loop-t.t + c.run_on-on.result.ticks ≤ length c.args.schedule.now / 2 = let chose = c.lowest_of-entry.ensures ∙ ap (lowest_of _) c.eligible_of-eligible.ensures in running_within _ _ _ _ _ c.requires.call _ _ _ _ _ c.loop-t.invariant.1 _ c.at_tick-here.ensures.onward c.at_tick-here.ensures.later c.at_tick-here.ensures.ahead _ chose _ c.loop-t-test.true ((let lemma_short : length c.args.schedule.now / 2 ≤ 16384 = let b = c.requires.schedule_len_bound.0 in omega (arith, b) in lemma_short)) _ c.reach_of-reach.ensures _ c.run_on-on.ensures.ticks in lemma_within),
      running_more _ _ _ _ _ c.requires.call _ _ _ _ _ c.loop-t.invariant.1 _ c.at_tick-here.ensures.onward c.at_tick-here.ensures.later c.at_tick-here.ensures.ahead _ chose _ c.loop-t-test.true
          ((let lemma_short : length c.args.schedule.now / 2 ≤ 16384 = let b = c.requires.schedule_len_bound.0 in omega (arith, b) in lemma_short)) _ c.reach_of-reach.ensures _ c.run_on-on.ensures.ticks _ _ _ _ c.run_on-on.ensures.alive refl refl refl c.run_on-on.ensures.done
          c.fill_bytes.ensures (omega arith) c.kept-going.ensures,
    )

pub shape_of-schedule : goal.shape_of-schedule
shape_of-schedule c = c.loop-t.invariant.1.written.long

pub returns : goal.returns
returns c = running_all _ _ _ _ _ _ _ _ _ _ c.requires.call c.loop-t.invariant.1 c.requires.schedule_len_bound.0 c.requires.schedule_len_bound.1 (omega (arith, c.loop-t.invariant.0, c.loop-t-test.false))
