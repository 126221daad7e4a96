use mathlib.Core.Path.{refl, subst, sym, ◌∙◌, ◌≡◌}
use mathlib.Core.List.{List}
use native.Mathlib.Omega.{arith}
use lib.ListN.{length}
use Rattle.zsrm.specs.declared.record.Record.{Record}
use Rattle.batch.specs.Runs.{offer}
use Rattle.batch.proofs.Laws.Refusals.{seventeen_leaves}
use Rattle.batch.proofs.Laws.Runs.{RunsMade, made_list, made_more, made_none, made_place, made_records, made_schedules}
use Rattle.batch.proofs.runs.run_lists.Goals as goal

pub loop-r-init : goal.loop-r-init
loop-r-init c =
    let lent = c.args.schedule.now in
    let o = offer c.args.given.mode c.args.given.tasks.now c.args.given.jobs.now c.args.given.counts.now c.args.given.horizon in
    (refl, subst (λ (l : List Record). RunsMade o lent lent l 0 0 0) (sym c.no_records-records.ensures) (made_none o lent))

pub overflow_add-to : goal.overflow_add-to
overflow_add-to c =
    let within = made_list _ _ (seventeen_leaves _ _ _ _ c.requires) c.loop-r.invariant.1 c.loop-r-test.true in
    omega (arith, c.list_length.ensures)

-- and its run's place within the schedule
pub overflow_add-end : goal.overflow_add-end
overflow_add-end c =
    let within = made_place _ _ (seventeen_leaves _ _ _ _ c.requires) c.loop-r.invariant.1 c.loop-r-test.true in
    omega arith

pub offset_bounds-given-from : goal.offset_bounds-given-from
offset_bounds-given-from c =
    let within = made_list _ _ (seventeen_leaves _ _ _ _ c.requires) c.loop-r.invariant.1 c.loop-r-test.true in
    omega (arith, c.list_length.ensures)

-- list r ends within the flat list
pub slice_bounds-run-end : goal.slice_bounds-run-end
slice_bounds-run-end c =
    let within = made_list _ _ (seventeen_leaves _ _ _ _ c.requires) c.loop-r.invariant.1 c.loop-r-test.true in
    omega (arith, c.list_length.ensures)

pub offset_bounds-schedule-at : goal.offset_bounds-schedule-at
offset_bounds-schedule-at c =
    let within = made_place _ _ (seventeen_leaves _ _ _ _ c.requires) c.loop-r.invariant.1 c.loop-r-test.true in
    omega (arith, c.loop-r.invariant.0)

pub slice_bounds-run-end-in-loop-r : goal.slice_bounds-run-end-in-loop-r
slice_bounds-run-end-in-loop-r c =
    let within = made_place _ _ (seventeen_leaves _ _ _ _ c.requires) c.loop-r.invariant.1 c.loop-r-test.true in
    omega (arith, c.loop-r.invariant.0)

pub offset_bounds-records-r : goal.offset_bounds-records-r
offset_bounds-records-r c = omega (arith, (seventeen_leaves _ _ _ _ c.requires).few, c.loop-r-test.true)

-- there is a record for each run
pub bounds-records-r : goal.bounds-records-r
bounds-records-r c = omega (arith, (seventeen_leaves _ _ _ _ c.requires).few, c.loop-r-test.true)

pub loop-r-preserved : goal.loop-r-preserved
loop-r-preserved c =
    let more = c.loop-r-test.true in
    let room = seventeen_leaves _ _ _ _ c.requires in
    (c.schedule-1.given.1 ∙ c.loop-r.invariant.0, made_more _ _ room c.loop-r.invariant.1 _ _ _ more c.list_length.ensures c.run-own.ensures.answers c.run-own.ensures.writes)

pub returns : goal.returns
returns c =
    let room = seventeen_leaves _ _ _ _ c.requires in
    let all : c.loop-r.r ≡ length c.args.given.counts.now = omega arith in
    record { records = made_records _ _ room c.loop-r.invariant.1 all; writes = made_schedules _ _ room c.loop-r.invariant.1 all }
