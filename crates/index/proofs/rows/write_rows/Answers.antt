use Prim.Native.Nat.{◌+◌, ◌*◌, ◌/◌, ◌≤◌}
use mathlib.Core.Path.{ap, refl, sym, ◌∙◌, ◌≡◌}
use native.Mathlib.Omega.{arith}
use lib.ListN.{take}
use Rattle.index.specs.Counts.{plan}
use Rattle.index.specs.Refusals.{built_from}
use Rattle.index.specs.Rows.{index_of, row_count, row_number, row_width}
use Rattle.index.proofs.Laws.Counts.{counts_none, jobs_or_idle_take}
use Rattle.index.proofs.Laws.Rows.{last_written, row_of_counts, row_within, row_written, rows_none}
use Rattle.index.proofs.rows.write_rows.Goals as goal

pub loop-r-init : goal.loop-r-init
loop-r-init c = (refl, rows_none _ _ _, sym (counts_none _))

-- row r is within the index
pub put_row-requires : goal.put_row-requires
put_row-requires c =
    let w = row_width c.args.given.tasks.now in
    let size = c.requires.sized in
    let room = row_within w (row_count c.args.given.horizon) c.loop-r.r (omega (arith, c.loop-r-test.true)) in
    record { tasks_bound = (size.few, omega (arith, size.short, c.loop-r-test.true)); tasks_in_bounds = omega (arith, room, size.indexed, c.loop-r.invariant.0) }

-- and its stretch within the schedule, all of whose entries are known
pub count_on-next-requires : goal.count_on-next-requires
unfolding built_from
count_on-next-requires c =
    let a = c.args in
    let h = a.given.horizon in
    let size = c.requires.sized in
    let whole = c.requires.schedule_len in record { checked = c.requires.checked; counts_value = c.loop-r.invariant.2; r_in_bounds = (omega (arith, c.loop-r-test.true, whole), omega (arith, size.short, whole)); schedule_value = jobs_or_idle_take a.given.jobs.now a.schedule.now (h / 64 * 64) ((c.loop-r.r + 1) * 64) c.requires.schedule_value (omega (arith, c.loop-r-test.true)) }

pub loop-r-preserved : goal.loop-r-preserved
loop-r-preserved c =
    let a = c.args in
    let g = plan a.given.tasks.now a.given.jobs.now a.given.horizon in
    let w = row_width a.given.tasks.now in
    let r = c.loop-r.r in
    let few : w ≤ 17 = omega (arith, c.requires.checked.few) in
    let row = ap (take w) c.loop-r.invariant.2 ∙ row_of_counts g a.schedule.now r w few in (
      c.index-1.given ∙ c.loop-r.invariant.0,
      c.put_row.ensures ∙ row_written w (row_number g a.schedule.now) r a.index.now c.loop-r.index c.loop-r.counts c.loop-r.invariant.1 row,
      c.count_on-next.ensures,
    )

pub put_row-requires-2 : goal.put_row-requires-2
put_row-requires-2 c =
    let w = row_width c.args.given.tasks.now in
    let size = c.requires.sized in
    let room = row_within w (row_count c.args.given.horizon) (c.args.given.horizon / 64) (omega arith) in
    record { tasks_bound = (size.few, omega (arith, size.short)); tasks_in_bounds = omega (arith, room, size.indexed, c.loop-r.invariant.0) }

pub shape_of-index : goal.shape_of-index
shape_of-index c = c.index-2-1.given ∙ c.loop-r.invariant.0

pub returns : goal.returns
unfolding index_of
returns c =
    let a = c.args in
    let g = plan a.given.tasks.now a.given.jobs.now a.given.horizon in
    let w = row_width a.given.tasks.now in
    let r = c.loop-r.r in
    let few : w ≤ 17 = omega (arith, c.requires.checked.few) in
    let row = ap (take w) c.loop-r.invariant.2 ∙ row_of_counts g a.schedule.now r w few in
    let all : r ≡ a.given.horizon / 64 = omega arith in
    c.put_row-2.ensures
    ∙ last_written w (row_number g a.schedule.now) (a.given.horizon / 64) r a.index.now c.loop-r.index c.loop-r.counts all c.requires.sized.indexed c.loop-r.invariant.1 row
