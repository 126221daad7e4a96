use Prim.Native.Nat.{◌<◌, ◌≤◌}
use native.Mathlib.Omega.{arith}
use lib.ListN.{length-set}
use Rattle.index.specs.Rows.{row_count}
use Rattle.index.proofs.Laws.Changes.{Turn, moving_all, moving_none, moving_same, turn}
use Rattle.index.proofs.changes.move_rows.Goals as goal

pub returns-then-old-new : goal.returns-then-old-new
returns-then-old-new c =
    let a = c.args in
    moving_same a.given.tasks.now a.index.now a.tick a.old a.new (row_count a.given.horizon) c.requires.sized.indexed c.if-old-new.true

pub loop-row-init : goal.loop-row-init
loop-row-init c =
    let a = c.args in
    (c.first_past-row.ensures.0, moving_none a.given.tasks.now a.index.now a.tick a.old a.new (row_count a.given.horizon) c.first_past-row.result c.first_past-row.ensures.1)

pub row_at-at-requires : goal.row_at-at-requires
row_at-at-requires c =
    let size = c.requires.sized in
    (size.few, omega (arith, size.short, c.loop-row-test.true, c.row_count-row-end.ensures))

pub overflow_add-index : goal.overflow_add-index
overflow_add-index c = omega (arith, c.requires)

pub offset_bounds-index-at : goal.offset_bounds-index-at
offset_bounds-index-at c = omega (arith, c.requires)

pub bounds-index-at : goal.bounds-index-at
bounds-index-at c = ((turn _ _ _ _ _ _ c.requires.sized c.requires.bound.0 c.requires.bound.1 c.if-old-new.false c.requires.value _ _ _ c.loop-row.invariant.1 (omega (arith, c.row_count-row-end.ensures)) c.loop-row.invariant.0 c.row_at-at.ensures.is)).place c.args.old c.requires.bound.0

pub overflow_sub-index : goal.overflow_sub-index
overflow_sub-index c = omega (arith, ((turn _ _ _ _ _ _ c.requires.sized c.requires.bound.0 c.requires.bound.1 c.if-old-new.false c.requires.value _ _ _ c.loop-row.invariant.1 (omega (arith, c.row_count-row-end.ensures)) c.loop-row.invariant.0 c.row_at-at.ensures.is)).loses)

pub bounds-index-at-in-loop-row : goal.bounds-index-at-in-loop-row
bounds-index-at-in-loop-row c = ((turn _ _ _ _ _ _ c.requires.sized c.requires.bound.0 c.requires.bound.1 c.if-old-new.false c.requires.value _ _ _ c.loop-row.invariant.1 (omega (arith, c.row_count-row-end.ensures)) c.loop-row.invariant.0 c.row_at-at.ensures.is)).place c.args.old c.requires.bound.0

pub overflow_add-index-in-loop-row : goal.overflow_add-index-in-loop-row
overflow_add-index-in-loop-row c = omega (arith, c.requires)

pub offset_bounds-index-at-in-loop-row : goal.offset_bounds-index-at-in-loop-row
offset_bounds-index-at-in-loop-row c = omega (arith, c.requires)

pub bounds-index-at-in-loop-row-2 : goal.bounds-index-at-in-loop-row-2
bounds-index-at-in-loop-row-2 c =
    let place = ((turn _ _ _ _ _ _ c.requires.sized c.requires.bound.0 c.requires.bound.1 c.if-old-new.false c.requires.value _ _ _ c.loop-row.invariant.1 (omega (arith, c.row_count-row-end.ensures)) c.loop-row.invariant.0 c.row_at-at.ensures.is)).place c.args.new c.requires.bound.1 in
    simp length-set (omega arith)

pub overflow_add-index-in-loop-row-2 : goal.overflow_add-index-in-loop-row-2
overflow_add-index-in-loop-row-2 c =
    let size = c.requires.sized in
    omega (arith, ((turn _ _ _ _ _ _ c.requires.sized c.requires.bound.0 c.requires.bound.1 c.if-old-new.false c.requires.value _ _ _ c.loop-row.invariant.1 (omega (arith, c.row_count-row-end.ensures)) c.loop-row.invariant.0 c.row_at-at.ensures.is)).gains, size.short)

pub bounds-index-at-in-loop-row-3 : goal.bounds-index-at-in-loop-row-3
bounds-index-at-in-loop-row-3 c =
    let place = ((turn _ _ _ _ _ _ c.requires.sized c.requires.bound.0 c.requires.bound.1 c.if-old-new.false c.requires.value _ _ _ c.loop-row.invariant.1 (omega (arith, c.row_count-row-end.ensures)) c.loop-row.invariant.0 c.row_at-at.ensures.is)).place c.args.new c.requires.bound.1 in
    simp length-set (omega arith)

pub loop-row-preserved : goal.loop-row-preserved
loop-row-preserved c = (omega (arith, c.loop-row.invariant.0), ((turn _ _ _ _ _ _ c.requires.sized c.requires.bound.0 c.requires.bound.1 c.if-old-new.false c.requires.value _ _ _ c.loop-row.invariant.1 (omega (arith, c.row_count-row-end.ensures)) c.loop-row.invariant.0 c.row_at-at.ensures.is)).moves)

pub shape_of-index : goal.shape_of-index
shape_of-index c = c.loop-row.invariant.1.size

pub returns : goal.returns
returns c =
    let a = c.args in
    let all : row_count a.given.horizon ≤ c.loop-row.row = omega (arith, c.loop-row-test.false, c.row_count-row-end.ensures) in
    moving_all a.given.tasks.now a.index.now a.tick a.old a.new (row_count a.given.horizon) c.loop-row.index c.loop-row.row c.requires.sized.indexed c.loop-row.invariant.1 all
