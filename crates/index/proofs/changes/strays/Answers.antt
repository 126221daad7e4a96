use Prim.Native.Nat.{ℕ, ◌+◌, ◌<◌, ◌≤◌}
use mathlib.Core.Path.{ap, sym, ◌∙◌, ◌≡◌}
use native.Mathlib.Omega.{arith}
use lib.ListN.{get_or, length}
use Rattle.tables.specs.Tables.{task_count}
use Rattle.index.specs.Refusals.{leaves}
use Rattle.index.specs.Rows.{index_number, row_count, row_width}
use Rattle.index.proofs.Laws.Changes.{strays_end, strays_found, strays_more, strays_none, strays_same}
use Rattle.index.proofs.Laws.Rows.{place_within}
use Rattle.index.proofs.changes.strays.Goals as goal

pub returns-then-old-new : goal.returns-then-old-new
returns-then-old-new c =
    let a = c.args in
    sym (strays_same a.given.tasks.now a.given.horizon a.index.now a.tick a.old a.new c.if-old-new.true)

pub loop-r-init : goal.loop-r-init
loop-r-init c =
    let a = c.args in
    (c.first_past-r.ensures.0, strays_none a.given.tasks.now a.given.horizon a.index.now a.tick a.old a.new c.first_past-r.result c.first_past-r.ensures.1)

pub row_at-at-requires : goal.row_at-at-requires
row_at-at-requires c =
    let size = c.requires.sized in
    (size.few, omega (arith, size.short, c.loop-r-test.true, c.row_count-r-end.ensures))

pub overflow_add-at : goal.overflow_add-at
overflow_add-at c = omega (arith, c.requires)

pub offset_bounds-index-at : goal.offset_bounds-index-at
offset_bounds-index-at c = omega (arith, c.requires)

pub bounds-index-at : goal.bounds-index-at
bounds-index-at c =
    let a = c.args in
    omega (arith, place_within (row_width a.given.tasks.now) (row_count a.given.horizon) c.loop-r.r a.old (omega (arith, c.row_count-r-end.ensures)) (omega (arith, c.requires.bound.0)), c.requires.sized.indexed, c.row_at-at.ensures.is)

pub overflow_add-at-in-loop-r : goal.overflow_add-at-in-loop-r
overflow_add-at-in-loop-r c = omega (arith, c.requires)

pub offset_bounds-index-at-in-loop-r : goal.offset_bounds-index-at-in-loop-r
offset_bounds-index-at-in-loop-r c = omega (arith, c.requires)

pub bounds-index-at-in-loop-r : goal.bounds-index-at-in-loop-r
bounds-index-at-in-loop-r c =
    let a = c.args in
    omega (arith, place_within (row_width a.given.tasks.now) (row_count a.given.horizon) c.loop-r.r a.new (omega (arith, c.row_count-r-end.ensures)) (omega (arith, c.requires.bound.1)), c.requires.sized.indexed, c.row_at-at.ensures.is)

pub returns-then-leaves : goal.returns-then-leaves
unfolding index_number
returns-then-leaves c =
    let there : c.loop-r.r < row_count c.args.given.horizon = omega (arith, c.loop-r-test.true, c.row_count-r-end.ensures) in
    sym (strays_found _ _ _ _ _ _ c.if-old-new.false c.loop-r.r there c.loop-r.invariant.0 (sym ((c.leaves.ensures ∙ ap (λ (p : ℕ). leaves c.args.given.horizon (get_or c.args.index.now (p + c.args.old) 0) (get_or c.args.index.now (p + c.args.new) 0)) c.row_at-at.ensures.is)) ∙ c.if-leaves.true))

pub loop-r-preserved : goal.loop-r-preserved
unfolding index_number
loop-r-preserved c = (omega (arith, c.loop-r.invariant.0), strays_more _ _ _ _ _ _ c.loop-r.r c.loop-r.invariant.1 (sym ((c.leaves.ensures ∙ ap (λ (p : ℕ). leaves c.args.given.horizon (get_or c.args.index.now (p + c.args.old) 0) (get_or c.args.index.now (p + c.args.new) 0)) c.row_at-at.ensures.is)) ∙ c.if-leaves.false))

pub returns : goal.returns
returns c =
    let a = c.args in
    let all : row_count a.given.horizon ≤ c.loop-r.r = omega (arith, c.loop-r-test.false, c.row_count-r-end.ensures) in
    sym (strays_end a.given.tasks.now a.given.horizon a.index.now a.tick a.old a.new c.loop-r.r all c.loop-r.invariant.1)
