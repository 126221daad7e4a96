use mathlib.Core.Path.{sym}
use native.Mathlib.Omega.{arith}
use Rattle.chain.specs.Table.{unlabelled}
use Rattle.chain.proofs.Laws.Table.{laid_all, laid_more, laid_none, length_unlabelled, unlabelled_at}
use Rattle.chain.proofs.table.unlabelled.Goals as goal

pub loop-i-init : goal.loop-i-init
loop-i-init c = laid_none 112 (unlabelled c.args.table.now)

pub overflow_mul-out : goal.overflow_mul-out
overflow_mul-out c = omega (arith, c.requires)

pub overflow_add-out : goal.overflow_add-out
overflow_add-out c = omega (arith, c.requires)

pub offset_bounds-table-i : goal.offset_bounds-table-i
offset_bounds-table-i c = omega (arith, c.requires)

pub offset_bounds-out-i : goal.offset_bounds-out-i
offset_bounds-out-i c = omega (arith, c.requires)

pub bounds-out-i : goal.bounds-out-i
bounds-out-i c = omega (arith, c.loop-i.invariant.written.size, c.requires)

pub loop-i-preserved : goal.loop-i-preserved
loop-i-preserved c =
    let a = c.args in
    let long = length_unlabelled a.table.now in
    laid_more 112 (unlabelled a.table.now) c.loop-i.out c.loop-i.i _ (omega (arith, long, c.requires)) c.loop-i.invariant
    (omega (arith, long, c.loop-i-test.true))
    (sym (unlabelled_at a.table.now c.loop-i.i c.loop-i-test.true))

pub returns : goal.returns
returns c =
    let a = c.args in
    laid_all 112 (unlabelled a.table.now) c.loop-i.out c.loop-i.i c.loop-i.invariant (omega (arith, length_unlabelled a.table.now, c.loop-i-test.false))
