use mathlib.Core.List.{List}
use mathlib.Core.Path.{subst, sym, ◌∙◌}
use native.Mathlib.Omega.{arith}
use Rattle.chain.specs.Table.{numbers_from}
use Rattle.chain.proofs.Laws.Table.{Laid, laid_all, laid_more, laid_none, length_numbers, numbers_at}
use Rattle.chain.proofs.table.decode.Goals as goal

pub loop-i-init : goal.loop-i-init
loop-i-init c =
    let a = c.args in
    let list = numbers_from a.file.now a.start a.n in
    subst (λ (out : List _). Laid 128 list out 0) (sym c.zeros-out.ensures) (laid_none 128 list)

pub overflow_mul-i : goal.overflow_mul-i
overflow_mul-i c = omega (arith, c.requires)

pub overflow_add-first : goal.overflow_add-first
overflow_add-first c = omega (arith, c.requires)

pub offset_bounds-out-i : goal.offset_bounds-out-i
offset_bounds-out-i c = omega (arith, c.requires)

pub bounds-out-i : goal.bounds-out-i
bounds-out-i c = omega (arith, c.loop-i.invariant.written.size, c.requires)

pub loop-i-preserved : goal.loop-i-preserved
loop-i-preserved c =
    let a = c.args in
    let long = length_numbers a.file.now a.start a.n in
    laid_more 128 (numbers_from a.file.now a.start a.n) c.loop-i.out c.loop-i.i _ (omega (arith, long, c.requires)) c.loop-i.invariant
    (omega (arith, long, c.loop-i-test.true))
    (c.number_at.ensures ∙ sym (numbers_at a.file.now a.start a.n c.loop-i.i c.loop-i-test.true))

pub returns : goal.returns
returns c =
    let a = c.args in
    laid_all 128 (numbers_from a.file.now a.start a.n) c.loop-i.out c.loop-i.i c.loop-i.invariant
    (omega (arith, length_numbers a.file.now a.start a.n, c.loop-i-test.false))
