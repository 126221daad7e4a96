-- A length that is refused decides; else the numbers without labels are checked.
use Prim.Native.Nat.{◌*◌, ◌/◌, ◌≤◌}
use mathlib.Core.Path.{ap, sym, ◌∙◌}
use native.Mathlib.Omega.{arith}
use lib.ListN.{length}
use lib.Seq.{length-take-le}
use Rattle.tables.proofs.Laws.Refusals.{goes_on, stops}
use Rattle.chain.specs.Table.{unlabelled}
use Rattle.chain.proofs.Laws.Table.{labelled_checked, labelled_code, labelled_few, length_padded}
use Rattle.chain.proofs.table.check_labelled.Goals as goal

pub returns-in_err-refuse : goal.returns-in_err-refuse
returns-in_err-refuse c =
    stops _ _ c.refuse.ensures c.in_err-refuse.was c.from_residual.ensures.1 ∙ labelled_code c.args.table.now

pub unlabelled-sevens-requires : goal.unlabelled-sevens-requires
unlabelled-sevens-requires c = omega (arith, labelled_few c.args.table.now (sym c.refuse.ensures ∙ c.in_ok-refuse.was))

pub overflow_mul-n : goal.overflow_mul-n
overflow_mul-n c = omega (arith, labelled_few c.args.table.now (sym c.refuse.ensures ∙ c.in_ok-refuse.was))

-- 16 tasks are 112 numbers
pub slice_bounds-sevens-end : goal.slice_bounds-sevens-end
slice_bounds-sevens-end c =
    let a = c.args in
    omega (arith, ap length c.unlabelled-sevens.ensures ∙ length_padded 112 (unlabelled a.table.now), labelled_few a.table.now (sym c.refuse.ensures ∙ c.in_ok-refuse.was))

pub slice_bounds-check_tasks-end : goal.slice_bounds-check_tasks-end
slice_bounds-check_tasks-end c =
    let a = c.args in
    let fits : length a.table.now / 8 * 7 ≤ length c.unlabelled-sevens.result
    = omega (arith, ap length c.unlabelled-sevens.ensures ∙ length_padded 112 (unlabelled a.table.now), labelled_few a.table.now (sym c.refuse.ensures ∙ c.in_ok-refuse.was)) in
    sym (length-take-le _ _ fits)

pub returns : goal.returns
returns c =
    let a = c.args in
    let ok = sym c.refuse.ensures ∙ c.in_ok-refuse.was in
    goes_on _ _ c.refuse.ensures c.in_ok-refuse.was (c.check_tasks.ensures ∙ labelled_checked a.table.now ok _ c.unlabelled-sevens.ensures)
    ∙ labelled_code a.table.now
