-- Over 16 tasks are refused unread; else the table is read to room for 128 numbers, and that part of it is checked.
use mathlib.Core.Path.{ap, sym, ◌∙◌}
use native.Mathlib.Omega.{arith}
use lib.ListN.{length}
use lib.Seq.{length-take-le}
use Rattle.chain.specs.Table.{numbers_from}
use Rattle.chain.proofs.Laws.Reading.{table_many, table_passed, fields_shown}
use Rattle.chain.proofs.Laws.Table.{length_padded}
use Rattle.chain.proofs.reading.read_table.Goals as goal

pub returns-then-count-gt16 : goal.returns-then-count-gt16
returns-then-count-gt16 c =
    let a = c.args in
    c.passed_by.ensures ∙ table_many a.layout a.file.now a.trailer c.if-count-gt16.true

pub decode-fields-requires : goal.decode-fields-requires
decode-fields-requires c = omega (arith, c.numbers_of-n.ensures.most, c.if-count-gt16.false)

-- 16 tasks are at most 128 numbers
pub slice_bounds-fields-end : goal.slice_bounds-fields-end
slice_bounds-fields-end c =
    let a = c.args in
    omega (
      arith,
      ap length c.decode-fields.ensures
          ∙ length_padded 128 (numbers_from a.file.now a.trailer.start c.numbers_of-n.result),
      c.numbers_of-n.ensures.most,
      c.if-count-gt16.false,
    )

pub slice_bounds-check_table-end : goal.slice_bounds-check_table-end
slice_bounds-check_table-end c = sym (length-take-le _ _ (let a = c.args in omega (arith, ap length c.decode-fields.ensures ∙ length_padded 128 (numbers_from a.file.now a.trailer.start c.numbers_of-n.result), c.numbers_of-n.ensures.most, c.if-count-gt16.false)))

pub returns-in-Ok : goal.returns-in-Ok
returns-in-Ok c =
    let a = c.args in
    fields_shown a.layout a.file.now a.trailer _ _ c.numbers_of-n.ensures.is
    (omega (arith, c.numbers_of-n.ensures.most, c.if-count-gt16.false)) c.decode-fields.ensures _ c.check_table.ensures c.in-Ok.is

pub returns-in-Err : goal.returns-in-Err
returns-in-Err c =
    let a = c.args in
    c.passed_by-in-Err.ensures
    ∙ table_passed a.layout a.file.now a.trailer _ _ c.numbers_of-n.ensures.is
    (omega (arith, c.numbers_of-n.ensures.most, c.if-count-gt16.false)) c.decode-fields.ensures _ _ _ c.check_table.ensures c.in-Err.is
