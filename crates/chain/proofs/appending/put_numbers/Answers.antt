use native.Mathlib.Omega.{arith}
use lib.ListN.{take}
use Rattle.bits.proofs.Laws.Lists.{sets_length}
use Rattle.tables.specs.Bytes.{bytes_of}
use Rattle.tables.proofs.Laws.Bytes.{put_all, put_more, put_none}
use Rattle.chain.proofs.appending.put_numbers.Goals as goal

pub loop-i-init : goal.loop-i-init
loop-i-init c = put_none 4 c.args.file.now c.args.numbers.now c.args.at

pub overflow_mul-i : goal.overflow_mul-i
overflow_mul-i c = omega (arith, c.requires)

pub overflow_add-at : goal.overflow_add-at
overflow_add-at c = omega (arith, c.requires)

pub offset_bounds-numbers-i : goal.offset_bounds-numbers-i
offset_bounds-numbers-i c = omega (arith, c.requires)

pub loop-i-preserved : goal.loop-i-preserved
loop-i-preserved c =
    let a = c.args in
    let next = c.loop-i-test.true in
    put_more 4 a.file.now a.numbers.now a.at c.loop-i.i next (omega (arith, c.requires, next)) c.loop-i.invariant c.put_at.ensures

pub overflow_mul-result : goal.overflow_mul-result
overflow_mul-result c = omega (arith, c.requires)

pub overflow_add-result : goal.overflow_add-result
overflow_add-result c = omega (arith, c.requires)

pub shape_of-file : goal.shape_of-file
shape_of-file c =
    let a = c.args in
    sets_length a.file.now (bytes_of 4 (take c.loop-i.i a.numbers.now)) a.at c.loop-i.invariant

pub returns : goal.returns
returns c =
    let a = c.args in
    record { writes = put_all 4 a.file.now a.numbers.now a.at c.loop-i.i (omega arith) c.loop-i.invariant; ends = omega arith }
