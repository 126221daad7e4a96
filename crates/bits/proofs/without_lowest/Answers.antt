-- `bits::without_lowest` meets its contract. 0 stays; of another word the lowest bit is set, and `^` takes it off.
use Rattle.std.proofs.Common.{arith, ◌≡◌, sym}
use Rattle.bits.proofs.Laws.Word.{lowest_set, without_lowest_none, without_lowest_xor}
use Rattle.bits.proofs.without_lowest.Goals as goal

pub returns-then-w-eq0 : goal.returns-then-w-eq0
returns-then-w-eq0 c = let z : c.args.w ≡ 0 = c.if-w-eq0.true in rw z (sym without_lowest_none)

pub overflow_shl-result : goal.overflow_shl-result
overflow_shl-result c = omega (arith, c.lowest.ensures, (lowest_set c.args.w c.ranges.w.fits (omega (arith, c.if-w-eq0.false))).0)

pub returns : goal.returns
returns c = rw c.lowest.ensures (without_lowest_xor c.args.w c.ranges.w.fits (omega (arith, c.if-w-eq0.false)))
