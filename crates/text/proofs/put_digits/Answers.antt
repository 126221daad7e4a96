use native.Mathlib.Omega.{arith}
use borrow.Author.Rules.{rules}
use Rattle.text.proofs.Laws.Writing.{ending_end, ending_first, ending_more, ending_room}
use Rattle.text.proofs.put_digits.Goals as goal

pub loop-rest-init : goal.loop-rest-init
loop-rest-init c = ending_first c.args.room.now c.args.x (search rules) (omega arith)

pub overflow_sub-i : goal.overflow_sub-i
overflow_sub-i c = ending_room c.loop-rest.invariant (search rules)

pub bounds-room-i : goal.bounds-room-i
bounds-room-i c = omega (arith, c.loop-rest.invariant.long)

pub loop-rest-smaller : goal.loop-rest-smaller
loop-rest-smaller c = omega (arith, ending_room c.loop-rest.invariant c.loop-rest-test.true)

pub loop-rest-preserved : goal.loop-rest-preserved
loop-rest-preserved c = ending_more c.loop-rest.invariant (search rules)

pub shape_of-room : goal.shape_of-room
shape_of-room c = omega (arith, c.loop-rest.invariant.long)

pub returns : goal.returns
returns c = (omega arith, ending_end c.loop-rest.invariant (search rules))
