use borrow.Author.Rules.{rules}
use lib.Seq.{take_all}
use Rattle.text.specs.Decimal.{numbers, spaced}
use Rattle.text.proofs.Laws.Put.{put_length, put_next_number, put_none}
use Rattle.text.proofs.put_numbers.Goals as goal

pub loop-x-init : goal.loop-x-init
unfolding numbers spaced
loop-x-init c = put_none _ _

pub loop-x-preserved : goal.loop-x-preserved
loop-x-preserved c = put_next_number c.args.xs.now c.loop-x.invariant c.put_byte-a.ensures c.put_number-k.ensures (search rules)

pub shape_of-out : goal.shape_of-out
unfolding numbers spaced
shape_of-out c = put_length c.loop-x.invariant

pub returns : goal.returns
returns c = rw (take_all c.loop-x.x-index c.args.xs.now (search rules)) at c.loop-x.invariant
