use borrow.Author.Rules.{rules}
use lib.Seq.{take_all}
use Rattle.text.proofs.Laws.Put.{put_length, put_next, put_none}
use Rattle.text.proofs.put_text.Goals as goal

pub loop-b-init : goal.loop-b-init
loop-b-init c = put_none _ _

pub loop-b-preserved : goal.loop-b-preserved
loop-b-preserved c = put_next c.args.text.now c.loop-b.invariant c.put_byte-k.ensures (search rules)

pub shape_of-out : goal.shape_of-out
shape_of-out c = put_length c.loop-b.invariant

pub returns : goal.returns
returns c = rw (take_all c.loop-b.b-index c.args.text.now (search rules)) at c.loop-b.invariant
