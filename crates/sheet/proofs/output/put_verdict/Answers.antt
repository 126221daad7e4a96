-- Three words, a space before each; the last for a late job only.
use Rattle.text.specs.Decimal.{spaced}
use Rattle.text.proofs.Laws.Put.{put_more}
use Rattle.sheet.proofs.output.put_verdict.Goals as goal

pub returns : goal.returns
unfolding spaced
returns c = put_more c.put_byte-a.ensures (put_more c.put_word-b.ensures (put_more c.put_byte-c.ensures (put_more c.put_instant-d.ensures c.put_late.ensures)))
