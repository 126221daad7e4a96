-- Each of the two signs, and the number.
use Rattle.text.proofs.Laws.Put.{put_more}
use Rattle.sheet.proofs.output.put_by.Goals as goal

pub returns-then-exact : goal.returns-then-exact
returns-then-exact c = rw c.if-exact.true (put_more c.put_text-a.ensures c.put_number.ensures)

pub returns : goal.returns
returns c = rw c.if-exact.false (put_more c.put_text-a-2.ensures c.put_number-2.ensures)
