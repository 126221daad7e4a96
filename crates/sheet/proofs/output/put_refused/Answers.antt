-- The word, the two numbers and the newline.
use Rattle.text.specs.Decimal.{numbers}
use Rattle.sheet.specs.Listing.{line, refused_line}
use Rattle.sheet.proofs.Laws.Lines.{line_end}
use Rattle.text.proofs.Laws.Put.{put_more}
use Rattle.sheet.proofs.output.put_refused.Goals as goal

pub returns : goal.returns
unfolding refused_line line numbers
returns c = rw (← line_end) (put_more c.put_text-a.ensures (put_more c.put_numbers-b.ensures c.put_byte.ensures))
