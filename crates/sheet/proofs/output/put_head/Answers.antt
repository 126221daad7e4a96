-- The word, the mode letter and the horizon, one behind the other.
use Rattle.sheet.specs.Listing.{behind_first, line, run_line}
use Rattle.text.proofs.Laws.Put.{put_more}
use Rattle.sheet.proofs.output.put_head.Goals as goal

pub returns : goal.returns
unfolding run_line line behind_first
returns c =
    rw (← c.letter_of.ensures)
    (put_more c.put_text-a.ensures (put_more c.put_byte-b.ensures (put_more c.put_byte-c.ensures (put_more c.put_number-k.ensures c.put_byte.ensures))))
