-- Two ticks and the entry, a byte behind each.
use Rattle.sheet.specs.Listing.{behind_first, line, stretch}
use Rattle.text.proofs.Laws.Put.{put_more}
use Rattle.sheet.proofs.output.put_stretch.Goals as goal

pub returns : goal.returns
unfolding stretch line behind_first
returns c =
    put_more c.put_number-a.ensures (put_more c.put_byte-b.ensures (put_more c.put_number-c.ensures
    (put_more c.put_byte-d.ensures (put_more c.put_entry-k.ensures c.put_byte.ensures))))
