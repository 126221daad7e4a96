-- The word, the numbers, the responses and the newline, one behind the other.
use Rattle.season.proofs.Laws.Lines.{put_row}
use Rattle.text.proofs.Laws.Put.{put_more}
use Rattle.season.proofs.lines.put_row.Goals as goal

pub returns : goal.returns
returns c =
    let both = put_row c.args.k c.args.row c.divided.ensures.is c.divided.ensures.short
    (put_more c.put_text-a.ensures (put_more c.put_numbers-b.ensures (put_more c.put_responses-c.ensures c.put_byte.ensures))) in
    record { puts = both.0; few = both.1 }
