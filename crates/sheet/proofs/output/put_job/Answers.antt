-- The word, the number, the verdict, the two last numbers and the newline, one behind the other.
use Rattle.sheet.proofs.Laws.Lines.{job_text}
use Rattle.text.proofs.Laws.Put.{put_more}
use Rattle.sheet.proofs.output.put_job.Goals as goal

pub returns : goal.returns
returns c =
    rw (← job_text _ _ _)
    (put_more c.put_text-a.ensures (put_more c.put_numbers-b.ensures (put_more c.put_verdict-c.ensures (put_more c.put_numbers-k.ensures c.put_byte.ensures))))
