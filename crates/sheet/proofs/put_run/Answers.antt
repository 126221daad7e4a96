-- Line 1, the stretches and the jobs, one behind the other.
use Rattle.sheet.specs.Listing.{printed}
use Rattle.text.proofs.Laws.Put.{put_more}
use Rattle.sheet.proofs.put_run.Goals as goal

pub returns : goal.returns
unfolding printed
returns c = put_more c.put_head-a.ensures (put_more c.put_stretches-b.ensures c.put_jobs.ensures)
