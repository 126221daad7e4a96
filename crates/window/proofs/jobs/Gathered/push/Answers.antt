-- The four fields, as the calls answer them; a test counts 1 or 0.
use Rattle.window.specs.Code.{with_job}
use Rattle.window.proofs.Laws.Gathered.{one_of}
use Rattle.window.proofs.jobs.Gathered.push.Goals as goal

pub returns : goal.returns
unfolding with_job
returns c = rw (one_of _ c.from.ensures, one_of _ c.from-2.ensures, c.is_missed.ensures, c.is_open.ensures)
