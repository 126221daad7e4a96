-- The three numbers of a job, each at its place.
use Rattle.tables.proofs.Laws.InBytes.{whole_job}
use Rattle.tables.proofs.bytes.whole_job.Goals as goal

pub returns : goal.returns
returns c = whole_job _ _ c.requires c.whole_number.ensures c.whole_number-2.ensures c.whole_number-3.ensures
