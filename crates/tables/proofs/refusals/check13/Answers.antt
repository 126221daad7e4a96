-- The definition's own test.
use Rattle.tables.specs.Tables.{job_count}
use Rattle.tables.specs.Refusals.{check13}
use Rattle.tables.proofs.refusals.check13.Goals as goal

pub returns : goal.returns
unfolding job_count check13
returns c = c.refuse.ensures
