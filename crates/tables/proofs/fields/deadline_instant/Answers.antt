-- The field of the job's task, at its place.
use Rattle.tables.specs.Tables.{deadline, deadline_instant}
use Rattle.tables.proofs.fields.deadline_instant.Goals as goal

pub returns : goal.returns
unfolding deadline deadline_instant
returns c = c.after_arrival.ensures
