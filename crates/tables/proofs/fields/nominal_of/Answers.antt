-- The field of the job's task, at its place.
use Rattle.tables.specs.Tables.{nominal, job_nominal}
use Rattle.tables.proofs.fields.nominal_of.Goals as goal

pub returns : goal.returns
unfolding nominal job_nominal
returns c = c.task_number.ensures
