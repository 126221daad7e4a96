-- The field of the job's task, at its place.
use Rattle.tables.specs.Tables.{priority, job_priority}
use Rattle.tables.proofs.fields.priority_of.Goals as goal

pub returns : goal.returns
unfolding priority job_priority
returns c = c.task_number.ensures
