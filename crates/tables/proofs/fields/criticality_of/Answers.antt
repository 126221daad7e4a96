-- The field of the job's task, at its place.
use Rattle.tables.specs.Tables.{criticality, job_criticality}
use Rattle.tables.proofs.fields.criticality_of.Goals as goal

pub returns : goal.returns
unfolding criticality job_criticality
returns c = c.task_number.ensures
