-- Each field is the number at its place.
use Rattle.tables.specs.Tables.{task_of, arrival, execution}
use Rattle.tables.proofs.fields.job_at.Goals as goal

pub returns : goal.returns
unfolding task_of arrival execution
returns c = cc
