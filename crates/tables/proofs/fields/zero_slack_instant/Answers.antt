-- The field of the job's task, at its place.
use Rattle.tables.specs.Tables.{offset, zero_slack_instant}
use Rattle.tables.proofs.fields.zero_slack_instant.Goals as goal

pub returns : goal.returns
unfolding offset zero_slack_instant
returns c = c.after_arrival.ensures
