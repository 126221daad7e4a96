-- Each field is the number at its place.
use Rattle.tables.specs.Tables.{period, deadline, nominal, overload, criticality, priority, offset}
use Rattle.tables.proofs.fields.task_at.Goals as goal

pub returns : goal.returns
unfolding period deadline nominal overload criticality priority offset
returns c = cc
