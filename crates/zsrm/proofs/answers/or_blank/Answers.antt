-- In each outcome the definition's own case.
use Rattle.tables.specs.Refusals.{unless}
use Rattle.zsrm.specs.Answers.{ran}
use Rattle.zsrm.proofs.answers.or_blank.Goals as goal

pub returns-in-Ok : goal.returns-in-Ok
unfolding ran unless
returns-in-Ok c = rw c.in-Ok.is

pub returns-in-Err : goal.returns-in-Err
unfolding ran unless
returns-in-Err c = rw (c.in-Err.is, c.blank.ensures)
