-- The record is blank, and every other number is 0.
use Rattle.zsrm.specs.Answers.{refused_step}
use Rattle.zsrm.proofs.step.refused_step.Goals as goal

pub returns : goal.returns
unfolding refused_step
returns c = rw c.blank.ensures
