-- The checks and the fresh record, as the calls answer them.
use mathlib.Core.Path.{ap₂, ◌∙◌}
use Rattle.zsrm.specs.Answers.{ran, fresh_answer}
use Rattle.zsrm.proofs.record.Record.fresh.Goals as goal

pub returns : goal.returns
unfolding fresh_answer
returns c = c.or_blank.ensures ∙ ap₂ ran c.check_lists.ensures c.fresh_record.ensures
