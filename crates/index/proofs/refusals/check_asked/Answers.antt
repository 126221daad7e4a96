-- The first that is refused decides: the lists, the horizon and the schedule, the range, the index's length, the task.
use mathlib.Core.Path.{sym, ◌∙◌}
use Rattle.index.proofs.Laws.Refusals.{given_checked, given_short}
use Rattle.index.proofs.refusals.check_asked.Goals as goal

pub check_length-requires : goal.check_length-requires
check_length-requires c =
    let ok = sym c.check_schedule.ensures ∙ c.in_ok-check_schedule.was in
    ((given_checked _ _ ok).few, given_short _ _ ok)
