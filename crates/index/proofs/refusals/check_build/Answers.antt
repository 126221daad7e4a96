-- The first that is refused decides: the lists, the horizon and the schedule, the index's length, the entries. Those read lie within the
-- schedule.
use mathlib.Core.Path.{sym, ◌∙◌}
use native.Mathlib.Omega.{arith}
use lib.Seq.{length-take-le}
use Rattle.index.proofs.Laws.Refusals.{given_checked, given_short, given_whole}
use Rattle.index.proofs.refusals.check_build.Goals as goal

pub check_length-requires : goal.check_length-requires
check_length-requires c =
    let ok = sym c.check_schedule.ensures ∙ c.in_ok-check_schedule.was in
    ((given_checked _ _ ok).few, given_short _ _ ok)

pub slice_bounds-all_jobs_or_idle-end : goal.slice_bounds-all_jobs_or_idle-end
slice_bounds-all_jobs_or_idle-end c =
    let whole = given_whole _ _ (sym c.check_schedule.ensures ∙ c.in_ok-check_schedule.was) in
    sym (length-take-le _ _ (omega arith))
