-- Where the call is refused before anything is read, that decides; else the tick is within the schedule, and the entries and rows do.
use mathlib.Core.Path.{sym, ◌∙◌}
use native.Mathlib.Omega.{arith}
use Rattle.index.proofs.Laws.Answers.{placed_given, placed_length, placed_tick}
use Rattle.index.proofs.Laws.Refusals.{given_checked, given_whole, sized}
use Rattle.index.proofs.changes.check_replace.Goals as goal

pub bounds-schedule-tick : goal.bounds-schedule-tick
bounds-schedule-tick c =
    let ok = sym c.check_placed.ensures ∙ c.in_ok-check_placed.was in
    omega (arith, placed_tick _ _ _ _ ok, given_whole _ _ (placed_given _ _ _ _ ok))

pub check_change-requires : goal.check_change-requires
check_change-requires c =
    let ok = sym c.check_placed.ensures ∙ c.in_ok-check_placed.was in
    let fine = placed_given _ _ _ _ ok in
    record { checked = given_checked _ _ fine; sized = sized _ _ _ fine (placed_length _ _ _ _ ok) }
