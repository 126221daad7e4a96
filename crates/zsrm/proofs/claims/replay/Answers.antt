-- What the checks answer decides: what the walk finds, or the refusal.
use mathlib.Core.Path.{sym, ◌∙◌}
use native.Mathlib.Omega.{arith}
use Rattle.tables.proofs.Laws.Accepted.{accepted}
use Rattle.zsrm.proofs.Laws.Claims.{replay_illegal, replay_legal, replay_refused}
use Rattle.zsrm.proofs.claims.replay.Goals as goal

pub walk-walked-requires : goal.walk-walked-requires
walk-walked-requires c =
    let w = accepted _ _ _ (sym c.check_schedule.ensures ∙ c.in-Ok.is) in
    (w.lists, omega (arith, w.bounded, w.whole))

pub returns-then-walked-schedule : goal.returns-then-walked-schedule
returns-then-walked-schedule c = replay_legal _ _ _ _ c.walk-walked.ensures (sym c.check_schedule.ensures ∙ c.in-Ok.is) c.if-walked-schedule.true

pub returns-else-walked-schedule : goal.returns-else-walked-schedule
returns-else-walked-schedule c = replay_illegal _ _ _ _ c.walk-walked.ensures (sym c.check_schedule.ensures ∙ c.in-Ok.is) _ c.if-walked-schedule.false c.blank.ensures

pub returns-in-Err : goal.returns-in-Err
returns-in-Err c = replay_refused _ _ _ _ _ _ (sym c.check_schedule.ensures ∙ c.in-Err.is) c.blank-in-Err.ensures
