-- The question is not refused, so both ends lie within the schedule, and each one's last row within the index; the tests of what they come
-- to are the definition's.
use mathlib.Core.Path.{ap₂, ◌∙◌}
use native.Mathlib.Omega.{arith}
use Rattle.index.specs.Code.{difference}
use Rattle.index.proofs.Laws.Answers.{asked_end, asked_range, between_ends}
use Rattle.index.proofs.ends.between_ends.Goals as goal

pub end_at-first-requires : goal.end_at-first-requires
end_at-first-requires c =
    let a = c.args in
    let fits = asked_end _ a.schedule.now a.index.now a.task a.a a.b c.requires a.a (asked_range _ _ _ a.task a.a a.b c.requires).0 in
    record { tasks_bound = fits.0; row_bound = fits.1.0; c_in_bounds = fits.1.1 }

pub end_at-second-requires : goal.end_at-second-requires
end_at-second-requires c =
    let a = c.args in
    let fits = asked_end _ a.schedule.now a.index.now a.task a.a a.b c.requires a.b (omega arith) in
    record { tasks_bound = fits.0; row_bound = fits.1.0; c_in_bounds = fits.1.1 }

pub returns : goal.returns
returns c =
    let a = c.args in
    c.difference.ensures ∙ ap₂ (difference a.given.horizon) c.end_at-first.ensures c.end_at-second.ensures
    ∙ between_ends _ a.schedule.now a.index.now a.task a.a a.b c.requires
