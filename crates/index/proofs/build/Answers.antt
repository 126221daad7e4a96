-- What the checks find decides: the rows are written, or the index is as it was.
use mathlib.Core.Path.{sym, ◌∙◌, ◌≡◌}
use Rattle.tables.specs.Outcomes.{Done}
use Rattle.tables.proofs.Laws.Refusals.{handed_back}
use Rattle.index.specs.Answers.{build_answer}
use Rattle.index.specs.Counts.{plan}
use Rattle.index.proofs.Laws.Answers.{build_given, build_keeps, build_jobs_or_idle, build_length, build_writes}
use Rattle.index.proofs.Laws.Refusals.{given_checked, given_whole, sized}
use Rattle.index.proofs.build.Goals as goal

-- something is refused
pub returns-in_err-check_build : goal.returns-in_err-check_build
returns-in_err-check_build c =
    let e = sym c.check_build.ensures ∙ c.in_err-check_build.was in
    record { answers = handed_back c.in_err-check_build.was c.from_residual.ensures.1 ∙ c.check_build.ensures; writes = sym (build_keeps _ _ _ _ _ e) }

pub write_rows-requires : goal.write_rows-requires
write_rows-requires c =
    let a = c.args in
    let ok : build_answer (plan a.tasks.now a.jobs.now a.horizon) a.schedule.now a.index.now ≡ Done = sym c.check_build.ensures ∙ c.in_ok-check_build.was in
    let fine = build_given _ _ _ ok in
    record { checked = given_checked _ _ fine; sized = sized _ _ _ fine (build_length _ _ _ ok); schedule_len = given_whole _ _ fine; schedule_value = build_jobs_or_idle _ _ _ ok }

pub returns : goal.returns
returns c =
    let a = c.args in
    let ok : build_answer (plan a.tasks.now a.jobs.now a.horizon) a.schedule.now a.index.now ≡ Done = sym c.check_build.ensures ∙ c.in_ok-check_build.was in
    record { answers = sym ok; writes = c.write_rows.ensures ∙ sym (build_writes _ _ _ ok) }
