-- What the checks of the run find decides; where they find nothing, the run's own report is joined.
use mathlib.Core.Path.{ap, sym, ◌∙◌}
use Rattle.zsrm.specs.Given.{given}
use Rattle.season.specs.Answers.{join_answer}
use Rattle.season.proofs.Laws.Own.{add_done, add_refused, run_checked, judged_run}
use Rattle.season.proofs.answers.Report.add.Goals as goal

pub own_report-requires : goal.own_report-requires
own_report-requires c =
    let a = c.args in
    let g = given a.mode a.tasks.now a.jobs.now in
    judged_run g a.run (sym (run_checked g a.run _ c.verdicts-all.ensures) ∙ c.in-Ok.is) _ c.verdicts-all.ensures

pub returns-in-Ok : goal.returns-in-Ok
returns-in-Ok c =
    let a = c.args in
    let g = given a.mode a.tasks.now a.jobs.now in
    add_done g a.run a.self _ (sym (run_checked g a.run _ c.verdicts-all.ensures) ∙ c.in-Ok.is)
    (c.join.ensures ∙ ap (join_answer a.self) c.own_report.ensures)

pub returns-in-Err : goal.returns-in-Err
returns-in-Err c =
    let a = c.args in
    let g = given a.mode a.tasks.now a.jobs.now in
    c.refused_report.ensures ∙ add_refused g a.run a.self _ _ (sym (run_checked g a.run _ c.verdicts-all.ensures) ∙ c.in-Err.is)
