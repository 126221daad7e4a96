-- What the checks of the table find decides.
use mathlib.Core.Path.{sym, ◌∙◌}
use native.Mathlib.Omega.{arith}
use Rattle.tables.specs.Tables.{task_count}
use Rattle.tables.proofs.Laws.Accepted.{few_tasks}
use Rattle.season.proofs.Laws.Reports.{empty_done, empty_refused}
use Rattle.season.proofs.answers.Report.empty.Goals as goal

pub overflow_cast-tasks : goal.overflow_cast-tasks
unfolding task_count
overflow_cast-tasks c = omega (arith, few_tasks _ (sym c.check_tasks.ensures ∙ c.in-Ok.is))

pub returns-in-Ok : goal.returns-in-Ok
unfolding task_count
returns-in-Ok c = empty_done _ (sym c.check_tasks.ensures ∙ c.in-Ok.is) _ c.empty_report.ensures

pub returns-in-Err : goal.returns-in-Err
returns-in-Err c =
    c.refused_report.ensures
    ∙ empty_refused _ _ _ (sym c.check_tasks.ensures ∙ c.in-Err.is) _ c.empty_report-in-Err.ensures
