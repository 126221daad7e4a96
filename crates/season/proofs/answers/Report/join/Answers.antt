-- What 18 finds decides; where it finds nothing, every row has room.
use mathlib.Core.Path.{sym, ◌∙◌}
use Rattle.season.proofs.Laws.Reports.{join_done, join_refused, joins, joins_room}
use Rattle.season.proofs.answers.Report.join.Goals as goal

pub join_reports-requires : goal.join_reports-requires
join_reports-requires c = joins_room _ _ (joins _ _ (sym c.check18.ensures ∙ c.in-Ok.is))

pub returns-in-Ok : goal.returns-in-Ok
returns-in-Ok c = join_done _ _ (sym c.check18.ensures ∙ c.in-Ok.is) _ c.join_reports.ensures

pub returns-in-Err : goal.returns-in-Err
returns-in-Err c = c.refused_report.ensures ∙ join_refused _ _ _ _ (sym c.check18.ensures ∙ c.in-Err.is)
