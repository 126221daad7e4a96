-- What the calls on a report answer, refusals first: a refused call hands back the report as it was.
use Rattle.std.specs.Prelude.{ℕ, List}
use Rattle.tables.specs.Refusals.{before, check_tasks, unless}
use Rattle.tables.specs.Tables.{task_count}
use Rattle.tables.specs.Outcomes.{Outcome}
use Rattle.zsrm.specs.Answers.{check_verdicts}
use Rattle.zsrm.specs.Given.{Given}
use Rattle.zsrm.specs.declared.record.Record.{Record}
use Rattle.season.specs.Own.{own_report}
use Rattle.season.specs.Reports.{check18, empty_report, joined}
use Rattle.season.specs.declared.answers.Report.{Report}
use Rattle.season.specs.declared.answers.Reported.{Reported}

-- A refused call hands back the report as it was.
unfoldable pub reported : Outcome → Report → Report → Reported
reported outcome was made = record { outcome = outcome; report = unless outcome (λ number place. was) made }

unfoldable pub join_answer : Report → Report → Reported
join_answer a b = reported (check18 a b) a (joined a b)

-- Where the table is refused, there was no report: it is all 0.
unfoldable pub empty_answer : List ℕ → Reported
empty_answer tasks = reported (check_tasks tasks) (empty_report 0) (empty_report (task_count tasks))

-- Adding a run is joining its own report. The run is refused with 2 to 8 and 11, as its verdicts are, and 18 is last in order.
unfoldable pub add_answer : Report → Given → Record → Reported
add_answer report g run =
    reported (before (check_verdicts g run) (check18 report (own_report g.lists run))) report (joined report (own_report g.lists run))
