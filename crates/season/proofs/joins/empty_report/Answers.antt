-- The array is 16 times the row without jobs.
use borrow.Author.Rules.{rules}
use mathlib.Core.Path.{◌≡◌}
use Rattle.season.specs.declared.answers.Row.{Row}
use Rattle.season.specs.Reports.{empty_report}
use Rattle.season.specs.Rows.{empty_row}
use Rattle.season.proofs.joins.empty_report.Goals as goal

pub returns : goal.returns
unfolding empty_report
returns c =
    let e : ◌≡◌ {A = Row} c.default.result empty_row = search rules in
    rw e
