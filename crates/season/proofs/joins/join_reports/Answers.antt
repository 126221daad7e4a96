use mathlib.Core.Path.{ap}
use native.Mathlib.Omega.{arith}
use Rattle.bits.proofs.Laws.Arrays.{written_none}
use Rattle.season.specs.declared.answers.Report.{Report}
use Rattle.season.specs.Reports.{empty_report, row_at}
use Rattle.season.specs.Rows.{empty_row}
use Rattle.season.proofs.Laws.Reports.{joined_made, joined_more}
use Rattle.season.proofs.joins.join_reports.Goals as goal

pub loop-k-init : goal.loop-k-init
unfolding empty_report
loop-k-init c = (ap (λ (r : Report). r.tasks) c.empty_report-out.ensures, written_none empty_row _ _ 16 (rw c.empty_report-out.ensures))

pub join-requires : goal.join-requires
unfolding row_at
join-requires c = c.requires c.loop-k.k (omega arith)

pub loop-k-preserved : goal.loop-k-preserved
unfolding row_at
loop-k-preserved c =
    let a = c.args in (
      c.loop-k.invariant.0,
      joined_more a.a a.b _ c.loop-k.out.rows c.loop-k.k c.loop-k.invariant.1 _ (omega arith) c.join.ensures,
    )

pub returns : goal.returns
unfolding empty_report
returns c =
    let a = c.args in
    joined_made a.a a.b _ c.loop-k.out.rows c.loop-k.k c.loop-k.invariant.1 c.loop-k.out.tasks c.loop-k.invariant.0 (omega arith)
    (ap (λ (r : Report). r.rows) c.empty_report-out.ensures)
