use mathlib.Core.Path.{refl, ◌≡◌}
use native.Mathlib.Omega.{arith}
use Rattle.season.specs.Reports.{row_at, task_rows}
use Rattle.season.specs.Show.{row_lines, showing}
use Rattle.season.proofs.Laws.Lines.{lines_most, put_rows}
use Rattle.text.proofs.Laws.Put.{put_length, put_none}
use Rattle.season.proofs.lines.put_rows.Goals as goal

pub loop-k-init : goal.loop-k-init
unfolding row_lines
loop-k-init c = (omega arith, put_none _ _)

pub loop-k-preserved : goal.loop-k-preserved
unfolding row_at
loop-k-preserved c = (
  lines_most c.loop-k.k c.loop-k.at _ (omega arith) c.loop-k.invariant.0 c.put_row-at.ensures.few,
  put_rows c.args.report c.loop-k.k refl c.loop-k.invariant.1 c.put_row-at.ensures.puts,
)

pub shape_of-out : goal.shape_of-out
shape_of-out c = put_length c.loop-k.invariant.1

pub returns : goal.returns
unfolding showing
returns c =
    let last : c.loop-k.k ≡ task_rows c.args.report.tasks = omega arith in
    record { puts = rw last at c.loop-k.invariant.1; few = omega (arith, c.loop-k.invariant.0) }
