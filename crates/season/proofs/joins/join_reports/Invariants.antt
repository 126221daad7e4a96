-- The rows below k are joined, and those behind them 0.
use mathlib.Core.Path.{◌≡◌}
use Rattle.bits.proofs.Laws.Arrays.{Written}
use Rattle.season.specs.Reports.{joined_row, row_below, task_rows}
use Rattle.season.specs.Rows.{empty_row}
use Rattle.season.proofs.joins.join_reports.Given as goal

abbrev pub invariant-loop-k : goal.invariant-loop-k
invariant-loop-k l = (l.out.tasks ≡ l.a.tasks) × Written empty_row (row_below (task_rows l.a.tasks) (joined_row l.a l.b)) l.initial.out.rows l.out.rows 16 l.k
