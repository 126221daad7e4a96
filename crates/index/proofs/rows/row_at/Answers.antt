-- At most 257 rows of at most 17 numbers.
use mathlib.Core.Path.{refl}
use native.Mathlib.Omega.{arith}
use Rattle.tables.specs.Tables.{task_count}
use Rattle.index.specs.Rows.{row_width}
use Rattle.index.proofs.Laws.Rows.{row_small}
use Rattle.index.proofs.rows.row_at.Goals as goal

pub overflow_mul-result : goal.overflow_mul-result
unfolding task_count
overflow_mul-result c = omega (arith, row_small (row_width c.args.given.tasks.now) c.args.r (omega arith) (omega arith))

pub returns : goal.returns
unfolding task_count
returns c = record { is = refl; small = row_small (row_width c.args.given.tasks.now) c.args.r (omega arith) (omega arith) }
