-- Each sum has room; least and greatest are what `among` answers.
use native.Mathlib.Omega.{arith}
use Rattle.season.proofs.Laws.Rows.{join_made}
use Rattle.season.proofs.answers.Row.join.Goals as goal

pub overflow_add-result-3 : goal.overflow_add-result-3
overflow_add-result-3 c = omega (arith, c.requires)

pub overflow_add-result-4 : goal.overflow_add-result-4
overflow_add-result-4 c = omega (arith, c.requires)

pub overflow_add-result-5 : goal.overflow_add-result-5
overflow_add-result-5 c = omega (arith, c.requires)

pub overflow_add-result-6 : goal.overflow_add-result-6
overflow_add-result-6 c = omega (arith, c.requires)

pub returns : goal.returns
returns c = join_made _ _ c.min-low.ensures c.max-high.ensures c.among-least.ensures c.among-greatest.ensures
