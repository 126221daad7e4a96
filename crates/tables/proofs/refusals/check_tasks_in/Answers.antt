-- The bytes' count refuses, or the numbers that they spell are checked.
use Rattle.tables.specs.Bytes.{check_tasks_in, uneven}
use Rattle.tables.proofs.Laws.Refusals.{goes_on, stops}
use Rattle.tables.proofs.refusals.check_tasks_in.Goals as goal

pub returns-in_err-refuse : goal.returns-in_err-refuse
unfolding check_tasks_in uneven
returns-in_err-refuse c = stops _ _ c.refuse.ensures c.in_err-refuse.was c.from_residual.ensures.1

pub returns : goal.returns
unfolding check_tasks_in uneven
returns c = goes_on _ _ c.refuse.ensures c.in_ok-refuse.was c.check_tasks_of.ensures
