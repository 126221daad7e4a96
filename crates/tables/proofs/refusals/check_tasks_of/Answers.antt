use mathlib.Core.Path.{sym, ◌∙◌}
use borrow.Author.Rules.{rules}
use Rattle.bits.proofs.Laws.Bools.{failed}
use Rattle.tables.specs.Tables.{task_count}
use Rattle.tables.specs.Refusals.{outside, check2, check_tasks}
use Rattle.tables.proofs.Laws.Refusals.{all_passed, ascending_none, refuse_fine, still_done, stops, stops_at}
use Rattle.tables.proofs.refusals.check_tasks_of.Goals as goal

pub returns-in_err-refuse : goal.returns-in_err-refuse
unfolding task_count outside check2 check_tasks
returns-in_err-refuse g c = rw (sym c.size-size.ensures) (stops _ _ c.refuse.ensures c.in_err-refuse.was c.from_residual.ensures.1)

pub loop-k-init : goal.loop-k-init
loop-k-init g c =
    let counted = refuse_fine _ _ _ (sym c.refuse.ensures ∙ c.in_ok-refuse.was) in
    (search rules, search failed, ascending_none _)

pub returns-in_err-check_task : goal.returns-in_err-check_task
unfolding task_count outside check2 check_tasks
returns-in_err-check_task g c =
    rw (sym c.size-size.ensures)
    (stops_at _ _ _ _ c.refuse.ensures c.in_ok-refuse.was c.loop-k-test.true c.loop-k.invariant.2 (c.check_task.ensures _ c.task.ensures) c.in_err-check_task.was
    c.from_residual-in_err-check_task.ensures.1)

pub loop-k-preserved : goal.loop-k-preserved
loop-k-preserved g c = (
  search rules,
  search rules,
  still_done _ _ c.loop-k.invariant.2 (c.check_task.ensures _ c.task.ensures) c.in_ok-check_task.was,
)

pub returns : goal.returns
unfolding task_count outside check2 check_tasks
returns g c = rw (sym c.size-size.ensures) (all_passed _ _ _ _ c.refuse.ensures c.in_ok-refuse.was c.loop-k.invariant.0 c.loop-k-test.false c.loop-k.invariant.2)
