use mathlib.Core.Path.{sym, ◌∙◌}
use native.Mathlib.Nat.{le_antisymm}
use native.Mathlib.Omega.{arith}
use borrow.Author.Rules.{rules}
use Rattle.bits.proofs.Laws.Bools.{failed}
use Rattle.tables.proofs.Laws.Refusals.{all_passed, refuse_fine, stop_apart, stops, stops_at}
use Rattle.zsrm.proofs.Laws.Reading.{task_fits, tasked, tasks_more, tasks_none, tasks_number, tasks_tested}
use Rattle.zsrm.proofs.reading.read_tasks.Goals as goal

pub returns-in_err-refuse : goal.returns-in_err-refuse
returns-in_err-refuse c =
    record { found = rw tasks_tested (stops _ _ c.refuse.ensures c.in_err-refuse.was c.from_residual.ensures.1); holds = λ e. stop_apart e c.from_residual.ensures.0 }

pub loop-k-init : goal.loop-k-init
loop-k-init c =
    let counted = refuse_fine _ _ _ (sym c.refuse.ensures ∙ c.in_ok-refuse.was) in
    (search rules, search failed, tasks_none _ _ (omega arith))

pub put_task-requires : goal.put_task-requires
put_task-requires c =
    let at = c.loop-k.invariant in (
      omega (arith, c.loop-k-test.true, at.1),
      task_fits _ _ _ _ c.task_in-task.ensures (c.check_task.ensures _ c.task_in-task.ensures) c.in_ok-check_task.was,
    )

pub loop-k-preserved : goal.loop-k-preserved
loop-k-preserved c =
    let at = c.loop-k.invariant in (
      search rules,
      search rules,
      tasks_more _ _ _ _ _ at.2 (omega (arith, c.loop-k-test.true, at.1)) c.task_in-task.ensures
          (c.check_task.ensures _ c.task_in-task.ensures) c.in_ok-check_task.was c.put_task.ensures,
    )

pub returns-in_err-check_task : goal.returns-in_err-check_task
returns-in_err-check_task c =
    record {
      found = rw tasks_tested
          (stops_at _ _ _ _ c.refuse.ensures c.in_ok-refuse.was c.loop-k-test.true c.loop-k.invariant.2.passed (c.check_task.ensures _ c.task_in-task.ensures)
          c.in_err-check_task.was c.from_residual-in_err-check_task.ensures.1);
      holds = λ e. stop_apart e c.from_residual-in_err-check_task.ensures.0;
    }

pub returns : goal.returns
returns c =
    let at = c.loop-k.invariant in
    record {
      found = rw tasks_tested (all_passed _ _ _ _ c.refuse.ensures c.in_ok-refuse.was at.0 c.loop-k-test.false at.2.passed);
      holds = λ _. tasked _ _ _ at.2 (le_antisymm at.0 c.loop-k-test.false ∙ tasks_number _);
    }
