-- A schedule as long as the horizon is never refused for its length.
use mathlib.Core.Logic.{inl}
use mathlib.Core.Path.{refl, sym, ◌∙◌}
use Rattle.tables.specs.Tables.{lists}
use Rattle.tables.proofs.Laws.Accepted.{schedule_checked}
use Rattle.tables.proofs.Laws.Refusals.{goes_on, stops}
use Rattle.planter.specs.Table.{table}
use Rattle.planter.proofs.admission.check_run.Goals as goal

pub returns-in_err-check_lists : goal.returns-in_err-check_lists
returns-in_err-check_lists c =
    stops _ _ c.check_lists.ensures c.in_err-check_lists.was c.from_residual.ensures.1
    ∙ sym (schedule_checked (lists table c.args.jobs.now) c.args.horizon c.args.horizon (inl refl))

pub returns : goal.returns
returns c =
    goes_on _ _ c.check_lists.ensures c.in_ok-check_lists.was c.check9.ensures
    ∙ sym (schedule_checked (lists table c.args.jobs.now) c.args.horizon c.args.horizon (inl refl))
