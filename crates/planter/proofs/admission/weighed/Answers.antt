-- What the check of the longer list finds decides.
use mathlib.Core.Path.{sym, ◌∙◌}
use Rattle.planter.proofs.Laws.Changes.{admission_refused}
use Rattle.planter.proofs.admission.weighed.Goals as goal

pub compared-requires : goal.compared-requires
compared-requires c =
    let done = sym c.check_run.ensures ∙ c.in-Ok.is in
    record { horizon_value = c.requires done; horizon_value_2 = done }

pub returns-in-Err : goal.returns-in-Err
returns-in-Err c =
    let a = c.args in
    admission_refused a.mode a.jobs.now a.longer.now a.horizon _ _ _ (sym c.check_run.ensures ∙ c.in-Err.is) c.refused_admission.ensures
