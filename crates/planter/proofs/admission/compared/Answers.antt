-- Each list's verdicts are those at its run's record.
use native.Mathlib.Omega.{arith}
use Rattle.planter.proofs.Laws.Changes.{admission_made, longer_few}
use Rattle.planter.proofs.admission.compared.Goals as goal

pub overflow_cast-job_count : goal.overflow_cast-job_count
overflow_cast-job_count c =
    let a = c.args in
    let few = longer_few a.mode a.jobs.now a.longer.now a.horizon c.requires.horizon_value_2 in
    record { fits = omega (arith, few, c.job_count.ensures) }

pub returns : goal.returns
returns c =
    let a = c.args in
    admission_made a.mode a.jobs.now a.longer.now a.horizon c.requires.horizon_value_2 _ _ _ _ _ _ c.job_count.ensures
    c.verdicts-old.ensures c.run_to.ensures
    c.verdicts-new.ensures c.run_to-2.ensures c.changed.ensures
