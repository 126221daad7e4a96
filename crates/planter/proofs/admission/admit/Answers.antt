-- A list with no room for the job is 5; else the longer list is written out, and weighed.
use mathlib.Core.Path.{sym}
use native.Mathlib.Omega.{arith}
use lib.Seq.{length-take-le}
use Rattle.planter.proofs.Laws.Shorter.{full_refused, written_admits, written_runs}
use Rattle.planter.proofs.admission.admit.Goals as goal

pub returns-then-jobs-gt189 : goal.returns-then-jobs-gt189
returns-then-jobs-gt189 c =
    let a = c.args in
    full_refused a.jobs.now a.task a.arrival a.execution a.mode a.horizon _ (omega arith) c.refused_admission.ensures

pub slice_bounds-weighed-end : goal.slice_bounds-weighed-end
slice_bounds-weighed-end c = sym (length-take-le _ _ (omega (arith, c.append_job-longer.ensures.long)))

pub weighed-requires : goal.weighed-requires
weighed-requires c =
    let a = c.args in
    written_runs a.jobs.now a.task a.arrival a.execution a.mode a.horizon _ c.append_job-longer.ensures.holds

pub returns : goal.returns
returns c =
    let a = c.args in
    written_admits a.jobs.now a.task a.arrival a.execution a.mode a.horizon _ c.append_job-longer.ensures.holds _ c.weighed.ensures
