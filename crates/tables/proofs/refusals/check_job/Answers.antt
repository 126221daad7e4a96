-- The definitions' own tests, of a job of which all that is seen.
use Rattle.tables.proofs.Laws.Noted.{job_seen}
use Rattle.tables.proofs.Laws.Refusals.{goes_on, stops}
use Rattle.tables.proofs.refusals.check_job.Goals as goal

pub returns-in_err-refuse : goal.returns-in_err-refuse
returns-in_err-refuse c tasks jobs seen =
    rw (← job_seen tasks jobs _ _ _ _ _ _ seen) (stops _ _ c.refuse.ensures c.in_err-refuse.was c.from_residual.ensures.1)

pub returns-in_err-refuse-2 : goal.returns-in_err-refuse-2
returns-in_err-refuse-2 c tasks jobs seen =
    rw (← job_seen tasks jobs _ _ _ _ _ _ seen)
    (goes_on _ _ c.refuse.ensures c.in_ok-refuse.was (stops _ _ c.refuse-2.ensures c.in_err-refuse-2.was c.from_residual-in_err-refuse-2.ensures.1))

pub returns : goal.returns
returns c tasks jobs seen =
    rw (← job_seen tasks jobs _ _ _ _ _ _ seen)
    (goes_on _ _ c.refuse.ensures c.in_ok-refuse.was (goes_on _ _ c.refuse-2.ensures c.in_ok-refuse-2.was c.refuse-3.ensures))
