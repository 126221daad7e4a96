-- What the library's run answers decides: the run's lines, or the refusal's.
use Rattle.sheet.proofs.Laws.Runs.{ran_judged, ran_listing, ran_short, refused_listing}
use Rattle.zsrm.specs.Given.{given}
use Rattle.sheet.proofs.put_given.Goals as goal

pub put_run-requires : goal.put_run-requires
put_run-requires c =
    let a = c.args in
    let g = given a.mode a.tasks.now a.jobs.now in
    let done = c.in-Ok.is in
    record { judgeable = ran_judged g a.horizon a.schedule.now c.run-ran.ensures.answers done; schedule_len_bound = ran_short g a.horizon a.schedule.now c.run-ran.ensures.answers done c.run-ran.ensures.writes }

pub returns-in-Ok : goal.returns-in-Ok
returns-in-Ok c =
    let a = c.args in
    let g = given a.mode a.tasks.now a.jobs.now in
    let done = c.in-Ok.is in
    rw (← ran_listing g a.horizon a.schedule.now c.run-ran.ensures.answers done c.run-ran.ensures.writes c.requires) c.put_run.ensures

pub returns-in-Err : goal.returns-in-Err
returns-in-Err c =
    let a = c.args in
    let g = given a.mode a.tasks.now a.jobs.now in
    rw (← refused_listing g a.horizon a.schedule.now c.run-ran.ensures.answers _ _ c.in-Err.is c.requires) c.put_refused.ensures
