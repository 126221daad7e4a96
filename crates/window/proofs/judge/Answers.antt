-- What the checks find decides: the windows of the jobs that are gathered, or the refusal.
use Rattle.zsrm.specs.Given.{given}
use Rattle.window.proofs.Laws.Answers.{made_accepted, made_answer, made_refused}
use Rattle.window.proofs.Laws.Gathered.{gathered_rising}
use Rattle.window.proofs.Laws.Refusals.{accepted_few}
use Rattle.window.proofs.judge.Goals as goal

pub gather-requires : goal.gather-requires
gather-requires c =
    let a = c.args in
    let g = given a.mode a.tasks.now a.jobs.now in
    accepted_few g a.rec a.task a.m a.k
    (made_accepted g a.rec a.task a.m a.k _ c.verdicts-all.ensures _ c.check_judge.ensures c.in_ok-check_judge.was)

pub windows_from-requires : goal.windows_from-requires
windows_from-requires c =
    let a = c.args in
    let g = given a.mode a.tasks.now a.jobs.now in
    let w = made_accepted g a.rec a.task a.m a.k _ c.verdicts-all.ensures _ c.check_judge.ensures c.in_ok-check_judge.was in
    (gathered_rising _ _ _ c.gather.ensures, w.pair.least, w.pair.most)

pub returns : goal.returns
returns c =
    let a = c.args in
    let g = given a.mode a.tasks.now a.jobs.now in
    made_answer g a.rec a.task a.m a.k _ c.verdicts-all.ensures _ c.check_judge.ensures c.in_ok-check_judge.was _ c.gather.ensures _
    c.windows_from.ensures

pub returns-in_err-check_judge : goal.returns-in_err-check_judge
returns-in_err-check_judge c =
    let a = c.args in
    let g = given a.mode a.tasks.now a.jobs.now in
    made_refused g a.rec a.task a.m a.k _ c.verdicts-all.ensures _ c.check_judge.ensures c.in_err-check_judge.was c.from_residual.ensures.1
