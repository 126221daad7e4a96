-- What the checks find decides: the runs, or blank records and the list as it was.
use Rattle.batch.specs.Runs.{offer}
use Rattle.batch.proofs.Laws.Answers.{answer_17, answer_done, answer_refused, schedule_done, schedule_kept}
use Rattle.batch.proofs.run_each.Goals as goal

pub run_lists-requires : goal.run_lists-requires
run_lists-requires c =
    let a = c.args in
    let o = offer a.mode a.tasks.now a.jobs.now a.counts.now a.horizon in
    answer_17 o a.schedule.now _ c.check_batch.ensures c.in-Ok.is

pub returns-in-Ok : goal.returns-in-Ok
returns-in-Ok c =
    let a = c.args in
    let o = offer a.mode a.tasks.now a.jobs.now a.counts.now a.horizon in record {
      answers = answer_done o a.schedule.now _ c.check_batch.ensures c.in-Ok.is _ c.run_lists.ensures.records;
      writes = schedule_done o a.schedule.now _ c.check_batch.ensures c.in-Ok.is _ c.run_lists.ensures.writes;
    }

pub returns-in-Err : goal.returns-in-Err
returns-in-Err c =
    let a = c.args in
    let o = offer a.mode a.tasks.now a.jobs.now a.counts.now a.horizon in record {
      answers = answer_refused o a.schedule.now _ c.check_batch.ensures c.in-Err.is _ c.no_records.ensures;
      writes = schedule_kept o a.schedule.now _ c.check_batch.ensures c.in-Err.is;
    }
