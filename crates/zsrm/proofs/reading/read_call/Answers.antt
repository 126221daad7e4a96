-- The mode is looked at first, then the table, then the jobs beside a table that passed, then the ticks: what refuses first is the answer.
use Rattle.tables.proofs.Laws.Refusals.{goes_on, stop_apart, stops}
use Rattle.zsrm.proofs.Laws.Reading.{call_in_order, table_passed}
use Rattle.zsrm.proofs.reading.read_call.Goals as goal

pub returns-in_err-refuse : goal.returns-in_err-refuse
returns-in_err-refuse c =
    let stopped = c.from_residual.ensures in
    record {
      found = rw call_in_order (stops _ _ c.refuse.ensures c.in_err-refuse.was stopped.1);
      table = λ e. stop_apart e stopped.0;
      list = λ e. stop_apart e stopped.0;
    }

pub returns-in_err-read_tasks : goal.returns-in_err-read_tasks
returns-in_err-read_tasks c =
    let stopped = c.from_residual-in_err-read_tasks.ensures in
    record {
      found = rw call_in_order (goes_on _ _ c.refuse.ensures c.in_ok-refuse.was (stops _ _ c.read_tasks.ensures.found c.in_err-read_tasks.was stopped.1));
      table = λ e. stop_apart e stopped.0;
      list = λ e. stop_apart e stopped.0;
    }

pub read_jobs-requires : goal.read_jobs-requires
read_jobs-requires c =
    let done = c.in_ok-read_tasks.was in
    record { tasks_value = table_passed _ _ c.read_tasks.ensures.found done; tasked = (c.read_tasks.ensures.holds done, c.requires) }

pub returns-in_err-read_jobs : goal.returns-in_err-read_jobs
returns-in_err-read_jobs c =
    let stopped = c.from_residual-in_err-read_jobs.ensures in
    record {
      found = rw call_in_order
          (goes_on _ _ c.refuse.ensures c.in_ok-refuse.was
          (goes_on _ _ c.read_tasks.ensures.found c.in_ok-read_tasks.was (stops _ _ c.read_jobs.ensures.found c.in_err-read_jobs.was stopped.1)));
      table = λ e. stop_apart e stopped.0;
      list = λ e. stop_apart e stopped.0;
    }

pub returns : goal.returns
returns c =
    record {
      found = rw call_in_order
          (goes_on _ _ c.refuse.ensures c.in_ok-refuse.was
          (goes_on _ _ c.read_tasks.ensures.found c.in_ok-read_tasks.was (goes_on _ _ c.read_jobs.ensures.found c.in_ok-read_jobs.was c.check_ticks.ensures)));
      table = λ _. c.read_tasks.ensures.holds c.in_ok-read_tasks.was;
      list = λ _. c.read_jobs.ensures.holds c.in_ok-read_jobs.was;
    }
