use mathlib.Core.Path.{refl, sym, ◌∙◌}
use native.Mathlib.Nat.{le_antisymm}
use native.Mathlib.Omega.{arith}
use borrow.Author.Rules.{rules}
use Rattle.bits.proofs.Laws.Bools.{failed}
use Rattle.tables.proofs.Laws.Refusals.{all_passed, refuse_fine, stop_apart, stops, stops_at}
use Rattle.tables.proofs.Laws.Accepted.{few_tasks}
use Rattle.zsrm.proofs.Laws.Reading.{job_checked_law, job_fits, jobbed, jobs_more, jobs_none, jobs_number, jobs_tested, tasks_number}
use Rattle.zsrm.proofs.reading.read_jobs.Goals as goal

pub returns-in_err-refuse : goal.returns-in_err-refuse
returns-in_err-refuse c =
    record { found = rw jobs_tested (stops _ _ c.refuse.ensures c.in_err-refuse.was c.from_residual.ensures.1); holds = λ e. stop_apart e c.from_residual.ensures.0 }

pub loop-j-init : goal.loop-j-init
loop-j-init c =
    let counted = refuse_fine _ _ _ (sym c.refuse.ensures ∙ c.in_ok-refuse.was) in
    (search rules, search failed, jobs_none _ _ _ _ _ refl (omega arith) c.requires.tasked.1)

pub check_job-requires : goal.check_job-requires
check_job-requires c = omega (arith, tasks_number c.args.tasks.now, few_tasks _ c.requires.tasks_value)

pub put_job-requires : goal.put_job-requires
put_job-requires c =
    let w = c.loop-j.invariant.2 in
    let checked = job_checked_law _ _ _ c.requires.tasks_value c.requires.tasked.0 _ _ c.job_in-job.ensures _ _ _ _ w _ (tasks_number _) _ c.check_job.ensures in (
      omega (arith, c.loop-j-test.true, c.loop-j.invariant.1),
      job_fits _ _ _ c.requires.tasks_value c.requires.tasked.0 _ _ c.job_in-job.ensures
          (sym checked ∙ c.in_ok-check_job.was),
    )

pub note_job-requires : goal.note_job-requires
note_job-requires c =
    let w = c.loop-j.invariant.2 in
    let checked = job_checked_law _ _ _ c.requires.tasks_value c.requires.tasked.0 _ _ c.job_in-job.ensures _ _ _ _ w _ (tasks_number _) _ c.check_job.ensures in
    job_fits _ _ _ c.requires.tasks_value c.requires.tasked.0 _ _ c.job_in-job.ensures (sym checked ∙ c.in_ok-check_job.was)

pub mark_job-requires : goal.mark_job-requires
mark_job-requires c =
    let w = c.loop-j.invariant.2 in
    let checked = job_checked_law _ _ _ c.requires.tasks_value c.requires.tasked.0 _ _ c.job_in-job.ensures _ _ _ _ w _ (tasks_number _) _ c.check_job.ensures in
    let f = job_fits _ _ _ c.requires.tasks_value c.requires.tasked.0 _ _ c.job_in-job.ensures (sym checked ∙ c.in_ok-check_job.was) in
    f.known

pub loop-j-preserved : goal.loop-j-preserved
loop-j-preserved c =
    let w = c.loop-j.invariant.2 in
    let checked = job_checked_law _ _ _ c.requires.tasks_value c.requires.tasked.0 _ _ c.job_in-job.ensures _ _ _ _ w _ (tasks_number _) _ c.check_job.ensures in (
      omega (arith, c.loop-j-test.true),
      c.loop-j.invariant.1,
      jobs_more _ _ _ c.requires.tasks_value c.requires.tasked.0 _ _ c.job_in-job.ensures _ _ _ _ _ w (omega (arith, c.loop-j-test.true, c.loop-j.invariant.1)) checked
          c.in_ok-check_job.was
          c.put_job.ensures
          c.note_job.ensures c.mark_job.ensures,
    )

pub returns-in_err-check_job : goal.returns-in_err-check_job
returns-in_err-check_job c =
    let w = c.loop-j.invariant.2 in
    let checked = job_checked_law _ _ _ c.requires.tasks_value c.requires.tasked.0 _ _ c.job_in-job.ensures _ _ _ _ w _ (tasks_number _) _ c.check_job.ensures in
    record {
      found = rw jobs_tested
          (stops_at _ _ _ _ c.refuse.ensures c.in_ok-refuse.was c.loop-j-test.true w.looked.all checked c.in_err-check_job.was
          c.from_residual-in_err-check_job.ensures.1);
      holds = λ e. stop_apart e c.from_residual-in_err-check_job.ensures.0;
    }

pub returns : goal.returns
returns c =
    let at = c.loop-j.invariant in
    record {
      found = rw jobs_tested (all_passed _ _ _ _ c.refuse.ensures c.in_ok-refuse.was at.0 c.loop-j-test.false at.2.looked.all);
      holds = λ _. jobbed _ _ _ _ _ _ _ at.2 (le_antisymm at.0 c.loop-j-test.false ∙ jobs_number _);
    }
