use mathlib.Core.Path.{ap, refl, sym, ◌∙◌}
use Prim.Native.Nat.{ℕ, ◌/◌}
use borrow.Author.Rules.{rules}
use Rattle.bits.proofs.Laws.Bools.{failed}
use Rattle.tables.specs.Tables.{job_count, task_count}
use Rattle.tables.specs.Refusals.{check5, check_jobs}
use Rattle.tables.proofs.Laws.Noted.{looked_here, looked_more, looked_none}
use Rattle.tables.proofs.Laws.Refusals.{all_passed, refuse_fine, stops, stops_at}
use Rattle.tables.proofs.refusals.check_jobs_of.Goals as goal

pub returns-in_err-refuse : goal.returns-in_err-refuse
unfolding job_count check5 check_jobs
returns-in_err-refuse g c = rw (sym c.size-size.ensures) (stops _ _ c.refuse.ensures c.in_err-refuse.was c.from_residual.ensures.1)

pub loop-j-init : goal.loop-j-init
loop-j-init g c =
    let counted = refuse_fine _ _ _ (sym c.refuse.ensures ∙ c.in_ok-refuse.was) in
    (search rules, search failed, looked_none _ _ _ refl)

pub soonest-from-requires : goal.soonest-from-requires
soonest-from-requires g c = c.loop-j.invariant.2.each

pub returns-in_err-check_job : goal.returns-in_err-check_job
unfolding job_count task_count check5 check_jobs
returns-in_err-check_job g c =
    rw (sym c.size-size.ensures)
    (stops_at _ _ _ _ c.refuse.ensures c.in_ok-refuse.was c.loop-j-test.true c.loop-j.invariant.2.all
    (looked_here _ _ _ _ _ c.loop-j.invariant.2 _ _ _ _ _ c.job-job.ensures c.task-task.ensures (ap (λ (n : ℕ). n / 7) c.size-known.ensures) (λ _. c.soonest-from.ensures) c.check_job.ensures)
    c.in_err-check_job.was c.from_residual-in_err-check_job.ensures.1)

pub loop-j-preserved : goal.loop-j-preserved
unfolding task_count
loop-j-preserved g c = (
  search rules,
  search rules,
  looked_more _ _ _ _ _ c.loop-j.invariant.2 _ _ _ _ _ c.job-job.ensures c.task-task.ensures (ap (λ (n : ℕ). n / 7) c.size-known.ensures) (λ _. c.soonest-from.ensures) c.check_job.ensures _
      c.in_ok-check_job.was c.note.ensures,
)

pub returns : goal.returns
unfolding job_count check5 check_jobs
returns g c = rw (sym c.size-size.ensures) (all_passed _ _ _ _ c.refuse.ensures c.in_ok-refuse.was c.loop-j.invariant.0 c.loop-j-test.false c.loop-j.invariant.2.all)
