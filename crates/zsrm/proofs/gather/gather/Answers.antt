use Prim.Native.Nat.{ℕ, ◌+◌, ◌*◌}
use mathlib.Core.Path.{ap, ap₂, ◌∙◌}
use native.Mathlib.Omega.{arith}
use Rattle.tables.specs.Tables.{lists}
use Rattle.tables.specs.declared.fields.Job.{Job}
use Rattle.tables.proofs.Laws.Accepted.{bounded, lists_few}
use Rattle.zsrm.proofs.Laws.Gathered.{gathers_more, nominal_fits}
use Rattle.zsrm.proofs.gather.gather.Goals as goal

pub overflow_cast-n : goal.overflow_cast-n
overflow_cast-n c = omega (arith, lists_few (lists c.args.tasks.now c.args.jobs.now) c.requires, c.job_count-n.ensures)

pub both_scales-scales-requires : goal.both_scales-scales-requires
both_scales-scales-requires c =
    let w = bounded (lists c.args.tasks.now c.args.jobs.now) c.requires c.loop-j.j
    (omega (arith, c.job_count-n.ensures)) in
    (omega (arith, w.criticality_most, c.criticality_of-criticality.ensures), omega (arith, w.priority_most, c.priority_of-priority.ensures))

pub overflow_cast-job : goal.overflow_cast-job
overflow_cast-job c =
    let w = bounded (lists c.args.tasks.now c.args.jobs.now) c.requires c.loop-j.j
    (omega (arith, c.job_count-n.ensures)) in
    omega (arith, w.arrival_most, ap (λ (x : Job). x.arrival) c.job_at-job.ensures)

pub overflow_cast-job-in-loop-j : goal.overflow_cast-job-in-loop-j
overflow_cast-job-in-loop-j c =
    let w = bounded (lists c.args.tasks.now c.args.jobs.now) c.requires c.loop-j.j
    (omega (arith, c.job_count-n.ensures)) in
    omega (arith, w.execution_most, ap (λ (x : Job). x.execution) c.job_at-job.ensures)

pub overflow_cast-z : goal.overflow_cast-z
overflow_cast-z c =
    let w = bounded (lists c.args.tasks.now c.args.jobs.now) c.requires c.loop-j.j
    (omega (arith, c.job_count-n.ensures)) in
    omega (arith, w.slack_instant, c.zero_slack_instant-z.ensures)

pub overflow_cast-nominal : goal.overflow_cast-nominal
overflow_cast-nominal c =
    let w = nominal_fits (lists c.args.tasks.now c.args.jobs.now) c.requires c.loop-j.j
    (omega (arith, c.job_count-n.ensures)) in
    omega (arith, w, c.nominal_of-nominal.ensures)

pub put_job-requires : goal.put_job-requires
put_job-requires c = omega (arith, lists_few (lists c.args.tasks.now c.args.jobs.now) c.requires, c.job_count-n.ensures)

pub loop-j-preserved : goal.loop-j-preserved
loop-j-preserved c =
    let w = bounded (lists c.args.tasks.now c.args.jobs.now) c.requires c.loop-j.j
    (omega (arith, c.job_count-n.ensures)) in
    let few = lists_few (lists c.args.tasks.now c.args.jobs.now) c.requires in
    rw c.put_job.ensures
    (gathers_more (lists c.args.tasks.now c.args.jobs.now) _ c.loop-j.j _ _ _ _ _ c.loop-j.invariant
    (omega (arith, few, c.job_count-n.ensures))
    (ap (λ (x : Job). x.arrival) c.job_at-job.ensures) (ap (λ (x : Job). x.execution) c.job_at-job.ensures)
    c.zero_slack_instant-z.ensures
    c.nominal_of-nominal.ensures
    (c.both_scales-scales.ensures ∙ ap₂ (λ (x y : ℕ). 64 * x + y)
    c.criticality_of-criticality.ensures c.priority_of-priority.ensures)
    w.priority_most)
