use Prim.Native.Nat.{◌<◌}
use mathlib.Core.Path.{ap, sym, ◌∙◌, ◌≡◌}
use native.Mathlib.Omega.{arith}
use borrow.Author.Rules.{rules}
use Rattle.bits.proofs.Laws.Arrays.{length_of_map}
use Rattle.std.specs.Prelude.{is_ok}
use Rattle.tables.specs.declared.fields.Job.{Job}
use Rattle.tables.specs.Tables.{job_count, lists, task_count}
use Rattle.zsrm.specs.Record.{place_at, standing_at}
use Rattle.zsrm.proofs.Laws.Verdicts.{verdict_there}
use Rattle.season.specs.Own.{own_report, own_up_to}
use Rattle.season.proofs.Laws.Own.{one_job, own_none, own_stored, room_there, judged_run_few, judged_run_task, judged_run_tasks}
use Rattle.season.proofs.own.own_report.Goals as goal

pub overflow_cast-tasks : goal.overflow_cast-tasks
unfolding task_count
overflow_cast-tasks c = omega (arith, judged_run_tasks c.requires)

pub loop-j-init : goal.loop-j-init
unfolding task_count
loop-j-init c = c.empty_report-out.ensures ∙ own_none (lists c.args.tasks.now c.args.jobs.now) c.args.run

pub offset_bounds-all-j : goal.offset_bounds-all-j
offset_bounds-all-j c = omega (arith, judged_run_few c.requires)

pub bounds-all-j : goal.bounds-all-j
bounds-all-j c = omega (arith, judged_run_few c.requires)

pub offset_bounds-run-j : goal.offset_bounds-run-j
offset_bounds-run-j c = omega (arith, judged_run_few c.requires)

pub bounds-run-j : goal.bounds-run-j
bounds-run-j c = omega (arith, judged_run_few c.requires)

pub unwrap-verdict-requires : goal.unwrap-verdict-requires
unwrap-verdict-requires c =
    let there = verdict_there c.args.all (search (rules, length_of_map)) c.loop-j.j _ (omega (arith, judged_run_few c.requires)) in
    ap is_ok (there ∙ c.requires.judged c.loop-j.j (omega arith))

pub overflow_cast-j : goal.overflow_cast-j
overflow_cast-j c = omega (arith, judged_run_few c.requires)

pub offset_bounds-out-k : goal.offset_bounds-out-k
offset_bounds-out-k c =
    let below : c.loop-j.j < job_count c.args.jobs.now = omega arith in
    omega (arith, judged_run_task c.requires c.loop-j.j below, ap (λ (x : Job). x.task) c.job_at-job.ensures)

-- the task of job j is below 16
pub bounds-out-k : goal.bounds-out-k
bounds-out-k c =
    let below : c.loop-j.j < job_count c.args.jobs.now = omega arith in
    omega (arith, judged_run_task c.requires c.loop-j.j below, ap (λ (x : Job). x.task) c.job_at-job.ensures)

pub join-requires : goal.join-requires
unfolding standing_at place_at
join-requires c =
    let below : c.loop-j.j < job_count c.args.jobs.now = omega arith in
    let task = ap (λ (x : Job). x.task) c.job_at-job.ensures in
    let there = verdict_there c.args.all (search (rules, length_of_map)) c.loop-j.j _ (omega (arith, judged_run_few c.requires)) in
    room_there c.requires c.loop-j.j _ c.loop-j.out _ below (omega (arith, judged_run_task c.requires c.loop-j.j below, task)) c.loop-j.invariant
    (one_job c.requires c.loop-j.j _ _ _ below (ap (λ (x : Job). x.arrival) c.job_at-job.ensures) (sym there ∙ c.unwrap-verdict.ensures) c.job_row-one.ensures)

pub offset_bounds-out-k-in-loop-j : goal.offset_bounds-out-k-in-loop-j
offset_bounds-out-k-in-loop-j c =
    let below : c.loop-j.j < job_count c.args.jobs.now = omega arith in
    omega (arith, judged_run_task c.requires c.loop-j.j below, ap (λ (x : Job). x.task) c.job_at-job.ensures)

pub bounds-out-k-in-loop-j : goal.bounds-out-k-in-loop-j
bounds-out-k-in-loop-j c =
    let below : c.loop-j.j < job_count c.args.jobs.now = omega arith in
    omega (arith, judged_run_task c.requires c.loop-j.j below, ap (λ (x : Job). x.task) c.job_at-job.ensures)

pub loop-j-preserved : goal.loop-j-preserved
unfolding standing_at place_at
loop-j-preserved c =
    let below : c.loop-j.j < job_count c.args.jobs.now = omega arith in
    let task = ap (λ (x : Job). x.task) c.job_at-job.ensures in
    let there = verdict_there c.args.all (search (rules, length_of_map)) c.loop-j.j _ (omega (arith, judged_run_few c.requires)) in
    own_stored (lists c.args.tasks.now c.args.jobs.now) c.args.run c.loop-j.j _ c.loop-j.out _ _ c.loop-j.invariant task
    (omega (arith, judged_run_task c.requires c.loop-j.j below, task))
    (one_job c.requires c.loop-j.j _ _ _ below (ap (λ (x : Job). x.arrival) c.job_at-job.ensures) (sym there ∙ c.unwrap-verdict.ensures) c.job_row-one.ensures) c.join.ensures

pub returns : goal.returns
unfolding own_report
returns c =
    let last : c.loop-j.j ≡ job_count c.args.jobs.now = omega arith in
    c.loop-j.invariant ∙ ap (own_up_to (lists c.args.tasks.now c.args.jobs.now) c.args.run) last
