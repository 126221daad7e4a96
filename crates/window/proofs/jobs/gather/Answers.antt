use Prim.Native.Nat.{ℕ}
use mathlib.Core.List.{map}
use mathlib.Core.Path.{◌≡◌, ap, subst, sym, ◌∙◌}
use native.Mathlib.Omega.{arith}
use borrow.Author.Rules.{rules}
use borrow.Author.Tests.{eq-eqb, ne_eqb}
use Rattle.bits.proofs.Laws.Arrays.{length_of_map}
use Rattle.std.specs.Prelude.{Result}
use Rattle.tables.specs.declared.answers.Refusal.{Refusal}
use Rattle.tables.specs.declared.fields.Job.{Job}
use Rattle.tables.specs.Tables.{job_count, task_of}
use Rattle.zsrm.specs.Answers.{verdict_of}
use Rattle.zsrm.specs.declared.answers.Verdict.{Verdict}
use Rattle.zsrm.proofs.Laws.Verdicts.{verdict_there}
use Rattle.window.specs.Code.{GatheredAs, with_job}
use Rattle.window.specs.Windows.{activations, jobs_below}
use Rattle.window.proofs.Laws.Gathered.{gathered_next, gathered_room}
use Rattle.window.proofs.Laws.Jobs.{below_few, below_none}
use Rattle.window.proofs.jobs.gather.Goals as goal
use Rattle.window.proofs.jobs.gather.Goals.{then-job-task, else-job-task}

pub loop-j-init : goal.loop-j-init
loop-j-init c = rw (below_none c.args.jobs.now c.args.task) c.none-own.ensures

pub push-requires : goal.push-requires
push-requires c =
    gathered_room _ _ _ c.loop-j.invariant
    (omega (arith, below_few c.args.jobs.now c.args.task c.loop-j.j, c.requires))

pub loop-j-preserved : goal.loop-j-preserved
loop-j-preserved c =
    let a = c.args in
    let j = c.loop-j.j in
    let task = ap (λ (x : Job). x.task) c.job_at-job.ensures in
    let there = verdict_there a.all (search (rules, length_of_map)) j _ (omega (arith, c.requires)) in
    gathered_next a.jobs.now a.task (verdict_of a.all) j c.loop-j.own c.loop-j.invariant
    (omega (arith, below_few a.jobs.now a.task j, c.requires)) c.if-job-task.own
    (elim c.if-job-task.branch [
      | then-job-task w ↦ rw (eq-eqb (task_of a.jobs.now j) a.task (sym task ∙ w.if-job-task.true)) (w.own-is ∙ w.push.ensures ∙ ap (λ (v : Result Verdict Refusal). with_job c.loop-j.own j v) there)
      | else-job-task w ↦ rw (ne_eqb (task_of a.jobs.now j) a.task (λ q. w.if-job-task.false (task ∙ q))) w.own-is
    ])

pub returns : goal.returns
unfolding activations
returns c =
    let a = c.args in
    let last : c.loop-j.j ≡ job_count a.jobs.now = omega arith in
    subst (λ (n : ℕ). GatheredAs (jobs_below a.jobs.now a.task n) (map (verdict_of a.all) (jobs_below a.jobs.now a.task n)) c.loop-j.own) last c.loop-j.invariant
