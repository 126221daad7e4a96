-- Each contract leaves one answer, and of `put_at` one content of the lent list: `Learnt` is what a function's contract says of the arguments,
-- the result and the parameters at exit. No other function is lent a list to be written.
use Prim.Native.Nat.{◌*◌, ◌+◌, ℕ}
use mathlib.Core.List.{◌++◌, List, [], ◌∷◌}
use mathlib.Core.Path.{ap, sym, ◌∙◌, ◌≡◌}
use native.Mathlib.Omega.{arith}
use lib.ListN.{get_or, length-replicate, replicate}
use lib.Seq.{get_or-append-add}
use contract.Lifetimes.{Lfts}
use Rattle.tables.specs.declared.fields.Criticality.{Criticality}
use Rattle.tables.specs.declared.fields.Priority.{Priority}
use Rattle.tables.specs.declared.fields.Task.{Task}
use Rattle.tables.specs.Fields.{task_at}
use Rattle.tables.specs.Tables.{criticality, deadline, nominal, offset, overload, period, priority}
use Rattle.tables.proofs.bytes.job_in.Reads as job-in
use Rattle.tables.proofs.bytes.number_at.Reads as number_at
use Rattle.tables.proofs.bytes.put_at.Reads as put-at
use Rattle.tables.proofs.bytes.task_in.Reads as task-in
use Rattle.tables.proofs.fields.Criticality.exceeds.Reads as exceeds
use Rattle.tables.proofs.fields.Priority.equals.Reads as equals
use Rattle.tables.proofs.fields.criticality_of.Reads as criticality-of
use Rattle.tables.proofs.fields.deadline_instant.Reads as deadline_instant_law
use Rattle.tables.proofs.fields.job_at.Reads as job-at
use Rattle.tables.proofs.fields.job_count.Reads as job-count
use Rattle.tables.proofs.fields.nominal_of.Reads as nominal-of
use Rattle.tables.proofs.fields.priority_of.Reads as priority-of
use Rattle.tables.proofs.fields.zero_slack_instant.Reads as zero-slack-instant
use Rattle.tables.proofs.refusals.check10.Reads as check10
use Rattle.tables.proofs.refusals.check13.Reads as check13
use Rattle.tables.proofs.refusals.check9.Reads as check9
use Rattle.tables.proofs.refusals.check_jobs.Reads as check-jobs
use Rattle.tables.proofs.refusals.check_lists.Reads as check-lists
use Rattle.tables.proofs.refusals.check_lists_in.Reads as check-lists-in
use Rattle.tables.proofs.refusals.check_schedule.Reads as check-schedule
use Rattle.tables.proofs.refusals.check_task.Reads as check-task
use Rattle.tables.proofs.refusals.check_tasks.Reads as check-tasks
use Rattle.tables.proofs.refusals.check_tasks_in.Reads as check-tasks-in
use Rattle.tables.proofs.refusals.refuse.Reads as refuse

pub number_at_one : (κs : Lfts 1) (a : _) (r s : _) (e f : _) → number_at.Learnt κs a r e → number_at.Learnt κs a s f → r ≡ s
number_at_one κs a r s e f p q = p ∙ sym q

pub put_at_one : (κs : Lfts 1) (a : _) (r s : _) (e f : _) → put-at.Learnt κs a r e → put-at.Learnt κs a s f → e.0.now ≡ f.0.now
put_at_one κs a r s e f p q = p ∙ sym q

pub task_in_one : (κs : Lfts 1) (a : _) (r s : _) (e f : _) → task-in.Learnt κs a r e → task-in.Learnt κs a s f → r ≡ s
task_in_one κs a r s e f p q = p ∙ sym q

pub job_in_one : (κs : Lfts 1) (a : _) (r s : _) (e f : _) → job-in.Learnt κs a r e → job-in.Learnt κs a s f → r ≡ s
job_in_one κs a r s e f p q = p ∙ sym q

pub job_at_one : (κs : Lfts 1) (a : _) (r s : _) (e f : _) → job-at.Learnt κs a r e → job-at.Learnt κs a s f → r ≡ s
job_at_one κs a r s e f p q = p ∙ sym q

pub job_count_one : (κs : Lfts 1) (a : _) (r s : _) (e f : _) → job-count.Learnt κs a r e → job-count.Learnt κs a s f → r ≡ s
job_count_one κs a r s e f p q = p ∙ sym q

-- A criticality is one number, and so is a priority.
pub criticality_of_one : (κs : Lfts 2) (a : _) (r s : Criticality) (e f : _) → criticality-of.Learnt κs a r e → criticality-of.Learnt κs a s f → r ≡ s
criticality_of_one κs a r s e f p q = ap (λ (x : ℕ). let c : Criticality = record { 0 = x } in c) (p ∙ sym q)

pub priority_of_one : (κs : Lfts 2) (a : _) (r s : Priority) (e f : _) → priority-of.Learnt κs a r e → priority-of.Learnt κs a s f → r ≡ s
priority_of_one κs a r s e f p q = ap (λ (x : ℕ). let c : Priority = record { 0 = x } in c) (p ∙ sym q)

pub nominal_of_one : (κs : Lfts 2) (a : _) (r s : _) (e f : _) → nominal-of.Learnt κs a r e → nominal-of.Learnt κs a s f → r ≡ s
nominal_of_one κs a r s e f p q = p ∙ sym q

pub zero_slack_instant_one : (κs : Lfts 2) (a : _) (r s : _) (e f : _) → zero-slack-instant.Learnt κs a r e → zero-slack-instant.Learnt κs a s f → r ≡ s
zero_slack_instant_one κs a r s e f p q = p ∙ sym q

pub deadline_instant_one : (κs : Lfts 2) (a : _) (r s : _) (e f : _) → deadline_instant_law.Learnt κs a r e → deadline_instant_law.Learnt κs a s f → r ≡ s
deadline_instant_one κs a r s e f p q = p ∙ sym q

pub exceeds_one : (κs : _) (a : _) (r s : _) (e f : _) → exceeds.Learnt κs a r e → exceeds.Learnt κs a s f → r ≡ s
exceeds_one κs a r s e f p q = p ∙ sym q

pub equals_one : (κs : _) (a : _) (r s : _) (e f : _) → equals.Learnt κs a r e → equals.Learnt κs a s f → r ≡ s
equals_one κs a r s e f p q = p ∙ sym q

pub refuse_one : (κs : _) (a : _) (r s : _) (e f : _) → refuse.Learnt κs a r e → refuse.Learnt κs a s f → r ≡ s
refuse_one κs a r s e f p q = p ∙ sym q

-- any fields are those of some table's task k
task_listed : (task : Task) (k : ℕ) → (tasks : List ℕ) × (task ≡ task_at tasks k)
unfolding period deadline nominal overload criticality priority offset
task_listed task k = (tasks, rw (first, at 1, at 2, at 3, at 4, at 5, at 6))
  where
    row : List ℕ
    row = task.period ∷ task.deadline ∷ task.nominal ∷ task.overload ∷ task.criticality.0 ∷ task.priority.0 ∷ task.offset ∷ []

    tasks : List ℕ
    tasks = replicate (7 * k) 0 ++ row

    at : (i : ℕ) → get_or tasks (7 * k + i) 0 ≡ get_or row i 0
    at i = ap (λ (n : ℕ). get_or tasks (n + i) 0) (sym (length-replicate (7 * k) 0)) ∙ get_or-append-add (replicate (7 * k) 0) row i 0

    first : get_or tasks (7 * k) 0 ≡ task.period
    first = ap (λ (n : ℕ). get_or tasks n 0) (let e : 7 * k ≡ 7 * k + 0 = omega arith in e) ∙ at 0

pub check_task_one : (κs : _) (a : _) (r s : _) (e f : _) → check-task.Learnt κs a r e → check-task.Learnt κs a s f → r ≡ s
check_task_one κs a r s e f p q = let w = task_listed _ _ in p w.0 w.1 ∙ sym (q w.0 w.1)

pub check_tasks_one : (κs : Lfts 1) (a : _) (r s : _) (e f : _) → check-tasks.Learnt κs a r e → check-tasks.Learnt κs a s f → r ≡ s
check_tasks_one κs a r s e f p q = p ∙ sym q

pub check_jobs_one : (κs : Lfts 2) (a : _) (r s : _) (e f : _) → check-jobs.Learnt κs a r e → check-jobs.Learnt κs a s f → r ≡ s
check_jobs_one κs a r s e f p q = p ∙ sym q

pub check_lists_one : (κs : Lfts 2) (a : _) (r s : _) (e f : _) → check-lists.Learnt κs a r e → check-lists.Learnt κs a s f → r ≡ s
check_lists_one κs a r s e f p q = p ∙ sym q

pub check_tasks_in_one : (κs : Lfts 1) (a : _) (r s : _) (e f : _) → check-tasks-in.Learnt κs a r e → check-tasks-in.Learnt κs a s f → r ≡ s
check_tasks_in_one κs a r s e f p q = p ∙ sym q

pub check_lists_in_one : (κs : Lfts 2) (a : _) (r s : _) (e f : _) → check-lists-in.Learnt κs a r e → check-lists-in.Learnt κs a s f → r ≡ s
check_lists_in_one κs a r s e f p q = p ∙ sym q

pub check9_one : (κs : _) (a : _) (r s : _) (e f : _) → check9.Learnt κs a r e → check9.Learnt κs a s f → r ≡ s
check9_one κs a r s e f p q = p ∙ sym q

pub check10_one : (κs : _) (a : _) (r s : _) (e f : _) → check10.Learnt κs a r e → check10.Learnt κs a s f → r ≡ s
check10_one κs a r s e f p q = p ∙ sym q

pub check_schedule_one : (κs : Lfts 2) (a : _) (r s : _) (e f : _) → check-schedule.Learnt κs a r e → check-schedule.Learnt κs a s f → r ≡ s
check_schedule_one κs a r s e f p q = p ∙ sym q

pub check13_one : (κs : Lfts 1) (a : _) (r s : _) (e f : _) → check13.Learnt κs a r e → check13.Learnt κs a s f → r ≡ s
check13_one κs a r s e f p q = p ∙ sym q
