-- Laws of a batch's answer: what the checks found decides it.
use Prim.Native.Nat.{ℕ}
use mathlib.Core.List.{List}
use mathlib.Core.Logic.{inl}
use mathlib.Core.Path.{ap, sym, ◌∙◌, ◌≡◌}
use lib.ListN.{length, replicate}
use Rattle.std.specs.Prelude.{Ok, Err, ⊤}
use Rattle.tables.specs.Outcomes.{Outcome, Done}
use Rattle.tables.specs.Refusals.{before, check9, check_jobs, check_lists, check_tasks, unless, check_schedule}
use Rattle.tables.proofs.Laws.Refusals.{before_first, before_last, before_second}
use Rattle.tables.proofs.Laws.Accepted.{schedule_checked}
use Rattle.zsrm.specs.declared.record.Record.{Record}
use Rattle.zsrm.specs.declared.tie.Tie.{Tie}
use Rattle.zsrm.specs.declared.tie.Tie.TheVariants.{Lowest}
use Rattle.zsrm.specs.Answers.{ran, run_answer, run_schedule}
use Rattle.zsrm.specs.Given.{Given}
use Rattle.zsrm.specs.Record.{blank}
use Rattle.zsrm.specs.Run.{run_record}
use Rattle.zsrm.proofs.Laws.Answers.{run_given_law, run_outcome}
use Rattle.batch.specs.declared.answers.Batch.{Batch}
use Rattle.batch.specs.declared.refusals.RefusedRun.{RefusedRun}
use Rattle.batch.specs.Answers.{batch_answer, batch_schedule, checked}
use Rattle.batch.specs.Refusals.{Found, check17, check_batch, check_call, outcome_of}
use Rattle.batch.specs.Runs.{Offer, given_of, list_of, records_of, schedules_of}
use Rattle.batch.proofs.Laws.Refusals.{batch_passes, call_17}

module _ (o : Offer) (lent : List ℕ) (found : Found) (is : found ≡ check_batch o.tasks o.jobs o.counts o.horizon (length lent)) where
  module _ {u : ⊤} (ok : found ≡ Ok u) where
    pub answer_17 : check17 o.jobs o.counts o.horizon (length lent) ≡ Done
    answer_17 =
        call_17 o.tasks o.jobs o.counts o.horizon (length lent)
        (batch_passes o.tasks o.jobs o.counts o.horizon (length lent) (ap outcome_of (sym is ∙ ok)))

    pub answer_done : (records : List Record) → records ≡ records_of o lent (length o.counts) → ◌≡◌ {A = Batch} (record { outcome = Done; run = 0; records = records }) (batch_answer o lent)
    unfolding batch_answer checked unless
    answer_done records made = rw (← is, ok, made)

    pub schedule_done : (schedule : List ℕ) → schedule ≡ schedules_of o lent (length o.counts) → schedule ≡ batch_schedule o lent
    unfolding batch_schedule checked unless
    schedule_done schedule wrote = rw (← is, ok) wrote

  module _ {w : RefusedRun} (refuses : found ≡ Err w) where
    pub answer_refused : (records : List Record) → records ≡ replicate 32 blank → ◌≡◌ {A = Batch} (record { outcome = Err w.refusal; run = w.run; records = records }) (batch_answer o lent)
    unfolding batch_answer checked unless
    answer_refused records none = rw (← is, refuses, none)

    pub schedule_kept : lent ≡ batch_schedule o lent
    unfolding batch_schedule checked unless
    schedule_kept = rw (← is, refuses)

-- a run depends on the list that it is lent only by its length
module _ (g : Given) (tie : Tie) (horizon : ℕ) (a b : List ℕ) (same : length a ≡ length b) where
  pub ran_same : run_answer g tie horizon a ≡ run_answer g tie horizon b
  unfolding run_answer
  ran_same = ap (λ (n : ℕ). ran (check_schedule g.lists horizon n) (run_record g tie horizon)) same

  pub wrote_same : check_schedule g.lists horizon (length b) ≡ Done → run_schedule g tie horizon a ≡ run_schedule g tie horizon b
  wrote_same ok =
      (run_given_law g tie horizon a (ap (check_schedule g.lists horizon) same ∙ ok)).1 ∙ sym (run_given_law g tie horizon b ok).1

-- where the call's own checks pass, what a run by itself would answer is what its list's checks find
module _ (o : Offer) (entries : ℕ) (ok : check_call o.tasks o.jobs o.counts o.horizon entries ≡ Done) where
  pub own_checked : (r : ℕ) (own : List ℕ) → length own ≡ o.horizon
      → check_schedule (given_of o r).lists o.horizon (length own) ≡ check_jobs o.tasks (list_of o.jobs o.counts r)
  unfolding check_call given_of check_lists before
  own_checked r own size =
      let tasks = before_first (check_tasks o.tasks) _ ok in
      let nine = before_first (check9 o.horizon) _ (before_second (check_tasks o.tasks) _ ok) in
      schedule_checked (given_of o r).lists o.horizon (length own) (inl size)
      ∙ ap (before (check_lists (given_of o r).lists)) nine
      ∙ before_last (check_lists (given_of o r).lists)
      ∙ ap (λ (x : Outcome). before x (check_jobs o.tasks (list_of o.jobs o.counts r))) tasks

  pub own_outcome : (r : ℕ) (own : List ℕ) → length own ≡ o.horizon
      → (run_answer (given_of o r) Lowest o.horizon own).outcome ≡ check_jobs o.tasks (list_of o.jobs o.counts r)
  own_outcome r own size = run_outcome (given_of o r) Lowest o.horizon own ∙ own_checked r own size
