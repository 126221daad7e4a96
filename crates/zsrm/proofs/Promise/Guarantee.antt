-- Demand 3, of any schedule that the claim check answers legal: whom its ticks serve, and who finishes in time. Then where time was lost,
-- what the records of a schedule count, legal or not, which jobs are open in any record, and the part that is shown.
use Prim.Native.Nat.{◌+◌, ◌-◌, ◌<◌, ℕ, ◌≤◌}
use mathlib.Core.Bool.{true}
use mathlib.Core.List.{List}
use mathlib.Core.Logic.{inl}
use mathlib.Core.Path.{ap, subst, ◌≡◌, ◌∙◌}
use native.Mathlib.Omega.{arith}
use lib.ListN.{get_or, length, drop, length-drop}
use Rattle.std.specs.Prelude.{Ok}
use Rattle.zsrm.specs.declared.mode.Mode.TheVariants.{S}
use Rattle.zsrm.specs.declared.record.Record.{Record}
use Rattle.zsrm.specs.declared.record.Standing.TheVariants.{Finished, Ended}
use Rattle.zsrm.specs.Answers.{claim_answer, response_answer, verdict_answer, witness_answer}
use Rattle.zsrm.specs.Record.{consistent, fresh, standing_at, suspended_at, waited_at, done_at}
use Rattle.zsrm.specs.Run.{replayed, record_before}
use Rattle.zsrm.specs.Said.{claim_said, ended_in, finished_at, legal, met, not_missed, standing_said, still_open, verdict_said, witness_said}
use Rattle.zsrm.specs.Given.{Given}
use Rattle.tables.specs.Tables.{arrival, deadline_instant, idle, job_count, job_criticality, task_of, zero_slack_instant, execution}
use Rattle.zsrm.specs.Tick.{suspended, waits, done_after, suspended_after, waited_after}
use Rattle.zsrm.specs.Topmost.{Topmost, assured}
use Rattle.zsrm.specs.Verdict.{Part}
use Rattle.zsrm.proofs.Laws.Answers.{is_legal_law}
use Rattle.zsrm.proofs.Laws.Consistent.{legal_consistent, pending_alive, replayed_consistent, account_at, sound_at_law}
use Rattle.zsrm.proofs.Laws.Places.{done_advanced, done_fresh, suspended_advanced, suspended_fresh, waited_advanced, waited_fresh}
use Rattle.zsrm.proofs.Laws.Replay.{legal_at, legal_may, replayed_is, tick_record_before}
use Rattle.zsrm.proofs.Laws.Said.{standing_said_law, verdict_said_law}
use Rattle.zsrm.proofs.Laws.Tick.{dispatch_serves, past_exactly}
use Rattle.zsrm.proofs.Laws.Topmost.{assured_in_time, topmost_finished, topmost_unsuspended, topmost_within}
use Rattle.zsrm.proofs.Laws.Standings.{empty_finished}
use Rattle.tables.proofs.Laws.Accepted.{lists_few, lists_jobs, lists_tasks}
use Rattle.zsrm.proofs.Laws.Verdicts.{met_answer, open_last}
use Rattle.zsrm.specs.declared.answers.Verdict.TheVariants.{Open}
use Rattle.bits.specs.Below.{count}
use lib.Dec.{eqb}
use Rattle.zsrm.proofs.Laws.Witnesses.{part_fits, shown}
use Rattle.zsrm.specs.Code.Claims.{FitsIn}
use Rattle.zsrm.proofs.Laws.Counts.{counted, ended_in_law}
use lib.Seq.{get_or-drop, get_or-take, length-take-le}
use Rattle.zsrm.proofs.Promise.Rules.{witness_not_missed_exactly, consistent_unended_in_s}

module _ (g : Given) (horizon : ℕ) (schedule : List ℕ) (ok : claim_said (claim_answer g horizon schedule) ≡ legal) where
  -- The record before each of its ticks, and the one at its end, is consistent.
  pub always_consistent : (t : ℕ) → consistent g (record_before g schedule t) ≡ true
  always_consistent t = let c = is_legal_law g horizon schedule ok in let a = c.input in legal_consistent g schedule (omega arith) c.legal t

  -- So in mode S no job is ended in the record before any tick, nor in the one at its end.
  module _ (s : g.mode ≡ S) (j e : ℕ) (l : j < job_count g.lists.jobs) where
    pub nothing_ended_in_s : (t : ℕ) → standing_said (standing_at (record_before g schedule t) j) ≡ ended_in e → ⊥
    nothing_ended_in_s t says =
        let few = lists_few g.lists (is_legal_law g horizon schedule ok).input.lists in
        consistent_unended_in_s g (record_before g schedule t) s (always_consistent t) j e (omega arith) says

    pub nothing_ended_in_s_at_end : standing_said (standing_at (replayed g schedule) j) ≡ ended_in e → ⊥
    nothing_ended_in_s_at_end =
        subst (λ (r : Record). standing_said (standing_at r j) ≡ ended_in e → ⊥) (replayed_is g schedule horizon (is_legal_law g horizon schedule ok).input.whole) (nothing_ended_in_s horizon)

  -- At its end a job with execution time 0 whose arrival it reaches is finished at its arrival.
  pub empty_job_finishes : (j : ℕ) → j < job_count g.lists.jobs → execution g.lists.jobs j ≡ 0 → arrival g.lists.jobs j ≤ horizon
      → standing_said (standing_at (replayed g schedule) j) ≡ finished_at (arrival g.lists.jobs j)
  unfolding standing_said
  empty_job_finishes j l none reached =
      let a = (is_legal_law g horizon schedule ok).input in
      let few = lists_few g.lists a.lists in
      ap standing_said (empty_finished g schedule j (omega arith) l none (omega (arith, a.whole)))

  -- A job that is neither finished nor ended at t.
  pub record Pending (t j : ℕ) : Type 0 where
    pub not_finished : (f : ℕ) → standing_said (standing_at (record_before g schedule t) j) ≡ finished_at f → ⊥
    pub not_ended : (e : ℕ) → standing_said (standing_at (record_before g schedule t) j) ≡ ended_in e → ⊥

  -- The tick t is not idle, and does not go to a job less critical than j.
  pub record Served (t j : ℕ) : Type 0 where
    pub not_idle : get_or schedule t idle ≡ idle → ⊥
    pub a_job : get_or schedule t idle < job_count g.lists.jobs
    pub no_less : job_criticality g.lists j ≤ job_criticality g.lists (get_or schedule t idle)

  -- (i) From a job's zero-slack instant until it finishes or is ended, no tick is idle and none goes to a less critical job.
  pub served : (t j : ℕ) → t < horizon → j < job_count g.lists.jobs → zero_slack_instant g.lists j ≤ t → Pending t j → Served t j
  unfolding record_before zero_slack_instant standing_said
  served t j h l z wait =
      let c = is_legal_law g horizon schedule ok in
      let a = c.input in
      let few = lists_few g.lists a.lists in
      let here : (record_before g schedule t).tick ≡ t = tick_record_before g schedule t (omega arith) in
      let lives = pending_alive g (record_before g schedule t) (always_consistent t) j l few (omega arith)
      (λ f q. wait.not_finished f (ap standing_said q)) (λ e q. wait.not_ended e (ap standing_said q)) in
      let w = dispatch_serves g (record_before g schedule t) (get_or schedule t idle) j
      (legal_may g (record_before g schedule t) _ (get_or schedule t idle) (legal_at g (fresh g.lists.jobs) idle schedule c.legal t (omega arith))) l
      ((past_exactly g (record_before g schedule t) j).1 (lives, omega arith)) in
      record { not_idle = λ e. omega arith; a_job = w.job; no_less = w.no_less }

  -- (ii) If one task is strictly more critical than all others and its zero-slack offset plus overload time is within its deadline,
  -- each of its jobs finishes by arrival + offset + its own execution time, if the horizon reaches that far ..
  module _ (k : ℕ) (top : Topmost g.lists.tasks k) (j : ℕ) (l : j < job_count g.lists.jobs) (its : task_of g.lists.jobs j ≡ k) where
    finished : assured g j ≤ horizon → (f : ℕ) × (standing_at (replayed g schedule) j ≡ Finished f) × (f ≤ assured g j)
    finished h =
        let c = is_legal_law g horizon schedule ok in
        let a = c.input in
        topmost_finished g k (lists_tasks g.lists a.lists) (lists_jobs g.lists a.lists) top schedule (omega arith) c.legal j (record { job = l; its = its }) (omega arith)

    pub finishes_by : assured g j ≤ horizon → (f : ℕ) × (standing_said (standing_at (replayed g schedule) j) ≡ finished_at f) × (f ≤ assured g j)
    unfolding standing_said
    finishes_by h = let w = finished h in (w.0, ap standing_said w.1, w.2)

    -- .. and so is judged met, where its deadline lies within the horizon.
    pub meets : deadline_instant g.lists j ≤ horizon → verdict_said (verdict_answer g (replayed g schedule) j) ≡ met
    unfolding verdict_said
    meets h =
        let c = is_legal_law g horizon schedule ok in
        let a = c.input in
        let t = assured_in_time g k (lists_jobs g.lists a.lists) top j l its in
        let w = finished (omega arith) in
        let end : consistent g (replayed g schedule) ≡ true = subst (λ (r : Record). consistent g r ≡ true) (replayed_is g schedule horizon a.whole) (always_consistent horizon) in
        ap verdict_said (met_answer g a.lists (replayed g schedule) end j l w.0 w.1 (omega (arith, w.2)))

    -- So no witness is accepted against it: the answer is "not missed".
    pub never_blamed : deadline_instant g.lists j ≤ horizon → witness_said (witness_answer g horizon schedule j) ≡ not_missed
    never_blamed h =
        let a = (is_legal_law g horizon schedule ok).input in
        let within = topmost_within g k (lists_tasks g.lists a.lists) (lists_jobs g.lists a.lists) top j (record { job = l; its = its }) in
        (witness_not_missed_exactly g horizon schedule j).1 (ok, l, within, inl (meets h))

    -- Nor is it ever suspended: it has 0 ticks suspended in the record before every tick, and in the one at the end.
    pub never_suspended : (t : ℕ) → suspended_at (record_before g schedule t) j ≡ 0
    never_suspended t =
        let c = is_legal_law g horizon schedule ok in
        let a = c.input in
        topmost_unsuspended g k (lists_tasks g.lists a.lists) (lists_jobs g.lists a.lists) top schedule (omega arith) c.legal t j (record { job = l; its = its })

    pub never_suspended_at_end : suspended_at (replayed g schedule) j ≡ 0
    never_suspended_at_end =
        subst (λ (r : Record). suspended_at r j ≡ 0) (replayed_is g schedule horizon (is_legal_law g horizon schedule ok).input.whole) (never_suspended horizon)

  -- ## Where time was lost, of a job that finished at f: its response, f − arrival, is its execution time plus the ticks that it was
  -- suspended plus the ticks that it was eligible while another job ran

  pub response_is : (j f : ℕ) → j < job_count g.lists.jobs → standing_said (standing_at (replayed g schedule) j) ≡ finished_at f
      → arrival g.lists.jobs j + execution g.lists.jobs j + suspended_at (replayed g schedule) j + waited_at (replayed g schedule) j ≡ f
  unfolding standing_said done_at suspended_at waited_at
  response_is j f l says =
      let c = is_legal_law g horizon schedule ok in
      let a = c.input in
      let few = lists_few g.lists a.lists in
      let end = replayed_consistent g schedule (omega arith) c.legal in
      let q = standing_said_law (standing_at (replayed g schedule) j) (Finished f) says in
      let s = rw q at (sound_at_law g (replayed g schedule) end j (omega arith)) in
      let w = rw q at (account_at g (replayed g schedule) end j (omega arith)) in
      omega (arith, s.whole, w)

-- ## What a record counts is counted over the schedule, nothing is invented: `count n f` is the number of ticks below n that pass f, and
-- `get_or schedule t idle` the entry of tick t

-- Before each tick t, over the t ticks before it, of any schedule, legal or not, and at every place of its records: a job's `done` is the
-- number of its entries, idle being no job ..
module _ (g : Given) (schedule : List ℕ) (t j : ℕ) (b : t ≤ length schedule) (l : j < 64) where
  pub done_before : done_at (record_before g schedule t) j ≡ count t (λ i. eqb (get_or schedule i idle) j)
  unfolding done_after
  done_before = counted g schedule (λ r. done_at r j) (λ r e. eqb e j) (done_fresh g.lists.jobs j l) (λ r e. done_advanced g r e j l) t b

  -- .. its ticks suspended are the ticks in which it was suspended, which it is only while alive ..
  pub suspended_before : suspended_at (record_before g schedule t) j ≡ count t (λ i. suspended g (record_before g schedule i) j)
  unfolding suspended_after
  suspended_before =
      counted g schedule (λ r. suspended_at r j) (λ r e. suspended g r j) (suspended_fresh g.lists.jobs j l) (λ r e. suspended_advanced g r e j l) t b

  -- .. among them the tick in which it was ended, where it was ..
  pub ended_before : (e : ℕ) → standing_said (standing_at (record_before g schedule t) j) ≡ ended_in e → (e < t) × (suspended g (record_before g schedule e) j ≡ true)
  unfolding standing_said
  ended_before e says = ended_in_law g schedule t j b l e (standing_said_law (standing_at (record_before g schedule t) j) (Ended e) says)

  -- .. and its ticks waited are the ticks in which it was eligible while another job of the list ran (`waits`).
  pub waited_before : waited_at (record_before g schedule t) j ≡ count t (λ i. waits g (record_before g schedule i) (get_or schedule i idle) j)
  unfolding waited_after
  waited_before =
      counted g schedule (λ r. waited_at r j) (λ r e. waits g r e j) (waited_fresh g.lists.jobs j l) (λ r e. waited_advanced g r e j l) t b

-- At the end, which is the case t = horizon, all four hold of a schedule that the claim check answers legal.
module _ (g : Given) (horizon : ℕ) (schedule : List ℕ) (ok : claim_said (claim_answer g horizon schedule) ≡ legal) (j : ℕ) (l : j < job_count g.lists.jobs) where
  at_end : (P : Record → Type 0) → (horizon ≤ length schedule → j < 64 → P (record_before g schedule horizon)) → P (replayed g schedule)
  at_end P holds =
      let a = (is_legal_law g horizon schedule ok).input in
      let few = lists_few g.lists a.lists in
      subst P (replayed_is g schedule horizon a.whole) (holds (omega (arith, a.whole)) (omega arith))

  pub done_counted : done_at (replayed g schedule) j ≡ count horizon (λ t. eqb (get_or schedule t idle) j)
  done_counted = at_end (λ r. done_at r j ≡ count horizon (λ t. eqb (get_or schedule t idle) j)) (done_before g schedule horizon j)

  pub suspended_counted : suspended_at (replayed g schedule) j ≡ count horizon (λ t. suspended g (record_before g schedule t) j)
  suspended_counted = at_end (λ r. suspended_at r j ≡ count horizon (λ t. suspended g (record_before g schedule t) j)) (suspended_before g schedule horizon j)

  pub ended_counted : (e : ℕ) → standing_said (standing_at (replayed g schedule) j) ≡ ended_in e → (e < horizon) × (suspended g (record_before g schedule e) j ≡ true)
  ended_counted e =
      at_end (λ r. standing_said (standing_at r j) ≡ ended_in e → (e < horizon) × (suspended g (record_before g schedule e) j ≡ true))
      (λ b k. ended_before g schedule horizon j b k e)

  pub waited_counted : waited_at (replayed g schedule) j ≡ count horizon (λ t. waits g (record_before g schedule t) (get_or schedule t idle) j)
  waited_counted =
      at_end (λ r. waited_at r j ≡ count horizon (λ t. waits g (record_before g schedule t) (get_or schedule t idle) j)) (waited_before g schedule horizon j)

-- ## A task's open jobs are its last ones: from whatever record a job is judged open, which takes accepted lists and a consistent record,
-- every later job of its task is judged open, too. D ≤ T, so it has not arrived.

pub open_jobs_last : (g : Given) (r : Record) (i j : ℕ) → verdict_said (verdict_answer g r i) ≡ still_open
    → i < j → j < job_count g.lists.jobs → task_of g.lists.jobs j ≡ task_of g.lists.jobs i → verdict_said (verdict_answer g r j) ≡ still_open
unfolding verdict_said
open_jobs_last g r i j says m l its = ap verdict_said (open_last g r i j m l its (verdict_said_law (verdict_answer g r i) (Ok Open) says))

module _ (g : Given) (horizon : ℕ) (schedule : List ℕ) (ok : claim_said (claim_answer g horizon schedule) ≡ legal) where
  -- ## The part that is shown of a job that finished at f: the schedule's entries from its arrival up to f

  pub part_shown : (j f : ℕ) → j < job_count g.lists.jobs → standing_said (standing_at (replayed g schedule) j) ≡ finished_at f
      → ((response_answer g horizon schedule j).from ≡ arrival g.lists.jobs j)
      × (length (response_answer g horizon schedule j).entries ≡ f - arrival g.lists.jobs j)
      × ((i : ℕ) → i < length (response_answer g horizon schedule j).entries
      → get_or (response_answer g horizon schedule j).entries i idle ≡ get_or schedule (arrival g.lists.jobs j + i) idle)
  unfolding standing_said
  part_shown j f l says =
      let c = is_legal_law g horizon schedule ok in
      let a = c.input in
      let few = lists_few g.lists a.lists in
      let from = arrival g.lists.jobs j in
      let q = standing_said_law (standing_at (replayed g schedule) j) (Finished f) says in
      let is = shown g horizon schedule ok j l f q in
      let w : FitsIn from schedule (Finished f) = subst (FitsIn from schedule) q (part_fits g schedule j (omega arith) (omega arith) c.legal) in
      let long : length (response_answer g horizon schedule j).entries ≡ f - from =
      ap (λ (p : Part). length p.entries) is ∙ length-take-le (f - from) (drop from schedule) (simp length-drop (omega (arith, w.0, w.1))) in (
        ap (λ (p : Part). p.from) is,
        long,
        λ i b. ap (λ (p : Part). get_or p.entries i idle) is ∙ get_or-take (f - from) (drop from schedule) i idle (omega arith) ∙ get_or-drop from schedule i idle,
      )
