-- What an admission says, in the words of the other calls. `get_or list j d` is place j of a list, `appended jobs task arrival execution` the
-- longer list.
use Prim.Native.Nat.{◌+◌, ◌<◌, ℕ, ◌≤◌}
use mathlib.Core.Bool.{true}
use mathlib.Core.List.{List, [], ◌∷◌}
use mathlib.Core.Path.{ap, refl, subst, sym, ◌∙◌, ◌≡◌}
use native.Mathlib.Omega.{arith}
use lib.ListN.{get_or, length, length-replicate, replicate}
use borrow.Author.Tests.{le-ltb}
use Rattle.bits.proofs.Laws.Below.{get_or_list}
use Rattle.std.specs.Prelude.{Ok, Err}
use Rattle.tables.specs.Outcomes.{Outcome, Done, Refused}
use Rattle.tables.specs.Refusals.{before, check13, refuse, unless, check_schedule}
use Rattle.tables.specs.Said.{done, outcome_said, refused}
use Rattle.tables.specs.Tables.{arrival, job_count, lists, task_of}
use Rattle.tables.proofs.Laws.Refusals.{unless_done, unless_refused}
use Rattle.tables.proofs.Laws.Said.{outcome_said_law}
use Rattle.tables.proofs.Laws.Accepted.{accepted}
use Rattle.zsrm.specs.declared.mode.Mode.{Mode}
use Rattle.zsrm.specs.declared.record.Record.{Record}
use Rattle.zsrm.specs.declared.tie.Tie.TheVariants.{Stay}
use Rattle.zsrm.specs.Answers.{check_verdict, run_answer, verdict_answer}
use Rattle.zsrm.specs.Record.{check11, consistent}
use Rattle.zsrm.specs.Run.{run_record}
use Rattle.zsrm.specs.Said.{met, verdict_said}
use Rattle.zsrm.proofs.Laws.Answers.{run_given_law}
use Rattle.zsrm.proofs.Promise.{run_consistent, run_outcome_checked}
use Rattle.planter.specs.declared.answers.Admission.{Admission}
use Rattle.planter.specs.declared.answers.Change.{Change}
use Rattle.planter.specs.Admission.{appended, change_at, verdict_in}
use Rattle.planter.specs.Answers.{admission, admit_answer, refused_admission}
use Rattle.planter.specs.Table.{down_force, planter, table}
use Rattle.planter.proofs.Laws.Changes.{longer_few}
use Rattle.planter.proofs.Promise.DownForce.{run_meets}
use Rattle.planter.proofs.Laws.Shorter.{full_refused, one_more, shorter_runs}

-- the outcome of a list's run, whose schedule is as long as the horizon, and its verdicts
module _ (mode : Mode) (jobs : List ℕ) (horizon : ℕ) (lent : List ℕ) (whole : length lent ≡ horizon) where
  run_outcome_is : (run_answer (planter mode jobs) Stay horizon lent).outcome ≡ check_schedule (lists table jobs) horizon horizon
  run_outcome_is = run_outcome_checked (planter mode jobs) Stay horizon lent ∙ ap (check_schedule (lists table jobs) horizon) whole

  module _ (ok : check_schedule (lists table jobs) horizon horizon ≡ Done) where
    run_done : outcome_said (run_answer (planter mode jobs) Stay horizon lent).outcome ≡ done
    unfolding outcome_said
    run_done = ap outcome_said (run_outcome_is ∙ ok)

    record_is : (run_answer (planter mode jobs) Stay horizon lent).«record» ≡ run_record (planter mode jobs) Stay horizon
    record_is = (run_given_law (planter mode jobs) Stay horizon lent (ap (check_schedule (lists table jobs) horizon) whole ∙ ok)).0

    verdict_is : (j : ℕ) → verdict_in mode jobs horizon j ≡ verdict_answer (planter mode jobs) (run_answer (planter mode jobs) Stay horizon lent).«record» j
    unfolding verdict_in
    verdict_is j = ap (λ (r : Record). verdict_answer (planter mode jobs) r j) (sym record_is)

-- the library's answer for a job not in the list
unlisted : (mode : Mode) (jobs : List ℕ) (horizon j : ℕ) → check_schedule (lists table jobs) horizon horizon ≡ Done → job_count jobs ≤ j
    → verdict_said (verdict_in mode jobs horizon j) ≡ refused 13 0
unfolding verdict_said verdict_in verdict_answer check_verdict check11 check13 refuse before unless
unlisted mode jobs horizon j ok past =
    let lent = replicate {A = ℕ} horizon 0 in
    let whole = length-replicate {A = ℕ} horizon 0 in
    let sound = subst (λ (r : Record). consistent (planter mode jobs) r ≡ true) (record_is mode jobs horizon lent whole ok)
    (run_consistent (planter mode jobs) Stay horizon lent (run_done mode jobs horizon lent whole ok)) in
    rw ((accepted (lists table jobs) horizon horizon ok).lists, sound, le-ltb j (job_count jobs) past)

-- a down-force job of a list is met, where its deadline lies within the horizon
down_force_met : (mode : Mode) (jobs : List ℕ) (horizon j : ℕ) → check_schedule (lists table jobs) horizon horizon ≡ Done → j < job_count jobs → task_of jobs j ≡ down_force
    → arrival jobs j + 20 ≤ horizon → verdict_said (verdict_in mode jobs horizon j) ≡ met
down_force_met mode jobs horizon j ok l its within =
    let lent = replicate {A = ℕ} horizon 0 in
    let whole = length-replicate {A = ℕ} horizon 0 in
    ap verdict_said (verdict_is mode jobs horizon lent whole ok j) ∙ run_meets mode jobs j l its horizon lent (run_done mode jobs horizon lent whole ok) within

-- an admission's outcome is what its check says
outcome_of : (o : Outcome) (a : Admission) → a.outcome ≡ Done → (unless o refused_admission a).outcome ≡ o
unfolding unless refused_admission
outcome_of (Ok u) a e = e
outcome_of (Err w) a e = refl

module _ (mode : Mode) (jobs : List ℕ) (horizon task arrives runs : ℕ) where
  abbrev longer : List ℕ
  longer = appended jobs task arrives runs

  -- It is refused with exactly what a run of the longer list is refused with, whose schedule is as long as the horizon ..
  pub outcome_is_runs : (lent : List ℕ) → length lent ≡ horizon
      → (admit_answer mode jobs horizon task arrives runs).outcome ≡ (run_answer (planter mode (appended jobs task arrives runs)) Stay horizon lent).outcome
  unfolding admit_answer admission
  outcome_is_runs lent whole = outcome_of (check_schedule (lists table longer) horizon horizon) _ refl ∙ sym (run_outcome_is mode longer horizon lent whole)

  -- .. so a full list is refused with 5 ..
  pub full_is_five : 189 < length jobs → admit_answer mode jobs horizon task arrives runs ≡ refused_admission 5 0
  full_is_five full = sym (full_refused jobs task arrives runs mode horizon (refused_admission 5 0) full refl)

  -- .. and then no job is counted, and every change is blank.
  pub refused_blank : (number place : ℕ) → outcome_said (admit_answer mode jobs horizon task arrives runs).outcome ≡ refused number place
      → admit_answer mode jobs horizon task arrives runs ≡ refused_admission number place
  unfolding admit_answer admission outcome_said
  refused_blank number place says =
      let lent = replicate {A = ℕ} horizon 0 in
      let whole = length-replicate {A = ℕ} horizon 0 in
      let o = sym (run_outcome_is mode longer horizon lent whole) ∙ sym (outcome_is_runs lent whole)
      ∙ outcome_said_law (admit_answer mode jobs horizon task arrives runs).outcome (Refused number place) says in
      unless_refused refused_admission _ (check_schedule (lists table longer) horizon horizon) number place o

  -- Where it is done:
  module _ (ok : outcome_said (admit_answer mode jobs horizon task arrives runs).outcome ≡ done) where
    longer_runs : check_schedule (lists table longer) horizon horizon ≡ Done
    unfolding outcome_said
    longer_runs =
        let lent = replicate {A = ℕ} horizon 0 in
        let whole = length-replicate {A = ℕ} horizon 0 in
        sym (run_outcome_is mode longer horizon lent whole) ∙ sym (outcome_is_runs lent whole) ∙ outcome_said_law (admit_answer mode jobs horizon task arrives runs).outcome Done ok

    jobs_run : check_schedule (lists table jobs) horizon horizon ≡ Done
    jobs_run = shorter_runs jobs task arrives runs mode horizon longer_runs

    counted : job_count longer ≡ job_count jobs + 1
    unfolding appended
    counted = one_more table jobs (task ∷ arrives ∷ runs ∷ []) refl

    -- one job more than the list has is counted ..
    pub counts_one_more : (admit_answer mode jobs horizon task arrives runs).count ≡ job_count jobs + 1
    unfolding admit_answer admission
    counts_one_more = ap (λ (a : Admission). a.count) (unless_done refused_admission _ (check_schedule (lists table longer) horizon horizon) longer_runs) ∙ counted

    -- .. which are at most 64.
    pub counts_few : job_count jobs + 1 ≤ 64
    counts_few = omega (arith, counted, longer_few mode jobs longer horizon longer_runs)

    -- Of each job number below 64, counted or not ..
    module _ (j : ℕ) (d : Change) (l : j < 64) where
      change_is : get_or (admit_answer mode jobs horizon task arrives runs).changes j d ≡ record { before = verdict_in mode jobs horizon j; after = verdict_in mode longer horizon j }
      unfolding admit_answer admission change_at
      change_is =
          ap (λ (a : Admission). get_or a.changes j d) (unless_done refused_admission _ (check_schedule (lists table longer) horizon horizon) longer_runs)
          ∙ get_or_list 64 (change_at mode jobs longer horizon) j d l

      -- .. it gives the verdict that `verdict` answers at the record of a run of the list ..
      pub before_is : (lent : List ℕ) → length lent ≡ horizon
          → (get_or (admit_answer mode jobs horizon task arrives runs).changes j d).before ≡ verdict_answer (planter mode jobs) (run_answer (planter mode jobs) Stay horizon lent).«record» j
      before_is lent whole = ap (λ (c : Change). c.before) change_is ∙ verdict_is mode jobs horizon lent whole jobs_run j

      -- .. and at the record of a run of the longer list.
      pub after_is : (lent : List ℕ) → length lent ≡ horizon
          → (get_or (admit_answer mode jobs horizon task arrives runs).changes j d).after
          ≡ verdict_answer (planter mode (appended jobs task arrives runs)) (run_answer (planter mode (appended jobs task arrives runs)) Stay horizon lent).«record» j
      after_is lent whole = ap (λ (c : Change). c.after) change_is ∙ verdict_is mode longer horizon lent whole longer_runs j

      -- a job that is not in the list has no verdict without the offered job
      unlisted_before : job_count jobs ≤ j → verdict_said (get_or (admit_answer mode jobs horizon task arrives runs).changes j d).before ≡ refused 13 0
      unlisted_before past = ap (λ (c : Change). verdict_said c.before) change_is ∙ unlisted mode jobs horizon j jobs_run past

      -- So from the count on both are refused with 13 and place 0, that the list has no such job ..
      pub past_thirteen : job_count jobs + 1 ≤ j
          → (verdict_said (get_or (admit_answer mode jobs horizon task arrives runs).changes j d).before ≡ refused 13 0)
          × (verdict_said (get_or (admit_answer mode jobs horizon task arrives runs).changes j d).after ≡ refused 13 0)
      past_thirteen past =
          (unlisted_before (omega arith), ap (λ (c : Change). verdict_said c.after) change_is ∙ unlisted mode longer horizon j longer_runs (omega (arith, counted)))

    -- .. and so is the offered job's verdict without it.
    pub offered_before : (d : Change) → verdict_said (get_or (admit_answer mode jobs horizon task arrives runs).changes (job_count jobs) d).before ≡ refused 13 0
    offered_before d = unlisted_before (job_count jobs) d (omega (arith, counts_few)) (omega arith)

    -- A down-force job whose deadline lies within the horizon is met without the offered job ..
    pub down_force_before : (j : ℕ) (d : Change) → j < job_count jobs → task_of jobs j ≡ down_force → arrival jobs j + 20 ≤ horizon
        → verdict_said (get_or (admit_answer mode jobs horizon task arrives runs).changes j d).before ≡ met
    down_force_before j d l its within =
        ap (λ (c : Change). verdict_said c.before) (change_is j d (omega (arith, counts_few))) ∙ down_force_met mode jobs horizon j jobs_run l its within

    -- .. and with it; so is the offered job, if it is one.
    pub down_force_after : (j : ℕ) (d : Change) → j < job_count (appended jobs task arrives runs) → task_of (appended jobs task arrives runs) j ≡ down_force
        → arrival (appended jobs task arrives runs) j + 20 ≤ horizon
        → verdict_said (get_or (admit_answer mode jobs horizon task arrives runs).changes j d).after ≡ met
    down_force_after j d l its within =
        ap (λ (c : Change). verdict_said c.after) (change_is j d (omega (arith, counts_few, counted))) ∙ down_force_met mode longer horizon j longer_runs l its within
