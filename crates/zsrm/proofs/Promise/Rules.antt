-- Demand 2: ticks, claims and witnesses are those of the rules. In this order: steps and runs, going on, claims and replays, mending,
-- witnesses, verdicts, and the calls from C.
use Prim.Native.Nat.{◌%◌, ◌+◌, ◌-◌, ◌/◌, ◌<◌, ℕ, ◌≤◌}
use mathlib.Core.Bool.{Bool, false, true}
use mathlib.Core.List.{◌++◌, List, [], ◌∷◌}
use mathlib.Core.Logic.Iff
use mathlib.Core.Logic.{inl, inr, ◌↔◌, ◌⊎◌, ⊎_elim}
use mathlib.Core.Path.{ap, refl, subst, sym, ◌≡◌, ◌∙◌, ap₂}
use native.Mathlib.Omega.{arith}
use lib.ListN.{get_or, length}
use Rattle.tables.specs.Bytes.{bytes_of, numbers_in}
use Rattle.zsrm.specs.declared.answers.Stepped.{Stepped}
use Rattle.zsrm.specs.declared.mode.Mode.TheVariants.{S}
use Rattle.zsrm.specs.declared.record.Record.{Record}
use Rattle.zsrm.specs.declared.tie.Tie.{Tie}
use Rattle.zsrm.specs.declared.tie.Tie.TheVariants.{Lowest, Stay}
use Rattle.zsrm.specs.declared.record.Standing.{Standing}
use Rattle.zsrm.specs.declared.record.Standing.TheVariants.{Finished, Ended}
use Rattle.zsrm.specs.Answers.{check_go_on, check_mend, check_step, check_verdict, claim_answer, fresh_answer, go_on_answer, go_on_schedule, mend_answer, mend_schedule, ran}
use Rattle.zsrm.specs.Answers.{refused_step, replay_answer, run_answer, run_schedule, step_answer, stepped, steps_from, verdict_answer, verdicts_answer, witness_answer, if_legal}
use Rattle.zsrm.specs.Record.{blank, consistent, fresh, standing_at, check11, check_room}
use Rattle.tables.specs.Refusals.{check_lists, check_schedule, before, check10, check9, refuse, unless}
use Rattle.zsrm.specs.Run.{replay, replayed, record_before, entries_by, final_by, run_entries, run_record}
use Rattle.zsrm.specs.Said.{accepted_ended, accepted_late, changed, claim_said, ended, ended_in, finished_at, late, legal, mended_said}
use Rattle.zsrm.specs.Said.{met, not_arrived, not_legal, not_missed, standing_said, still_open, unfinished, verdict_said, whole, witness_said, outside_assumption}
use Rattle.tables.specs.Said.{done, outcome_said, refused}
use Rattle.zsrm.specs.Given.{Given, is_se}
use Rattle.zsrm.specs.Mend.{differing, mend_choice, mended}
use Rattle.tables.specs.Tables.{arrival, deadline, deadline_instant, idle, job_count, job_criticality, task_of, lists, execution, job_nominal}
use Rattle.zsrm.specs.Tick.{candidate, choice}
use Rattle.zsrm.specs.Verdict.{verdict_is, missed, verdict, is_open}
use Rattle.zsrm.proofs.Laws.Answers.{is_legal_law, run_claim, run_outcome, run_given_law, run_keeps, whole_legal}
use Rattle.zsrm.proofs.Laws.Assumption.{ended_broken, first_outside}
use Rattle.zsrm.proofs.Laws.Consistent.{replayed_consistent, unended, consistent_tick}
use Rattle.zsrm.proofs.Laws.Places.{previous_advanced}
use Rattle.zsrm.proofs.Laws.Replay.{tick_replay, replay_append}
use Rattle.bits.proofs.Laws.Below.{get_or_list}
use Rattle.bits.proofs.Laws.Bools.{never_true, clash}
use Rattle.zsrm.proofs.Laws.Said.{claim_said_law, finish_told, standing_said_law, verdict_said_law}
use Rattle.zsrm.proofs.Laws.Ties.{run_ties}
use Rattle.zsrm.proofs.Readings.{FirstOutside, LeastIllegal, LegalAt, Within, alive_reads, claim_legal, claim_not_legal, witness_reads, is_open_reads}
use Rattle.zsrm.proofs.Laws.Standings.{finishes_later}
use Rattle.zsrm.proofs.Laws.Verdicts.{final_stays, judged_exactly, not_missed_law, verdict_answered, verdict_named, verdict_sound}
use Rattle.tables.proofs.Laws.Bytes.{length_bytes, length_numbers, numbers_back}
use Rattle.tables.proofs.Laws.Accepted.{accepted, lists_few}
use Rattle.tables.proofs.Laws.Refusals.{unless_done, unless_refused, Other, same_ok}
use Rattle.tables.proofs.Laws.Said.{given_exactly, said_done, said_refused}
use Rattle.zsrm.specs.Legal.{claim}
use Rattle.zsrm.specs.Bytes.{packed_answer, check_bytes, claim_result, given_bytes, packed_claim, packed_outcome, run_bytes, run_result}
use Rattle.zsrm.proofs.Laws.Mend.{Accepts, accepts, claim_says, length_mended, mend_accepted, mend_changed, mend_says}
use Rattle.zsrm.proofs.Laws.Mend.{mend_whole, mended_counts, mended_differs, mended_earlier, mended_legal, mended_then, mended_whole, schedule_is}
use Rattle.zsrm.proofs.Laws.Witnesses.{accepted_exactly, claim_answer_law, judged_end, legal_answer}
use Rattle.zsrm.specs.declared.answers.Claim.{Claim}
use Rattle.std.specs.Prelude.{Result, Ok, Err}
use Rattle.tables.specs.declared.answers.Refusal.{Refusal}
use Rattle.zsrm.specs.declared.answers.Verdict.{Verdict}
use Rattle.tables.specs.Outcomes.{Outcome, Done, Refused}
use Rattle.zsrm.proofs.Laws.Called.{bytes_checked, c_claim_exactly, run_passed}
use Rattle.zsrm.proofs.Laws.Choice.{choice_kept}
use Rattle.zsrm.proofs.Laws.GoOn.{claim_accepted, claim_goes_on, fresh_record, go_on_accepted, go_on_given, go_on_said, goes_on_law, going, going_by}
use Rattle.zsrm.proofs.Laws.GoOn.{going_from, never_nine, one_checked, one_record, parts_accepted, ran_consistent, ran_step, run_alike, run_checked, run_goes_on, whole_accepted}
use borrow.Author.Tests.{eq-eqb, lt-ltb}
use Rattle.zsrm.proofs.Laws.Going.{entries_parts, final_none, final_parts, steps_entry}
use Rattle.zsrm.proofs.Laws.Run.{get_or_entries, length_run, our_run_legal}
use Rattle.zsrm.proofs.Laws.View.{none_ended}
use Rattle.zsrm.specs.declared.answers.Claim.TheVariants as claims
use Rattle.zsrm.specs.declared.answers.Mended.TheVariants as mends
use Rattle.zsrm.specs.declared.answers.Verdict.TheVariants as verdicts
use Rattle.zsrm.specs.declared.answers.Witness.TheVariants as witnesses
use Rattle.zsrm.specs.declared.record.Standing.TheVariants as standings
use Rattle.zsrm.proofs.Promise.Refusals.{step_checked, go_on_checked, fresh_done, refused_go_on_keeps}

-- A step that is done is the tick of the rules (`stepped`).
pub step_is_tick : (g : Given) (tie : Tie) (r : Record) → outcome_said (step_answer g tie r).outcome ≡ done → step_answer g tie r ≡ stepped g tie r
unfolding step_answer
step_is_tick g tie r ok = unless_done _ _ (check_step g r) (sym (step_checked g tie r) ∙ (said_done (step_answer g tie r).outcome).0 ok)

-- Our run, where it is done, under either tie choice.
module _ (g : Given) (tie : Tie) (horizon : ℕ) (lent : List ℕ) (ok : outcome_said (run_answer g tie horizon lent).outcome ≡ done) where
  checked : check_schedule g.lists horizon (length lent) ≡ Done
  checked = run_checked g tie horizon lent ok

  -- Its schedule is legal: the claim check answers legal on what it wrote.
  pub run_is_legal : claim_said (claim_answer g horizon (run_schedule g tie horizon lent)) ≡ legal
  unfolding claim_said
  run_is_legal = ap claim_said (run_claim g tie horizon lent checked)

  -- The record it returns is the one at that schedule's end ..
  pub run_record_law : (run_answer g tie horizon lent).«record» ≡ replayed g (run_schedule g tie horizon lent)
  unfolding replayed final_by run_record run_entries
  run_record_law = let w = run_given_law g tie horizon lent checked in w.0 ∙ ap (replay g (fresh g.lists.jobs)) (sym w.1)

  -- .. and is consistent.
  pub run_consistent : consistent g (run_answer g tie horizon lent).«record» ≡ true
  run_consistent = ran_consistent g tie horizon lent checked

  -- It is also what `step` gives, repeated from the fresh record as often as the horizon says (`steps_from g tie r n`: n times from r) ..
  pub run_is_steps : (run_answer g tie horizon lent).«record» ≡ steps_from g tie (fresh_answer g.lists.tasks g.lists.jobs).«record» horizon
  unfolding run_record
  run_is_steps =
      let a = accepted g.lists horizon (length lent) checked in
      rw (fresh_record g tie horizon lent checked) ((run_given_law g tie horizon lent checked).0 ∙ sym (going g a.lists tie horizon a.bounded).is)

  -- .. where each of those steps is done, and gives the schedule's entry of its tick.
  pub run_each_step : (t : ℕ) → t < horizon
      → (outcome_said (step_answer g tie (steps_from g tie (fresh_answer g.lists.tasks g.lists.jobs).«record» t)).outcome ≡ done)
      × (get_or (run_schedule g tie horizon lent) t idle ≡ (step_answer g tie (steps_from g tie (fresh_answer g.lists.tasks g.lists.jobs).«record» t)).entry)
  unfolding stepped outcome_said run_entries
  run_each_step t l =
      let s = ran_step g tie horizon lent checked t l in (
        ap (λ (x : Stepped). outcome_said x.outcome) s,
        ap (λ (es : List ℕ). get_or es t idle) (run_given_law g tie horizon lent checked).1
            ∙ get_or_entries g (choice g tie) (fresh g.lists.jobs) horizon t l ∙ ap (λ (x : Stepped). x.entry) (sym s),
      )

-- Replayed, what our run wrote gives the run's own record, refusals too.
pub replay_run : (g : Given) (tie : Tie) (horizon : ℕ) (lent : List ℕ) → (replay_answer g horizon (run_schedule g tie horizon lent)).«record» ≡ (run_answer g tie horizon lent).«record»
unfolding replay_answer claim_answer run_answer ran
replay_run g tie horizon lent = go o refl
  where
    o : Outcome
    o = check_schedule g.lists horizon (length lent)

    go : (x : Outcome) → o ≡ x → (replay_answer g horizon (run_schedule g tie horizon lent)).«record» ≡ (run_answer g tie horizon lent).«record»
    go Done ok =
        ap (λ (c : Result Claim Refusal). if_legal c (replayed g (run_schedule g tie horizon lent))) (run_claim g tie horizon lent ok)
        ∙ sym (run_record_law g tie horizon lent ((said_done o).1 ok))
    go (Err w) e =
        ap (λ (l : List ℕ). (replay_answer g horizon l).«record») (sym (run_keeps g tie horizon lent w.number w.place e))
        ∙ ap (λ (c : Result Claim Refusal). if_legal c (replayed g lent)) (unless_refused Refused (Ok (claim g lent)) o w.number w.place e) ∙ sym (unless_refused _ _ o w.number w.place e)

-- From the fresh record both tie choices make the same run, refusals too: the same answer, and the same entries written.
pub ties_agree : (g : Given) (horizon : ℕ) (lent : List ℕ)
    → (run_answer g Stay horizon lent ≡ run_answer g Lowest horizon lent) × (run_schedule g Stay horizon lent ≡ run_schedule g Lowest horizon lent)
ties_agree = run_ties

-- A step that is done keeps its entry, which the next step finds as the previous one.
pub step_keeps : (g : Given) (tie : Tie) (r : Record) → outcome_said (step_answer g tie r).outcome ≡ done → (step_answer g tie r).«record».previous ≡ (step_answer g tie r).entry
unfolding stepped
step_keeps g tie r ok =
    let s = step_is_tick g tie r ok in
    ap (λ (x : Stepped). x.«record».previous) s ∙ previous_advanced g r (choice g tie r) ∙ sym (ap (λ (x : Stepped). x.entry) s)

-- Under Stay the job of the previous tick goes on while it is a candidate, from any record that a step takes ..
module _ (g : Given) (r : Record) (ok : outcome_said (step_answer g Stay r).outcome ≡ done) (job : r.previous < job_count g.lists.jobs) where
  pub stays : candidate g r r.previous ≡ true → (step_answer g Stay r).entry ≡ r.previous
  stays may = (steps_entry g Stay r (step_answer g Stay r) (step_is_tick g Stay r ok)).0 ∙ choice_kept g r job may

  -- .. so another job, or none, runs only where that job is no longer a candidate ..
  pub switches : ((step_answer g Stay r).entry ≡ r.previous → ⊥) → candidate g r r.previous ≡ false
  switches other = never_true (candidate g r r.previous) (λ may. other (stays may))

-- .. and from one step to the next the entry changes from a job to another, or to idle, only where the first is no longer a candidate.
module _ (g : Given) (tie : Tie) (r : Record) (ok : outcome_said (step_answer g tie r).outcome ≡ done) (job : (step_answer g tie r).entry < job_count g.lists.jobs) where
  pub switches_next : outcome_said (step_answer g Stay (step_answer g tie r).«record»).outcome ≡ done
      → ((step_answer g Stay (step_answer g tie r).«record»).entry ≡ (step_answer g tie r).entry → ⊥)
      → candidate g (step_answer g tie r).«record» (step_answer g tie r).entry ≡ false
  switches_next next other =
      let kept = step_keeps g tie r ok in
      subst (λ (e : ℕ). candidate g (step_answer g tie r).«record» e ≡ false) kept
      (switches g (step_answer g tie r).«record» next (subst (λ (e : ℕ). e < job_count g.lists.jobs) (sym kept) job) (λ q. other (q ∙ kept)))

-- Longer planning by parts, in either mode and under either tie choice: from a record that was saved, as many ticks on as are asked for.
module _ (g : Given) (tie : Tie) (r : Record) where
  -- Going on is done exactly where the lists pass their checks, the lent list has one entry for each tick, the record is consistent, and its
  -- tick plus the ticks stays within 16,384 ..
  pub go_on_exactly : (ticks : ℕ) (lent : List ℕ) → outcome_said (go_on_answer g tie r ticks lent).outcome ≡ done
      ↔ (outcome_said (check_lists g.lists) ≡ done) × (length lent ≡ ticks) × (consistent g r ≡ true) × (r.tick + ticks ≤ 16384)
  go_on_exactly ticks lent =
      let asked = go_on_said g tie r ticks lent in
      let lists = said_done (check_lists g.lists) in (
        λ ok. let w = goes_on_law g r ticks (length lent) (asked.0 ok) in (lists.1 w.lists, w.whole, w.sound, w.room),
        λ w. asked.1 (go_on_accepted g r ticks (length lent) (lists.0 w.0) w.1 w.2 w.3),
      )

  -- .. and past that it is refused with 12, its entries unwritten.
  pub go_on_past_limit : (ticks : ℕ) (lent : List ℕ) → outcome_said (check_lists g.lists) ≡ done → length lent ≡ ticks → consistent g r ≡ true → 16384 < r.tick + ticks
      → (outcome_said (go_on_answer g tie r ticks lent).outcome ≡ refused 12 0) × (go_on_schedule g tie r ticks lent ≡ lent)
  unfolding outcome_said go_on_answer ran check_go_on check10 check11 check_room refuse before
  go_on_past_limit ticks lent lists whole sound past =
      let says : outcome_said (go_on_answer g tie r ticks lent).outcome ≡ refused 12 0 =
      rw ((said_done (check_lists g.lists)).0 lists, eq-eqb (length lent) ticks whole, sound, lt-ltb 16384 (r.tick + ticks) past) in
      (says, (refused_go_on_keeps g tie r ticks lent 12 0 says).0)

  -- Going on is given no horizon: it is never refused with 9, whatever the place.
  pub go_on_never_nine : (ticks : ℕ) (lent : List ℕ) (place : ℕ) → outcome_said (go_on_answer g tie r ticks lent).outcome ≡ refused 9 place → ⊥
  unfolding go_on_answer ran
  go_on_never_nine ticks lent place says = subst (Other 9) ((said_refused (check_go_on g r ticks (length lent)) 9 place).0 says) (never_nine g r ticks (length lent)) refl

  -- Running 0 ticks gives a consistent record back, at tick 16,384 too.
  pub go_on_nothing : outcome_said (check_lists g.lists) ≡ done → consistent g r ≡ true
      → (outcome_said (go_on_answer g tie r 0 []).outcome ≡ done) × ((go_on_answer g tie r 0 []).«record» ≡ r) × (go_on_schedule g tie r 0 [] ≡ [])
  unfolding entries_by
  go_on_nothing lists sound =
      let ok = go_on_accepted g r 0 0 ((said_done (check_lists g.lists)).0 lists) refl sound (omega (arith, consistent_tick g r sound)) in
      let w = go_on_given g tie r 0 [] ok in
      ((go_on_said g tie r 0 []).1 ok, w.0 ∙ final_none g (choice g tie) r, w.1)

  module _ (a b : ℕ) (first second lent : List ℕ) (one : length first ≡ a) (two : length second ≡ b) (long : length lent ≡ a + b) where
    -- Running a ticks, and then b from the record that this gives, is done exactly where running a + b is ..
    pub parts_exactly : outcome_said (go_on_answer g tie r (a + b) lent).outcome ≡ done
        ↔ (outcome_said (go_on_answer g tie r a first).outcome ≡ done) × (outcome_said (go_on_answer g tie (go_on_answer g tie r a first).«record» b second).outcome ≡ done)
    parts_exactly =
        let middle = (go_on_answer g tie r a first).«record» in (
          λ ok. let w = parts_accepted g tie r a b first second lent one two ((go_on_said g tie r (a + b) lent).0 ok) in
              ((go_on_said g tie r a first).1 w.0, (go_on_said g tie middle b second).1 w.1),
          λ w. (go_on_said g tie r (a + b) lent).1
              (whole_accepted g tie r a b first second lent one two long ((go_on_said g tie r a first).0 w.0) ((go_on_said g tie middle b second).0 w.1)),
        )

    -- .. and then gives the same record, and the same entries end to end.
    pub parts_agree : outcome_said (go_on_answer g tie r (a + b) lent).outcome ≡ done
        → ((go_on_answer g tie r (a + b) lent).«record» ≡ (go_on_answer g tie (go_on_answer g tie r a first).«record» b second).«record»)
        × (go_on_schedule g tie r (a + b) lent ≡ go_on_schedule g tie r a first ++ go_on_schedule g tie (go_on_answer g tie r a first).«record» b second)
    parts_agree ok =
        let all = (go_on_said g tie r (a + b) lent).0 ok in
        let w = parts_accepted g tie r a b first second lent one two all in
        let x = go_on_given g tie r a first w.0 in
        let y = go_on_given g tie (go_on_answer g tie r a first).«record» b second w.1 in
        let z = go_on_given g tie r (a + b) lent all in (
          z.0 ∙ final_parts g (choice g tie) r a b ∙ sym (y.0 ∙ ap (λ (s : Record). final_by g (choice g tie) s b) x.0),
          z.1 ∙ entries_parts g (choice g tie) r a b
              ∙ ap₂ (λ (l m : List ℕ). l ++ m) (sym x.1) (sym (y.1 ∙ ap (λ (s : Record). entries_by g (choice g tie) s b) x.0)),
        )

  -- The record that going on gives is consistent, so it may be saved and handed in again; its tick is as many ticks on, and it is what
  -- `step` gives, repeated as often.
  pub go_on_record : (ticks : ℕ) (lent : List ℕ) → outcome_said (go_on_answer g tie r ticks lent).outcome ≡ done
      → (consistent g (go_on_answer g tie r ticks lent).«record» ≡ true) × ((go_on_answer g tie r ticks lent).«record».tick ≡ r.tick + ticks)
      × ((go_on_answer g tie r ticks lent).«record» ≡ steps_from g tie r ticks)
  go_on_record ticks lent ok =
      let passed = (go_on_said g tie r ticks lent).0 ok in
      let w = goes_on_law g r ticks (length lent) passed in
      let x = going_by g tie r w.sound ticks w.room in
      let is = (go_on_given g tie r ticks lent passed).0 in
      (ap (consistent g) is ∙ x.sound, ap (λ (s : Record). s.tick) is ∙ x.time, is ∙ sym (going_from g w.lists tie r w.sound ticks w.room).is)

  -- Going on by one tick is a step: the same outcome and the same record, refusals too, and where it is done the same entry.
  module _ (lent : List ℕ) (one : length lent ≡ 1) where
    pub go_on_one_tick : ((go_on_answer g tie r 1 lent).outcome ≡ (step_answer g tie r).outcome) × ((go_on_answer g tie r 1 lent).«record» ≡ (step_answer g tie r).«record»)
    go_on_one_tick = (go_on_checked g tie r 1 lent ∙ one_checked g r (length lent) one ∙ sym (step_checked g tie r), one_record g tie r lent one)

    pub go_on_one_entry : outcome_said (step_answer g tie r).outcome ≡ done → go_on_schedule g tie r 1 lent ≡ (step_answer g tie r).entry ∷ []
    unfolding go_on_schedule step_answer stepped unless entries_by
    go_on_one_entry ok = rw (one_checked g r (length lent) one, sym (step_checked g tie r) ∙ (said_done (step_answer g tie r).outcome).0 ok)

-- Our run is going on from the fresh record, refusals too, for every horizon to 16,384 ..
pub run_is_go_on : (g : Given) (tie : Tie) (horizon : ℕ) (lent : List ℕ) → horizon ≤ 16384
    → (run_answer g tie horizon lent ≡ go_on_answer g tie (fresh_answer g.lists.tasks g.lists.jobs).«record» horizon lent)
    × (run_schedule g tie horizon lent ≡ go_on_schedule g tie (fresh_answer g.lists.tasks g.lists.jobs).«record» horizon lent)
unfolding fresh_answer ran
run_is_go_on g tie horizon lent within =
    run_goes_on g tie horizon lent (fresh_answer g.lists.tasks g.lists.jobs).«record» within
    (λ ok. fresh_done g.lists.tasks g.lists.jobs ((said_done (check_lists g.lists)).1 ok))

-- .. beyond which it is refused with 9, and going on with 12 (`go_on_past_limit`).
pub run_past_limit : (g : Given) (tie : Tie) (horizon : ℕ) (lent : List ℕ) → outcome_said (check_lists g.lists) ≡ done → 16384 < horizon
    → outcome_said (run_answer g tie horizon lent).outcome ≡ refused 9 0
unfolding outcome_said run_answer ran check_schedule check9 refuse before
run_past_limit g tie horizon lent lists past = rw ((said_done (check_lists g.lists)).0 lists, lt-ltb 16384 horizon past)

-- From the record of a run of ours both tie choices go on alike, refusals too.
pub run_goes_on_alike : (g : Given) (tie : Tie) (horizon : ℕ) (lent : List ℕ) → outcome_said (run_answer g tie horizon lent).outcome ≡ done → (ticks : ℕ) (more : List ℕ)
    → (go_on_answer g Stay (run_answer g tie horizon lent).«record» ticks more ≡ go_on_answer g Lowest (run_answer g tie horizon lent).«record» ticks more)
    × (go_on_schedule g Stay (run_answer g tie horizon lent).«record» ticks more ≡ go_on_schedule g Lowest (run_answer g tie horizon lent).«record» ticks more)
unfolding go_on_answer go_on_schedule ran unless final_by
run_goes_on_alike g tie horizon lent ok ticks more = go (check_go_on g r ticks (length more)) refl
  where
    r : Record
    r = (run_answer g tie horizon lent).«record»

    go : (o : Outcome) → check_go_on g r ticks (length more) ≡ o
        → (ran o (final_by g (choice g Stay) r ticks) ≡ ran o (final_by g (choice g Lowest) r ticks))
        × (unless o (λ number place. more) (entries_by g (choice g Stay) r ticks) ≡ unless o (λ number place. more) (entries_by g (choice g Lowest) r ticks))
    go Done q = let e = run_alike g tie horizon lent (checked g tie horizon lent ok) ticks (goes_on_law g r ticks (length more) q).room in (ap (λ (es : List ℕ). ran Done (replay g r es)) e, e)
    go (Err w) q = (refl, refl)

-- From the record at the end of a schedule that the claim check answers legal, ours or any other, going on is done as far as tick 16,384 ..
module _ (g : Given) (horizon : ℕ) (schedule : List ℕ) (ok : claim_said (claim_answer g horizon schedule) ≡ legal)
    (ticks : ℕ) (lent : List ℕ) (whole : length lent ≡ ticks) (room : horizon + ticks ≤ 16384) where
  pub legal_go_on_done : (tie : Tie) → outcome_said (go_on_answer g tie (replayed g schedule) ticks lent).outcome ≡ done
  legal_go_on_done tie =
      (go_on_said g tie (replayed g schedule) ticks lent).1 (claim_accepted g horizon schedule (is_legal_law g horizon schedule ok) ticks lent whole room)

  -- .. its record is the one at the end of both schedules, end to end ..
  pub legal_go_on_record : (tie : Tie) → (go_on_answer g tie (replayed g schedule) ticks lent).«record» ≡ replayed g (schedule ++ go_on_schedule g tie (replayed g schedule) ticks lent)
  unfolding replayed final_by
  legal_go_on_record tie =
      let w = go_on_given g tie (replayed g schedule) ticks lent (claim_accepted g horizon schedule (is_legal_law g horizon schedule ok) ticks lent whole room) in
      w.0 ∙ ap (replay g (replayed g schedule)) (sym w.1) ∙ sym (replay_append g (fresh g.lists.jobs) schedule (go_on_schedule g tie (replayed g schedule) ticks lent))

  -- .. and under Stay these make a legal schedule. Under Lowest they need not (`lowest_goes_on_illegally` in Traced).
  pub stay_goes_on_legally : claim_said (claim_answer g (horizon + ticks) (schedule ++ go_on_schedule g Stay (replayed g schedule) ticks lent)) ≡ legal
  unfolding claim_said
  stay_goes_on_legally = ap claim_said (claim_goes_on g horizon schedule (is_legal_law g horizon schedule ok) ticks lent whole room)

-- A claim is answered "legal" exactly when its input passes the checks and every one of its ticks is legal, earlier entries taken as
-- given (`LegalAt` in Readings) ..
module _ (g : Given) (horizon : ℕ) (schedule : List ℕ) where
  pub legal_exactly : claim_said (claim_answer g horizon schedule) ≡ legal
      ↔ (outcome_said (check_schedule g.lists horizon (length schedule)) ≡ done) × ((t : ℕ) → t < horizon → LegalAt g schedule t)
  unfolding claim_said claim_answer
  legal_exactly =
      let asked = check_schedule g.lists horizon (length schedule) in
      Iff.trans (given_exactly claim_said claim_said_law (claim g schedule) asked claims.Legal) (
        λ w. let a = accepted g.lists horizon (length schedule) ((said_done asked).0 w.0) in (w.0, λ t l. (claim_legal g schedule).0 w.1 t (omega arith)),
        λ w. let a = accepted g.lists horizon (length schedule) ((said_done asked).0 w.0) in (w.0, (claim_legal g schedule).1 (λ t l. w.1 t (omega arith))),
      )

  -- .. and "not legal at t" exactly when it passes them and t is the least of its ticks that is not legal.
  pub not_legal_exactly : (t : ℕ) → claim_said (claim_answer g horizon schedule) ≡ not_legal t
      ↔ (outcome_said (check_schedule g.lists horizon (length schedule)) ≡ done) × LeastIllegal g schedule t
  unfolding claim_said claim_answer
  not_legal_exactly t =
      Iff.trans (given_exactly claim_said claim_said_law (claim g schedule) _ (claims.NotLegal t))
      (λ w. (w.0, (claim_not_legal g schedule t).0 w.1), λ w. (w.0, (claim_not_legal g schedule t).1 w.1))

  -- Of a schedule that is replayed the claim is the claim check's own answer, refusals too ..
  pub replay_claim : (replay_answer g horizon schedule).claim ≡ claim_answer g horizon schedule
  unfolding replay_answer
  replay_claim = refl

  -- .. the record is, where that is "legal", the one at the schedule's end, and consistent ..
  pub replay_legal : claim_said (claim_answer g horizon schedule) ≡ legal
      → ((replay_answer g horizon schedule).«record» ≡ replayed g schedule) × (consistent g (replay_answer g horizon schedule).«record» ≡ true)
  unfolding replay_answer claim_said
  replay_legal ok =
      let c = is_legal_law g horizon schedule ok in
      let a = c.input in
      let end = ap (λ (x : Result Claim Refusal). if_legal x (replayed g schedule)) (claim_said_law (claim_answer g horizon schedule) (Ok claims.Legal) ok) in
      (end, ap (consistent g) end ∙ replayed_consistent g schedule (omega arith) c.legal)

  -- .. and else blank.
  pub replay_blank : (claim_said (claim_answer g horizon schedule) ≡ legal → ⊥) → (replay_answer g horizon schedule).«record» ≡ blank
  unfolding replay_answer claim_said
  replay_blank = go (claim_answer g horizon schedule)
    where
      go : (c : Result Claim Refusal) → (claim_said c ≡ legal → ⊥) → if_legal c (replayed g schedule) ≡ blank
      go (Err w) other = refl
      go (Ok claims.Legal) other = absurd (other refl)
      go (Ok (claims.NotLegal t)) other = refl

  -- A claim mended into a second list, where nothing is refused.
  module _ (lent : List ℕ) (ok : outcome_said (check_mend g.lists horizon (length schedule) (length lent)) ≡ done) where
    passes : check_mend g.lists horizon (length schedule) (length lent) ≡ Done
    passes = (said_done (check_mend g.lists horizon (length schedule) (length lent))).0 ok

    its : Accepts g.lists horizon (length schedule) (length lent)
    its = accepts g.lists horizon (length schedule) (length lent) passes

    made : mend_schedule g horizon schedule lent ≡ mended g schedule
    made = schedule_is g horizon schedule lent passes

    -- The result is legal.
    pub mended_is_legal : claim_said (claim_answer g horizon (mend_schedule g horizon schedule lent)) ≡ legal
    unfolding claim_said claim_answer
    mended_is_legal =
        ap claim_said (ap (claim_answer g horizon) made
        ∙ unless_done Refused (Ok (claim g (mended g schedule))) (check_schedule g.lists horizon (length (mended g schedule))) (rw (length_mended g schedule) its.checked)
        ∙ ap (λ (c : Claim). Ok c) (mended_legal g schedule its.few its.limit))

    -- A legal claim, and no other, is answered "whole", and comes back entry for entry.
    pub whole_exactly : mended_said (mend_answer g horizon schedule lent) ≡ whole ↔ claim_said (claim_answer g horizon schedule) ≡ legal
    unfolding mended_said claim_said
    whole_exactly = (
      λ e. (claim_says g horizon schedule lent passes claims.Legal).1 ((mend_whole g schedule).0 ((mend_says g horizon schedule lent passes mends.Whole).0 e)),
      λ e. (mend_says g horizon schedule lent passes mends.Whole).1 ((mend_whole g schedule).1 ((claim_says g horizon schedule lent passes claims.Legal).0 e)),
    )

    pub whole_comes_back : claim_said (claim_answer g horizon schedule) ≡ legal → mend_schedule g horizon schedule lent ≡ schedule
    unfolding claim_said
    whole_comes_back says = made ∙ mended_whole g schedule ((claim_says g horizon schedule lent passes claims.Legal).0 says)

    -- Any other is answered "changed": the first changed tick is the one at which the claim is not legal, and the count is the number of
    -- places at which the lists differ.
    pub changed_exactly : (first n : ℕ) → mended_said (mend_answer g horizon schedule lent) ≡ changed first n
        ↔ (claim_said (claim_answer g horizon schedule) ≡ not_legal first) × (n ≡ differing schedule (mend_schedule g horizon schedule lent))
    unfolding mended_said claim_said
    changed_exactly first n =
        let stops = claim_says g horizon schedule lent passes (claims.NotLegal first) in
        let says = mend_says g horizon schedule lent passes (mends.Changed first n) in (
          λ e. let w = (mend_changed g schedule first n).0 (says.0 e) in (stops.1 w.0, w.1 ∙ ap (differing schedule) (sym made)),
          λ w. says.1 ((mend_changed g schedule first n).1 (stops.0 w.0, w.1 ∙ ap (differing schedule) made)),
        )

    module _ (first : ℕ) (says : claim_said (claim_answer g horizon schedule) ≡ not_legal first) where
      stops : claim g schedule ≡ claims.NotLegal first
      unfolding claim_said
      stops = (claim_says g horizon schedule lent passes (claims.NotLegal first)).0 says

      -- Before that tick the entries are the claim's, at it they differ, so the count is at least 1 ..
      pub changed_first : ((t : ℕ) → t < first → get_or (mend_schedule g horizon schedule lent) t idle ≡ get_or schedule t idle)
          × (get_or (mend_schedule g horizon schedule lent) first idle ≡ get_or schedule first idle → ⊥)
          × (0 < differing schedule (mend_schedule g horizon schedule lent))
      changed_first =
          let f = its.few in
          let l = its.limit in
          rw made (mended_earlier g schedule f l first stops, mended_differs g schedule f l first stops, mended_counts g schedule f l first stops)

      -- .. and from it on each entry is the one that mending chooses (`mend_choice`): the previous entry where the tick is above 0 and no
      -- scheduling instant, otherwise the lowest numbered candidate, or idle (`mend_keeps` and `mend_else` in Readings; there `choice_job`
      -- and `choice_idle` for the lowest candidate, or idle). What the record keeps is the entry before (`entry_before_kept`).
      pub changed_then : (t : ℕ) → first ≤ t → t < horizon
          → get_or (mend_schedule g horizon schedule lent) t idle ≡ mend_choice g (record_before g (mend_schedule g horizon schedule lent) t)
      changed_then t l b = rw made (mended_then g schedule its.few its.limit first stops t l (omega (arith, its.input.whole)))

-- Mending the result again changes nothing.
pub mends_once : (g : Given) (horizon : ℕ) (schedule lent : List ℕ) → outcome_said (check_mend g.lists horizon (length schedule) (length lent)) ≡ done
    → (more : List ℕ) → length more ≡ horizon
    → (mended_said (mend_answer g horizon (mend_schedule g horizon schedule lent) more) ≡ whole)
    × (mend_schedule g horizon (mend_schedule g horizon schedule lent) more ≡ mend_schedule g horizon schedule lent)
mends_once g horizon schedule lent ok more room =
    let result = mend_schedule g horizon schedule lent in
    let long : length result ≡ length schedule = ap (λ (l : List ℕ). length l) (made g horizon schedule lent ok) ∙ length_mended g schedule in
    let again = (said_done _).1 (mend_accepted g.lists horizon (length result) (length more) (rw long (its g horizon schedule lent ok).checked) room) in
    let says = mended_is_legal g horizon schedule lent ok in
    ((whole_exactly g horizon result more again).1 says, whole_comes_back g horizon result more again says)

module _ (g : Given) (horizon : ℕ) (schedule : List ℕ) where
  -- A witness is accepted exactly when its schedule is legal, the named job is in the list, every strictly more critical job of the list
  -- keeps to its nominal time C (`Within` in Readings), and the named job is late or ended; against a late job it carries by how much, and
  -- whether that is exact.
  pub witness_exactly : (j n : ℕ) (is_exact : Bool) → witness_said (witness_answer g horizon schedule j) ≡ accepted_late n is_exact
      ↔ (claim_said (claim_answer g horizon schedule) ≡ legal) × (j < job_count g.lists.jobs) × Within g j × (verdict_said (verdict_answer g (replayed g schedule) j) ≡ late n is_exact)
  unfolding witness_said verdict_said
  witness_exactly j n is_exact =
      accepted_exactly g horizon schedule j (witnesses.AcceptedLate n is_exact) (verdicts.Late n is_exact)
      (witness_reads g schedule j (witnesses.AcceptedLate n is_exact))

  pub witness_ended_exactly : (j : ℕ) → witness_said (witness_answer g horizon schedule j) ≡ accepted_ended
      ↔ (claim_said (claim_answer g horizon schedule) ≡ legal) × (j < job_count g.lists.jobs) × Within g j × (verdict_said (verdict_answer g (replayed g schedule) j) ≡ ended)
  unfolding witness_said verdict_said
  witness_ended_exactly j =
      accepted_exactly g horizon schedule j witnesses.AcceptedEnded verdicts.Ended (witness_reads g schedule j witnesses.AcceptedEnded)

  -- It is answered "outside the assumption", naming job i, exactly when its schedule is legal, the named job is in the list, and i is the
  -- first job of the list that is strictly more critical and whose c exceeds its C (`FirstOutside` in Readings).
  pub witness_outside_exactly : (j i : ℕ) → witness_said (witness_answer g horizon schedule j) ≡ outside_assumption i
      ↔ (claim_said (claim_answer g horizon schedule) ≡ legal) × (j < job_count g.lists.jobs) × FirstOutside g j i
  unfolding witness_said
  witness_outside_exactly j i =
      legal_answer g horizon schedule j (witnesses.Outside i) (FirstOutside g j i) (witness_reads g schedule j (witnesses.Outside i))

  -- It is answered "not missed" exactly when its schedule is legal, the named job is in the list, every strictly more critical job keeps to
  -- C, and the named job is met or open ..
  pub witness_not_missed_exactly : (j : ℕ) → witness_said (witness_answer g horizon schedule j) ≡ not_missed
      ↔ (claim_said (claim_answer g horizon schedule) ≡ legal) × (j < job_count g.lists.jobs) × Within g j
      × ((verdict_said (verdict_answer g (replayed g schedule) j) ≡ met) ⊎ (verdict_said (verdict_answer g (replayed g schedule) j) ≡ still_open))
  unfolding witness_said verdict_said
  witness_not_missed_exactly j =
      Iff.trans
      (legal_answer g horizon schedule j witnesses.NotMissed (Within g j × (missed (verdict g.lists (replayed g schedule) j) ≡ false))
      (Iff.trans (witness_reads g schedule j witnesses.NotMissed) (λ m. (m.0, (m.1, m.2)), λ m. (m.0, m.1.0, m.1.1)))) (
        λ m. let q = judged_end g horizon schedule m.0 j m.1 in
            (m.0, m.1, m.2.0, ⊎_elim (λ e. inl (ap verdict_said (q ∙ ap (λ (v : Verdict). Ok v) e))) (λ e. inr (ap verdict_said (q ∙ ap (λ (v : Verdict). Ok v) e))) (not_missed_law g (replayed g schedule) j m.2.1)),
        λ m. let q = sym (judged_end g horizon schedule m.0 j m.1) in
            (m.0, m.1, (m.2, ⊎_elim (λ h. ap missed (same_ok (q ∙ verdict_said_law _ (Ok verdicts.Met) h))) (λ h. ap missed (same_ok (q ∙ verdict_said_law _ (Ok verdicts.Open) h))) m.3)),
      )

  -- .. and "not legal at t" exactly when the claim check answers that of its schedule, and the named job is in the list.
  pub witness_not_legal_exactly : (j t : ℕ) → witness_said (witness_answer g horizon schedule j) ≡ not_legal t
      ↔ (claim_said (claim_answer g horizon schedule) ≡ not_legal t) × (j < job_count g.lists.jobs)
  unfolding witness_said claim_said
  witness_not_legal_exactly j t =
      Iff.trans
      (claim_answer_law g horizon schedule j (witnesses.NotLegal t) (claims.NotLegal t) (Unit {0})
      (Iff.trans (witness_reads g schedule j (witnesses.NotLegal t)) (λ e. (e, tt), λ m. m.0)))
      (λ m. (m.0, m.1), λ m. (m.0, m.1, tt))

-- A verdict from a record that passes the checks: met exactly when the job finished by arrival + D; late by exactly n when it finished n
-- ticks, one or more, after that instant; late by at least n when it is unfinished n ticks, none or more, after it; ended when it was ended;
-- open when it has not arrived, or is unfinished before that instant.
module _ (g : Given) (r : Record) (j : ℕ) where
  stands : (s : Standing) → standing_at r j ≡ s ↔ standing_said (standing_at r j) ≡ standing_said s
  stands s = (ap standing_said, standing_said_law (standing_at r j) s)

  pub met_exactly : verdict_said (verdict_answer g r j) ≡ met
      ↔ (outcome_said (check_verdict g r j) ≡ done) × ((f : ℕ) × (standing_said (standing_at r j) ≡ finished_at f) × (f ≤ deadline_instant g.lists j))
  unfolding verdict_said standing_said
  met_exactly =
      Iff.trans (judged_exactly g r j verdicts.Met) (
        λ w. let v = w.1 in (w.0, (v.0, (stands (Finished v.0)).0 v.1, v.2)),
        λ w. let v = w.1 in (w.0, (v.0, (stands (Finished v.0)).1 v.1, v.2)),
      )

  pub late_exactly : (n : ℕ) → verdict_said (verdict_answer g r j) ≡ late n true
      ↔ (outcome_said (check_verdict g r j) ≡ done) × (standing_said (standing_at r j) ≡ finished_at (deadline_instant g.lists j + n)) × (0 < n)
  unfolding verdict_said standing_said
  late_exactly n =
      Iff.trans (judged_exactly g r j (verdicts.Late n true)) (
        λ w. (w.0, (stands (Finished (deadline_instant g.lists j + n))).0 w.1.0, w.1.1),
        λ w. (w.0, ((stands (Finished (deadline_instant g.lists j + n))).1 w.1, w.2)),
      )

  pub late_at_least : (n : ℕ) → verdict_said (verdict_answer g r j) ≡ late n false
      ↔ (outcome_said (check_verdict g r j) ≡ done) × (standing_said (standing_at r j) ≡ unfinished) × (r.tick ≡ deadline_instant g.lists j + n)
  unfolding verdict_said standing_said
  late_at_least n =
      Iff.trans (judged_exactly g r j (verdicts.Late n false)) (
        λ w. (w.0, (stands standings.Unfinished).0 ((alive_reads r j).0 w.1.0), w.1.1),
        λ w. (w.0, ((alive_reads r j).1 ((stands standings.Unfinished).1 w.1), w.2)),
      )

  pub ended_exactly : verdict_said (verdict_answer g r j) ≡ ended
      ↔ (outcome_said (check_verdict g r j) ≡ done) × ((e : ℕ) × (standing_said (standing_at r j) ≡ ended_in e))
  unfolding verdict_said standing_said
  ended_exactly =
      Iff.trans (judged_exactly g r j verdicts.Ended) (
        λ w. let v = w.1 in (w.0, (v.0, (stands (Ended v.0)).0 v.1)),
        λ w. let v = w.1 in (w.0, (v.0, (stands (Ended v.0)).1 v.1)),
      )

  pub open_exactly : verdict_said (verdict_answer g r j) ≡ still_open
      ↔ (outcome_said (check_verdict g r j) ≡ done)
      × ((standing_said (standing_at r j) ≡ not_arrived) ⊎ ((standing_said (standing_at r j) ≡ unfinished) × (r.tick < deadline_instant g.lists j)))
  unfolding verdict_said standing_said
  open_exactly =
      Iff.trans (judged_exactly g r j verdicts.Open) (
        λ w. (w.0, ⊎_elim (λ q. inl ((stands standings.NotArrived).0 q)) (λ q. inr ((stands standings.Unfinished).0 ((alive_reads r j).0 q.0), q.1)) w.1),
        λ w. (w.0, ⊎_elim (λ q. inl ((stands standings.NotArrived).1 q)) (λ q. inr ((alive_reads r j).1 ((stands standings.Unfinished).1 q.0), q.1)) w.1),
      )

  -- The exact number of a finished job is its response minus D.
  pub late_response : (n f : ℕ) → verdict_said (verdict_answer g r j) ≡ late n true → standing_said (standing_at r j) ≡ finished_at f
      → f - arrival g.lists.jobs j ≡ deadline g.lists.tasks (task_of g.lists.jobs j) + n
  unfolding deadline_instant
  late_response n f says at = let w = (late_exactly n).0 says in let same : f ≡ deadline_instant g.lists j + n = finish_told (sym at ∙ w.1) in omega arith

  -- Whatever entries follow a record at which a job is late by at least n, a run's or any others: if it then finishes, it does so more than
  -- n ticks after arrival + D ..
  pub late_finishes : (n f : ℕ) (entries : List ℕ) → verdict_said (verdict_answer g r j) ≡ late n false
      → standing_said (standing_at (replay g r entries) j) ≡ finished_at f → deadline_instant g.lists j + n < f
  unfolding standing_said
  late_finishes n f entries says at =
      let now = (late_at_least n).0 says in
      let w = verdict_named g r j ((said_done (check_verdict g r j)).0 now.0) in
      let later = finishes_later g j (omega (arith, w.job, w.few)) entries r f ((alive_reads r j).1 ((stands standings.Unfinished).1 now.1))
      (standing_said_law (standing_at (replay g r entries) j) (Finished f) at) in
      omega (arith, now.2)

  -- .. and wherever it is late afterwards, it is late by n or more.
  pub late_grows : (n m : ℕ) (is_exact : Bool) (entries : List ℕ) → verdict_said (verdict_answer g r j) ≡ late n false
      → verdict_said (verdict_answer g (replay g r entries) j) ≡ late m is_exact → n ≤ m
  unfolding standing_said verdict_said
  late_grows n m true entries says later =
      let w = (judged_exactly g (replay g r entries) j (verdicts.Late m true)).0 later in
      omega (arith, late_finishes n (deadline_instant g.lists j + m) entries says (ap standing_said w.1.0))
  late_grows n m false entries says later =
      let w = (judged_exactly g (replay g r entries) j (verdicts.Late m false)).0 later in
      omega (arith, ((late_at_least n).0 says).2, w.1.1, tick_replay g r entries)

  -- A verdict that is given and is not open is final: whatever entries follow, if the record that they lead to is consistent, the job's
  -- verdict there is not open, and it is missed there exactly where it was missed (`missed`: late or ended).
  pub verdict_final : (entries : List ℕ) → outcome_said (check_verdict g r j) ≡ done → (verdict_said (verdict_answer g r j) ≡ still_open → ⊥) → consistent g (replay g r entries) ≡ true
      → (verdict_said (verdict_answer g (replay g r entries) j) ≡ still_open → ⊥) × (verdict_is missed (verdict_answer g (replay g r entries) j) ≡ verdict_is missed (verdict_answer g r j))
  verdict_final entries given closed sound =
      let ok = (said_done (check_verdict g r j)).0 given in
      let w = verdict_named g r j ok in
      let first = verdict_answered g w.lists r (verdict_sound g r j ok) j w.job in
      let then = verdict_answered g w.lists (replay g r entries) sound j w.job in
      let not-open = never_true (is_open (verdict g.lists r j)) (λ h. closed ((is_open_reads (verdict_answer g r j)).0 (ap (verdict_is is_open) first ∙ h))) in
      let stays = final_stays g j (omega (arith, w.job, w.few)) (missed (verdict g.lists r j)) entries r (not-open, refl) in (
        λ e. clash ((is_open_reads (verdict_answer g (replay g r entries) j)).1 e) (ap (verdict_is is_open) then ∙ stays.0),
        ap (verdict_is missed) then ∙ stays.1 ∙ sym (ap (verdict_is missed) first),
      )

-- All verdicts at once are the verdicts one by one, refusals too.
pub verdicts_each : (g : Given) (r : Record) (j : ℕ) (d : Result Verdict Refusal) → j < 64 → get_or (verdicts_answer g r).of j d ≡ verdict_answer g r j
unfolding verdicts_answer
verdicts_each g r j d l = get_or_list 64 (verdict_answer g r) j d l

-- Where a job was ended, some job breaks the assumption.
module _ (g : Given) (horizon : ℕ) (schedule : List ℕ) where
  module _ (ok : claim_said (claim_answer g horizon schedule) ≡ legal) (j : ℕ) (l : j < job_count g.lists.jobs) where
    -- In any schedule that the claim check answers legal, a job stands as ended only where some strictly more critical job of the list has a
    -- c that exceeds its C ..
    pub ended_by_overrun : (e : ℕ) → standing_said (standing_at (replayed g schedule) j) ≡ ended_in e
        → (i : ℕ) × (i < job_count g.lists.jobs) × (job_criticality g.lists j < job_criticality g.lists i) × (job_nominal g.lists i < execution g.lists.jobs i)
    unfolding standing_said
    ended_by_overrun e says =
        let c = is_legal_law g horizon schedule ok in
        let a = c.input in
        let few = lists_few g.lists a.lists in
        let w = ended_broken g few schedule (omega arith) c.legal j e (omega arith) (standing_said_law (standing_at (replayed g schedule) j) (Ended e) says) in
        (w.0, w.1, w.2.0, w.2.1)

    -- .. so within the assumption the named job is not ended ..
    pub within_unended : Within g j → (e : ℕ) → standing_said (standing_at (replayed g schedule) j) ≡ ended_in e → ⊥
    within_unended keeps e says = let w = ended_by_overrun e says in omega (arith, w.3, keeps w.0 w.1 w.2)

    -- .. a witness against a job that was ended is always outside ..
    pub ended_outside : verdict_said (verdict_answer g (replayed g schedule) j) ≡ ended → (i : ℕ) × (witness_said (witness_answer g horizon schedule j) ≡ outside_assumption i)
    ended_outside says =
        let e = ((ended_exactly g (replayed g schedule) j).0 says).1 in
        let w = ended_by_overrun e.0 e.1 in
        let i = first_outside g j (w.0, w.1, (w.2, w.3)) in
        (i.0, (witness_outside_exactly g horizon schedule j i.0).1 (ok, l, i.1))

  -- .. and no witness is accepted against one.
  pub never_accepted_ended : (j : ℕ) → witness_said (witness_answer g horizon schedule j) ≡ accepted_ended → ⊥
  never_accepted_ended j says =
      let w = (witness_ended_exactly g horizon schedule j).0 says in
      let e = ((ended_exactly g (replayed g schedule) j).0 w.3).1 in
      within_unended w.0 j w.1 w.2 e.0 e.1

-- In mode S nothing is ended: no place of a consistent record stands as ended (of legal schedules: `nothing_ended_in_s`).
pub consistent_unended_in_s : (g : Given) (r : Record) → g.mode ≡ S → consistent g r ≡ true
    → (j e : ℕ) → j < 64 → standing_said (standing_at r j) ≡ ended_in e → ⊥
unfolding standing_said
consistent_unended_in_s g r s sound j e l says = unended g r sound s j e l (standing_said_law (standing_at r j) (Ended e) says)

-- So from no record is a job judged ended ..
pub verdict_unended_in_s : (g : Given) (r : Record) (j : ℕ) → g.mode ≡ S → verdict_said (verdict_answer g r j) ≡ ended → ⊥
verdict_unended_in_s g r j s says =
    let w = (ended_exactly g r j).0 says in
    let ok = (said_done (check_verdict g r j)).0 w.0 in
    let n = verdict_named g r j ok in
    consistent_unended_in_s g r s (verdict_sound g r j ok) j w.1.0 (omega (arith, n.job, n.few)) w.1.1

-- .. and every step's ended word is 0, refused or not.
pub step_ends_none_in_s : (g : Given) (tie : Tie) (r : Record) → g.mode ≡ S → (step_answer g tie r).ended ≡ 0
unfolding step_answer unless refused_step stepped
step_ends_none_in_s g tie r s = go (check_step g r)
  where
    go : (o : Outcome) → (unless o refused_step (stepped g tie r)).ended ≡ 0
    go Done = none_ended g r (choice g tie r) (ap is_se s)
    go (Err w) = refl

-- The calls from C, over the lists that the bytes spell: 0 is "done" of a run and "legal" of a claim, 65,536 + t is "not legal at t"; the
-- bytes that a run then has written are our run's, and the claim check calls them legal.
module _ (mode : ℕ) (tasks jobs : List ℕ) (horizon : ℕ) (bytes : List ℕ) where
  pub c_run_done : run_result mode tasks jobs horizon bytes ≡ 0
      → (outcome_said (run_answer (given_bytes mode tasks jobs) Stay horizon (numbers_in 2 bytes)).outcome ≡ done)
      × (run_bytes mode tasks jobs horizon bytes ≡ bytes_of 2 (run_schedule (given_bytes mode tasks jobs) Stay horizon (numbers_in 2 bytes)))
  unfolding run_answer ran run_bytes
  c_run_done e =
      let w = run_passed mode tasks jobs horizon bytes e in
      let g = given_bytes mode tasks jobs in
      let fine : check_schedule g.lists horizon (length (numbers_in 2 bytes)) ≡ Done = rw (length_numbers 2) w.schedule in
      ((said_done _).1 fine, unless_done _ _ _ w.checked ∙ ap (bytes_of 2) (sym (run_given_law g Stay horizon (numbers_in 2 bytes) fine).1))

  pub c_run_exactly : run_result mode tasks jobs horizon bytes ≡ 0 ↔ outcome_said (check_bytes mode tasks jobs horizon (length bytes)) ≡ done
  unfolding run_result packed_outcome
  c_run_exactly =
      let said = said_done (check_bytes mode tasks jobs horizon (length bytes)) in
      (λ e. said.1 (run_passed mode tasks jobs horizon bytes e).checked, λ e. ap packed_outcome (said.0 e))

  pub c_legal_exactly : claim_result mode tasks jobs horizon bytes ≡ 0
      ↔ (outcome_said (check_bytes mode tasks jobs horizon (length bytes)) ≡ done) × (claim_said (claim_answer (given_bytes mode tasks jobs) horizon (numbers_in 2 bytes)) ≡ legal)
  unfolding packed_claim claim_said
  c_legal_exactly = c_claim_exactly mode tasks jobs horizon bytes claims.Legal (λ n p s e. omega (arith, s))

  pub c_not_legal_exactly : (t : ℕ) → claim_result mode tasks jobs horizon bytes ≡ 65536 + t
      ↔ (outcome_said (check_bytes mode tasks jobs horizon (length bytes)) ≡ done) × (claim_said (claim_answer (given_bytes mode tasks jobs) horizon (numbers_in 2 bytes)) ≡ not_legal t)
  unfolding packed_claim claim_said
  c_not_legal_exactly t = c_claim_exactly mode tasks jobs horizon bytes (claims.NotLegal t) (λ n p s e. omega (arith, s))

  pub c_run_is_legal : run_result mode tasks jobs horizon bytes ≡ 0 → claim_result mode tasks jobs horizon (run_bytes mode tasks jobs horizon bytes) ≡ 0
  unfolding run_bytes claim_result packed_answer packed_claim
  c_run_is_legal e =
      let w = run_passed mode tasks jobs horizon bytes e in
      let g = given_bytes mode tasks jobs in
      let es = run_entries g Stay horizon in
      let a = accepted g.lists horizon (length bytes / 2) w.schedule in
      let long : length (bytes_of 2 es) ≡ length bytes = omega (arith, length_bytes 2 es, length_run g Stay horizon, w.even, a.whole) in
      rw (
        unless_done (λ number place. bytes) (bytes_of 2 es) _ w.checked,
        long,
        unless_done Refused (Ok (claim g (numbers_in 2 (bytes_of 2 es)))) _ w.checked,
        numbers_back 2 es (omega arith),
        (whole_legal g es).1 (our_run_legal g a.lists Stay horizon a.bounded),
      )

  -- For mode 0 or 1 and whole byte counts both results are the answers of the run and of the claim check on the numbers that the bytes spell,
  -- packed into one number (`packed_outcome`, `packed_answer`), refusals too.
  module _ (known : mode ≤ 1) (whole_tasks : length tasks % 4 ≡ 0) (whole_jobs : length jobs % 4 ≡ 0) (whole-entries : length bytes % 2 ≡ 0) where
    same_checks : check_bytes mode tasks jobs horizon (length bytes) ≡ check_schedule (given_bytes mode tasks jobs).lists horizon (length (numbers_in 2 bytes))
    same_checks = rw (length_numbers 2) (bytes_checked mode tasks jobs horizon (length bytes) known whole_tasks whole_jobs whole-entries)

    pub c_run_is_run : run_result mode tasks jobs horizon bytes ≡ packed_outcome (run_answer (given_bytes mode tasks jobs) Stay horizon (numbers_in 2 bytes)).outcome
    unfolding run_result
    c_run_is_run = ap packed_outcome (same_checks ∙ sym (run_outcome (given_bytes mode tasks jobs) Stay horizon (numbers_in 2 bytes)))

    pub c_claim_is_claim : claim_result mode tasks jobs horizon bytes ≡ packed_answer (claim_answer (given_bytes mode tasks jobs) horizon (numbers_in 2 bytes))
    unfolding claim_result claim_answer
    c_claim_is_claim = ap (λ (o : Outcome). packed_answer (unless o Refused (Ok (claim (given_bytes mode tasks jobs) (numbers_in 2 bytes))))) same_checks
