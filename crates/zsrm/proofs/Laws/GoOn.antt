-- Runs by steps, and by parts. A step that meets its checks is taken, and so is each of a run's. Where going on from a record is not refused
-- the record is consistent and has room for the ticks, and both stay so along the run; so a run of a + b ticks is accepted exactly where its
-- parts are, and is their entries end to end. One tick is a step, and from the fresh record it is our run; from our run's record both tie
-- choices go on alike. After a legal schedule Stay goes on legally: between scheduling instants it keeps the entry before, whoever chose that.
use Prim.Native.Nat.{◌+◌, ◌<◌, suc, zero, ℕ, ◌≤◌}
use mathlib.Core.Bool.{false, not, true}
use mathlib.Core.List.{◌++◌, List, [], ◌∷◌}
use mathlib.Core.Logic.{inl, inr, ◌↔◌, ◌⊎◌}
use mathlib.Core.Path.{ap, ap₂, refl, sym, ◌∙◌, ◌≡◌}
use native.Mathlib.Decide.{ℕ_discrete}
use native.Mathlib.Numerals.{add-one}
use native.Mathlib.Omega.{arith}
use lib.Dec.{eqb, ltb}
use lib.ListN.{drop, length, length-append}
use borrow.Author.Tests.{eq-eqb, eqb-true, le-ltb, lt-ltb, ltb-false, ne_eqb, not-false}
use Rattle.bits.proofs.Laws.Bools.{either}
use Rattle.std.specs.Prelude.{Ok, Err}
use Rattle.zsrm.specs.declared.answers.Claim.{Claim}
use Rattle.tables.specs.Outcomes.{Outcome, Done, Refused}
use Rattle.zsrm.specs.declared.record.Record.{Record}
use Rattle.zsrm.specs.declared.tie.Tie.{Tie}
use Rattle.zsrm.specs.declared.tie.Tie.TheVariants.{Lowest, Stay}
use Rattle.zsrm.specs.Answers.{check_go_on, check_step, claim_answer, go_on_answer, go_on_schedule, ran, refused_step, run_answer, run_schedule, step_answer, stepped, steps_from, fresh_answer}
use Rattle.tables.specs.Refusals.{unless, before, check10, check9, check_lists, refuse, check_schedule}
use Rattle.zsrm.specs.Legal.{claim}
use Rattle.zsrm.specs.Record.{blank, check11, check12, check_room, consistent, fresh}
use Rattle.zsrm.specs.Run.{entries_by, final_by, replay, replayed, run_entries, run_record}
use Rattle.zsrm.specs.Given.{Given}
use Rattle.zsrm.specs.Tick.{advanced, choice}
use Rattle.zsrm.proofs.Laws.Answers.{LegalClaim, run_given_law, whole_legal}
use Rattle.zsrm.proofs.Laws.Choice.{choice_may}
use Rattle.zsrm.proofs.Laws.Consistent.{consistent_tick, fresh_consistent, replayed_consistent}
use Rattle.zsrm.proofs.Laws.Going.{Going, entries_parts, final_more, final_none, going_more, going_none, steps_entry}
use Rattle.zsrm.proofs.Laws.Places.{tick_fresh}
use Rattle.tables.proofs.Laws.Accepted.{lists_few, accepted, Accepted}
use Rattle.tables.proofs.Laws.Refusals.{before_first, before_last, before_second, numbered_before, numbered_refuse, refuse_fine, unless_done, unless_refused, lists_numbered, Other}
use Rattle.zsrm.proofs.Laws.Replay.{tick_replay}
use Rattle.zsrm.proofs.Laws.Run.{length_entries, resumed_legal, stay_resumes}
use Rattle.zsrm.proofs.Laws.Ties.{runs_agree}
use Rattle.tables.specs.Said.{outcome_said, done}
use Rattle.tables.proofs.Laws.Said.{said_done}
use Rattle.zsrm.specs.declared.answers.Claim.TheVariants as claims

-- a step that meets its checks is taken
step_taken : (g : Given) (tie : Tie) (r : Record) → check_lists g.lists ≡ Done → consistent g r ≡ true → r.tick < 16384 → step_answer g tie r ≡ stepped g tie r
unfolding step_answer check_step check11 check12 refuse before unless
step_taken g tie r ok sound time = rw (ok, sound, ne_eqb r.tick 16384 (λ e. omega arith))

-- so is each of a run's
module _ (g : Given) (ok : check_lists g.lists ≡ Done) (tie : Tie) where
  pub going_from : (start : Record) → consistent g start ≡ true → (n : ℕ) → start.tick + n ≤ 16384 → Going g (choice g tie) start (steps_from g tie start n) n
  unfolding steps_from
  going_from start sound zero b = going_none g (choice g tie) start sound
  going_from start sound (suc n) b =
      let w = going_from start sound n (omega arith) in
      let r = steps_from g tie start n in
      let s = steps_entry g tie r (step_answer g tie r) (step_taken g tie r ok w.sound (omega (arith, w.time))) in
      rw add-one at (going_more g (choice g tie) start r (step_answer g tie r).«record» n w (omega arith) (choice_may g tie r) s.1)

  pub going : (n : ℕ) → n ≤ 16384 → Going g (choice g tie) (fresh g.lists.jobs) (steps_from g tie (fresh g.lists.jobs) n) n
  going n b = going_from (fresh g.lists.jobs) (fresh_consistent g) n (rw tick_fresh (omega arith))

-- our run, where nothing is refused
pub run_checked : (g : Given) (tie : Tie) (horizon : ℕ) (lent : List ℕ) → outcome_said (run_answer g tie horizon lent).outcome ≡ done → check_schedule g.lists horizon (length lent) ≡ Done
unfolding run_answer ran
run_checked g tie horizon lent = (said_done (check_schedule g.lists horizon (length lent))).0

module _ (g : Given) (tie : Tie) (horizon : ℕ) (lent : List ℕ) (ok : check_schedule g.lists horizon (length lent) ≡ Done) where
  pub fresh_record : (fresh_answer g.lists.tasks g.lists.jobs).«record» ≡ fresh g.lists.jobs
  unfolding fresh_answer ran
  fresh_record = unless_done _ _ (check_lists g.lists) (accepted g.lists horizon (length lent) ok).lists

  pub ran_consistent : consistent g (run_answer g tie horizon lent).«record» ≡ true
  unfolding run_record
  ran_consistent =
      let a = accepted g.lists horizon (length lent) ok in
      let w = going g a.lists tie horizon a.bounded in
      ap (consistent g) ((run_given_law g tie horizon lent ok).0 ∙ sym w.is) ∙ w.sound

  pub ran_step : (t : ℕ) → t < horizon
      → step_answer g tie (steps_from g tie (fresh_answer g.lists.tasks g.lists.jobs).«record» t) ≡ stepped g tie (final_by g (choice g tie) (fresh g.lists.jobs) t)
  ran_step t l =
      let a = accepted g.lists horizon (length lent) ok in
      let w = going g a.lists tie t (omega arith) in
      let z = tick_fresh g.lists.jobs in
      rw fresh_record (step_taken g tie _ a.lists w.sound (omega (arith, w.time)) ∙ ap (stepped g tie) w.is)

-- what going on that is not refused says of its input
pub record GoesOn (g : Given) (r : Record) (ticks entries : ℕ) : Type 0 where
  pub lists : check_lists g.lists ≡ Done
  pub whole : entries ≡ ticks
  pub sound : consistent g r ≡ true
  pub room : r.tick + ticks ≤ 16384
  pub fits : r.tick + entries ≤ 16384

module _ (g : Given) (r : Record) (ticks entries : ℕ) where
  pub goes_on_law : check_go_on g r ticks entries ≡ Done → GoesOn g r ticks entries
  unfolding check_go_on check10 check11 check_room
  goes_on_law ok =
      let rest = before_second (check_lists g.lists) _ ok in
      let last = before_second (check10 entries ticks) _ rest in
      let whole = eqb-true entries ticks (not-false (eqb entries ticks) (refuse_fine _ _ _ (before_first (check10 entries ticks) _ rest))) in
      let room = ltb-false 16384 (r.tick + ticks) (refuse_fine _ _ _ (before_second (check11 (consistent g r)) _ last)) in
      record {
        lists = before_first (check_lists g.lists) _ ok;
        whole = whole;
        sound = not-false (consistent g r) (refuse_fine _ _ _ (before_first (check11 (consistent g r)) _ last));
        room = room;
        fits = omega arith;
      }

  pub go_on_accepted : check_lists g.lists ≡ Done → entries ≡ ticks → consistent g r ≡ true → r.tick + ticks ≤ 16384 → check_go_on g r ticks entries ≡ Done
  unfolding check_go_on check10 check11 check_room refuse before
  go_on_accepted lists whole sound room = rw (lists, eq-eqb entries ticks whole, sound, le-ltb 16384 (r.tick + ticks) room)

-- whatever is refused: the lists with 2 to 8, and then 10, 11 and 12
abbrev NotNine : ℕ → Type 0
NotNine number = number ≡ 9 → ⊥

pub never_nine : (g : Given) (r : Record) (ticks entries : ℕ) → Other 9 (check_go_on g r ticks entries)
unfolding check_go_on check10 check11 check_room
never_nine g r ticks entries =
    numbered_before NotNine (check_lists g.lists) _ (lists_numbered NotNine (λ n least most e. omega arith) g.lists)
    (numbered_before NotNine (check10 entries ticks) _ (numbered_refuse NotNine _ 10 0 (λ e. omega arith))
    (numbered_before NotNine (check11 (consistent g r)) _ (numbered_refuse NotNine _ 11 0 (λ e. omega arith)) (numbered_refuse NotNine _ 12 0 (λ e. omega arith))))

-- the answer and the list, where nothing is refused and where something is
module _ (g : Given) (tie : Tie) (r : Record) (ticks : ℕ) (lent : List ℕ) where
  pub go_on_said : outcome_said (go_on_answer g tie r ticks lent).outcome ≡ done ↔ check_go_on g r ticks (length lent) ≡ Done
  unfolding go_on_answer ran
  go_on_said = said_done (check_go_on g r ticks (length lent))

  pub go_on_done : check_go_on g r ticks (length lent) ≡ Done → (made : Record) → made ≡ final_by g (choice g tie) r (length lent) → ran Done made ≡ go_on_answer g tie r ticks lent
  unfolding go_on_answer
  go_on_done ok made e = ap₂ ran (sym ok) (e ∙ ap (final_by g (choice g tie) r) (goes_on_law g r ticks (length lent) ok).whole)

  pub go_on_writes : check_go_on g r ticks (length lent) ≡ Done → (l : List ℕ) → l ≡ entries_by g (choice g tie) r (length lent) → l ≡ go_on_schedule g tie r ticks lent
  unfolding go_on_schedule
  go_on_writes ok l e =
      e ∙ ap (entries_by g (choice g tie) r) (goes_on_law g r ticks (length lent) ok).whole
      ∙ sym (unless_done (λ number place. lent) (entries_by g (choice g tie) r ticks) (check_go_on g r ticks (length lent)) ok)

  pub go_on_refused : (number place : ℕ) → check_go_on g r ticks (length lent) ≡ Refused number place → (x : Record) → ran (Refused number place) x ≡ go_on_answer g tie r ticks lent
  unfolding go_on_answer ran unless
  go_on_refused n p e x = rw e

  pub go_on_keeps : (number place : ℕ) → check_go_on g r ticks (length lent) ≡ Refused number place → lent ≡ go_on_schedule g tie r ticks lent
  unfolding go_on_schedule
  go_on_keeps n p e = sym (unless_refused (λ number place. lent) (entries_by g (choice g tie) r ticks) (check_go_on g r ticks (length lent)) n p e)

  pub go_on_given : check_go_on g r ticks (length lent) ≡ Done
      → ((go_on_answer g tie r ticks lent).«record» ≡ final_by g (choice g tie) r ticks) × (go_on_schedule g tie r ticks lent ≡ entries_by g (choice g tie) r ticks)
  unfolding go_on_answer ran go_on_schedule
  go_on_given ok = (unless_done _ _ (check_go_on g r ticks (length lent)) ok, unless_done _ _ (check_go_on g r ticks (length lent)) ok)

module _ (g : Given) (tie : Tie) (r : Record) where
  -- the record stays consistent, and its tick goes on with the run
  pub going_by : consistent g r ≡ true → (n : ℕ) → r.tick + n ≤ 16384 → Going g (choice g tie) r (final_by g (choice g tie) r n) n
  going_by sound zero b = rw (final_none g (choice g tie) r) (going_none g (choice g tie) r sound)
  going_by sound (suc n) b =
      let w = going_by sound n (omega arith) in
      let x = final_by g (choice g tie) r n in
      rw add-one at (going_more g (choice g tie) r x (final_by g (choice g tie) r (n + 1)) n w (omega arith) (choice_may g tie x) (final_more g (choice g tie) r n))

  -- a ticks, and then b
  module _ (a b : ℕ) (first second lent : List ℕ) (one : length first ≡ a) (two : length second ≡ b) where
    -- the whole is accepted where its parts are, and they where it is
    pub parts_accepted : check_go_on g r (a + b) (length lent) ≡ Done
        → (check_go_on g r a (length first) ≡ Done) × (check_go_on g (go_on_answer g tie r a first).«record» b (length second) ≡ Done)
    parts_accepted ok =
        let w = goes_on_law g r (a + b) (length lent) ok in
        let x = go_on_accepted g r a (length first) w.lists one w.sound (omega (arith, w.room)) in
        let t = going_by w.sound a (omega (arith, w.room)) in
        (x, rw (go_on_given g tie r a first x).0 (go_on_accepted g (final_by g (choice g tie) r a) b (length second) w.lists two t.sound (omega (arith, t.time, w.room))))

    pub whole_accepted : length lent ≡ a + b → check_go_on g r a (length first) ≡ Done → check_go_on g (go_on_answer g tie r a first).«record» b (length second) ≡ Done
        → check_go_on g r (a + b) (length lent) ≡ Done
    whole_accepted long x y =
        let w = goes_on_law g r a (length first) x in
        let t = going_by w.sound a w.room in
        let v = goes_on_law g (final_by g (choice g tie) r a) b (length second) (rw (go_on_given g tie r a first x).0 at y) in
        go_on_accepted g r (a + b) (length lent) w.lists long w.sound (omega (arith, t.time, v.room))

-- one tick is a step
last_tick : (t : ℕ) → t ≤ 16384 → ltb 16384 (t + 1) ≡ eqb t 16384
last_tick t b = go (ℕ_discrete t 16384)
  where
    go : Dec (t ≡ 16384) → ltb 16384 (t + 1) ≡ eqb t 16384
    go (yes e) = lt-ltb 16384 (t + 1) (omega arith) ∙ sym (eq-eqb t 16384 e)
    go (no n) = le-ltb 16384 (t + 1) (omega arith) ∙ sym (ne_eqb t 16384 n)

pub one_checked : (g : Given) (r : Record) (entries : ℕ) → entries ≡ 1 → check_go_on g r 1 entries ≡ check_step g r
unfolding check_go_on check_step check10 check11 check12 check_room refuse before
one_checked g r entries e = rw (eq-eqb entries 1 e) (ap (before (check_lists g.lists)) (go (either (consistent g r))))
  where
    go : (consistent g r ≡ true) ⊎ (consistent g r ≡ false)
        → before (refuse (not (consistent g r)) 11 0) (refuse (ltb 16384 (r.tick + 1)) 12 0) ≡ before (refuse (not (consistent g r)) 11 0) (refuse (eqb r.tick 16384) 12 0)
    go (inl q) = rw (last_tick r.tick (consistent_tick g r q))
    go (inr q) = rw q

module _ (g : Given) (tie : Tie) (r : Record) (lent : List ℕ) (one : length lent ≡ 1) where
  pub one_record : (go_on_answer g tie r 1 lent).«record» ≡ (step_answer g tie r).«record»
  unfolding go_on_answer ran step_answer stepped refused_step unless final_by entries_by replay
  one_record = ap (λ (o : Outcome). unless o (λ number place. blank) (advanced g r (choice g tie r))) (one_checked g r (length lent) one) ∙ go (check_step g r)
    where
      go : (o : Outcome) → unless o (λ number place. blank) (advanced g r (choice g tie r)) ≡ (unless o refused_step (stepped g tie r)).«record»
      go Done = refl
      go (Err w) = refl

-- the fresh record is consistent, and has room for every horizon that is not refused
fresh_checked : (g : Given) (horizon entries : ℕ) (r : Record) → horizon ≤ 16384 → r ≡ fresh g.lists.jobs
    → before (check9 horizon) (check10 entries horizon) ≡ before (check10 entries horizon) (before (check11 (consistent g r)) (check_room r.tick horizon))
unfolding check9 check11 check_room refuse before
fresh_checked g horizon entries r b q =
    rw (le-ltb 16384 horizon b, q, fresh_consistent g, tick_fresh g.lists.jobs, le-ltb 16384 (0 + horizon) (omega arith))
    (sym (before_last (check10 entries horizon)))

-- from the fresh record it is our run, refusals too, where the horizon is no cause of one
pub run_goes_on : (g : Given) (tie : Tie) (horizon : ℕ) (lent : List ℕ) (r : Record) → horizon ≤ 16384 → (check_lists g.lists ≡ Done → r ≡ fresh g.lists.jobs)
    → (run_answer g tie horizon lent ≡ go_on_answer g tie r horizon lent) × (run_schedule g tie horizon lent ≡ go_on_schedule g tie r horizon lent)
unfolding run_answer run_schedule go_on_answer go_on_schedule check_schedule check_go_on
run_goes_on g tie horizon lent r b from = go (check_lists g.lists) refl
  where
    go : (o : Outcome) → check_lists g.lists ≡ o
        → (ran (before o (before (check9 horizon) (check10 (length lent) horizon))) (run_record g tie horizon)
        ≡ ran (before o (before (check10 (length lent) horizon) (before (check11 (consistent g r)) (check_room r.tick horizon)))) (final_by g (choice g tie) r horizon))
        × (unless (before o (before (check9 horizon) (check10 (length lent) horizon))) (λ number place. lent) (run_entries g tie horizon)
        ≡ unless (before o (before (check10 (length lent) horizon) (before (check11 (consistent g r)) (check_room r.tick horizon)))) (λ number place. lent) (entries_by g (choice g tie) r horizon))
    go Done ok = (
      ap₂ ran (ap (before Done) (fresh_checked g horizon (length lent) r b (from ok))) (unfold run_record in ap (λ (x : Record). final_by g (choice g tie) x horizon) (sym (from ok))),
      ap₂ (λ (o : Outcome) (l : List ℕ). unless o (λ number place. lent) l) (ap (before Done) (fresh_checked g horizon (length lent) r b (from ok)))
          (unfold run_entries in ap (λ (x : Record). entries_by g (choice g tie) x horizon) (sym (from ok))),
    )
    go (Err w) ok = (unfold ran before unless in refl, unfold before unless in refl)

-- from the record of a run of ours both tie choices go on alike: their longer runs agree, and so do the beginnings of these
cancel : (xs ys zs : List ℕ) → xs ++ ys ≡ xs ++ zs → ys ≡ zs
cancel [] ys zs e = e
cancel (x ∷ xs) ys zs e = cancel xs ys zs (ap (drop 1) e)

entries_alike : (g : Given) → check_lists g.lists ≡ Done → (h n : ℕ) → h + n ≤ 16384 → (r : Record) → r ≡ run_record g Lowest h
    → entries_by g (choice g Stay) r n ≡ entries_by g (choice g Lowest) r n
unfolding run_entries run_record
entries_alike g ok h n b r q =
    let f = fresh g.lists.jobs in
    let es = entries_by g (choice g Lowest) f h in
    let part = runs_agree g ok h (omega arith) in
    cancel es (entries_by g (choice g Stay) r n) (entries_by g (choice g Lowest) r n)
    (ap₂ (λ (l : List ℕ) (s : Record). l ++ entries_by g (choice g Stay) s n) (sym part.0) (q ∙ sym part.1)
    ∙ sym (entries_parts g (choice g Stay) f h n) ∙ (runs_agree g ok (h + n) b).0 ∙ entries_parts g (choice g Lowest) f h n
    ∙ ap (λ (s : Record). es ++ entries_by g (choice g Lowest) s n) (sym q))

module _ (g : Given) (tie : Tie) (horizon : ℕ) (lent : List ℕ) (ok : check_schedule g.lists horizon (length lent) ≡ Done) where
  ran_time : (run_answer g tie horizon lent).«record».tick ≡ horizon
  unfolding run_record
  ran_time =
      let a = accepted g.lists horizon (length lent) ok in
      let f = fresh g.lists.jobs in
      let z = tick_fresh g.lists.jobs in
      ap (λ (r : Record). r.tick) (run_given_law g tie horizon lent ok).0 ∙ (going_by g tie f (fresh_consistent g) horizon (omega (arith, a.bounded))).time ∙ omega arith

  pub run_alike : (ticks : ℕ) → (run_answer g tie horizon lent).«record».tick + ticks ≤ 16384
      → entries_by g (choice g Stay) (run_answer g tie horizon lent).«record» ticks ≡ entries_by g (choice g Lowest) (run_answer g tie horizon lent).«record» ticks
  run_alike ticks room = entries_alike g a.lists horizon ticks (omega (arith, room, ran_time)) _ (lowest tie (run_given_law g tie horizon lent ok).0)
    where
      a : Accepted g.lists horizon (length lent)
      a = accepted g.lists horizon (length lent) ok

      lowest : (t : Tie) → (run_answer g tie horizon lent).«record» ≡ run_record g t horizon → (run_answer g tie horizon lent).«record» ≡ run_record g Lowest horizon
      lowest Stay q = q ∙ (runs_agree g a.lists horizon a.bounded).1
      lowest Lowest q = q

-- after a legal schedule
module _ (g : Given) (horizon : ℕ) (schedule : List ℕ) (c : LegalClaim g horizon schedule) (ticks : ℕ) (lent : List ℕ) (whole : length lent ≡ ticks) (room : horizon + ticks ≤ 16384) where
  -- from its record there is room to go on, under either tie choice
  pub claim_accepted : check_go_on g (replayed g schedule) ticks (length lent) ≡ Done
  claim_accepted =
      let a = c.input in
      let t : (replayed g schedule).tick ≡ length schedule = unfold replayed in tick_replay g (fresh g.lists.jobs) schedule ∙ rw tick_fresh (omega arith) in
      go_on_accepted g (replayed g schedule) ticks (length lent) a.lists whole (replayed_consistent g schedule (omega (arith, a.whole)) c.legal) (omega (arith, a.whole))

  pub claim_goes_on : claim_answer g (horizon + ticks) (schedule ++ go_on_schedule g Stay (replayed g schedule) ticks lent) ≡ Ok claims.Legal
  unfolding claim_answer check_schedule check9 check10 refuse before
  claim_goes_on =
      let a = c.input in
      let es = entries_by g (choice g Stay) (replayed g schedule) ticks in
      let n : length (schedule ++ es) ≡ horizon + ticks = simp length-append (omega (arith, a.whole, length_entries g (choice g Stay) ticks (replayed g schedule))) in
      let ok : check_schedule g.lists (horizon + ticks) (length (schedule ++ es)) ≡ Done = rw (a.lists, le-ltb 16384 (horizon + ticks) room, eq-eqb (length (schedule ++ es)) (horizon + ticks) n) in
      rw (go_on_given g Stay (replayed g schedule) ticks lent claim_accepted).1
      (unless_done Refused (Ok (claim g (schedule ++ es))) (check_schedule g.lists (horizon + ticks) (length (schedule ++ es))) ok
      ∙ ap (λ (c : Claim). Ok c) ((whole_legal g (schedule ++ es)).1 (resumed_legal g (choice g Stay) (stay_resumes g (lists_few g.lists a.lists)) schedule ticks (omega (arith, a.whole)) c.legal)))
