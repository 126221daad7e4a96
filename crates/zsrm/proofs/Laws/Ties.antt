-- From the fresh record both tie choices make the same run. Where the job of the previous tick, the lowest candidate then, is a candidate
-- still, it is the lowest still: a rival of a lower number has arrived with it, and whatever would have suspended the rival in the tick
-- would suspend or end it after. So Stay keeps what Lowest takes. Only a record that a caller hands in tells them apart.
use Prim.Native.Nat.{◌+◌, ◌-◌, ◌<◌, suc, zero, ℕ, ◌≤◌}
use mathlib.Core.Bool.{false, true, ◌&&◌}
use mathlib.Core.List.{List, ◌∷◌}
use mathlib.Core.Logic.{inl, inr, ◌≢◌, ◌⊎◌}
use mathlib.Core.Path.{ap, refl, subst, sym, ◌∙◌, ◌≡◌}
use native.Mathlib.Decide.{ℕ_discrete}
use native.Mathlib.Nat.{le_of_eq, le_trans}
use native.Mathlib.Omega.{arith}
use lib.Dec.{ltb}
use lib.ListN.{length}
use borrow.Author.Tests.{lt-ltb, ltb-false, ltb-true}
use Rattle.bits.proofs.Laws.Below.{least_is, none_passes, some_found, some_true}
use Rattle.bits.proofs.Laws.Bools.{and_false, and_left, and_right, and_true, clash, either, never_true, passed}
use Rattle.bits.proofs.Readings.{least_reads}
use Rattle.std.specs.Prelude.{Err}
use Rattle.tables.specs.Outcomes.{Outcome, Done}
use Rattle.tables.specs.Refusals.{before, check5, check6, check7, check8, check_jobs, check_lists, unless, check_schedule}
use Rattle.tables.specs.Tables.{arrival, idle, job_count, job_criticality}
use Rattle.tables.proofs.Laws.Accepted.{lists_few, lists_jobs, accepted}
use Rattle.tables.proofs.Laws.Refusals.{ascending_at, before_first, before_second, refuse_fine}
use Rattle.zsrm.specs.declared.record.Record.{Record}
use Rattle.zsrm.specs.declared.record.Standing.{Standing}
use Rattle.zsrm.specs.declared.record.Standing.TheVariants.{Ended, Finished, NotArrived, Unfinished}
use Rattle.zsrm.specs.declared.tie.Tie.TheVariants.{Lowest, Stay}
use Rattle.zsrm.specs.Answers.{ran, run_answer, run_schedule}
use Rattle.zsrm.specs.Given.{Given}
use Rattle.zsrm.specs.Record.{consistent, done_at, fresh, standing_at}
use Rattle.zsrm.specs.Run.{entries_by, final_by, replay, run_entries, run_record}
use Rattle.zsrm.specs.Tick.{advanced, alive, candidate, choice, eligible, ends, keeps, lowest, more_critical, over, past_zero_slack, some_job, standing_after, is_unfinished}
use Rattle.zsrm.proofs.Laws.Choice.{choice_not_kept, choice_kept, choice_lowest, choice_may, keeps_reads}
use Rattle.zsrm.proofs.Laws.Consistent.{Sound, advanced_consistent, fresh_consistent, sound_at_law}
use Rattle.zsrm.proofs.Laws.Places.{alive_unfinished, previous_advanced, previous_fresh, standing_advanced, standing_alive, tick_advanced, tick_fresh}
use Rattle.zsrm.proofs.Laws.Tick.{candidate_eligible, candidate_exactly, eligible_alive, eligible_exactly, goes_on_cases, past_exactly}

-- accepted jobs stand in order of arrival, also those that are not neighbours
module _ (tasks jobs : List ℕ) (ok : check_jobs tasks jobs ≡ Done) where
  in_order : (j i : ℕ) → i ≤ j → j < job_count jobs → arrival jobs i ≤ arrival jobs j
  unfolding check_jobs check7
  in_order zero i h l = le_of_eq (ap (arrival jobs) (omega arith))
  in_order (suc j) i h l = go (ℕ_discrete i (suc j)) (in_order j i)
    where
      next : arrival jobs j ≤ arrival jobs (suc j)
      next =
          let each = ascending_at (λ k. before (check6 tasks jobs k) (before (check7 jobs k) (check8 tasks jobs k))) (job_count jobs) (suc j) l (before_second (check5 jobs) _ ok) in
          let seven = refuse_fine _ _ _ (before_first (check7 jobs (suc j)) _ (before_second (check6 tasks jobs (suc j)) _ each)) in
          let above : suc j - 1 ≡ j = omega arith in
          subst (λ (k : ℕ). arrival jobs k ≤ arrival jobs (suc j)) above
          (ltb-false (arrival jobs (suc j)) (arrival jobs (suc j - 1)) (and_false (lt-ltb 0 (suc j) (omega arith)) seven))

      go : Dec (i ≡ suc j) → (i ≤ j → j < job_count jobs → arrival jobs i ≤ arrival jobs j) → arrival jobs i ≤ arrival jobs (suc j)
      go (yes e) ih = le_of_eq (ap (arrival jobs) e)
      go (no ne) ih = le_trans (ih (omega arith) (omega arith)) next

module _ (g : Given) (ok : check_lists g.lists ≡ Done) (r : Record) (sound : consistent g r ≡ true) (e : ℕ) where
  small : (j : ℕ) → j < job_count g.lists.jobs → j < 64
  small j l = omega (arith, lists_few g.lists ok)

  alive_arrived : (j : ℕ) → j < job_count g.lists.jobs → alive r j ≡ true → arrival g.lists.jobs j ≤ r.tick
  alive_arrived j l a = let w = rw (alive_unfinished r j a) at (sound_at_law g r sound j (small j l)) in omega (arith, w.here.room)

  -- a job that had arrived, and is alive after the tick, was alive in it
  was_alive : (j : ℕ) → j < job_count g.lists.jobs → arrival g.lists.jobs j ≤ r.tick → alive (advanced g r e) j ≡ true → alive r j ≡ true
  unfolding alive standing_after
  was_alive j l here a = go (standing_at r j) (sound_at_law g r sound j (small j l)) (rw (standing_advanced g r e j (small j l)) at a)
    where
      go : (s : Standing) → Sound g r.tick j (done_at r j) s → is_unfinished (standing_after g r e j s) ≡ true → is_unfinished s ≡ true
      go NotArrived w u = absurd (omega (arith, w.away l))
      go Unfinished w u = refl
      go (Finished f) w u = u
      go (Ended t) w u = u

  -- a job alive that does not run is alive after the tick exactly where it is not ended
  still_alive : (j : ℕ) → j < job_count g.lists.jobs → e ≢ j → alive r j ≡ true → ends g r e j ≡ false → alive (advanced g r e) j ≡ true
  unfolding alive
  still_alive j l n a q =
      rw (standing_alive g r e j (small j l) a) (goes_on_cases g r e (λ s. is_unfinished s ≡ true) j (λ p f. absurd (n p)) (λ x y. clash y q) (λ x y. refl))

  not_ended : (j : ℕ) → j < job_count g.lists.jobs → e ≢ j → alive r j ≡ true → alive (advanced g r e) j ≡ true → ends g r e j ≡ false
  unfolding alive
  not_ended j l n a b =
      goes_on_cases g r e (λ s. is_unfinished s ≡ true → ends g r e j ≡ false) j (λ p f u. absurd (n p)) (λ x y u. clash u refl) (λ x y u. y)
      (rw (standing_alive g r e j (small j l) a) at b)

  past_after : (j : ℕ) → past_zero_slack g r j ≡ true → alive (advanced g r e) j ≡ true → past_zero_slack g (advanced g r e) j ≡ true
  past_after j h a = (past_exactly g (advanced g r e) j).1 (a, rw tick_advanced (omega (arith, ((past_exactly g r j).0 h).1)))

  -- with a job every less critical job alive is ended
  ends_too : (j i : ℕ) → ends g r e i ≡ true → job_criticality g.lists j < job_criticality g.lists i → alive r j ≡ true → ends g r e j ≡ true
  unfolding ends some_job more_critical
  ends_too j i h m a =
      let w = some_found (λ k. over g r e k && ltb (job_criticality g.lists i) (job_criticality g.lists k)) (job_count g.lists.jobs) (and_right (alive r i) _ h) in
      let y = w.2 in
      let more : job_criticality g.lists i < job_criticality g.lists w.0 = search passed in
      and_true a
      (some_true (λ k. over g r e k && ltb (job_criticality g.lists j) (job_criticality g.lists k)) (job_count g.lists.jobs) w.0 w.1
      (and_true (and_left (over g r e w.0) _ y) (lt-ltb (job_criticality g.lists j) (job_criticality g.lists w.0) (omega arith))))

  -- a job that may run in the tick and after it, and its rival of a lower number that may after it: the rival may in the tick
  module _ (k : ℕ) (b : k < e) (l : e < job_count g.lists.jobs) (now : candidate g r e ≡ true)
      (e-then : candidate g (advanced g r e) e ≡ true) (k-then : candidate g (advanced g r e) k ≡ true) where
    lk : k < job_count g.lists.jobs
    lk = omega arith

    k_after : eligible g (advanced g r e) k ≡ true
    k_after = candidate_eligible g (advanced g r e) k k-then

    e_after : eligible g (advanced g r e) e ≡ true
    e_after = candidate_eligible g (advanced g r e) e e-then

    k_alive : alive r k ≡ true
    k_alive =
        let a = alive_arrived e l (eligible_alive g r e (candidate_eligible g r e now)) in
        was_alive k lk (omega (arith, in_order g.lists.tasks g.lists.jobs (lists_jobs g.lists ok) e k (omega arith) l)) (eligible_alive g (advanced g r e) k k_after)

    -- no job past zero slack is more critical: it would be so after the tick, or be ended in it, and the rival with it
    no_more : (i : ℕ) → i < job_count g.lists.jobs → past_zero_slack g r i ≡ true → job_criticality g.lists i ≤ job_criticality g.lists k
    no_more i m h = go (ℕ_discrete e i) (either (ends g r e i))
      where
        lasts : alive (advanced g r e) i ≡ true → job_criticality g.lists i ≤ job_criticality g.lists k
        lasts a = ((eligible_exactly g (advanced g r e) k).0 k_after).1 i m (past_after i h a)

        go : Dec (e ≡ i) → (ends g r e i ≡ true) ⊎ (ends g r e i ≡ false) → job_criticality g.lists i ≤ job_criticality g.lists k
        go (yes q) x = lasts (ap (alive (advanced g r e)) (sym q) ∙ eligible_alive g (advanced g r e) e e_after)
        go (no n) (inl q) =
            ltb-false (job_criticality g.lists k) (job_criticality g.lists i)
            (never_true _ (λ t. clash (ends_too k i q (ltb-true (job_criticality g.lists k) (job_criticality g.lists i) t) k_alive)
            (not_ended k lk (λ z. omega arith) k_alive (eligible_alive g (advanced g r e) k k_after))))
        go (no n) (inr q) = lasts (still_alive i m n ((past_exactly g r i).0 h).0 q)

    k_now : candidate g r k ≡ true
    k_now =
        (candidate_exactly g r k).1 (
          (eligible_exactly g r k).1 (k_alive, no_more),
          λ i m q. omega (arith, ((candidate_exactly g r e).0 now).1 i m q, ((candidate_exactly g (advanced g r e) k).0 k-then).1 e l e_after),
        )

  -- after a tick in which the lowest ran
  settled : lowest g r ≡ e → choice g Stay (advanced g r e) ≡ choice g Lowest (advanced g r e)
  unfolding lowest
  settled ran = go (either (keeps g Stay (advanced g r e)))
    where
      go : (keeps g Stay (advanced g r e) ≡ true) ⊎ (keeps g Stay (advanced g r e) ≡ false) → choice g Stay (advanced g r e) ≡ choice g Lowest (advanced g r e)
      go (inr k) = choice_not_kept g Stay (advanced g r e) k ∙ sym (choice_lowest g (advanced g r e))
      go (inl k) =
          let w = (keeps_reads g Stay (advanced g r e)).0 k in
          let p = previous_advanced g r e in
          let l : e < job_count g.lists.jobs = rw p at w.1 in
          let c : candidate g (advanced g r e) e ≡ true = ap (candidate g (advanced g r e)) (sym p) ∙ w.2 in
          let low = (least_reads (candidate g r) (job_count g.lists.jobs) idle e l (omega (arith, lists_few g.lists ok))).0 ran in
          choice_kept g (advanced g r e) w.1 w.2 ∙ p
          ∙ sym (choice_lowest g (advanced g r e)
          ∙ least_is (candidate g (advanced g r e)) (job_count g.lists.jobs) idle e l
          (none_passes (candidate g (advanced g r e)) e (λ j b. never_true _ (λ t. clash (k_now j b l low.0 c t) (low.1 j b)))) c)

module _ (g : Given) (ok : check_lists g.lists ≡ Done) where
  ties_from : (h : ℕ) (r : Record) → r.tick + h ≤ 16384 → consistent g r ≡ true → choice g Stay r ≡ choice g Lowest r
      → entries_by g (choice g Stay) r h ≡ entries_by g (choice g Lowest) r h
  unfolding entries_by
  ties_from zero r b sound q = refl
  ties_from (suc h) r b sound q =
      ap {B = List ℕ} (λ e. e ∷ entries_by g (choice g Stay) (advanced g r e) h) q
      ∙ ap {B = List ℕ} (λ es. choice g Lowest r ∷ es)
      (ties_from h (advanced g r (choice g Lowest r)) (rw tick_advanced (omega arith))
      (advanced_consistent g r (choice g Lowest r) (omega arith) (choice_may g Lowest r) sound)
      (settled g ok r sound (choice g Lowest r) (sym (choice_lowest g r))))

  -- the fresh record's previous entry is no job
  begins : choice g Stay (fresh g.lists.jobs) ≡ choice g Lowest (fresh g.lists.jobs)
  begins =
      choice_not_kept g Stay (fresh g.lists.jobs)
      (never_true _ (λ k. omega (arith, ((keeps_reads g Stay (fresh g.lists.jobs)).0 k).1, previous_fresh g.lists.jobs, lists_few g.lists ok)))
      ∙ sym (choice_lowest g (fresh g.lists.jobs))

  entries_agree : (h : ℕ) → h ≤ 16384 → entries_by g (choice g Stay) (fresh g.lists.jobs) h ≡ entries_by g (choice g Lowest) (fresh g.lists.jobs) h
  entries_agree h b = ties_from h (fresh g.lists.jobs) (rw tick_fresh (omega arith)) (fresh_consistent g) begins

  pub runs_agree : (h : ℕ) → h ≤ 16384 → (run_entries g Stay h ≡ run_entries g Lowest h) × (run_record g Stay h ≡ run_record g Lowest h)
  unfolding run_entries run_record final_by
  runs_agree h b = (entries_agree h b, ap (replay g (fresh g.lists.jobs)) (entries_agree h b))

-- where a run is refused, no tie choice is looked at
pub run_ties : (g : Given) (horizon : ℕ) (lent : List ℕ)
    → (run_answer g Stay horizon lent ≡ run_answer g Lowest horizon lent) × (run_schedule g Stay horizon lent ≡ run_schedule g Lowest horizon lent)
unfolding run_answer run_schedule ran unless
run_ties g horizon lent = go (check_schedule g.lists horizon (length lent)) refl
  where
    go : (o : Outcome) → check_schedule g.lists horizon (length lent) ≡ o
        → (ran o (run_record g Stay horizon) ≡ ran o (run_record g Lowest horizon))
        × (unless o (λ number place. lent) (run_entries g Stay horizon) ≡ unless o (λ number place. lent) (run_entries g Lowest horizon))
    go Done q =
        let a = accepted g.lists horizon (length lent) q in
        let w = runs_agree g a.lists horizon a.bounded in
        (ap (ran Done) w.1, w.0)
    go (Err w) q = (refl, refl)
