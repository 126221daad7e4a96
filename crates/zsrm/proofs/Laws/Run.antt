-- A run is a legal claim, from the fresh record and from any consistent record at which its first entry is legal, for any way to choose that
-- stays with whatever entry was before between scheduling instants. Stay is one: it goes on legally after every legal schedule. Our run under
-- Lowest is the one under Stay. A run made in two parts is the run.
use Prim.Native.Nat.{◌+◌, ◌-◌, ◌<◌, suc, zero, ℕ, ◌≤◌}
use mathlib.Core.Bool.{false, true}
use mathlib.Core.List.{◌++◌, List, [], ◌∷◌}
use mathlib.Core.Logic.{⊎_elim}
use mathlib.Core.Path.{ap, refl, sym, ◌∙◌, ◌≡◌, subst}
use native.Mathlib.Nat.{not-suc-le-zero, suc-add, zero-add}
use native.Mathlib.Omega.{arith}
use lib.ListN.{get_or, length, take}
use lib.Seq.{take_at}
use Rattle.bits.proofs.Laws.Below.{some_false}
use Rattle.zsrm.specs.declared.record.Record.{Record}
use Rattle.zsrm.specs.declared.tie.Tie.{Tie}
use Rattle.zsrm.specs.declared.tie.Tie.TheVariants.{Lowest, Stay}
use Rattle.zsrm.specs.Legal.{legal_entry, scheduling_instant, legal_from}
use Rattle.zsrm.specs.Record.{consistent, fresh}
use Rattle.zsrm.specs.Run.{entries_by, final_by, replay, replayed, run_entries}
use Rattle.zsrm.specs.Given.{Given}
use Rattle.tables.specs.Tables.{idle, job_count}
use Rattle.zsrm.specs.Tick.{advanced, candidate, candidate_or_idle, choice, some_job}
use Rattle.zsrm.proofs.Laws.Consistent.{advanced_consistent, fresh_consistent}
use Rattle.zsrm.proofs.Laws.Choice.{choice_none, choice_kept, choice_may}
use Rattle.zsrm.proofs.Laws.Places.{previous_advanced, tick_advanced, tick_fresh}
use Rattle.zsrm.proofs.Laws.Steady.{candidate_same}
use Rattle.zsrm.proofs.Laws.Tick.{runs_or_idle}
use Rattle.zsrm.proofs.Laws.Replay.{AllLegal, legal_at_fresh, legal_by, legal_first, legal_goes_on, legal_may, legal_rest}
use Rattle.tables.specs.Outcomes.{Done}
use Rattle.tables.specs.Refusals.{check_lists}
use Rattle.tables.proofs.Laws.Accepted.{lists_few}
use Rattle.zsrm.proofs.Laws.Ties.{runs_agree}

module _ (g : Given) where
  module _ (pick : Record → ℕ) where
    -- a way to choose that begins legally, and is legal after every entry that may run, whoever chose that
    pub record Resuming : Type 0 where
      pub begins : legal_entry g (fresh g.lists.jobs) idle (pick (fresh g.lists.jobs)) ≡ true
      pub resumes : (r : Record) (e : ℕ) → candidate_or_idle g r e ≡ true → consistent g r ≡ true → legal_entry g (advanced g r e) e (pick (advanced g r e)) ≡ true

    -- its run is legal from any consistent record at which its first entry is
    run_legal : Resuming → (n : ℕ) (r : Record) (p : ℕ) → r.tick + n ≤ 16384 → consistent g r ≡ true → legal_entry g r p (pick r) ≡ true
        → AllLegal g r p (entries_by g pick r n)
    unfolding legal_from entries_by
    run_legal s zero r p b sound first = refl
    run_legal s (suc n) r p b sound first =
        let may = legal_may g r p (pick r) first in
        legal_goes_on g r p (pick r) (entries_by g pick (advanced g r (pick r)) n) first
        ∙ ap suc
        (run_legal s n (advanced g r (pick r)) (pick r) (rw tick_advanced (omega arith))
        (advanced_consistent g r (pick r) (omega arith) may sound) (s.resumes r (pick r) may sound))

    -- and after legal entries
    resumed_from : Resuming → (es : List ℕ) (n : ℕ) (r : Record) (p : ℕ) → r.tick + (length es + n) ≤ 16384 → consistent g r ≡ true → legal_entry g r p (pick r) ≡ true
        → AllLegal g r p es → AllLegal g r p (es ++ entries_by g pick (replay g r es) n)
    unfolding replay
    resumed_from s [] n r p b sound first legal = run_legal s n r p (omega arith) sound first
    resumed_from s (e ∷ es) n r p b sound first legal =
        let here = legal_first g r p e es legal in
        let may = legal_may g r p e here in
        legal_goes_on g r p e (es ++ entries_by g pick (replay g (advanced g r e) es) n) here
        ∙ ap suc
        (resumed_from s es n (advanced g r e) e (rw tick_advanced (omega arith)) (advanced_consistent g r e (omega arith) may sound)
        (s.resumes r e may sound) (legal_rest g r p e es legal))

    pub resumed_legal : Resuming → (es : List ℕ) (n : ℕ) → length es + n ≤ 16384 → AllLegal g (fresh g.lists.jobs) idle es
        → AllLegal g (fresh g.lists.jobs) idle (es ++ entries_by g pick (replayed g es) n)
    unfolding replayed
    resumed_legal s es n b legal = resumed_from s es n (fresh g.lists.jobs) idle (rw tick_fresh (omega arith)) (fresh_consistent g) s.begins legal

  -- Stay is one
  module _ (few : job_count g.lists.jobs ≤ 64) where
    -- an entry that could run is still a candidate, or there is still none, so Stay goes on with it
    pub stay_goes_on : (r : Record) (e : ℕ) → candidate_or_idle g r e ≡ true → consistent g r ≡ true → scheduling_instant g (advanced g r e) e ≡ false
        → choice g Stay (advanced g r e) ≡ e
    unfolding some_job
    stay_goes_on r e may sound still = ⊎_elim job none (runs_or_idle g r e may)
      where
        same : (j : ℕ) → j < job_count g.lists.jobs → candidate g (advanced g r e) j ≡ candidate g r j
        same = candidate_same g r e e few sound still

        job : (e < job_count g.lists.jobs) × (candidate g r e ≡ true) → choice g Stay (advanced g r e) ≡ e
        job c =
            let p = previous_advanced g r e in
            choice_kept g (advanced g r e) (rw p c.0) (ap (candidate g (advanced g r e)) p ∙ same e c.0 ∙ c.1) ∙ p

        none : (e ≡ idle) × (some_job g.lists.jobs (candidate g r) ≡ false) → choice g Stay (advanced g r e) ≡ e
        none c =
            (choice_none g few Stay (advanced g r e)).1 (λ j l. same j l ∙ some_false (candidate g r) (job_count g.lists.jobs) j l c.1) ∙ sym c.0

    pub stay_resumes : Resuming (choice g Stay)
    stay_resumes =
        record {
          begins = legal_at_fresh g (choice g Stay (fresh g.lists.jobs)) (choice_may g Stay (fresh g.lists.jobs));
          resumes = λ r e may sound. legal_by g (advanced g r e) e _ (choice_may g Stay (advanced g r e)) (stay_goes_on r e may sound);
        }

  -- so our run is legal: under Lowest it is the same run
  pub our_run_legal : check_lists g.lists ≡ Done → (tie : Tie) (horizon : ℕ) → horizon ≤ 16384 → AllLegal g (fresh g.lists.jobs) idle (run_entries g tie horizon)
  unfolding run_entries
  our_run_legal ok tie h b = go tie
    where
      stay : AllLegal g (fresh g.lists.jobs) idle (run_entries g Stay h)
      stay =
          let s = stay_resumes (lists_few g.lists ok) in
          run_legal (choice g Stay) s h (fresh g.lists.jobs) idle (rw tick_fresh (omega arith)) (fresh_consistent g) s.begins

      go : (t : Tie) → AllLegal g (fresh g.lists.jobs) idle (run_entries g t h)
      go Stay = stay
      go Lowest = subst (AllLegal g (fresh g.lists.jobs) idle) (runs_agree g ok h b).0 stay

  -- running a ticks and then b is running a + b: for any way to choose
  pub run_by_parts : (pick : Record → ℕ) (a b : ℕ) (r : Record)
      → entries_by g pick r (a + b) ≡ entries_by g pick r a ++ entries_by g pick (replay g r (entries_by g pick r a)) b
  unfolding entries_by replay
  run_by_parts pick zero b r = rw zero-add
  run_by_parts pick (suc a) b r = rw suc-add (ap {B = List ℕ} (λ l. pick r ∷ l) (run_by_parts pick a b (advanced g r (pick r))))

  pub length_entries : (pick : Record → ℕ) (n : ℕ) (r : Record) → length (entries_by g pick r n) ≡ n
  unfolding entries_by
  length_entries pick zero r = refl
  length_entries pick (suc n) r = ap suc (length_entries pick n (advanced g r (pick r)))

  -- the entry that a run takes in tick t, and its first ones
  pub get_or_entries : (pick : Record → ℕ) (r : Record) (n t : ℕ) → t < n → get_or (entries_by g pick r n) t idle ≡ pick (final_by g pick r t)
  unfolding final_by entries_by replay
  get_or_entries pick r zero t l = absurd (not-suc-le-zero l)
  get_or_entries pick r (suc n) zero l = refl
  get_or_entries pick r (suc n) (suc t) l = get_or_entries pick (advanced g r (pick r)) n t (omega arith)

  pub take_entries : (pick : Record → ℕ) (n t : ℕ) (r : Record) → t ≤ n → take t (entries_by g pick r n) ≡ entries_by g pick r t
  take_entries pick n t r l =
      let all : n ≡ t + (n - t) = omega arith in
      ap (λ (m : ℕ). take t (entries_by g pick r m)) all ∙ ap (take t) (run_by_parts pick t (n - t) r) ∙ take_at (entries_by g pick r t) _ t (length_entries pick t r)

  pub length_run : (tie : Tie) (horizon : ℕ) → length (run_entries g tie horizon) ≡ horizon
  unfolding run_entries
  length_run tie horizon = length_entries (choice g tie) horizon (fresh g.lists.jobs)
