-- A run underway: what a loop over ticks has done by the tick it has come to, from any consistent record.
use Prim.Native.Nat.{◌+◌, ◌<◌, ℕ}
use mathlib.Core.Bool.{true}
use mathlib.Core.List.{◌++◌, [], ◌∷◌}
use mathlib.Core.Path.{ap, refl, sym, ◌∙◌, ◌≡◌}
use native.Mathlib.Omega.{arith}
use Rattle.zsrm.specs.declared.answers.Stepped.{Stepped}
use Rattle.zsrm.specs.declared.record.Record.{Record}
use Rattle.zsrm.specs.declared.tie.Tie.{Tie}
use Rattle.zsrm.specs.Answers.{stepped}
use Rattle.zsrm.specs.Record.{consistent}
use Rattle.zsrm.specs.Run.{entries_by, replay, final_by}
use Rattle.zsrm.specs.Given.{Given}
use Rattle.zsrm.specs.Tick.{advanced, candidate_or_idle, choice}
use Rattle.zsrm.proofs.Laws.Consistent.{advanced_consistent}
use Rattle.zsrm.proofs.Laws.Places.{tick_advanced}
use Rattle.zsrm.proofs.Laws.Run.{run_by_parts}
use Rattle.zsrm.proofs.Laws.Replay.{replay_append}

module _ (g : Given) (pick : Record → ℕ) where
  -- a ticks, and then b
  pub entries_parts : (r : Record) (a b : ℕ) → entries_by g pick r (a + b) ≡ entries_by g pick r a ++ entries_by g pick (final_by g pick r a) b
  unfolding final_by
  entries_parts r a b = run_by_parts g pick a b r

  pub final_parts : (r : Record) (a b : ℕ) → final_by g pick r (a + b) ≡ final_by g pick (final_by g pick r a) b
  unfolding final_by
  final_parts r a b =
      let es = entries_by g pick r a in
      ap (replay g r) (run_by_parts g pick a b r) ∙ replay_append g r es (entries_by g pick (replay g r es) b)

  -- one tick more
  pub entries_more : (r : Record) (n : ℕ) → entries_by g pick r (n + 1) ≡ entries_by g pick r n ++ (pick (final_by g pick r n) ∷ [])
  unfolding final_by entries_by
  entries_more r n = run_by_parts g pick n 1 r

  pub final_more : (r : Record) (n : ℕ) → final_by g pick r (n + 1) ≡ advanced g (final_by g pick r n) (pick (final_by g pick r n))
  unfolding final_by replay
  final_more r n = ap (replay g r) (entries_more r n) ∙ replay_append g r (entries_by g pick r n) (pick (replay g r (entries_by g pick r n)) ∷ [])

  -- nothing yet
  pub entries_none : (r : Record) → entries_by g pick r 0 ≡ []
  unfolding entries_by
  entries_none r = refl

  pub final_none : (r : Record) → final_by g pick r 0 ≡ r
  unfolding final_by replay entries_by
  final_none r = refl

  -- the record a run has come to after n ticks
  pub record Going (start r : Record) (n : ℕ) : Type 0 where
    pub is : r ≡ final_by g pick start n
    pub sound : consistent g r ≡ true
    pub time : r.tick ≡ start.tick + n

  pub going_none : (start : Record) → consistent g start ≡ true → Going start start 0
  going_none start s = record { is = sym (final_none start); sound = s; time = omega arith }

  -- a tick whose entry may run takes it one tick on
  pub going_more : (start r next : Record) (n : ℕ) → Going start r n → start.tick + n < 16384 → candidate_or_idle g r (pick r) ≡ true → next ≡ advanced g r (pick r)
      → Going start next (n + 1)
  going_more start r next n w b may e =
      record {
        is = e ∙ ap (λ (x : Record). advanced g x (pick x)) w.is ∙ sym (final_more start n);
        sound = rw e (advanced_consistent g r (pick r) (omega (arith, w.time)) may w.sound);
        time = rw e (tick_advanced g r (pick r) ∙ omega (arith, w.time));
      }

-- a step's entry and record
pub steps_entry : (g : Given) (tie : Tie) (r : Record) (s : Stepped) → s ≡ stepped g tie r → (s.entry ≡ choice g tie r) × (s.«record» ≡ advanced g r (choice g tie r))
unfolding stepped
steps_entry g tie r s q = (ap (λ (x : Stepped). x.entry) q, ap (λ (x : Stepped). x.«record») q)
