-- What stands at a place of the fresh record, and of an advanced one, and as what a place opens. Only these lemmas open `fresh` and
-- `advanced`.
use Prim.Native.Nat.{◌<◌, suc, ℕ, ◌≤◌}
use mathlib.Core.Bool.{true, false}
use mathlib.Core.List.{List}
use mathlib.Core.Path.{ap, refl, ◌≡◌, ◌∙◌}
use mathlib.Core.Logic.{◌↔◌, ◌≢◌}
use native.Mathlib.Omega.{arith}
use lib.Dec.{eqb}
use borrow.Author.Tests.{eq-eqb, eqb-false, eqb-true, leb-false, lt-ltb}
use Rattle.bits.proofs.Laws.Below.{get_or_list}
use Rattle.zsrm.specs.declared.record.Place.{Place}
use Rattle.zsrm.specs.declared.record.Record.{Record}
use Rattle.zsrm.specs.Record.{done_at, empty, fresh, fresh_place, opening, place_at, standing_at, suspended_at, waited_at, arrived, arriving}
use Rattle.zsrm.specs.Given.{Given}
use Rattle.zsrm.specs.Tick.{advanced, done_after, place_after, standing_after, suspended_after, waited_after, alive, goes_on, is_unfinished}
use Rattle.bits.proofs.Laws.Bools.{and_false, by_cond, clash, never_true}
use Rattle.bits.proofs.Readings.{and_reads, le_reads, lt_reads}
use Rattle.tables.specs.Tables.{arrival, execution, idle, job_count}
use Rattle.zsrm.specs.declared.record.Standing.{Standing}
use Rattle.zsrm.specs.declared.record.Standing.TheVariants.{Ended, Finished, NotArrived, Unfinished}

pub tick_fresh : (jobs : List ℕ) → (fresh jobs).tick ≡ 0
unfolding fresh
tick_fresh jobs = refl

pub previous_fresh : (jobs : List ℕ) → (fresh jobs).previous ≡ idle
unfolding fresh
previous_fresh jobs = refl

pub place_fresh : (jobs : List ℕ) (j : ℕ) → j < 64 → place_at (fresh jobs) j ≡ fresh_place jobs j
unfolding place_at fresh
place_fresh jobs j h = get_or_list 64 (fresh_place jobs) j empty h

pub done_fresh : (jobs : List ℕ) (j : ℕ) → j < 64 → done_at (fresh jobs) j ≡ 0
unfolding done_at fresh_place
done_fresh jobs j h = ap (λ (x : Place). x.done) (place_fresh jobs j h)

pub suspended_fresh : (jobs : List ℕ) (j : ℕ) → j < 64 → suspended_at (fresh jobs) j ≡ 0
unfolding suspended_at fresh_place
suspended_fresh jobs j h = ap (λ (x : Place). x.suspended) (place_fresh jobs j h)

pub waited_fresh : (jobs : List ℕ) (j : ℕ) → j < 64 → waited_at (fresh jobs) j ≡ 0
unfolding waited_at fresh_place
waited_fresh jobs j h = ap (λ (x : Place). x.waited) (place_fresh jobs j h)

pub standing_fresh : (jobs : List ℕ) (j : ℕ) → j < 64 → standing_at (fresh jobs) j ≡ opening jobs 0 j
unfolding standing_at fresh_place
standing_fresh jobs j h = ap (λ (x : Place). x.standing) (place_fresh jobs j h)

pub alive_unfinished : (r : Record) (j : ℕ) → alive r j ≡ true → standing_at r j ≡ Unfinished
unfolding alive
alive_unfinished r j = go (standing_at r j)
  where
    go : (s : Standing) → is_unfinished s ≡ true → s ≡ Unfinished
    go NotArrived u = clash u refl
    go Unfinished u = refl
    go (Finished f) u = clash u refl
    go (Ended e) u = clash u refl

module _ (g : Given) (r : Record) (e : ℕ) where
  pub tick_advanced : (advanced g r e).tick ≡ suc r.tick
  unfolding advanced
  tick_advanced = refl

  pub previous_advanced : (advanced g r e).previous ≡ e
  unfolding advanced
  previous_advanced = refl

  pub place_advanced : (j : ℕ) → j < 64 → place_at (advanced g r e) j ≡ place_after g r e j
  unfolding place_at advanced
  place_advanced j h = get_or_list 64 (place_after g r e) j empty h

  pub done_advanced : (j : ℕ) → j < 64 → done_at (advanced g r e) j ≡ done_after g r e j
  unfolding done_at place_after
  done_advanced j h = ap (λ (x : Place). x.done) (place_advanced j h)

  pub suspended_advanced : (j : ℕ) → j < 64 → suspended_at (advanced g r e) j ≡ suspended_after g r e j
  unfolding suspended_at place_after
  suspended_advanced j h = ap (λ (x : Place). x.suspended) (place_advanced j h)

  pub waited_advanced : (j : ℕ) → j < 64 → waited_at (advanced g r e) j ≡ waited_after g r e j
  unfolding waited_at place_after
  waited_advanced j h = ap (λ (x : Place). x.waited) (place_advanced j h)

  pub standing_advanced : (j : ℕ) → j < 64 → standing_at (advanced g r e) j ≡ standing_after g r e j (standing_at r j)
  unfolding standing_at place_after
  standing_advanced j h = ap (λ (x : Place). x.standing) (place_advanced j h)

  -- of a job alive in the tick
  pub standing_alive : (j : ℕ) → j < 64 → alive r j ≡ true → standing_at (advanced g r e) j ≡ goes_on g r e j
  unfolding standing_after
  standing_alive j h a = standing_advanced j h ∙ rw (alive_unfinished r j a)

module _ (jobs : List ℕ) (t j : ℕ) where
  -- the place is a job's, whose arrival does not exceed t; or it is none's, or its arrival does
  pub arrived_reads : arrived jobs t j ≡ true ↔ (j < job_count jobs) × (arrival jobs j ≤ t)
  unfolding arrived
  arrived_reads = and_reads (lt_reads _ _) (le_reads _ _)

  pub away_reads : arrived jobs t j ≡ false ↔ (j < job_count jobs → t < arrival jobs j)
  unfolding arrived
  away_reads =
      (λ h l. leb-false _ _ (and_false (lt-ltb _ _ l) h), λ w. never_true _ (λ h. let a = arrived_reads.0 h in omega (arith, w a.0)))

  -- a place at which nothing has run: the job is finished at its arrival, or unfinished, or there is none yet
  pub opening_cases : (P : Standing → Type 0) → (j < job_count jobs → arrival jobs j ≤ t → execution jobs j ≡ 0 → P (Finished (arrival jobs j)))
      → (j < job_count jobs → arrival jobs j ≤ t → execution jobs j ≢ 0 → P Unfinished) → ((j < job_count jobs → t < arrival jobs j) → P NotArrived)
      → P (opening jobs t j)
  unfolding opening arriving
  opening_cases P finished running waiting =
      by_cond P (arrived jobs t j) _ _
      (λ h. let a = arrived_reads.0 h in
      by_cond P (eqb (execution jobs j) 0) _ _ (λ c. finished a.0 a.1 (eqb-true _ _ c)) (λ c. running a.0 a.1 (eqb-false _ _ c)))
      (λ h. waiting (away_reads.0 h))

  -- so it is not ended
  pub opening_unended : (e : ℕ) → opening jobs t j ≡ Ended e → ⊥
  opening_unended e = opening_cases (λ s. s ≡ Ended e → ⊥) (λ l a c q. clashes (cc)) (λ l a c q. clashes (cc)) (λ w q. clashes (cc))
    where
      clashes : ◌≡◌ {A = ℕ} 0 1 → ⊥
      clashes z = omega arith

  -- a job with c = 0 is finished at its arrival, once that has come
  pub opens_finished : j < job_count jobs → arrival jobs j ≤ t → execution jobs j ≡ 0 → opening jobs t j ≡ Finished (arrival jobs j)
  unfolding opening arriving
  opens_finished l a none = rw (arrived_reads.1 (l, a), eq-eqb (execution jobs j) 0 none)
