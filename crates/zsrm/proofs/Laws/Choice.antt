-- Our run's choice, under either tie choice: Stay keeps the previous entry where that is a job that is a candidate, and else takes what
-- Lowest takes, the lowest-numbered candidate; so what is chosen is a candidate, or idle where there is none.
use Prim.Native.Nat.{◌<◌, ℕ, ◌≤◌}
use mathlib.Core.Bool.{false, true}
use mathlib.Core.Logic.Iff
use mathlib.Core.Logic.{inl, ◌↔◌, ⊎_elim}
use mathlib.Core.Path.{refl, ◌≡◌}
use native.Mathlib.Omega.{arith}
use Rattle.bits.proofs.Laws.Below.{some_false}
use Rattle.bits.proofs.Laws.Bools.{by_cond, clash}
use Rattle.bits.proofs.Readings.{and_reads, lt_reads}
use Rattle.zsrm.specs.declared.record.Record.{Record}
use Rattle.zsrm.specs.declared.tie.Tie.{Tie}
use Rattle.zsrm.specs.declared.tie.Tie.TheVariants.{Lowest, Stay}
use Rattle.zsrm.specs.Given.{Given}
use Rattle.tables.specs.Tables.{idle, job_count}
use Rattle.zsrm.specs.Tick.{candidate, candidate_or_idle, choice, is_stay, keeps, lowest, some_job}
use Rattle.zsrm.proofs.Laws.Tick.{lowest_may, runs_exactly, runs_or_idle}

stay_reads : (tie : Tie) → is_stay tie ≡ true ↔ tie ≡ Stay
stay_reads tie = (there tie, λ e. rw e)
  where
    there : (tie : Tie) → is_stay tie ≡ true → tie ≡ Stay
    there Stay h = refl
    there Lowest h = clash h refl

module _ (g : Given) where
  -- the previous entry is kept exactly under Stay, where it is a job of the list and a candidate
  pub keeps_reads : (tie : Tie) (r : Record) → keeps g tie r ≡ true ↔ (tie ≡ Stay) × (r.previous < job_count g.lists.jobs) × (candidate g r r.previous ≡ true)
  unfolding keeps
  keeps_reads tie r = Iff.trans (and_reads (and_reads (stay_reads tie) (lt_reads _ _)) Iff.rfl) (λ w. (w.0.0, w.0.1, w.1), λ w. ((w.0, w.1), w.2))

  pub choice_kept : (r : Record) → r.previous < job_count g.lists.jobs → candidate g r r.previous ≡ true → choice g Stay r ≡ r.previous
  unfolding choice
  choice_kept r l c = rw ((keeps_reads Stay r).1 (refl, l, c))

  -- else the lowest is taken
  pub choice_not_kept : (tie : Tie) (r : Record) → keeps g tie r ≡ false → choice g tie r ≡ lowest g r
  unfolding choice
  choice_not_kept tie r k = rw k

  pub choice_lowest : (r : Record) → choice g Lowest r ≡ lowest g r
  unfolding choice keeps
  choice_lowest r = refl

  -- what is chosen may run
  pub choice_may : (tie : Tie) (r : Record) → candidate_or_idle g r (choice g tie r) ≡ true
  unfolding choice
  choice_may tie r =
      by_cond (λ e. candidate_or_idle g r e ≡ true) (keeps g tie r) r.previous (lowest g r)
      (λ k. let w = (keeps_reads tie r).0 k in (runs_exactly g r r.previous).1 (inl (w.1, w.2))) (λ k. lowest_may g r)

  -- it is idle exactly where there is no candidate
  pub choice_none : job_count g.lists.jobs ≤ 64 → (tie : Tie) (r : Record)
      → choice g tie r ≡ idle ↔ ((j : ℕ) → j < job_count g.lists.jobs → candidate g r j ≡ false)
  unfolding some_job
  choice_none few tie r = (
    λ q j l. ⊎_elim (λ c. absurd (omega (arith, c.0))) (λ c. some_false (candidate g r) (job_count g.lists.jobs) j l c.1) (runs_or_idle g r (choice g tie r) (choice_may tie r)),
    λ w. ⊎_elim (λ c. clash c.1 (w (choice g tie r) c.0)) (λ c. c.0) (runs_or_idle g r (choice g tie r) (choice_may tie r)),
  )
