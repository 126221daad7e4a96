-- The ready word: its ones are the reported count, and its highest bit is the top eligible priority, so that a candidate is an
-- eligible job of that priority.
use Prim.Native.Nat.{◌<◌, ℕ}
use mathlib.Core.Bool.{◌&&◌, true}
use mathlib.Core.Path.{refl, ◌≡◌}
use mathlib.Core.Logic.Iff
use mathlib.Core.Logic.{◌↔◌}
use native.Mathlib.Omega.{arith}
use lib.Count.{ones}
use lib.Dec.{eqb}
use borrow.Author.Tests.{eq-eqb}
use Rattle.bits.specs.Below.{greatest}
use Rattle.bits.proofs.Laws.Bools.{and_left, and_true, passed, same_test}
use Rattle.bits.proofs.Laws.Most.{Most, greatest_found}
use Rattle.bits.proofs.Laws.Word.{ones_word}
use Rattle.zsrm.specs.declared.record.Record.{Record}
use Rattle.zsrm.specs.Given.{Given}
use Rattle.tables.specs.Tables.{job_count, job_priority}
use Rattle.zsrm.specs.Tick.{candidate, eligible, ready_at, ready_count, ready_word, some_job}
use Rattle.zsrm.proofs.Laws.Tick.{candidate_exactly}
use Rattle.bits.proofs.Readings.{and_reads, eq_reads, some_reads}

module _ (g : Given) (r : Record) where
  pub ready_ones : ones (ready_word g r) ≡ ready_count g r
  unfolding ready_word ready_count
  ready_ones = ones_word (ready_at g r) 64

  -- a priority is ready exactly when an eligible job has it
  pub ready_exactly : (p : ℕ) → ready_at g r p ≡ true ↔ ((j : ℕ) × (j < job_count g.lists.jobs) × ((eligible g r j ≡ true) × (job_priority g.lists j ≡ p)))
  unfolding ready_at some_job
  ready_exactly p = some_reads _ (λ j. and_reads Iff.rfl (eq_reads _ p))

  pub ready_of : (j : ℕ) → j < job_count g.lists.jobs → eligible g r j ≡ true → ready_at g r (job_priority g.lists j) ≡ true
  ready_of j l h = (ready_exactly _).1 (j, l, (h, refl))

  -- the priorities fit the word
  module _ (fit : (j : ℕ) → j < job_count g.lists.jobs → job_priority g.lists j < 64) where
    -- where a job is eligible, the word's highest bit is the greatest priority that is ready
    top_ready : (j : ℕ) → j < job_count g.lists.jobs → eligible g r j ≡ true → Most (ready_at g r) (λ p. p) 64 (greatest 64 (ready_at g r) 64)
    top_ready j l h = greatest_found (ready_at g r) 64 64 (job_priority g.lists j) (fit j l) (ready_of j l h)

    pub candidate_top : (j : ℕ) → j < job_count g.lists.jobs
        → candidate g r j ≡ (eligible g r j && eqb (job_priority g.lists j) (greatest 64 (ready_at g r) 64))
    candidate_top j l = same_test _ _ there back
      where
        top : ℕ
        top = greatest 64 (ready_at g r) 64

        there : candidate g r j ≡ true → (eligible g r j && eqb (job_priority g.lists j) top) ≡ true
        there h =
            let c = (candidate_exactly g r j).0 h in
            let w = top_ready j l c.0 in
            let x = (ready_exactly top).0 w.passes in
            and_true c.0 (eq-eqb _ top (omega (arith, x.2.1, c.1 x.0 x.1 x.2.0, w.tops _ (fit j l) (ready_of j l c.0))))

        back : (eligible g r j && eqb (job_priority g.lists j) top) ≡ true → candidate g r j ≡ true
        back h =
            let el = and_left (eligible g r j) _ h in
            let same : job_priority g.lists j ≡ top = search passed in
            (candidate_exactly g r j).1 (el, λ i m p. omega (arith, (top_ready j l el).tops _ (fit i m) (ready_of i m p)))
