-- Uppermost jobs of a list: whatever has as high a priority as one of them, or is more critical than one of them, is one of them. So which
-- of them our run takes is decided among them alone: the first that is a candidate.
use Prim.Native.Nat.{ℕ, ◌<◌, ◌≤◌}
use mathlib.Core.Bool.{Bool, ◌&&◌, not, true, false}
use mathlib.Core.Logic.{◌↔◌, ⊎_elim}
use mathlib.Core.Path.{ap, ◌∙◌, ◌≡◌}
use native.Mathlib.Decide.{dec_lt, ℕ_discrete}
use native.Mathlib.Omega.{arith}
use lib.Dec.{eqb, ltb}
use borrow.Author.Tests.{eq-eqb, eqb-true, lt-ltb, not-true}
use Rattle.bits.specs.Below.{least, some}
use Rattle.bits.proofs.Laws.Below.{none_passes, some_false}
use Rattle.bits.proofs.Laws.Bools.{and_left, and_right, and_true, clash, never_true, not_of, same_test}
use Rattle.bits.proofs.Readings.{least_reads}
use Rattle.tables.specs.Tables.{Lists, idle, job_count, job_criticality, job_priority}
use Rattle.zsrm.specs.declared.record.Record.{Record}
use Rattle.zsrm.specs.declared.tie.Tie.{Tie}
use Rattle.zsrm.specs.Given.{Given}
use Rattle.zsrm.specs.Tick.{candidate, choice, eligible, lowest, waits}
use Rattle.zsrm.proofs.Laws.Choice.{choice_may}
use Rattle.zsrm.proofs.Laws.Tick.{candidate_eligible, candidate_exactly, runs_or_idle, some_candidate}

-- of m jobs, whose numbers x gives, job j is one
abbrev pub OneOf : ℕ → (ℕ → ℕ) → ℕ → Type 0
OneOf m x j = (i : ℕ) × (i < m) × (x i ≡ j)

pub record Uppermost (l : Lists) (m : ℕ) (x : ℕ → ℕ) : Type 0 where
  pub few : job_count l.jobs ≤ 64
  pub known : (i : ℕ) → i < m → x i < job_count l.jobs
  pub order : (i k : ℕ) → i < k → k < m → x i < x k
  pub as_high : (j i : ℕ) → j < job_count l.jobs → i < m → job_priority l (x i) ≤ job_priority l j → OneOf m x j
  pub more_critical_law : (j i : ℕ) → j < job_count l.jobs → i < m → job_criticality l (x i) < job_criticality l j → OneOf m x j

module _ (g : Given) (m : ℕ) (x : ℕ → ℕ) (top : Uppermost g.lists m x) (r : Record) where
  earlier : (i k : ℕ) → i < m → k < m → x i < x k → i < k
  earlier i k a b h = go (dec_lt i k) (ℕ_discrete i k)
    where
      go : Dec (i < k) → Dec (i ≡ k) → i < k
      go (yes l) e = l
      go (no l) (yes e) = absurd (omega (arith, ap x e))
      go (no l) (no e) = absurd (omega (arith, top.order k i (omega arith) a))

  -- our run takes one of them exactly where it is a candidate and none of them before it is
  pub takes_exactly : (k : ℕ) → k < m → eqb (lowest g r) (x k) ≡ (candidate g r (x k) && not (some k (λ i. candidate g r (x i))))
  unfolding lowest
  takes_exactly k b = same_test (eqb (lowest g r) (x k)) (candidate g r (x k) && not (some k before)) there back
    where
      before : ℕ → Bool
      before i = candidate g r (x i)

      first : least (job_count g.lists.jobs) (candidate g r) idle ≡ x k ↔ (candidate g r (x k) ≡ true) × ((j : ℕ) → j < x k → candidate g r j ≡ false)
      first = least_reads (candidate g r) (job_count g.lists.jobs) idle (x k) (top.known k b) (omega (arith, top.few))

      there : eqb (lowest g r) (x k) ≡ true → (candidate g r (x k) && not (some k before)) ≡ true
      there t = let v = first.0 (eqb-true _ _ t) in and_true v.0 (not_of (none_passes before k (λ i a. v.1 (x i) (top.order i k a b))))

      -- another candidate has as high a priority, and so is one of them
      rival : candidate g r (x k) ≡ true → some k before ≡ false → (j : ℕ) → j < x k → candidate g r j ≡ true → ⊥
      rival c none j l q =
          let high = ((candidate_exactly g r j).0 q).1 (x k) (top.known k b) (candidate_eligible g r (x k) c) in
          let v = top.as_high j k (omega (arith, top.known k b)) b high in
          clash (ap (candidate g r) v.2 ∙ q) (some_false before k v.0 (earlier v.0 k v.1 b (omega (arith, v.2))) none)

      back : (candidate g r (x k) && not (some k before)) ≡ true → eqb (lowest g r) (x k) ≡ true
      back t =
          let c = and_left (candidate g r (x k)) _ t in
          let none = not-true _ (and_right (candidate g r (x k)) _ t) in
          eq-eqb _ _ (first.1 (c, λ j l. never_true (candidate g r j) (rival c none j l)))

-- while a job is eligible our run's entry is a job, so it waits exactly where it is eligible and the entry is not its own
pub waits_is : (g : Given) (tie : Tie) (r : Record) (j : ℕ) → j < job_count g.lists.jobs
    → waits g r (choice g tie r) j ≡ (eligible g r j && not (eqb (choice g tie r) j))
unfolding waits
waits_is g tie r j l =
    ap (λ (b : Bool). b && not (eqb (choice g tie r) j))
    (same_test (eligible g r j && ltb (choice g tie r) (job_count g.lists.jobs)) (eligible g r j) (and_left (eligible g r j) _)
    (λ h. and_true h (lt-ltb _ _ (⊎_elim (λ c. c.0) (λ c. clash (some_candidate g r j l h) c.1) (runs_or_idle g r (choice g tie r) (choice_may g tie r))))))
