-- What is asked of a set of tasks, said by quantifiers, and that it makes the members' jobs of an accepted list uppermost.
use Prim.Native.Nat.{ℕ, ◌<◌, ◌≤◌}
use mathlib.Core.Bool.{Bool, not, true, false}
use mathlib.Core.List.{List}
use mathlib.Core.Logic.Iff
use mathlib.Core.Logic.{◌↔◌, ⊎_elim}
use mathlib.Core.Path.{ap, ◌≡◌}
use native.Mathlib.Omega.{arith}
use lib.ListN.{length}
use borrow.Author.Tests.{not-false}
use Rattle.bits.proofs.Laws.Bools.{either}
use Rattle.bits.proofs.Readings.{every_reads, le_reads, lt_reads, or_else}
use Rattle.tables.specs.Outcomes.{Done}
use Rattle.tables.specs.Refusals.{check_lists}
use Rattle.tables.specs.Tables.{criticality, job_count, job_criticality, job_priority, lists, priority, task_count, task_of}
use Rattle.tables.proofs.Laws.Accepted.{accepted_job, lists_few, lists_jobs}
use Rattle.others.specs.Others.{member, members_jobs, outside_lower, outside_no_more_critical, to_each_member}
use Rattle.others.proofs.Laws.Passing.{listed}
use Rattle.others.proofs.Laws.Uppermost.{OneOf, Uppermost}

module _ (set : ℕ → Bool) (tasks : List ℕ) where
  -- every task outside, k, stands so to each member, m
  abbrev pub ToEachMember : (ℕ → ℕ → Type 0) → Type 0
  ToEachMember P = (k : ℕ) → k < task_count tasks → set k ≡ false → (m : ℕ) → m < task_count tasks → set m ≡ true → P k m

  to_each_reads : {stands : ℕ → ℕ → Bool} {P : ℕ → ℕ → Type 0} → ((k m : ℕ) → stands k m ≡ true ↔ P k m) → to_each_member set tasks stands ≡ true ↔ ToEachMember P
  unfolding to_each_member
  to_each_reads h = every_reads _ (λ k. or_else Iff.rfl (every_reads _ (λ m. or_else (not-false (set m), ap not) (h k m))))

  pub lower_reads : outside_lower set tasks ≡ true ↔ ToEachMember (λ k m. priority tasks k < priority tasks m)
  unfolding outside_lower
  lower_reads = to_each_reads (λ k m. lt_reads _ _)

  pub no_more_critical_reads : outside_no_more_critical set tasks ≡ true ↔ ToEachMember (λ k m. criticality tasks k ≤ criticality tasks m)
  unfolding outside_no_more_critical
  no_more_critical_reads = to_each_reads (λ k m. le_reads _ _)

pub members_uppermost : (set : ℕ → Bool) (tasks jobs : List ℕ) → outside_lower set tasks ≡ true → outside_no_more_critical set tasks ≡ true → check_lists (lists tasks jobs) ≡ Done
    → Uppermost (lists tasks jobs) (length (members_jobs set jobs)) (member set jobs)
unfolding members_jobs job_priority job_criticality
members_uppermost set tasks jobs lower no-more-critical ok =
    let w = listed (λ j. set (task_of jobs j)) (job_count jobs) in
    record {
      few = lists_few (lists tasks jobs) ok;
      known = w.below;
      order = w.order;
      as_high = λ j i l b h. inside j l (λ out. omega (arith, (lower_reads set tasks).0 lower _ (known j l) out _ (known _ (w.below i b)) (w.passes i b)));
      more_critical_law = λ j i l b h.
          inside j l (λ out. omega (arith, (no_more_critical_reads set tasks).0 no-more-critical _ (known j l) out _ (known _ (w.below i b)) (w.passes i b)));
    }
  where
    known : (j : ℕ) → j < job_count jobs → task_of jobs j < task_count tasks
    known j l = (accepted_job tasks jobs (lists_jobs (lists tasks jobs) ok) j l).known

    -- a job whose task cannot be outside
    inside : (j : ℕ) → j < job_count jobs → (set (task_of jobs j) ≡ false → ⊥) → OneOf (length (members_jobs set jobs)) (member set jobs) j
    inside j l never =
        (listed (λ j. set (task_of jobs j)) (job_count jobs)).finds j l (⊎_elim (λ p. p) (λ p. absurd (never p)) (either (set (task_of jobs j))))
