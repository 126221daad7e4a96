-- Laws of the checks: which decides, and what they leave.
use Prim.Native.Nat.{ℕ, ◌*◌, ◌≤◌}
use mathlib.Core.Bool.{false, true}
use mathlib.Core.List.{List}
use mathlib.Core.Logic.{inl, inr, ◌⊎◌}
use mathlib.Core.Path.{◌≡◌}
use native.Mathlib.Omega.{arith}
use lib.Dec.{eqb, ltb}
use lib.ListN.{length}
use borrow.Author.Tests.{eqb-true, ltb-true, not-false}
use Rattle.bits.proofs.Laws.Bools.{by_cond, clash, or_cases}
use Rattle.tables.specs.Outcomes.{Done}
use Rattle.tables.specs.Refusals.{check_lists}
use Rattle.tables.specs.Tables.{Lists, idle, job_count, task_count, task_of}
use Rattle.tables.proofs.Laws.Accepted.{accepted_job, lists_jobs, lists_tasks, few_tasks, Accepted, accepted}
use Rattle.tables.proofs.Laws.Refusals.{refuse_fine}
use Rattle.index.specs.Code.{Checked, Sized}
use Rattle.index.specs.Counts.{Plan, column, job_or_idle}
use Rattle.index.specs.Refusals.{check_given, check_length}
use Rattle.index.specs.Rows.{row_count, row_width}

-- accepted lists: few tasks, and a known entry's column is one of the index
pub lists_checked : (l : Lists) → check_lists l ≡ Done → Checked l
unfolding job_or_idle column
lists_checked l ok =
    record {
      few = few_tasks l.tasks (lists_tasks l ok);
      within = λ entry is. by_cond (λ k. k ≤ task_count l.tasks) (eqb entry idle) (task_count l.tasks) (task_of l.jobs entry)
          (λ _. omega arith) (λ other. own entry other (or_cases (ltb entry (job_count l.jobs)) (eqb entry idle) is));
    }
  where
    own : (entry : ℕ) → eqb entry idle ≡ false → (ltb entry (job_count l.jobs) ≡ true) ⊎ (eqb entry idle ≡ true) → task_of l.jobs entry ≤ task_count l.tasks
    own entry other (inl e) = omega (arith, (accepted_job l.tasks l.jobs (lists_jobs l ok) entry (ltb-true entry (job_count l.jobs) e)).known)
    own entry other (inr e) = clash e other

module _ (g : Plan) (entries : ℕ) (ok : check_given g entries ≡ Done) where
  given : Accepted g.lists g.horizon entries
  given = accepted g.lists g.horizon entries ok

  pub given_checked : Checked g.lists
  given_checked = lists_checked g.lists given.lists

  pub given_short : g.horizon ≤ 16384
  given_short = given.bounded

  pub given_whole : entries ≡ g.horizon
  given_whole = given.whole

-- an index of the right length
pub length_fine : (tasks : List ℕ) (horizon numbers : ℕ) → check_length tasks horizon numbers ≡ Done → numbers ≡ row_count horizon * row_width tasks
unfolding check_length
length_fine tasks horizon numbers ok = eqb-true numbers (row_count horizon * row_width tasks) (not-false _ (refuse_fine _ 16 0 ok))

pub sized : (g : Plan) (entries : ℕ) (index : List ℕ) → check_given g entries ≡ Done → check_length g.lists.tasks g.horizon (length index) ≡ Done → Sized g.lists.tasks g.horizon index
sized g entries index ok long =
    record { few = (given_checked g entries ok).few; short = given_short g entries ok; indexed = length_fine g.lists.tasks g.horizon (length index) long }
