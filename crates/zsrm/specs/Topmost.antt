-- The premise of promise (ii), and the instant that it assures.
use Rattle.std.specs.Prelude.{ℕ, ◌+◌, ◌≤◌, ◌<◌, ◌≡◌, List}
use Rattle.zsrm.specs.Given.{Given}
use Rattle.tables.specs.Tables.{task_count, deadline, overload, criticality, offset, execution, zero_slack_instant}

-- Task k is strictly more critical than all others, and its zero-slack offset plus overload time is within its deadline.
pub record Topmost (tasks : List ℕ) (k : ℕ) : Type 0 where
  pub known : k < task_count tasks
  pub above : (i : ℕ) → i < task_count tasks → (i ≡ k → ⊥) → criticality tasks i < criticality tasks k
  pub fits : offset tasks k + overload tasks k ≤ deadline tasks k

-- arrival + offset + its own execution time
unfoldable pub assured : Given → ℕ → ℕ
assured g j = zero_slack_instant g.lists j + execution g.lists.jobs j
