-- The invariant: the tasks below `k`, of at most 16, are fine. At the end those are all tasks.
-- Where the list's length refuses, and where it does not, the definition computes.
use Prim.Native.Nat.{◌-◌, ◌≤◌}
use mathlib.Core.Path.{◌≡◌}
use Rattle.tables.specs.Outcomes.{Done}
use Rattle.tables.specs.Refusals.{before, ascending, check3, check4}
use Rattle.tables.proofs.refusals.check_tasks_of.Given as goal

abbrev pub invariant-loop-k : goal.invariant-loop-k
invariant-loop-k g l =
    (l.k ≤ l.count) × (l.count ≤ 16)
    × (ascending l.k (λ kk. before (check3 (g.L.Listed.numbers l.tasks) kk) (check4 (g.L.Listed.numbers l.tasks) kk)) ≡ Done)

abbrev pub decreases-loop-k : goal.decreases-loop-k
decreases-loop-k g l = l.count - l.k
