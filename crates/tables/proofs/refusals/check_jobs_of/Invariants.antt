-- The invariant: the jobs below `j`, of at most 64, are looked at. At the end those are all jobs.
-- Where the list's length refuses, and where it does not, the definition computes.
use Prim.Native.Nat.{◌-◌, ◌≤◌}
use Rattle.tables.proofs.Laws.Noted.{Looked}
use Rattle.tables.proofs.refusals.check_jobs_of.Given as goal

abbrev pub invariant-loop-j : goal.invariant-loop-j
invariant-loop-j g l = (l.j ≤ l.count) × (l.count ≤ 64) × Looked (g.L.Listed.numbers l.tasks) (g.L.Listed.numbers l.jobs) l.j l.noted l.above

abbrev pub decreases-loop-j : goal.decreases-loop-j
decreases-loop-j g l = l.count - l.j
