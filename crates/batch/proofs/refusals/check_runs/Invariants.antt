-- The invariant: `found` is what the runs before r came to, and `from` is where list r begins, which lies within the flat list.
use Prim.Native.Nat.{◌*◌}
use mathlib.Core.Path.{◌≡◌}
use Rattle.batch.specs.Refusals.{check_runs}
use Rattle.batch.specs.Runs.{jobs_before}
use Rattle.batch.proofs.refusals.check_runs.Given as goal

abbrev pub invariant-loop-r : goal.invariant-loop-r
invariant-loop-r l = (l.from ≡ jobs_before l.given.counts.now l.r * 3) × (l.found ≡ check_runs l.given.tasks.now l.given.jobs.now l.given.counts.now l.r)
