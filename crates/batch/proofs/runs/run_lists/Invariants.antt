-- The invariant: the first r runs are made (`RunsMade`). The next one's list lies within the flat list, and its place within the schedule.
use mathlib.Core.Path.{◌≡◌}
use lib.ListN.{length}
use Rattle.batch.specs.Runs.{offer}
use Rattle.batch.proofs.Laws.Runs.{RunsMade}
use Rattle.batch.proofs.runs.run_lists.Given as goal

abbrev pub invariant-loop-r : goal.invariant-loop-r
invariant-loop-r l = (length l.schedule ≡ length l.initial.schedule) × RunsMade (offer l.given.mode l.given.tasks.now l.given.jobs.now l.given.counts.now l.given.horizon) l.initial.schedule l.schedule l.records l.from l.at l.r
