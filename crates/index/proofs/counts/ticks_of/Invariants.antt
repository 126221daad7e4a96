-- The invariant: the entries so far are jobs or idle, and the sum is theirs. It is at most their number, so it never wraps.
use Prim.Native.Nat.{◌≤◌}
use mathlib.Core.Bool.{true}
use mathlib.Core.Path.{◌≡◌}
use lib.ListN.{take}
use Rattle.tables.specs.Tables.{lists}
use Rattle.index.specs.Counts.{all_jobs_or_idle, ticks}
use Rattle.index.proofs.counts.ticks_of.Given as goal

abbrev pub invariant-loop-entry : goal.invariant-loop-entry
invariant-loop-entry l =
    (l.sum ≤ l.entry-index) × (l.sum ≡ ticks (lists l.given.tasks.now l.given.jobs.now) l.c (take l.entry-index l.entries))
    × (all_jobs_or_idle l.given.jobs.now (take l.entry-index l.entries) ≡ true)
