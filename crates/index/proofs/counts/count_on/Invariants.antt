-- The invariant: the counts are those of the entries before tick t. No count is above t, so none wraps.
use mathlib.Core.Path.{◌≡◌}
use lib.ListN.{take}
use Rattle.tables.specs.Tables.{lists}
use Rattle.index.specs.Code.{counts_of}
use Rattle.index.proofs.counts.count_on.Given as goal

abbrev pub invariant-loop-t : goal.invariant-loop-t
invariant-loop-t l = l.out ≡ counts_of (lists l.given.tasks.now l.given.jobs.now) (take l.t l.schedule)
