-- Of the first i entries those that are not the given one are counted.
use mathlib.Core.Path.{◌≡◌}
use lib.ListN.{length, replicate}
use Rattle.bits.specs.Below.{count}
use Rattle.zsrm.specs.Mend.{differs}
use Rattle.zsrm.proofs.mending.count_others.Given as goal

abbrev pub invariant-loop-i : goal.invariant-loop-i
invariant-loop-i l = l.others ≡ count l.i (differs l.entries (replicate (length l.entries) l.entry))
