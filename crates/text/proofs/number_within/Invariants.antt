-- n digits have been read, their value is below 10 ^ n, and b is the byte behind them; 10 digits are within 64 bits.
use Prim.Native.Nat.{◌-◌}
use mathlib.Core.Path.{◌≡◌}
use lib.ListN.{length, get_or}
use Rattle.text.proofs.Laws.Reading.{Read}
use Rattle.text.proofs.number_within.Given as goal

abbrev pub invariant-loop-b : goal.invariant-loop-b
invariant-loop-b l = Read l.text l.most l.at l.value l.n l.k × (l.b ≡ get_or l.text l.k 256)

abbrev pub decreases-loop-b : goal.decreases-loop-b
decreases-loop-b l = length l.text - l.k
