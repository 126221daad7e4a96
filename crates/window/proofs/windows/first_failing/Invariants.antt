-- No window before the i-th contains more than m misses.
use Prim.Native.Nat.{ℕ}
use mathlib.Core.Bool.{Bool, false}
use mathlib.Core.Path.{◌≡◌}
use lib.Dec.{ltb}
use Rattle.bits.specs.Below.{some}
use Rattle.window.specs.declared.jobs.Gathered.{Gathered}
use Rattle.window.specs.Code.{misses_between}
use Rattle.window.proofs.windows.first_failing.Given as goal

abbrev over : Gathered → ℕ → ℕ → ℕ → Bool
over own m k i = ltb m (misses_between own k i)

abbrev pub invariant-loop-i : goal.invariant-loop-i
invariant-loop-i l = some l.i (over l.own l.m l.k) ≡ false
