-- Either the horizon is refused, or it is the number of ticks.
use mathlib.Core.Logic.{inl, inr}
use mathlib.Core.Path.{refl}
use native.Mathlib.Omega.{arith}
use Rattle.sheet.proofs.ticks.Goals as goal

pub returns-then-horizon-gt16384 : goal.returns-then-horizon-gt16384
returns-then-horizon-gt16384 c = (omega arith, inr c.if-horizon-gt16384.true)

pub returns-else-horizon-gt16384 : goal.returns-else-horizon-gt16384
returns-else-horizon-gt16384 c = (omega arith, inl refl)
