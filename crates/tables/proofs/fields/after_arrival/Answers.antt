-- The sum of two 32-bit numbers fits 64 bits.
use Prim.Native.Nat.{◌+◌}
use mathlib.Core.Path.{ap₂}
use Rattle.tables.specs.Tables.{arrival}
use Rattle.tables.proofs.fields.after_arrival.Goals as goal

pub returns : goal.returns
unfolding arrival
returns c = ap₂ ◌+◌ c.at-arrival.ensures c.task_number.ensures
