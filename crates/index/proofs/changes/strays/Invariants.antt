-- The invariant: r is past the tick's row, and no row before r strays.
use Prim.Native.Nat.{◌*◌, ◌<◌}
use mathlib.Core.Bool.{false}
use mathlib.Core.Path.{◌≡◌}
use Rattle.bits.specs.Below.{some}
use Rattle.index.proofs.Laws.Changes.{stray}
use Rattle.index.proofs.changes.strays.Given as goal

abbrev pub invariant-loop-r : goal.invariant-loop-r
invariant-loop-r l = (l.tick < l.r * 64) × (some l.r (stray l.given.tasks.now l.given.horizon l.index l.tick l.old l.new) ≡ false)
