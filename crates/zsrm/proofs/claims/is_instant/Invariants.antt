-- No job below j is a reason.
use mathlib.Core.Path.{◌≡◌}
use mathlib.Core.Bool.{false}
use Rattle.bits.specs.Below.{some}
use Rattle.tables.specs.Tables.{lists}
use Rattle.zsrm.proofs.Laws.Claims.{instant_in}
use Rattle.zsrm.proofs.claims.is_instant.Given as goal

abbrev pub invariant-loop-j : goal.invariant-loop-j
invariant-loop-j l = some l.j (instant_in (lists l.tasks l.jobs) l.se l.last l.rec) ≡ false
