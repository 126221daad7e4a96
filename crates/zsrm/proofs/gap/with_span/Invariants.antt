-- The bits from a to j are set.
use mathlib.Core.Path.{◌≡◌}
use Rattle.zsrm.specs.Code.Gathered.{with_span}
use Rattle.zsrm.proofs.gap.with_span.Given as goal

abbrev pub invariant-loop-j : goal.invariant-loop-j
invariant-loop-j l = l.word ≡ with_span l.w l.a l.j
