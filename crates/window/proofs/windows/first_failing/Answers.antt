use Prim.Native.Nat.{ℕ, suc, ◌-◌}
use mathlib.Core.Bool.{Bool}
use mathlib.Core.Path.{ap, sym, ◌∙◌}
use native.Mathlib.Omega.{arith}
use lib.Dec.{ltb}
use borrow.Author.Tests.{le-ltb, lt-ltb}
use Rattle.bits.proofs.Laws.Below.{least_is, least_none, none_passes, scan_end, scan_on}
use Rattle.window.specs.declared.jobs.Gathered.{Gathered}
use Rattle.window.specs.Code.{first_over, misses_between}
use Rattle.window.proofs.windows.first_failing.Goals as goal

abbrev over : Gathered → ℕ → ℕ → ℕ → Bool
over own m k i = ltb m (misses_between own k i)

pub loop-i-init : goal.loop-i-init
loop-i-init c = none_passes _ 0 (λ i l. absurd (omega arith))

pub misses-requires : goal.misses-requires
misses-requires c = (c.requires.0, omega (arith, c.saturating_sub-i-end.ensures))

pub returns-then-m-misses : goal.returns-then-m-misses
unfolding first_over
returns-then-m-misses c =
    let a = c.args in
    let f = over a.own a.m a.k in
    let n = suc a.own.count - a.k in
    (sym (least_is f n n c.loop-i.i (omega arith) c.loop-i.invariant (ap (ltb a.m) (sym c.misses.ensures) ∙ lt-ltb a.m _ c.if-m-misses.true)), omega arith)

pub loop-i-preserved : goal.loop-i-preserved
loop-i-preserved c =
    let a = c.args in
    scan_on (over a.own a.m a.k) c.loop-i.i (ltb a.m c.misses.result) c.loop-i.invariant (ap (ltb a.m) c.misses.ensures) (le-ltb a.m _ c.if-m-misses.false)

pub returns : goal.returns
unfolding first_over
returns c =
    let a = c.args in
    let f = over a.own a.m a.k in
    let n = suc a.own.count - a.k in
    omega (arith, least_none f n n (scan_end f n c.loop-i.i (omega arith) (omega arith) c.loop-i.invariant))
