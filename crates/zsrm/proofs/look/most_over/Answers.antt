use Prim.Native.Nat.{ℕ, ◌+◌}
use mathlib.Core.Bool.{Bool, cond}
use mathlib.Core.Path.{ap₂}
use native.Mathlib.Omega.{arith}
use lib.Dec.{eqb, ltb}
use Rattle.bits.proofs.Laws.Sweep.{most_start, most_on, most_end}
use Rattle.zsrm.specs.Record.{done_at, place_at}
use Rattle.zsrm.specs.declared.record.Record.{Record}
use Rattle.zsrm.specs.Code.Gathered.{criticality_in, nominal_in}
use Rattle.zsrm.specs.Code.Underway.{most_over, over_in}
use mathlib.Core.List.{List}
use Rattle.zsrm.proofs.look.most_over.Goals as goal

-- job i has done more than C, with one more where it is the entry
abbrev test : List ℕ → Record → ℕ → ℕ → Bool
test g r e i = ltb (nominal_in g i) (done_at r i + cond (eqb e i) 1 0)

pub loop-j-init : goal.loop-j-init
loop-j-init c = rw (c.into_iter-j-iterator.ensures.into_iter_gives, c.each-j-items.ensures)
    (most_start (test c.args.g.now c.args.rec c.args.entry) c.args.among (criticality_in c.args.g.now) c.ranges.among.fits)

pub loop-j-preserved : goal.loop-j-preserved
unfolding done_at place_at
loop-j-preserved c =
    let s = c.args in
    most_on (test s.g.now s.rec s.entry) s.among (criticality_in s.g.now) c.loop-j.j-iterator.rest _ c.loop-j.most.0 _ _ _ _ c.loop-j.invariant c.in-Some.ensures.steps.some
    c.in-Some.ensures.steps.lowest c.in-Some.ensures.steps.left (ap₂ (λ (a b : ℕ). ltb a b) c.nominal_in.ensures c.more_if-done.ensures)
    c.criticality_in.ensures c.greater_if-most.ensures

pub returns : goal.returns
unfolding most_over over_in
returns c =
    let s = c.args in
    most_end (test s.g.now s.rec s.entry) s.among (criticality_in s.g.now) c.loop-j.j-iterator.rest _ c.loop-j.invariant (omega (arith, c.in-None.ensures.steps.0))
