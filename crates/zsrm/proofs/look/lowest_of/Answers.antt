use Prim.Native.Nat.{ℕ}
use mathlib.Core.Path.{ap, ◌∙◌}
use native.Mathlib.Omega.{arith}
use lib.Dec.{eqb}
use Rattle.bits.proofs.Laws.Sweep.{some_start, some_on, some_met, some_end}
use Rattle.zsrm.specs.Code.Gathered.{priority_in, level_in}
use Rattle.tables.specs.Tables.{idle}
use Rattle.zsrm.proofs.look.lowest_of.Goals as goal

pub loop-j-init : goal.loop-j-init
loop-j-init c = let s = c.args in rw (c.into_iter-j-iterator.ensures.into_iter_gives, c.each-j-items.ensures)
    (some_start (λ i. eqb (priority_in s.g.now i) s.p.0) s.among c.ranges.among.fits)

pub returns-then-equals : goal.returns-then-equals
unfolding level_in
returns-then-equals c =
    let s = c.args in
    some_met (λ i. eqb (priority_in s.g.now i) s.p.0) s.among c.loop-j.j-iterator.rest _ idle _
    c.loop-j.invariant c.in-Some.ensures.steps.some c.in-Some.ensures.steps.lowest
    (c.equals.ensures ∙ ap (λ (x : ℕ). eqb x s.p.0) c.priority_in-its.ensures) c.if-equals.true

pub loop-j-preserved : goal.loop-j-preserved
loop-j-preserved c =
    let s = c.args in
    some_on (λ i. eqb (priority_in s.g.now i) s.p.0) s.among c.loop-j.j-iterator.rest _ _ _
    c.loop-j.invariant c.in-Some.ensures.steps.some c.in-Some.ensures.steps.lowest c.in-Some.ensures.steps.left
    (c.equals.ensures ∙ ap (λ (x : ℕ). eqb x s.p.0) c.priority_in-its.ensures) c.if-equals.false

pub returns : goal.returns
unfolding level_in
returns c = let s = c.args in some_end (λ i. eqb (priority_in s.g.now i) s.p.0) s.among c.loop-j.j-iterator.rest idle c.loop-j.invariant (omega (arith, c.in-None.ensures.steps.0))
