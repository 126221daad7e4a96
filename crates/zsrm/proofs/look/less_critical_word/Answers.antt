use Prim.Native.Nat.{ℕ}
use mathlib.Core.Path.{ap, ◌∙◌}
use native.Mathlib.Omega.{arith}
use lib.Dec.{ltb}
use Rattle.bits.proofs.Laws.Sweep.{word_start, word_on, word_end}
use Rattle.zsrm.specs.Code.Gathered.{criticality_in, less_in}
use Rattle.zsrm.proofs.look.less_critical_word.Goals as goal

pub loop-j-init : goal.loop-j-init
loop-j-init c = let s = c.args in rw (c.into_iter-j-iterator.ensures.into_iter_gives, c.each-j-items.ensures)
    (word_start (λ i. ltb (criticality_in s.g.now i) s.c.0) s.among c.ranges.among.fits)

pub loop-j-preserved : goal.loop-j-preserved
loop-j-preserved c =
    let s = c.args in
    word_on (λ i. ltb (criticality_in s.g.now i) s.c.0) s.among c.loop-j.j-iterator.rest _ c.loop-j.jobs _ _ _ c.loop-j.invariant c.in-Some.ensures.steps.some c.in-Some.ensures.steps.lowest
    c.in-Some.ensures.steps.left
    (c.exceeds-less.ensures ∙ ap (λ (x : ℕ). ltb x s.c.0) c.criticality_in.ensures) c.with_bit_if-jobs.ensures

pub returns : goal.returns
unfolding less_in
returns c = let s = c.args in word_end (λ i. ltb (criticality_in s.g.now i) s.c.0) s.among c.loop-j.j-iterator.rest _ c.loop-j.invariant (omega (arith, c.in-None.ensures.steps.0))
