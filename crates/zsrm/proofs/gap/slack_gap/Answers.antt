use Prim.Native.Nat.{ℕ}
use mathlib.Core.Path.{ap}
use native.Mathlib.Omega.{arith}
use lib.Dec.{ltb}
use Rattle.bits.proofs.Laws.Sweep.{word_start, word_on, word_end}
use Rattle.zsrm.specs.Code.Gathered.{slack_in, ahead_in}
use Rattle.zsrm.proofs.Laws.Gap.{slack_start, slack_on, slack_end}
use Rattle.zsrm.proofs.gap.slack_gap.Goals as goal

pub loop-j-init : goal.loop-j-init
loop-j-init c =
    let s = c.args in let h = c.ranges.early.fits in
    rw (c.into_iter-j-iterator.ensures.into_iter_gives, c.each-j-items.ensures)
    (slack_start s.g.now s.early s.t s.most h, word_start (λ i. ltb s.t (slack_in s.g.now i)) s.early h)

pub loop-j-preserved : goal.loop-j-preserved
loop-j-preserved c =
    let s = c.args in (
      slack_on s.g.now s.early s.t s.most c.loop-j.j-iterator.rest _ c.loop-j.ticks _ _ _ c.loop-j.invariant.0 c.in-Some.ensures.steps.some c.in-Some.ensures.steps.lowest c.in-Some.ensures.steps.left c.slack_in-z.ensures
          c.until-ticks.ensures,
      word_on (λ i. ltb s.t (slack_in s.g.now i)) s.early c.loop-j.j-iterator.rest _ c.loop-j.still _ _ _ c.loop-j.invariant.1 c.in-Some.ensures.steps.some c.in-Some.ensures.steps.lowest c.in-Some.ensures.steps.left
          (ap (λ (x : ℕ). ltb s.t x) c.slack_in-z.ensures) c.with_bit_if-still.ensures,
    )

pub returns : goal.returns
unfolding ahead_in
returns c =
    let s = c.args in
    record { ticks = slack_end s.g.now s.early s.t s.most c.loop-j.j-iterator.rest _ c.loop-j.invariant.0 (omega (arith, c.in-None.ensures.steps.0)); early = word_end (λ i. ltb s.t (slack_in s.g.now i)) s.early c.loop-j.j-iterator.rest _ c.loop-j.invariant.1 (omega (arith, c.in-None.ensures.steps.0)) }
