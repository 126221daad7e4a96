use Prim.Native.Nat.{ℕ}
use mathlib.Core.Path.{ap}
use native.Mathlib.Omega.{arith}
use lib.Dec.{leb}
use Rattle.bits.proofs.Laws.Sweep.{word_start, word_on, word_end, most_start, most_on, most_end}
use Rattle.zsrm.specs.Code.Gathered.{slack_in, criticality_in, past_in, most_past}
use Rattle.zsrm.proofs.look.past_of.Goals as goal

pub loop-j-init : goal.loop-j-init
loop-j-init c =
    rw (c.into_iter-j-iterator.ensures.into_iter_gives, c.each-j-items.ensures) (
      word_start (λ i. leb (slack_in c.args.g.now i) c.args.t) c.args.among c.ranges.among.fits,
      most_start
          (λ i. leb (slack_in c.args.g.now i) c.args.t) c.args.among (criticality_in c.args.g.now) c.ranges.among.fits,
    )

pub loop-j-preserved : goal.loop-j-preserved
loop-j-preserved c =
    let s = c.args in
    let past = ap (λ (x : ℕ). leb x s.t) c.slack_in.ensures in (
      word_on (λ i. leb (slack_in s.g.now i) s.t) s.among c.loop-j.j-iterator.rest _ c.loop-j.jobs _ _ _ c.loop-j.invariant.0 c.in-Some.ensures.steps.some c.in-Some.ensures.steps.lowest c.in-Some.ensures.steps.left past c.with_bit_if-jobs.ensures,
      most_on (λ i. leb (slack_in s.g.now i) s.t) s.among (criticality_in s.g.now) c.loop-j.j-iterator.rest _ c.loop-j.most.0 _ _ _ _ c.loop-j.invariant.1 c.in-Some.ensures.steps.some c.in-Some.ensures.steps.lowest c.in-Some.ensures.steps.left past
          c.criticality_in.ensures c.greater_if-most.ensures,
    )

pub returns : goal.returns
unfolding past_in most_past
returns c =
    let s = c.args in
    record { jobs = word_end (λ i. leb (slack_in s.g.now i) s.t) s.among c.loop-j.j-iterator.rest _ c.loop-j.invariant.0 (omega (arith, c.in-None.ensures.steps.0)); most = most_end (λ i. leb (slack_in s.g.now i) s.t) s.among (criticality_in s.g.now) c.loop-j.j-iterator.rest _ c.loop-j.invariant.1 (omega (arith, c.in-None.ensures.steps.0)) }
