use Prim.Native.Nat.{ℕ}
use mathlib.Core.Bool.{not}
use mathlib.Core.Path.{ap, ◌∙◌}
use native.Mathlib.Omega.{arith}
use lib.Dec.{ltb}
use Rattle.bits.proofs.Laws.Sweep.{word_start, word_on, word_end, keys_start, keys_on, keys_end}
use Rattle.zsrm.specs.Code.Gathered.{criticality_in, priority_in, less_in, free_in, free_word}
use Rattle.zsrm.proofs.look.held_of.Goals as goal

pub loop-j-init : goal.loop-j-init
loop-j-init c =
    let s = c.args in let h = c.ranges.among.fits in rw (c.into_iter-j-iterator.ensures.into_iter_gives, c.each-j-items.ensures) (
      word_start (λ i. ltb (criticality_in s.g.now i) s.c.0) s.among h,
      keys_start (λ i. not (ltb (criticality_in s.g.now i) s.c.0)) s.among (priority_in s.g.now)
          h,
    )

pub loop-j-preserved : goal.loop-j-preserved
loop-j-preserved c =
    let s = c.args in
    let less = c.exceeds-held.ensures ∙ ap (λ (x : ℕ). ltb x s.c.0) c.criticality_in.ensures in (
      word_on (λ i. ltb (criticality_in s.g.now i) s.c.0) s.among c.loop-j.j-iterator.rest _ c.loop-j.jobs _ _ _ c.loop-j.invariant.0 c.in-Some.ensures.steps.some c.in-Some.ensures.steps.lowest c.in-Some.ensures.steps.left less c.with_bit_if-jobs.ensures,
      keys_on (λ i. not (ltb (criticality_in s.g.now i) s.c.0)) s.among (priority_in s.g.now) c.loop-j.j-iterator.rest _ c.loop-j.ready _ _ _ _ c.loop-j.invariant.1 c.in-Some.ensures.steps.some c.in-Some.ensures.steps.lowest c.in-Some.ensures.steps.left (ap not less)
          c.priority_in-its.ensures c.with_bit_if-ready.ensures,
    )

pub returns : goal.returns
unfolding less_in free_in free_word
returns c =
    let s = c.args in
    record { jobs = word_end (λ i. ltb (criticality_in s.g.now i) s.c.0) s.among c.loop-j.j-iterator.rest _ c.loop-j.invariant.0 (omega (arith, c.in-None.ensures.steps.0)); ready = keys_end (λ i. not (ltb (criticality_in s.g.now i) s.c.0)) s.among (priority_in s.g.now) c.loop-j.j-iterator.rest _ c.loop-j.invariant.1 (omega (arith, c.in-None.ensures.steps.0)) }
