use mathlib.Core.Path.{refl}
use native.Mathlib.Omega.{arith}
use Rattle.zsrm.specs.Code.Masks.{less_of, over_in}
use Rattle.zsrm.proofs.Laws.Masks.{union_start, union_on, over_in_law, ended_end}
use Rattle.zsrm.proofs.masks.ended_of.Goals as goal

pub loop-j-init : goal.loop-j-init
loop-j-init c =
    let a = c.args in
    rw (c.into_iter-j-iterator.ensures.into_iter_gives, c.each-j-items.ensures)
    (union_start (over_in a.g.now a.done.now a.entry) (less_of a.masks.now a.g.now) a.among c.ranges.among.fits)

pub loop-j-preserved : goal.loop-j-preserved
loop-j-preserved c =
    let s = c.args in union_on (over_in s.g.now s.done.now s.entry) (less_of s.masks.now s.g.now) s.among c.loop-j.j-iterator.rest _ c.loop-j.ended _ _ _ _ c.loop-j.invariant c.in-Some.ensures.steps.some
    c.in-Some.ensures.steps.lowest c.in-Some.ensures.steps.left
    (over_in_law s.g.now s.done.now s.entry _ _ _ _ refl
    c.more_if-ticks.ensures c.nominal_in-nominal.ensures)
    refl c.join_less_if-ended.ensures

pub returns : goal.returns
returns c = let s = c.args in ended_end s.masks.now s.g.now s.among s.done.now s.entry c.loop-j.j-iterator.rest _ c.loop-j.invariant (omega (arith, c.in-None.ensures.steps.0))
