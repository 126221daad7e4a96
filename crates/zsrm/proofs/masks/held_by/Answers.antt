use mathlib.Core.Bool.{true}
use mathlib.Core.Path.{refl}
use native.Mathlib.Omega.{arith}
use Rattle.zsrm.specs.Code.Masks.{less_of}
use Rattle.zsrm.proofs.Laws.Masks.{union_start, union_on, held_end}
use Rattle.zsrm.proofs.masks.held_by.Goals as goal

pub loop-j-init : goal.loop-j-init
loop-j-init c = rw (c.into_iter-j-iterator.ensures.into_iter_gives, c.each-j-items.ensures)
    (union_start (λ _. true) (less_of c.args.masks.now c.args.g.now) c.args.among c.ranges.among.fits)

pub loop-j-preserved : goal.loop-j-preserved
loop-j-preserved c =
    let s = c.args in union_on (λ _. true) (less_of s.masks.now s.g.now) s.among c.loop-j.j-iterator.rest _ c.loop-j.held _ _ _ true c.loop-j.invariant c.in-Some.ensures.steps.some
    c.in-Some.ensures.steps.lowest c.in-Some.ensures.steps.left refl c.less_of-less.ensures c.join-held.ensures

pub returns : goal.returns
returns c = let s = c.args in held_end s.masks.now s.g.now s.among c.loop-j.j-iterator.rest _ c.loop-j.invariant (omega (arith, c.in-None.ensures.steps.0))
