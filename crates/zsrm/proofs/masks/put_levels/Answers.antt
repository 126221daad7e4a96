use mathlib.Core.Path.{refl}
use native.Mathlib.Omega.{arith}
use Rattle.zsrm.proofs.Laws.Masks.{masks_none, masks_level, level_below}
use Rattle.zsrm.proofs.masks.put_levels.Goals as goal

pub loop-k-init : goal.loop-k-init
loop-k-init c = masks_none _ _ _ _ (omega arith) c.requires.1

pub offset_bounds-masks-q : goal.offset_bounds-masks-q
offset_bounds-masks-q c = let low = level_below c.args.of.now c.args.n c.loop-k.k _ _ (omega arith) c.priority_at-its.ensures c.higher-q.ensures in omega (arith, c.requires.0, low)

pub bounds-masks-q : goal.bounds-masks-q
bounds-masks-q c = let low = level_below c.args.of.now c.args.n c.loop-k.k _ _ (omega arith) c.priority_at-its.ensures c.higher-q.ensures in omega (arith, c.requires.0, low)

pub offset_bounds-masks-q-in-loop-k : goal.offset_bounds-masks-q-in-loop-k
offset_bounds-masks-q-in-loop-k c = let low = level_below c.args.of.now c.args.n c.loop-k.k _ _ (omega arith) c.priority_at-its.ensures c.higher-q.ensures in omega (arith, c.requires.0, low)

pub bounds-masks-q-in-loop-k : goal.bounds-masks-q-in-loop-k
bounds-masks-q-in-loop-k c = let low = level_below c.args.of.now c.args.n c.loop-k.k _ _ (omega arith) c.priority_at-its.ensures c.higher-q.ensures in omega (arith, c.requires.0, low)

pub loop-k-preserved : goal.loop-k-preserved
loop-k-preserved c =
    let low = level_below c.args.of.now c.args.n c.loop-k.k _ _ (omega arith) c.priority_at-its.ensures c.higher-q.ensures in
    rw c.join.ensures
    (masks_level c.args.of.now c.args.words.now c.args.n c.loop-k.k _ _ _ _ c.loop-k.invariant c.priority_at-its.ensures c.higher-q.ensures (omega (arith, c.requires.0)) refl)
