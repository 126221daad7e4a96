use mathlib.Core.Bool.{Bool, cond}
use mathlib.Core.Path.{refl, ap, ◌∙◌}
use lib.ListN.{get_or}
use Rattle.zsrm.specs.Code.Masks.{join}
use Rattle.zsrm.proofs.Laws.Masks.{less_none, less_more}
use Rattle.zsrm.proofs.masks.less_than.Goals as goal

pub loop-m-init : goal.loop-m-init
loop-m-init c = let s = c.args in less_none s.of.now s.words.now s.c.0

pub loop-m-preserved : goal.loop-m-preserved
loop-m-preserved c =
    let s = c.args in
    less_more s.of.now s.words.now s.c.0 c.loop-m.m c.loop-m.jobs _ _ _ c.loop-m.invariant c.criticality_at-its.ensures refl
    (c.join_word_if-jobs.ensures ∙ ap (λ (b : Bool). cond b (join c.loop-m.jobs (get_or s.words.now c.loop-m.m 0)) c.loop-m.jobs) c.exceeds.ensures)
