use Prim.Native.Nat.{ℕ}
use mathlib.Core.Path.{◌≡◌, refl, ap, ap₂, ◌∙◌}
use mathlib.Core.Bool.{Bool, ◌&&◌}
use native.Mathlib.Omega.{arith}
use lib.Dec.{leb}
use Rattle.bits.specs.Below.{every}
use Rattle.bits.proofs.Laws.Below.{every_on}
use Rattle.zsrm.specs.Record.{place_at, done_at, standing_at, sound_at, consistent}
use Rattle.zsrm.specs.Given.{given}
use Rattle.zsrm.proofs.record.is_consistent.Goals as goal

pub loop-j-init : goal.loop-j-init
loop-j-init c = unfold every in refl

pub loop-j-preserved : goal.loop-j-preserved
unfolding sound_at done_at standing_at place_at
loop-j-preserved c =
    every_on (sound_at (given c.args.mode c.args.tasks.now c.args.jobs.now) c.args.rec)
    c.loop-j.j c.loop-j.every _ _ c.loop-j.invariant c.is_sound_at-every.ensures refl

pub returns : goal.returns
unfolding consistent
returns c =
    let last : c.loop-j.j ≡ 64 = omega arith in
    ap₂ (λ (p b : Bool). leb c.args.rec.tick 16384 && p && b) c.is_sound_previous.ensures
    (c.loop-j.invariant ∙ ap (λ (k : ℕ). every k (sound_at (given c.args.mode c.args.tasks.now c.args.jobs.now) c.args.rec)) last)
