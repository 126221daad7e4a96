use native.Mathlib.Omega.{arith}
use Prim.Native.Nat.{◌<◌, ◌^◌}
use lib.ListN.{get_or}
use Rattle.bits.proofs.Laws.Below.{none_passes, scan_end}
use Rattle.zsrm.specs.Code.Masks.{meets_at}
use Rattle.zsrm.proofs.Laws.Masks.{and_meet, top_on, top_met, top_end}
use Rattle.zsrm.proofs.masks.top_of.Goals as goal

pub loop-q-init : goal.loop-q-init
loop-q-init c = let s = c.args in none_passes (meets_at s.masks.now s.among) 0 (λ k l. absurd (omega arith))

pub returns-then-found-gt0 : goal.returns-then-found-gt0
returns-then-found-gt0 c =
    let fits : get_or c.args.masks.now c.loop-q.q 0 < 2 ^ 64 = omega arith in
    top_met c.args.masks.now c.args.among c.loop-q.q _ (omega arith) c.loop-q.invariant (and_meet c.args.among (get_or c.args.masks.now c.loop-q.q 0) c.ranges.among.fits fits) (omega arith)

pub loop-q-preserved : goal.loop-q-preserved
loop-q-preserved c =
    let fits : get_or c.args.masks.now c.loop-q.q 0 < 2 ^ 64 = omega arith in
    top_on c.args.masks.now c.args.among c.loop-q.q _ c.loop-q.invariant (and_meet c.args.among (get_or c.args.masks.now c.loop-q.q 0) c.ranges.among.fits fits) (omega arith)

pub returns : goal.returns
returns c = let s = c.args in top_end s.masks.now s.among (scan_end (meets_at s.masks.now s.among) 16 c.loop-q.q (omega arith) (omega arith) c.loop-q.invariant)
