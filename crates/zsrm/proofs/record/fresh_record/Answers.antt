use native.Mathlib.Omega.{arith}
use Rattle.zsrm.proofs.Laws.Next.{fresh_begun, fresh_made}
use Rattle.zsrm.proofs.record.fresh_record.Goals as goal

pub loop-j-init : goal.loop-j-init
loop-j-init c = let w = fresh_begun c.args.jobs.now _ c.blank-out.ensures in (w.0, w.1, w.2)

pub returns : goal.returns
returns c =
    fresh_made c.args.jobs.now c.loop-j.out c.loop-j.j
    c.loop-j.invariant.0 c.loop-j.invariant.1 c.loop-j.invariant.2 (omega arith)
