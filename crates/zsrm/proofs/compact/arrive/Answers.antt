use native.Mathlib.Omega.{arith}
use Rattle.zsrm.proofs.Laws.Compact.{counted_came, counted_onward, onward_then}
use Rattle.zsrm.proofs.compact.arrive.Goals as goal

pub loop-next-smaller : goal.loop-next-smaller
loop-next-smaller c = let q = counted_came _ _ _ c.counted-next.ensures in omega (arith, q)

pub loop-next-preserved : goal.loop-next-preserved
loop-next-preserved c =
    let s = c.args in
    onward_then s.g.now s.n s.t _ c.loop-next.next _ c.loop-next.invariant
    (counted_onward s.g.now s.n s.t c.loop-next.next _ (omega arith) (omega arith) (omega (arith, c.arrival_in-a.ensures)) c.counted-next.ensures)
