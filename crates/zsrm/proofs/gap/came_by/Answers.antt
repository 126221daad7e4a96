use native.Mathlib.Omega.{arith}
use Rattle.zsrm.proofs.Laws.Gap.{came_start, came_on, came_met, came_end}
use Rattle.zsrm.proofs.gap.came_by.Goals as goal

pub loop-j-init : goal.loop-j-init
loop-j-init c = let s = c.args in came_start s.g.now s.n s.first s.t

pub returns-then-t-a : goal.returns-then-t-a
returns-then-t-a c = let s = c.args in came_met s.g.now s.n s.first s.t c.loop-j.j _ (omega arith) (omega arith) c.loop-j.invariant c.arrival_in-a.ensures (omega arith)

pub loop-j-preserved : goal.loop-j-preserved
loop-j-preserved c = let s = c.args in came_on s.g.now s.n s.first s.t c.loop-j.j _ (omega arith) c.loop-j.invariant c.arrival_in-a.ensures (omega arith)

pub returns : goal.returns
returns c = let s = c.args in came_end s.g.now s.n s.first s.t c.loop-j.j (omega arith) (omega arith) c.loop-j.invariant
