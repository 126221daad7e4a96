-- The three that are kept, as the calls answer them.
use native.Mathlib.Omega.{arith}
use Rattle.zsrm.proofs.Laws.Underway.{came_to, started_made}
use Rattle.zsrm.proofs.leap.started.Goals as goal

pub with_span-early-requires : goal.with_span-early-requires
with_span-early-requires c =
    let a = c.args in
    (omega arith, omega (arith, c.came_by-came.ensures, came_to a.g.now a.n 0 a.rec.tick (omega arith)))

pub returns : goal.returns
returns c = started_made _ _ _ _ _ _ c.alive_in-alive.ensures c.came_by-came.ensures c.with_span-early.ensures
