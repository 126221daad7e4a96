-- Each branch is the one that the test picks.
use native.Mathlib.Omega.{arith}
use Rattle.zsrm.proofs.Laws.Masks.{lowest_none, lowest_small, lowest_some}
use Rattle.zsrm.proofs.masks.lowest_of.Goals as goal

pub overflow_cast-result : goal.overflow_cast-result
overflow_cast-result c = let small = lowest_small c.top_of.result in record { fits = omega (arith, small, c.lowest.ensures) }

pub returns-then-among-eq0 : goal.returns-then-among-eq0
returns-then-among-eq0 c = let s = c.args in lowest_none s.masks.now s.among c.if-among-eq0.true

pub returns-else-among-eq0 : goal.returns-else-among-eq0
returns-else-among-eq0 c =
    let s = c.args in
    lowest_some s.masks.now s.among _ _ c.if-among-eq0.false c.top_of.ensures c.lowest.ensures
