-- Each branch is the one that the test picks.
use Rattle.zsrm.proofs.Laws.Masks.{stands_none, stands_some}
use Rattle.zsrm.proofs.masks.may_stand.Goals as goal

pub returns-then-among-eq0 : goal.returns-then-among-eq0
returns-then-among-eq0 c = let s = c.args in stands_none s.masks.now s.among s.entry c.if-among-eq0.true

pub returns-else-among-eq0 : goal.returns-else-among-eq0
returns-else-among-eq0 c = let s = c.args in stands_some s.masks.now s.among s.entry _ _ c.if-among-eq0.false c.top_of.ensures c.has_bit.ensures
