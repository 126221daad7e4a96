-- In SE without those that are ended; without the entry where its ticks done are its execution time.
use Rattle.zsrm.proofs.Laws.Calls.{left_all_made, left_made}
use Rattle.zsrm.proofs.calls.left_by.Goals as goal

pub returns-then-se : goal.returns-then-se
returns-then-se c =
    let s = c.args in
    left_made s.g.now s.se s.done.now s.entry s.masks.now s.going s.ticks _ _ c.execution_in.ensures c.if-se.true _ _ c.without-past.ensures
    c.ended_of.ensures c.left_of.ensures

pub returns-else-se : goal.returns-else-se
returns-else-se c =
    let s = c.args in
    left_all_made s.g.now s.se s.done.now s.entry s.masks.now s.going s.ticks _ _ c.execution_in.ensures c.if-se.false c.left_of-else-se.ensures
