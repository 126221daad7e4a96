-- The highest bit of the ready word is the top priority; of the eligible jobs that have it, the one that is kept, or the lowest.
use Rattle.zsrm.proofs.Laws.Gathered.{chosen_kept_in, chosen_else_in}
use Rattle.zsrm.proofs.look.choice.Goals as goal

pub returns-then-is_stay-may : goal.returns-then-is_stay-may
returns-then-is_stay-may c = chosen_kept_in _ _ _ _ _ _ _ _ c.top_priority-top.ensures c.is_stay.ensures c.may_run-may.ensures c.if-is_stay-may.true

pub returns-else-is_stay-may : goal.returns-else-is_stay-may
returns-else-is_stay-may c =
    chosen_else_in _ _ _ _ _ _ _ _ c.top_priority-top.ensures c.is_stay.ensures c.may_run-may.ensures
    c.if-is_stay-may.false _ c.lowest_of.ensures
