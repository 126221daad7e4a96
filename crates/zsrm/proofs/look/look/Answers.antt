-- Each word is made from those before it, as the definition has it.
use Rattle.zsrm.proofs.Laws.Gathered.{view_in_made}
use Rattle.zsrm.proofs.look.look.Goals as goal

pub returns : goal.returns
returns c =
    view_in_made _ _ _ _ _ _ _ _ c.past_of-past.ensures.jobs c.past_of-past.ensures.most c.held_of-held.ensures.jobs c.held_of-held.ensures.ready
    c.without-eligible.ensures
