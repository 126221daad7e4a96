-- Who is past zero slack suspends who is less critical; the others that live may run.
use Rattle.zsrm.proofs.Laws.Calls.{eligible_made}
use Rattle.zsrm.proofs.calls.eligible_of.Goals as goal

pub returns : goal.returns
returns c =
    let s = c.args in
    eligible_made _ _ s.going _ _ _ c.without-past.ensures c.held_by-held.ensures c.without.ensures
