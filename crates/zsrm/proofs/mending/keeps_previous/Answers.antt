-- The test is the definition's.
use Rattle.zsrm.specs.Given.{given}
use Rattle.zsrm.proofs.Laws.Mending.{keeps_by_law}
use Rattle.zsrm.proofs.mending.keeps_previous.Goals as goal

pub returns : goal.returns
returns c =
    let a = c.args in
    keeps_by_law (given a.mode a.tasks.now a.jobs.now) a.rec _ c.is_instant-instant.ensures
