-- The seven numbers of a task, each at its place.
use Rattle.tables.proofs.Laws.InBytes.{whole_task}
use Rattle.tables.proofs.bytes.whole_task.Goals as goal

pub returns : goal.returns
returns c =
    whole_task _ _ c.requires c.whole_number.ensures c.whole_number-2.ensures c.whole_number-3.ensures c.whole_number-4.ensures
    c.whole_number-5.ensures c.whole_number-6.ensures c.whole_number-7.ensures
