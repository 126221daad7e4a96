-- Six stores, one behind another; none changes the length.
use Prim.Native.Nat.{◌*◌}
use Rattle.zsrm.proofs.Laws.Reading.{six_put}
use Rattle.zsrm.proofs.reading.put_task.Goals as goal

pub returns : goal.returns
returns c =
    let s = c.args in
    six_put s.of.now (6 * s.k) s.task.period s.task.overload s.task.nominal s.task.offset s.task.criticality.0 s.task.priority.0
