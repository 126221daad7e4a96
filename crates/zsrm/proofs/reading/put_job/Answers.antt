-- Five stores, one behind another; none changes the length.
use Prim.Native.Nat.{◌*◌, ◌+◌}
use lib.ListN.{get_or}
use Rattle.zsrm.specs.Code.Reading.{job_row}
use Rattle.zsrm.proofs.Laws.Reading.{five_put}
use Rattle.zsrm.proofs.reading.put_job.Goals as goal

pub returns : goal.returns
unfolding job_row
returns c =
    let s = c.args in
    five_put s.out.now (5 * s.j) s.job.arrival s.job.execution (s.job.arrival + get_or s.of.now (6 * s.job.task + 3) 0)
    (get_or s.of.now (6 * s.job.task + 2) 0) s.job.task
