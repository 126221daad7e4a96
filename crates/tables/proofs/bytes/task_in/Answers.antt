-- Where the whole task is there, it is read as such; else each field is the number at its place.
use native.Mathlib.Omega.{arith}
use Rattle.tables.specs.Tables.{period, deadline, nominal, overload, criticality, priority, offset}
use Rattle.tables.proofs.bytes.task_in.Goals as goal

pub whole_task-requires : goal.whole_task-requires
whole_task-requires c = omega (arith, c.if-k-bytes.true)

pub returns-then-k-bytes : goal.returns-then-k-bytes
returns-then-k-bytes c = c.whole_task.ensures

pub returns : goal.returns
unfolding period deadline nominal overload criticality priority offset
returns c = cc
