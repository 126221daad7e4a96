-- Where the whole job is there, it is read as such; else each field is the number at its place.
use native.Mathlib.Omega.{arith}
use Rattle.tables.specs.Tables.{task_of, arrival, execution}
use Rattle.tables.proofs.bytes.job_in.Goals as goal

pub whole_job-requires : goal.whole_job-requires
whole_job-requires c = omega (arith, c.if-j-bytes.true)

pub returns-then-j-bytes : goal.returns-then-j-bytes
returns-then-j-bytes c = c.whole_job.ensures

pub returns : goal.returns
unfolding task_of arrival execution
returns c = cc
