-- The number of jobs is a third of the list's length.
use mathlib.Core.Path.{refl}
use Rattle.tables.specs.Tables.{job_count}
use Rattle.tables.proofs.fields.job_count.Goals as goal

pub returns : goal.returns
unfolding job_count
returns c = refl
