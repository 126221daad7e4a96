-- Idle or not, the definition's own branch.
use mathlib.Core.Path.{ap}
use borrow.Author.Tests.{eq-eqb, ne_eqb}
use Rattle.tables.specs.declared.fields.Job.{Job}
use Rattle.tables.specs.Tables.{task_count}
use Rattle.index.specs.Counts.{column}
use Rattle.index.proofs.counts.column.Goals as goal

pub returns-then-entry-eq-IDLE : goal.returns-then-entry-eq-IDLE
unfolding column task_count
returns-then-entry-eq-IDLE c = rw (eq-eqb c.args.entry 65535 c.if-entry-eq-IDLE.true)

pub returns-else-entry-eq-IDLE : goal.returns-else-entry-eq-IDLE
unfolding column
returns-else-entry-eq-IDLE c = rw (ne_eqb c.args.entry 65535 c.if-entry-eq-IDLE.false) (ap (λ (j : Job). j.task) c.job_at-job.ensures)
