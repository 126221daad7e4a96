-- Both tests, as the calls answer them.
use mathlib.Core.Path.{ap, ap₂, ◌∙◌}
use mathlib.Core.Bool.{Bool, ◌&&◌}
use lib.Dec.{ltb}
use Rattle.tables.specs.declared.fields.Job.{Job}
use Rattle.zsrm.specs.Verdict.{breaks}
use Rattle.zsrm.proofs.witnesses.is_breaking.Goals as goal

pub returns : goal.returns
unfolding breaks
returns c =
    ap₂ (λ (a b : Bool). a && b) (c.exceeds.ensures ∙ ap₂ ltb c.criticality_of-named.ensures c.criticality_of.ensures)
    (ap₂ ltb c.nominal_of.ensures (ap (λ (y : Job). y.execution) c.job_at-job.ensures))
