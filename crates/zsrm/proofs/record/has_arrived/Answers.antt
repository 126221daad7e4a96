-- Both tests, as the calls answer them.
use Prim.Native.Nat.{ℕ}
use mathlib.Core.Path.{ap₂}
use mathlib.Core.Bool.{◌&&◌}
use lib.Dec.{leb, ltb}
use Rattle.tables.specs.declared.fields.Job.{Job}
use Rattle.zsrm.specs.Record.{arrived}
use Rattle.zsrm.proofs.record.has_arrived.Goals as goal

pub returns : goal.returns
unfolding arrived
returns c = ap₂ (λ (n : ℕ) (x : Job). ltb c.args.j n && leb x.arrival c.args.t) c.job_count.ensures c.job_at-job.ensures
