-- The opening standing at 0, as the calls answer it.
use Prim.Native.Nat.{ℕ}
use mathlib.Core.Path.{ap, ap₂, ◌∙◌}
use lib.Dec.{ltb}
use Rattle.tables.specs.declared.fields.Job.{Job}
use Rattle.zsrm.specs.declared.record.Standing.{Standing}
use Rattle.zsrm.specs.declared.record.Place.{Place}
use Rattle.zsrm.specs.Record.{arrived, arriving, opening, fresh_place}
use Rattle.zsrm.specs.Code.Next.{opening_of}
use Rattle.zsrm.proofs.record.fresh_place.Goals as goal

pub returns : goal.returns
unfolding fresh_place opening arriving arrived
returns c =
    ap (λ (s : Standing). let p : Place = record { done = 0; suspended = 0; waited = 0; standing = s } in p)
    (c.opening-standing.ensures
    ∙ ap₂ (λ (n : ℕ) (x : Job). opening_of (ltb c.args.j n) x.arrival x.execution 0) c.job_count.ensures c.job_at-job.ensures)
