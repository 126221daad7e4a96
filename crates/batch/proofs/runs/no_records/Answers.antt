-- The array is 32 times the blank record.
use mathlib.Core.Path.{ap}
use lib.ListN.{replicate}
use Rattle.zsrm.specs.declared.record.Record.{Record}
use Rattle.batch.proofs.runs.no_records.Goals as goal

pub returns : goal.returns
returns c = ap (λ (r : Record). replicate 32 r) c.blank-blank.ensures
