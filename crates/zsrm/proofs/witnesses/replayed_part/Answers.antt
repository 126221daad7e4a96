-- A legal schedule shows the part; any other shows the empty one, which begins at 0.
use mathlib.Core.Path.{refl}
use native.Mathlib.Omega.{arith}
use Rattle.zsrm.specs.Record.{place_at, standing_at}
use Rattle.zsrm.proofs.witnesses.replayed_part.Goals as goal

pub finished_part-requires : goal.finished_part-requires
unfolding standing_at place_at
finished_part-requires c = c.requires.1 c.if-legal.true

pub returns-then-legal : goal.returns-then-legal
unfolding standing_at place_at
returns-then-legal c = rw c.if-legal.true c.finished_part.ensures

pub returns-else-legal : goal.returns-else-legal
unfolding standing_at place_at
returns-else-legal c = rw c.if-legal.false (record { holds = refl; block = refl; byte = omega arith })
