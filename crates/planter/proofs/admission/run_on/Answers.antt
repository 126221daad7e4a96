-- As many entries are lent as the piece has ticks; the laws of pieces say the rest.
use mathlib.Core.Path.{sym}
use native.Mathlib.Omega.{arith}
use lib.Seq.{length-take-le}
use Rattle.planter.specs.Table.{planter}
use Rattle.planter.proofs.Laws.Pieces.{way_on}
use Rattle.planter.proofs.admission.run_on.Goals as goal

pub slice_bounds-go_on-end : goal.slice_bounds-go_on-end
slice_bounds-go_on-end c = sym (length-take-le _ _ (omega (arith, c.piece-ticks.ensures.2)))

pub returns : goal.returns
returns c =
    let a = c.args in
    way_on (planter a.mode a.jobs.now) a.horizon c.requires.horizon_value a.rec c.go_on-ran.result c.piece-ticks.result _ c.requires.on_the_way.0 c.requires.on_the_way.1
    c.piece-ticks.ensures.0 c.piece-ticks.ensures.1 (length-take-le _ _ (omega (arith, c.piece-ticks.ensures.2))) c.go_on-ran.ensures.answers
