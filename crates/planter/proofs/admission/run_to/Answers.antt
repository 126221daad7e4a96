use native.Mathlib.Omega.{arith}
use borrow.Author.Rules.{rules}
use Rattle.planter.specs.Table.{planter}
use Rattle.planter.proofs.Laws.Pieces.{way_ends, way_starts}
use Rattle.planter.proofs.admission.run_to.Goals as goal

pub loop-rec-init : goal.loop-rec-init
loop-rec-init c = way_starts (planter c.args.mode c.args.jobs.now) c.args.horizon c.requires c.fresh.result c.fresh.ensures

pub run_on-next-requires : goal.run_on-next-requires
run_on-next-requires c = record { horizon_value = c.requires; on_the_way = (c.loop-rec.invariant, search rules) }

pub loop-rec-smaller : goal.loop-rec-smaller
loop-rec-smaller c = omega (arith, c.run_on-next.ensures.1)

pub loop-rec-preserved : goal.loop-rec-preserved
loop-rec-preserved c = c.run_on-next.ensures.0

pub returns : goal.returns
returns c = way_ends (planter c.args.mode c.args.jobs.now) c.args.horizon c.requires c.loop-rec.rec c.loop-rec.invariant (omega arith)
