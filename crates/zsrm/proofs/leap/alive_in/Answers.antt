use native.Mathlib.Omega.{arith}
use Rattle.zsrm.specs.Record.{place_at, standing_at}
use Rattle.zsrm.specs.Tick.{alive}
use Rattle.zsrm.proofs.Laws.Underway.{alive_more, alive_none}
use Rattle.zsrm.proofs.leap.alive_in.Goals as goal

pub loop-j-init : goal.loop-j-init
loop-j-init c = alive_none _ _

pub loop-j-preserved : goal.loop-j-preserved
unfolding alive standing_at place_at
loop-j-preserved c =
    alive_more c.args.rec c.args.first c.loop-j.j _ _ _ (omega arith) c.loop-j.invariant c.is_unfinished.ensures c.with_bit_if-word.ensures
