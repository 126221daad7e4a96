use native.Mathlib.Omega.{arith}
use Rattle.zsrm.proofs.Laws.Gap.{span_none, span_on}
use Rattle.zsrm.proofs.gap.with_span.Goals as goal

pub loop-j-init : goal.loop-j-init
loop-j-init c = span_none c.args.w c.args.a c.ranges.w.fits

pub loop-j-preserved : goal.loop-j-preserved
loop-j-preserved c = let s = c.args in span_on s.w s.a c.loop-j.j c.loop-j.word _ (omega arith) c.loop-j.invariant c.with_bit-word.ensures
