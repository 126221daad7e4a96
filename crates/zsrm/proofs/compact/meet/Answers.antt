-- `&` leaves what both words have.
use Rattle.zsrm.proofs.Laws.Masks.{and_meet}
use Rattle.zsrm.proofs.compact.meet.Goals as goal

pub returns : goal.returns
returns c = and_meet c.args.v c.args.w c.ranges.v.fits c.ranges.w.fits
