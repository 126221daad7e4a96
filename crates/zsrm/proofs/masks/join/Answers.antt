-- `|` joins the words.
use Rattle.zsrm.proofs.Laws.Masks.{or_join}
use Rattle.zsrm.proofs.masks.join.Goals as goal

pub returns : goal.returns
returns c = or_join c.args.v c.args.w c.ranges.v.fits c.ranges.w.fits
