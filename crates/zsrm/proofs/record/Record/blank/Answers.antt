-- The array is 64 times the empty place.
use mathlib.Core.Path.{refl}
use Rattle.zsrm.specs.Record.{blank}
use Rattle.zsrm.proofs.record.Record.blank.Goals as goal

pub returns : goal.returns
unfolding blank
returns c = refl
