-- The definition's own two tests.
use mathlib.Core.Path.{refl}
use Rattle.tables.specs.Refusals.{outside}
use Rattle.tables.proofs.refusals.outside.Goals as goal

pub returns : goal.returns
unfolding outside
returns c = refl
