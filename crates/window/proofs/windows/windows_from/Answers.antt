-- By whether a window fails.
use mathlib.Core.Path.{refl}
use Rattle.window.proofs.Laws.Gathered.{over_fails, over_passes}
use Rattle.window.proofs.windows.windows_from.Goals as goal

pub returns-in-Some : goal.returns-in-Some
returns-in-Some c = over_fails _ c.args.m c.args.k _ _ c.in-Some.ensures.0 c.misses.ensures c.in-Some.ensures.1

pub returns-in-None : goal.returns-in-None
returns-in-None c = over_passes _ c.args.m c.args.k _ refl c.in-None.ensures
