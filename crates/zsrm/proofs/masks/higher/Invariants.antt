-- Of the tasks below m, as many have a higher priority.
use mathlib.Core.Path.{◌≡◌}
use Rattle.zsrm.specs.Code.Masks.{higher}
use Rattle.zsrm.proofs.masks.higher.Given as goal

abbrev pub invariant-loop-m : goal.invariant-loop-m
invariant-loop-m l = l.found ≡ higher l.of l.m l.p.0
