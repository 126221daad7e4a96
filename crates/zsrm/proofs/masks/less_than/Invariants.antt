-- The words of the tasks below m that are less critical are joined.
use mathlib.Core.Path.{◌≡◌}
use Rattle.zsrm.specs.Code.Masks.{less_than}
use Rattle.zsrm.proofs.masks.less_than.Given as goal

abbrev pub invariant-loop-m : goal.invariant-loop-m
invariant-loop-m l = l.jobs ≡ less_than l.of l.words l.m l.c.0
