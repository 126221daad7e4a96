-- The jobs alive from the first up to j are collected.
use mathlib.Core.Path.{◌≡◌}
use Rattle.zsrm.specs.Code.Underway.{alive_in}
use Rattle.zsrm.proofs.leap.alive_in.Given as goal

abbrev pub invariant-loop-j : goal.invariant-loop-j
invariant-loop-j l = l.word ≡ alive_in l.rec l.first l.j
