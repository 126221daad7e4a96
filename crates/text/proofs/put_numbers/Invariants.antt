-- The numbers so far are put.
use lib.ListN.{take}
use Rattle.text.specs.Decimal.{numbers}
use Rattle.text.specs.Wrote.{Put}
use Rattle.text.proofs.put_numbers.Given as goal

abbrev pub invariant-loop-x : goal.invariant-loop-x
invariant-loop-x l = Put l.initial.out l.at (numbers (take l.x-index l.xs)) l.out l.k
