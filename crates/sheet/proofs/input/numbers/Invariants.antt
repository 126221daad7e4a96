-- The first i numbers stand at the list's front, and the numbers from the position k on make up the rest.
use Rattle.sheet.proofs.Laws.Numbers.{Filled}
use Rattle.sheet.proofs.input.numbers.Given as goal

abbrev pub invariant-loop-i : goal.invariant-loop-i
invariant-loop-i l = Filled l.text l.per l.n l.at l.initial.list l.list l.i l.k
