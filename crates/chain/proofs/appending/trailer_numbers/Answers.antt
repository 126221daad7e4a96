-- The end is at most 4,294,967,295, and so is every number before it.
use native.Mathlib.Omega.{arith}
use Rattle.chain.specs.Answers.{new_trailer}
use Rattle.chain.specs.Trailer.{trailer_numbers}
use Rattle.chain.proofs.Laws.Appending.{last_small}
use Rattle.chain.proofs.appending.trailer_numbers.Goals as goal

pub overflow_cast-before : goal.overflow_cast-before
unfolding trailer_numbers new_trailer
overflow_cast-before c = let a = c.args in omega (arith, c.last_place-before.ensures, last_small a.used (omega arith))

pub overflow_cast-count : goal.overflow_cast-count
unfolding trailer_numbers new_trailer
overflow_cast-count c = omega (arith, c.count_of-count.ensures.most, c.requires)

pub returns : goal.returns
unfolding trailer_numbers new_trailer
returns c = rw (c.number_of.ensures, c.count_of-count.ensures.is, c.last_place-before.ensures)
