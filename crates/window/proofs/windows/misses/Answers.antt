-- The misses never fall, so the difference is one of numbers.
use native.Mathlib.Omega.{arith}
use borrow.Author.Rules.{rules}
use Rattle.window.specs.Code.{misses_between}
use Rattle.window.proofs.windows.misses.Goals as goal

pub overflow_sub-result : goal.overflow_sub-result
overflow_sub-result c = omega (arith, c.requires.0.rises c.args.i c.args.k c.requires.1)

pub returns : goal.returns
unfolding misses_between
returns c = search rules
