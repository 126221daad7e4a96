-- The task has a number below 16.
use Prim.Native.Nat.{ℕ, ◌+◌}
use mathlib.Core.Path.{ap}
use native.Mathlib.Omega.{arith}
use lib.ListN.{get_or}
use Rattle.zsrm.specs.Code.Masks.{less_of}
use Rattle.zsrm.proofs.Laws.Masks.{task_few}
use Rattle.zsrm.proofs.masks.less_of.Goals as goal

pub overflow_add-result : goal.overflow_add-result
overflow_add-result c = let s = c.args in omega (arith, task_few s.g.now s.j, c.task_in-k.ensures)

pub offset_bounds-masks-k : goal.offset_bounds-masks-k
offset_bounds-masks-k c = let s = c.args in omega (arith, task_few s.g.now s.j, c.task_in-k.ensures)

pub bounds-masks-k : goal.bounds-masks-k
bounds-masks-k c = let s = c.args in omega (arith, task_few s.g.now s.j, c.task_in-k.ensures)

pub returns : goal.returns
unfolding less_of
returns c = let s = c.args in ap (λ (x : ℕ). get_or s.masks.now (16 + x) 0) c.task_in-k.ensures
