-- The invariant: behind the first `i` jobs the task allows what it does behind the first `n`, since no job between them is of the task.
use mathlib.Core.Path.{◌≡◌}
use Rattle.tables.specs.Code.{soonest}
use Rattle.tables.proofs.refusals.looked_back.Given as goal

abbrev pub invariant-loop-i : goal.invariant-loop-i
invariant-loop-i g l =
    let tasks = g.L.Listed.numbers l.tasks in
    let jobs = g.L.Listed.numbers l.jobs in
    soonest tasks jobs l.n l.k ≡ soonest tasks jobs l.i l.k
