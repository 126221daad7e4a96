-- In SE the jobs alive that are less critical than the greatest that is over; else none.
use Prim.Native.Nat.{ℕ}
use mathlib.Core.Path.{ap, ◌∙◌}
use Rattle.bits.specs.Below.{word}
use Rattle.zsrm.specs.Code.Gathered.{less_in}
use Rattle.zsrm.specs.Code.Underway.{ended_in}
use Rattle.zsrm.proofs.look.ended_in.Goals as goal

pub returns-then-se : goal.returns-then-se
unfolding ended_in
returns-then-se c =
    let a = c.args in
    rw c.if-se.true (c.less_critical_word.ensures ∙ ap (λ (m : ℕ). word 64 (less_in a.g.now a.seen.alive m)) c.most_over-most.ensures)

pub returns-else-se : goal.returns-else-se
unfolding ended_in
returns-else-se c = rw c.if-se.false
