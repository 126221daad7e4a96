-- Where a job is still to come, the next one counts.
use Prim.Native.Nat.{ℕ}
use mathlib.Core.Path.{ap, ◌∙◌}
use borrow.Author.Tests.{le-ltb, lt-ltb}
use Rattle.zsrm.specs.Code.Gathered.{arrival_gap, until}
use Rattle.zsrm.proofs.gap.arrival_gap.Goals as goal

pub returns-then-came-n : goal.returns-then-came-n
unfolding arrival_gap
returns-then-came-n c =
    let s = c.args in
    rw (lt-ltb _ _ c.if-came-n.true) (c.until.ensures ∙ ap (λ (x : ℕ). until s.most s.t x) c.arrival_in-next.ensures)

pub returns-else-came-n : goal.returns-else-came-n
unfolding arrival_gap
returns-else-came-n c = rw (le-ltb _ _ c.if-came-n.false)
