-- Where the entry is a job, its end counts, and in SE its nominal time.
use Prim.Native.Nat.{ℕ}
use mathlib.Core.Path.{ap, ap₂, ◌∙◌}
use borrow.Author.Tests.{le-ltb, lt-ltb}
use Rattle.zsrm.specs.Code.Gathered.{run_gap, until}
use Rattle.zsrm.proofs.gap.run_gap.Goals as goal

pub returns-then-se : goal.returns-then-se
unfolding run_gap
returns-then-se c =
    let s = c.args in
    rw (lt-ltb _ _ c.if-entry-n.true, c.if-se.true)
    (c.until.ensures ∙ ap₂ (λ (k x : ℕ). until k s.done x) (c.until-k.ensures ∙ ap (λ (x : ℕ). until s.most s.done x) c.execution_in-c.ensures)
    c.nominal_in-nominal.ensures)

pub returns-else-se : goal.returns-else-se
unfolding run_gap
returns-else-se c =
    let s = c.args in
    rw (lt-ltb _ _ c.if-entry-n.true, c.if-se.false) (c.until-k.ensures ∙ ap (λ (x : ℕ). until s.most s.done x) c.execution_in-c.ensures)

pub returns-else-entry-n : goal.returns-else-entry-n
unfolding run_gap
returns-else-entry-n c = rw (le-ltb _ _ c.if-entry-n.false)
