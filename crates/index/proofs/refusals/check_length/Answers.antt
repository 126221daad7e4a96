-- The definition's own test: an index ends where a row behind its last would begin.
use Prim.Native.Nat.{ℕ, ◌*◌}
use mathlib.Core.Bool.{not}
use mathlib.Core.Path.{ap, ◌∙◌}
use lib.Dec.{eqb}
use Rattle.tables.specs.Refusals.{refuse}
use Rattle.index.specs.Refusals.{check_length}
use Rattle.index.specs.Rows.{row_width}
use Rattle.index.proofs.refusals.check_length.Goals as goal

pub returns : goal.returns
unfolding check_length
returns c =
    let a = c.args in
    let whole = c.row_at-whole.ensures.is ∙ ap (λ (n : ℕ). n * row_width a.given.tasks.now) c.row_count.ensures in
    c.refuse.ensures ∙ ap (λ (n : ℕ). refuse (not (eqb a.numbers n)) 16 0) whole
