-- Both tests, as the call answers the one.
use Prim.Native.Nat.{ℕ}
use mathlib.Core.Bool.{Bool, ◌&&◌, ◌||◌}
use mathlib.Core.Path.{ap, ◌∙◌}
use lib.Dec.{eqb}
use Rattle.zsrm.specs.Code.Gathered.{top_or_idle_in, may_run_in}
use Rattle.tables.specs.Tables.{idle}
use Rattle.zsrm.proofs.look.is_top_or_idle.Goals as goal

pub returns : goal.returns
unfolding top_or_idle_in
returns c =
    let s = c.args in
    ap (λ (b : Bool). b || (eqb s.entry idle && eqb s.seen.ready 0))
    (c.may_run.ensures ∙ ap (λ (x : ℕ). may_run_in s.g.now s.n s.seen.eligible x s.entry) c.top_priority-top.ensures)
