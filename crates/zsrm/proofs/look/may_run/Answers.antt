-- The tests, as the calls answer them, where the entry is one of the jobs.
use Prim.Native.Nat.{ℕ}
use mathlib.Core.Bool.{Bool, ◌&&◌}
use mathlib.Core.Path.{ap, ap₂, ◌∙◌}
use lib.Dec.{eqb}
use borrow.Author.Tests.{le-ltb, lt-ltb}
use Rattle.zsrm.specs.Code.Gathered.{may_run_in, level_in}
use Rattle.zsrm.proofs.look.may_run.Goals as goal

pub returns-then-entry-n : goal.returns-then-entry-n
unfolding may_run_in level_in
returns-then-entry-n c =
    rw (lt-ltb _ _ c.if-entry-n.true)
    (ap₂ (λ (a b : Bool). a && b) c.has_bit.ensures
    (c.equals.ensures ∙ ap (λ (x : ℕ). eqb x c.args.p.0) c.priority_in-its.ensures))

pub returns-else-entry-n : goal.returns-else-entry-n
unfolding may_run_in
returns-else-entry-n c = rw (le-ltb _ _ c.if-entry-n.false)
