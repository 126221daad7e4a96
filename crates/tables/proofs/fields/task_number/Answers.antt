-- The number at the field's place, of the task that the job names.
use Prim.Native.Nat.{ℕ, ◌+◌, ◌*◌}
use mathlib.Core.Path.{ap, ◌∙◌}
use lib.ListN.{get_or}
use Rattle.tables.specs.Tables.{task_of}
use Rattle.tables.proofs.fields.task_number.Goals as goal

pub returns : goal.returns
unfolding task_of
returns c =
    let a = c.args in
    c.at.ensures ∙ ap (λ (k : ℕ). get_or a.tasks.now (7 * k + a.field) 0) c.at-task.ensures
