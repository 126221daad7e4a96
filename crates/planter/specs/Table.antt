-- Document 02, Seven: the planter's fixed set of three tasks.
use Rattle.std.specs.Prelude.{ℕ, List, [], ◌∷◌}
use Rattle.zsrm.specs.Given.{Given, given}
use Rattle.zsrm.specs.declared.mode.Mode.{Mode}

-- the tasks' numbers
abbrev pub down_force : ℕ
down_force = 0

abbrev pub depth : ℕ
depth = 1

abbrev pub log : ℕ
log = 2

-- A task in document 01's order: period, deadline, nominal time, overload time, criticality, priority, zero-slack offset.
abbrev pub table : List ℕ
table = 20 ∷ 20 ∷ 4 ∷ 8 ∷ 3 ∷ 2 ∷ 12 ∷ 10 ∷ 10 ∷ 3 ∷ 4 ∷ 2 ∷ 3 ∷ 6 ∷ 40 ∷ 40 ∷ 6 ∷ 6 ∷ 1 ∷ 1 ∷ 30 ∷ []

-- Callers give only mode and jobs.
abbrev pub planter : Mode → List ℕ → Given
planter mode jobs = given mode table jobs
