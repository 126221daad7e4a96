-- What a schedule is made from: what of the rules does not change from tick to tick.
use Rattle.std.specs.Prelude.{Bool, true, false, List, ℕ}
use Rattle.tables.specs.Tables.{Lists, lists}
use Rattle.zsrm.specs.declared.mode.Mode.{Mode}
use Rattle.zsrm.specs.declared.mode.Mode.TheVariants.{S, SE}

-- the scheduler's mode, the task table and the job list
pub record Given : Type 0 where
  pub mode : Mode
  pub lists : Lists

-- as the entry points are given it
abbrev pub given : Mode → List ℕ → List ℕ → Given
given mode tasks jobs = record { mode = mode; lists = lists tasks jobs }

abbrev pub is_se : Mode → Bool
is_se S = false
is_se SE = true
