-- What `admit` answers, refusals first.
use Rattle.std.specs.Prelude.{ℕ, List, replicate}
use Rattle.bits.specs.Below.{list_from}
use Rattle.tables.specs.Outcomes.{Done, Refused}
use Rattle.tables.specs.Refusals.{check_schedule, unless}
use Rattle.tables.specs.Tables.{job_count, lists}
use Rattle.zsrm.specs.declared.mode.Mode.{Mode}
use Rattle.planter.specs.Admission.{appended, blank_change, change_at}
use Rattle.planter.specs.Table.{table}
use Rattle.planter.specs.declared.answers.Admission.{Admission}

-- A refused admission counts no job, and every change is blank.
unfoldable pub refused_admission : ℕ → ℕ → Admission
refused_admission number place = record { outcome = Refused number place; count = 0; changes = replicate 64 blank_change }

-- From a list to a longer one. It is refused with exactly what a run of the longer list is refused with, whose schedule is as long as the
-- horizon.
unfoldable pub admission : Mode → List ℕ → List ℕ → ℕ → Admission
admission mode jobs longer horizon =
    unless (check_schedule (lists table longer) horizon horizon) refused_admission
    (record { outcome = Done; count = job_count longer; changes = list_from 0 64 (change_at mode jobs longer horizon) })

unfoldable pub admit_answer : Mode → List ℕ → ℕ → ℕ → ℕ → ℕ → Admission
admit_answer mode jobs horizon task arrival execution = admission mode jobs (appended jobs task arrival execution) horizon
