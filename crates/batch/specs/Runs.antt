-- Request Five, many runs in one call: what each run is given, and what all of them give. Runs are numbered from 0.
use Rattle.std.specs.Prelude.{ℕ, zero, suc, ◌+◌, ◌*◌, cond, List, [], ◌++◌, ltb, get_or, take, drop}
use Rattle.bits.specs.Below.{list_from}
use Rattle.zsrm.specs.declared.mode.Mode.{Mode}
use Rattle.zsrm.specs.declared.record.Record.{Record}
use Rattle.zsrm.specs.declared.tie.Tie.TheVariants.{Lowest}
use Rattle.zsrm.specs.Answers.{run_answer, run_schedule}
use Rattle.zsrm.specs.Given.{Given, given}
use Rattle.zsrm.specs.Record.{blank}

-- how many jobs the lists before list r have
unfoldable pub jobs_before : List ℕ → ℕ → ℕ
jobs_before counts zero = 0
jobs_before counts (suc r) = jobs_before counts r + get_or counts r 0

-- One flat list, a list of job counts: list r is the part of three numbers for each of its jobs, after the lists before it.
unfoldable pub list_of : List ℕ → List ℕ → ℕ → List ℕ
list_of jobs counts r = take (get_or counts r 0 * 3) (drop (jobs_before counts r * 3) jobs)

-- A run's own place in the one lent list, the second right after the first.
unfoldable pub place_of : ℕ → List ℕ → ℕ → List ℕ
place_of horizon schedule r = take horizon (drop (r * horizon) schedule)

-- one table in one mode, the flat list, the job counts, one horizon
pub record Offer : Type 0 where
  pub mode : Mode
  pub tasks : List ℕ
  pub jobs : List ℕ
  pub counts : List ℕ
  pub horizon : ℕ

-- as the call is given it
abbrev pub offer : Mode → List ℕ → List ℕ → List ℕ → ℕ → Offer
offer mode tasks jobs counts horizon = record { mode = mode; tasks = tasks; jobs = jobs; counts = counts; horizon = horizon }

module _ (o : Offer) where
  -- what run r is made from
  unfoldable pub given_of : ℕ → Given
  given_of r = given o.mode o.tasks (list_of o.jobs o.counts r)

  -- Every run's result equals that of a call by itself: its record ..
  unfoldable pub record_of : List ℕ → ℕ → Record
  record_of schedule r = (run_answer (given_of r) Lowest o.horizon (place_of o.horizon schedule r)).«record»

  -- .. and its schedule.
  unfoldable pub schedule_of : List ℕ → ℕ → List ℕ
  schedule_of schedule r = run_schedule (given_of r) Lowest o.horizon (place_of o.horizon schedule r)

  -- Of n runs, the records of runs that there are not are blank.
  unfoldable pub record_or_blank : List ℕ → ℕ → ℕ → Record
  record_or_blank schedule n r = cond (ltb r n) (record_of schedule r) blank

  unfoldable pub records_of : List ℕ → ℕ → List Record
  records_of schedule n = list_from 0 32 (record_or_blank schedule n)

  -- the schedules of n runs, one behind another
  unfoldable pub schedules_of : List ℕ → ℕ → List ℕ
  schedules_of schedule zero = []
  schedules_of schedule (suc n) = schedules_of schedule n ++ schedule_of schedule n
