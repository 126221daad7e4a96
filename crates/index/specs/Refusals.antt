-- Request One's refusals: 15 and 16, place 0, both after those of the lists, the horizon and the schedule.
use Rattle.std.specs.Prelude.{ℕ, ◌+◌, ◌*◌, ◌/◌, Bool, not, ◌&&◌, ◌||◌, List, eqb, ltb, take}
use Rattle.bits.specs.Below.{some}
use Rattle.tables.specs.Outcomes.{Outcome}
use Rattle.tables.specs.Refusals.{check_schedule, refuse}
use Rattle.tables.specs.Tables.{task_count}
use Rattle.index.specs.Counts.{Plan, all_jobs_or_idle, job_or_idle, entries_between, ticks}
use Rattle.index.specs.Rows.{index_number, row_count, row_width}

-- 2 to 10, of the lists, the horizon and the schedule's entries: what every call checks first
abbrev pub check_given : Plan → ℕ → Outcome
check_given g entries = check_schedule g.lists g.horizon entries

-- 16: an index of the wrong length, that is, not as many numbers as its rows have
unfoldable pub check_length : List ℕ → ℕ → ℕ → Outcome
check_length tasks horizon numbers = refuse (not (eqb numbers (row_count horizon * row_width tasks))) 16 0

-- ## build

-- Of the schedule, building reads the entries before the last row's multiple ..
unfoldable pub built_from : ℕ → List ℕ → List ℕ
built_from horizon schedule = take (horizon / 64 * 64) schedule

-- 16: .. one of which is neither job nor idle
unfoldable pub check_built : Plan → List ℕ → Outcome
check_built g schedule = refuse (not (all_jobs_or_idle g.lists.jobs (built_from g.horizon schedule))) 16 0

-- ## between

-- 15: a > b, or b beyond the horizon
unfoldable pub check_range : ℕ → ℕ → ℕ → Outcome
check_range horizon a b = refuse (ltb b a || ltb horizon b) 15 0

-- 16: a task above the task count
unfoldable pub check_task : List ℕ → ℕ → Outcome
check_task tasks task = refuse (ltb (task_count tasks) task) 16 0

-- Of the schedule, an end t reads the entries since its last row, that of the last multiple of 64 at or before it ..
unfoldable pub since : List ℕ → ℕ → List ℕ
since schedule t = entries_between (t / 64 * 64) t schedule

module _ (g : Plan) (schedule index : List ℕ) where
  -- .. and its count is that row's number plus the entries since.
  unfoldable pub count_at : ℕ → ℕ → ℕ
  count_at task t = index_number g.lists.tasks index (t / 64) task + ticks g.lists task (since schedule t)

  -- 16: an entry read is neither job nor idle, or a count formed lies outside 0 to the horizon: an end's, or the answer, the first taken from
  -- the second, which is below 0 where the second is the smaller, and is never above the horizon, since the second is not
  unfoldable pub check_ends : ℕ → ℕ → ℕ → Outcome
  check_ends task a b =
      refuse
      (not (all_jobs_or_idle g.lists.jobs (since schedule a)) || not (all_jobs_or_idle g.lists.jobs (since schedule b))
      || ltb g.horizon (count_at task a) || ltb g.horizon (count_at task b) || ltb (count_at task b) (count_at task a))
      16 0

-- ## replace

-- 15: a replaced tick not below the horizon
unfoldable pub check_tick : ℕ → ℕ → Outcome
check_tick horizon tick = refuse (not (ltb tick horizon)) 15 0

-- 16: the entry given, or the one read that it replaces, is neither job nor idle
unfoldable pub check_entries : List ℕ → ℕ → ℕ → Outcome
check_entries jobs stands entry = refuse (not (job_or_idle jobs stands) || not (job_or_idle jobs entry)) 16 0

-- The number that would lose 1, or the one that would gain 1, would leave 0 to the horizon.
unfoldable pub leaves : ℕ → ℕ → ℕ → Bool
leaves horizon loses gains = ltb loses 1 || ltb (horizon + 1) loses || ltb horizon (gains + 1)

-- 16: a changed count outside 0 to the horizon, in some row past the tick; where both are the same column none is formed
unfoldable pub strays : List ℕ → ℕ → List ℕ → ℕ → ℕ → ℕ → Bool
strays tasks horizon index tick old new =
    not (eqb old new)
    && some (row_count horizon) (λ r. ltb tick (r * 64) && leaves horizon (index_number tasks index r old) (index_number tasks index r new))
