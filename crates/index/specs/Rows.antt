-- The index beside the schedule: for each multiple of 64 from 0 to the horizon a row, the ticks before it given to each task and, last, idle.
use Rattle.std.specs.Prelude.{ℕ, zero, suc, ◌+◌, ◌*◌, ◌/◌, List, [], ◌++◌, ◌≡◌, get_or, take}
use Rattle.bits.specs.Below.{list_from}
use Rattle.tables.specs.Tables.{task_count}
use Rattle.index.specs.Counts.{Plan, ticks}

-- A row has a number for each task and, last, one for idle.
abbrev pub row_width : List ℕ → ℕ
row_width tasks = task_count tasks + 1

-- a row for each multiple of 64 from 0 to the horizon: row r is that of r * 64
abbrev pub row_count : ℕ → ℕ
row_count horizon = horizon / 64 + 1

-- n rows of w numbers, one behind another: f r c is the number of row r for c
unfoldable pub row_by_row : ℕ → ℕ → (ℕ → ℕ → ℕ) → List ℕ
row_by_row w zero f = []
row_by_row w (suc n) f = row_by_row w n f ++ list_from 0 w (f n)

-- the number of row r for task c, or for idle, in an index
unfoldable pub index_number : List ℕ → List ℕ → ℕ → ℕ → ℕ
index_number tasks index r c = get_or index (r * row_width tasks + c) 0

module _ (g : Plan) (schedule : List ℕ) where
  -- the ticks before r * 64 given to c
  unfoldable pub row_number : ℕ → ℕ → ℕ
  row_number r c = ticks g.lists c (take (r * 64) schedule)

  -- the index of a schedule
  unfoldable pub index_of : List ℕ
  index_of = row_by_row (row_width g.lists.tasks) (row_count g.horizon) row_number

  -- An index is the schedule's.
  unfoldable pub Indexes : List ℕ → Type 0
  Indexes index = index ≡ index_of
