-- Runs: one tick repeated, from any record and from the fresh one.
use Rattle.std.specs.Prelude.{ℕ, zero, suc, List, [], ◌∷◌, take}
use Rattle.zsrm.specs.declared.record.Record.{Record}
use Rattle.zsrm.specs.declared.tie.Tie.{Tie}
use Rattle.zsrm.specs.Given.{Given}
use Rattle.zsrm.specs.Record.{fresh}
use Rattle.zsrm.specs.Tick.{choice, advanced}

module _ (g : Given) where
  -- the record after given entries
  unfoldable pub replay : Record → List ℕ → Record
  replay r [] = r
  replay r (e ∷ es) = replay (advanced g r e) es

  -- the entries of a run of n ticks that takes, at each record, what pick says: the laws of runs hold for every way to choose
  unfoldable pub entries_by : (Record → ℕ) → Record → ℕ → List ℕ
  entries_by pick r zero = []
  entries_by pick r (suc n) = pick r ∷ entries_by pick (advanced g r (pick r)) n

  -- the record that it ends with
  unfoldable pub final_by : (Record → ℕ) → Record → ℕ → Record
  final_by pick r n = replay r (entries_by pick r n)

  -- our run, under either tie choice
  unfoldable pub run_entries : Tie → ℕ → List ℕ
  run_entries tie horizon = entries_by (choice g tie) (fresh g.lists.jobs) horizon

  unfoldable pub run_record : Tie → ℕ → Record
  run_record tie horizon = final_by (choice g tie) (fresh g.lists.jobs) horizon

  -- the record before tick t of a schedule that starts at r
  unfoldable pub record_at : Record → List ℕ → ℕ → Record
  record_at r schedule t = replay r (take t schedule)

  -- the same from the fresh record: earlier entries taken as given
  unfoldable pub record_before : List ℕ → ℕ → Record
  record_before schedule t = record_at (fresh g.lists.jobs) schedule t

  -- the record after a schedule's last tick
  unfoldable pub replayed : List ℕ → Record
  replayed schedule = replay (fresh g.lists.jobs) schedule
