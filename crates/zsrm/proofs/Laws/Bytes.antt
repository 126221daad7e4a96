-- Lists as bytes: a run that writes its entries as bytes, and a claim that is read from them.
use Prim.Native.Nat.{◌%◌, ◌*◌, ◌/◌, ℕ}
use mathlib.Core.List.{List}
use mathlib.Core.Path.{refl, sym, ◌∙◌, ◌≡◌}
use native.Mathlib.Omega.{arith}
use lib.ListN.{length, take}
use lib.Seq.{take_all}
use Rattle.zsrm.specs.declared.record.Record.{Record}
use Rattle.zsrm.specs.declared.tie.Tie.{Tie}
use Rattle.tables.specs.Bytes.{bytes_of}
use Rattle.zsrm.specs.Given.{Given}
use Rattle.zsrm.specs.Record.{fresh}
use Rattle.zsrm.specs.Run.{entries_by, run_entries}
use Rattle.zsrm.specs.Tick.{choice}
use Rattle.zsrm.proofs.Laws.Consistent.{fresh_consistent}
use Rattle.zsrm.proofs.Laws.Going.{Going, entries_none, going_none}
use Rattle.zsrm.proofs.Laws.Places.{tick_fresh}

-- a run from the fresh record that has written the entries of its first t ticks as bytes
pub record Writing (g : Given) (tie : Tie) (size : ℕ) (bytes : List ℕ) (r : Record) (t : ℕ) : Type 0 where
  pub long : length bytes ≡ size
  pub going : Going g (choice g tie) (fresh g.lists.jobs) r t
  pub front : take (t * 2) bytes ≡ bytes_of 2 (entries_by g (choice g tie) (fresh g.lists.jobs) t)

module _ (g : Given) (tie : Tie) (bytes : List ℕ) (r : Record) where
  pub writing_none : r ≡ fresh g.lists.jobs → Writing g tie (length bytes) bytes r 0
  unfolding bytes_of
  writing_none q =
      record { long = refl; going = rw q (going_none g (choice g tie) _ (fresh_consistent g)); front = rw (entries_none g (choice g tie) (fresh g.lists.jobs)) }

  -- the tick that it has come to
  pub writing_tick : (size t : ℕ) → Writing g tie size bytes r t → r.tick ≡ t
  writing_tick size t w = omega (arith, w.going.time, tick_fresh g.lists.jobs)

  pub writing_all : (size t : ℕ) → Writing g tie size bytes r t → size % 2 ≡ 0 → t ≡ size / 2 → bytes ≡ bytes_of 2 (run_entries g tie (size / 2))
  unfolding run_entries
  writing_all size t w even all = rw (← all) (sym (take_all (t * 2) bytes (omega (arith, w.long))) ∙ w.front)
