-- What a call from C has read before its first tick, what it sees of a tick by what it carries, and what it makes of a stretch. No contract
-- that callers see cites it; the laws in proofs/Laws/Calls join it to the record and its leaps.
use Rattle.std.specs.Prelude.{ℕ, ◌+◌, ◌-◌, Bool, cond, not, List, ◌≡◌, ltb, eqb, get_or, min, set}
use Rattle.bits.specs.Below.{some}
use Rattle.bits.specs.Word.{without, with_bit}
use Rattle.tables.specs.Outcomes.{Done}
use Rattle.tables.specs.Refusals.{check_lists}
use Rattle.tables.specs.Tables.{job_count}
use Rattle.zsrm.specs.declared.compact.Going.{Going}
use Rattle.zsrm.specs.Given.{Given, is_se}
use Rattle.zsrm.specs.Code.Compact.{Times}
use Rattle.zsrm.specs.Code.Gathered.{arrival_gap, execution_in, run_gap}
use Rattle.zsrm.specs.Code.Masks.{ended_of, held_by, Masks, Tasks}

-- lists that passed their checks, their jobs' numbers, words and count, and the mode
pub record Call (x : Given) (g masks : List ℕ) (n : ℕ) (se : Bool) : Type 0 where
  pub ok : check_lists x.lists ≡ Done
  pub times : Times x.lists g
  pub tasks : Tasks x.lists g
  pub masked : Masks x.lists masks
  pub count : n ≡ job_count x.lists.jobs
  pub mode : se ≡ is_se x.mode

-- the jobs past zero slack, and those that may run
unfoldable pub past_of : Going → ℕ
past_of s = without s.alive s.early

unfoldable pub eligible_of : List ℕ → List ℕ → Going → ℕ
eligible_of masks g s = without s.alive (held_by masks g (past_of s))

-- how far from t on nothing happens but to the entry: to the next zero-slack instant carried, or the last of the ticks, or the next arrival
unfoldable pub most_of : Going → ℕ → ℕ → ℕ
most_of s t ticks = min s.soon ticks - t

unfoldable pub reach_of : List ℕ → ℕ → Going → ℕ → ℕ → ℕ
reach_of g n s t ticks = arrival_gap g n s.came t (most_of s t ticks)

-- the ticks done, with k more of the entry e, where it is one of the n jobs
unfoldable pub done_by : List ℕ → ℕ → ℕ → ℕ → List ℕ
done_by done e n k = cond (ltb e n) (set done e (get_or done e 0 + k)) done

module _ (g : List ℕ) (se : Bool) (done : List ℕ) (e : ℕ) where
  -- how far the entry e runs of so many ticks, of n jobs
  unfoldable pub stretch_of : ℕ → ℕ → ℕ
  stretch_of n reach = run_gap g n se e (get_or done e 0) reach

  -- the jobs left alive where it comes to so many ticks done: without the ended, and without it where it finishes
  unfoldable pub left_of : List ℕ → Going → ℕ → ℕ
  left_of masks s ticks = without (without s.alive (cond se (ended_of masks g done (past_of s) e) 0)) (cond (eqb ticks (execution_in g e)) (with_bit 0 e) 0)

  -- by k ticks of it; all, where it is none of the n jobs
  unfoldable pub alive_after : ℕ → List ℕ → Going → ℕ → ℕ
  alive_after n masks s k = cond (ltb e n) (left_of masks s (get_or done e 0 + k)) s.alive

-- of the k entries from t on some is another than e
unfoldable pub others_in : List ℕ → ℕ → ℕ → ℕ → Bool
others_in list t e k = some k (λ i. not (eqb (get_or list (t + i) 0) e))
