-- Request Eleven, "Mend a damaged claim": what a salvage tool makes of a claimed schedule, by the rules of "Legal schedules".
use Rattle.std.specs.Prelude.{ℕ, ◌-◌, Bool, not, ◌&&◌, cond, List, ◌++◌, ltb, eqb, get_or, length, take}
use Rattle.bits.specs.Below.{count}
use Rattle.zsrm.specs.declared.record.Record.{Record}
use Rattle.zsrm.specs.declared.answers.Mended.{Mended}
use Rattle.zsrm.specs.declared.answers.Mended.TheVariants.{Whole, Changed}
use Rattle.zsrm.specs.Given.{Given}
use Rattle.tables.specs.Tables.{idle}
use Rattle.zsrm.specs.Tick.{lowest}
use Rattle.zsrm.specs.Run.{entries_by, record_before}
use Rattle.zsrm.specs.Legal.{scheduling_instant, legal_length, is_legal}

-- at place t the other list has another entry
unfoldable pub differs : List ℕ → List ℕ → ℕ → Bool
differs claimed made t = not (eqb (get_or claimed t idle) (get_or made t idle))

-- How many entries differ: at how many places of the claim the other list has another.
unfoldable pub differing : List ℕ → List ℕ → ℕ
differing claimed made = count (length claimed) (differs claimed made)

module _ (g : Given) where
  -- It keeps the previous entry where the tick is above 0 and no scheduling instant ..
  unfoldable pub keeps_previous : Record → Bool
  keeps_previous r = ltb 0 r.tick && not (scheduling_instant g r r.previous)

  -- .. and otherwise takes the lowest numbered candidate, or idle where there is none.
  unfoldable pub mend_choice : Record → ℕ
  mend_choice r = cond (keeps_previous r) r.previous (lowest g r)

  module _ (schedule : List ℕ) where
    -- It keeps the longest legal beginning, and from there chooses so for as many ticks as the claim still has.
    unfoldable pub mended : List ℕ
    mended =
        take (legal_length g schedule) schedule
        ++ entries_by g mend_choice (record_before g schedule (legal_length g schedule)) (length schedule - legal_length g schedule)

    -- It returns the first changed tick and how many entries differ; a legal claim comes back with 0 changes and no first tick.
    unfoldable pub mend : Mended
    mend = cond (is_legal g schedule) Whole (Changed (legal_length g schedule) (differing schedule mended))
