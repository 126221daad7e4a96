-- Document 01, "Legal schedules": scheduling instants, legal entries, the answer to a claim.
use Rattle.std.specs.Prelude.{ℕ, suc, Bool, true, false, ◌&&◌, ◌||◌, cond, List, [], ◌∷◌, eqb, length}
use Rattle.zsrm.specs.declared.record.Standing.{Standing}
use Rattle.zsrm.specs.declared.record.Standing.TheVariants.{NotArrived, Unfinished, Finished, Ended}
use Rattle.zsrm.specs.declared.record.Record.{Record}
use Rattle.zsrm.specs.declared.answers.Claim.{Claim}
use Rattle.zsrm.specs.declared.answers.Claim.TheVariants.{Legal, NotLegal}
use Rattle.zsrm.specs.Given.{Given, is_se}
use Rattle.tables.specs.Tables.{idle, arrival, job_nominal, zero_slack_instant}
use Rattle.zsrm.specs.Record.{done_at, standing_at, fresh}
use Rattle.zsrm.specs.Tick.{some_job, candidate_or_idle, advanced}

abbrev pub is_finished_at : ℕ → Standing → Bool
is_finished_at t NotArrived = false
is_finished_at t Unfinished = false
is_finished_at t (Finished f) = eqb f t
is_finished_at t (Ended e) = false

-- r is the record at the tick, last the entry before it.
module _ (g : Given) (r : Record) (last : ℕ) where
  -- Job j makes the tick a scheduling instant: it arrives at t, finishes at t, or has arrival + Z = t, in any standing; or, in SE,
  -- it ran in t − 1 and reached done = C.
  unfoldable pub instant_by : ℕ → Bool
  instant_by j =
      eqb (arrival g.lists.jobs j) r.tick || is_finished_at r.tick (standing_at r j) || eqb (zero_slack_instant g.lists j) r.tick
      || (is_se g.mode && eqb last j && eqb (done_at r j) (job_nominal g.lists j))

  unfoldable pub scheduling_instant : Bool
  scheduling_instant = some_job g.lists.jobs instant_by

-- Legal: a candidate, or idle with no candidate, and, where t > 0 is no scheduling instant, equal to the entry before.
unfoldable pub legal_entry : Given → Record → ℕ → ℕ → Bool
legal_entry g r last e = candidate_or_idle g r e && (eqb r.tick 0 || scheduling_instant g r last || eqb e last)

module _ (g : Given) where
  -- how many entries from the record r on are legal before the first that is not, earlier entries taken as given; last is the entry
  -- before them
  unfoldable pub legal_from : Record → ℕ → List ℕ → ℕ
  legal_from r last [] = 0
  legal_from r last (e ∷ es) = elim (legal_entry g r last e) [ true ↦ suc (legal_from (advanced g r e) e es) | false ↦ 0 ]

  module _ (schedule : List ℕ) where
    -- the length of a schedule's longest legal beginning; idle stands for the entry before tick 0, which no rule looks at
    unfoldable pub legal_length : ℕ
    legal_length = legal_from (fresh g.lists.jobs) idle schedule

    -- all of it is legal
    unfoldable pub is_legal : Bool
    is_legal = eqb legal_length (length schedule)

    -- A claim is legal, or not legal at the least tick whose entry is not.
    unfoldable pub claim : Claim
    claim = cond is_legal Legal (NotLegal legal_length)
