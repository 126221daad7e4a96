-- How the code checks an entry of a claim, from the view of the record, and what it asks before it mends, or shows a part. No contract that
-- callers see cites it; the laws in proofs/Laws/Claims and Mend join it to "Legal schedules".
use Rattle.std.specs.Prelude.{ℕ, ◌≤◌, Bool, true, ◌&&◌, ◌||◌, List, ◌≡◌, length, ltb, eqb}
use Rattle.bits.specs.Below.{greatest, bit}
use Rattle.zsrm.specs.declared.record.Standing.{Standing}
use Rattle.zsrm.specs.declared.record.Standing.TheVariants.{NotArrived, Unfinished, Finished, Ended}
use Rattle.zsrm.specs.declared.record.Place.{Place}
use Rattle.zsrm.specs.declared.record.Record.{Record}
use Rattle.zsrm.specs.declared.look.View.{View}
use Rattle.zsrm.specs.declared.claims.Walked.{Walked}
use Rattle.zsrm.specs.Given.{Given}
use Rattle.tables.specs.Tables.{idle, job_count, arrival, job_nominal, zero_slack_instant, Lists}
use Rattle.zsrm.specs.Code.View.{has_priority}
use Rattle.zsrm.specs.Run.{record_before}
use Rattle.zsrm.specs.Record.{consistent}
use Rattle.zsrm.specs.Legal.{is_finished_at, legal_entry, legal_length}
use Rattle.zsrm.specs.Mend.{mend_choice}

module _ (l : Lists) where
  -- job j, at the place p, makes tick t a scheduling instant, the entry before being last
  unfoldable pub instant_at : Bool → ℕ → ℕ → ℕ → Place → Bool
  instant_at se last t j p =
      eqb (arrival l.jobs j) t || is_finished_at t p.standing || eqb (zero_slack_instant l j) t
      || (se && eqb last j && eqb p.done (job_nominal l j))

  -- an eligible job of the top priority that is ready, or idle where none is ready
  unfoldable pub top_or_idle : View → ℕ → Bool
  top_or_idle v e =
      (ltb e (job_count l.jobs) && has_priority l v.eligible (greatest 64 (bit v.ready) 64) e)
      || (eqb e idle && eqb v.ready 0)

-- how many entries replaying a schedule finds legal, and the record behind them
pub record WalkedAs (g : Given) (schedule : List ℕ) (r : Walked) : Type 0 where
  pub ticks : r.ticks ≡ legal_length g schedule
  pub here : r.«record» ≡ record_before g schedule (legal_length g schedule)

-- mending may go on from a record: it is consistent, and the entry that is chosen there is legal
pub record Mendable (g : Given) (r : Record) : Type 0 where
  pub sound : consistent g r ≡ true
  pub first : legal_entry g r r.previous (mend_choice g r) ≡ true

-- a finishing instant that lies within the schedule, at or after arrival: what the code asks before it takes the part
abbrev pub FitsIn : ℕ → List ℕ → Standing → Type 0
FitsIn a schedule NotArrived = Unit {0}
FitsIn a schedule Unfinished = Unit {0}
FitsIn a schedule (Finished f) = (a ≤ f) × (f ≤ length schedule)
FitsIn a schedule (Ended e) = Unit {0}
