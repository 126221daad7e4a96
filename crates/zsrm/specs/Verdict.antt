-- Document 01, verdicts, witnesses, and the part of the schedule that is shown.
use Rattle.std.specs.Prelude.{ℕ, ◌+◌, ◌*◌, ◌-◌, Bool, true, false, ◌&&◌, cond, List, [], ◌≡◌, take, drop, leb, ltb, Result, Ok, Err}
use Rattle.bits.specs.Below.{least}
use Rattle.zsrm.specs.declared.record.Standing.{Standing}
use Rattle.zsrm.specs.declared.record.Standing.TheVariants.{NotArrived, Unfinished, Finished, Ended}
use Rattle.zsrm.specs.declared.record.Record.{Record}
use Rattle.tables.specs.declared.answers.Refusal.{Refusal}
use Rattle.zsrm.specs.declared.answers.Verdict.{Verdict}
use Rattle.zsrm.specs.declared.answers.Witness.{Witness}
use Rattle.zsrm.specs.Given.{Given}
use Rattle.tables.specs.Tables.{Lists, arrival, deadline_instant, execution, job_count, job_criticality, job_nominal}
use Rattle.zsrm.specs.Record.{standing_at}
use Rattle.zsrm.specs.Run.{replayed}
use Rattle.zsrm.specs.Tick.{some_job}
use Rattle.zsrm.specs.Legal.{is_legal, legal_length}
use Rattle.zsrm.specs.declared.answers.Verdict.TheVariants as verdicts
use Rattle.zsrm.specs.declared.answers.Witness.TheVariants as witnesses

-- Ended; met if finished at f ≤ arrival + D; late if finished later, or alive with H ≥ arrival + D; open otherwise. due is arrival + D.
-- Late carries a number and whether it is exact: finishing instant minus arrival minus D where the job finished, H minus arrival minus D,
-- as "at least", where it is alive.
abbrev pub judged : ℕ → ℕ → Standing → Verdict
judged due h (Ended e) = verdicts.Ended
judged due h (Finished f) = cond (leb f due) verdicts.Met (verdicts.Late (f - due) true)
judged due h Unfinished = cond (leb due h) (verdicts.Late (h - due) false) verdicts.Open
judged due h NotArrived = verdicts.Open

-- The verdict on job j from a record, H being its own tick.
unfoldable pub verdict : Lists → Record → ℕ → Verdict
verdict l r j = judged (deadline_instant l j) r.tick (standing_at r j)

-- The verdict on a job is met ..
abbrev pub is_met : Verdict → Bool
is_met verdicts.Met = true
is_met (verdicts.Late by is_exact) = false
is_met verdicts.Ended = false
is_met verdicts.Open = false

-- .. late ..
abbrev pub is_late : Verdict → Bool
is_late verdicts.Met = false
is_late (verdicts.Late by is_exact) = true
is_late verdicts.Ended = false
is_late verdicts.Open = false

-- .. ended ..
abbrev pub is_ended : Verdict → Bool
is_ended verdicts.Met = false
is_ended (verdicts.Late by is_exact) = false
is_ended verdicts.Ended = true
is_ended verdicts.Open = false

-- .. or open.
abbrev pub is_open : Verdict → Bool
is_open verdicts.Met = false
is_open (verdicts.Late by is_exact) = false
is_open verdicts.Ended = false
is_open verdicts.Open = true

-- Missed means late or ended.
abbrev pub missed : Verdict → Bool
missed verdicts.Met = false
missed (verdicts.Late by is_exact) = true
missed verdicts.Ended = true
missed verdicts.Open = false

-- An answer is a verdict that passes a test; a refusal is none.
abbrev pub verdict_is : (Verdict → Bool) → Result Verdict Refusal → Bool
verdict_is test (Err refusal) = false
verdict_is test (Ok v) = test v

-- Against a job that missed a witness is accepted, and for a late job carries by how much and whether that is exact.
abbrev pub blamed : Verdict → Witness
blamed verdicts.Met = witnesses.NotMissed
blamed (verdicts.Late by is_exact) = witnesses.AcceptedLate by is_exact
blamed verdicts.Ended = witnesses.AcceptedEnded
blamed verdicts.Open = witnesses.NotMissed

-- A miss counts against a table only where every job of a strictly more critical task than the named one keeps to its nominal time C
-- (source document 000, legMCS). Job i breaks this assumption for the named job j: it is strictly more critical, and its c exceeds its C.
unfoldable pub breaks : Lists → ℕ → ℕ → Bool
breaks l j i = ltb (job_criticality l j) (job_criticality l i) && ltb (job_nominal l i) (execution l.jobs i)

-- Outside the assumption: some job of the list breaks it, arrived by the horizon or not.
unfoldable pub is_outside : Lists → ℕ → Bool
is_outside l j = some_job l.jobs (breaks l j)

-- the first such job; where there is none the number of jobs, which is no job's
unfoldable pub outsider : Lists → ℕ → ℕ
outsider l j = least (job_count l.jobs) (breaks l j) (job_count l.jobs)

-- The answers to a witness, in order: not legal at t; outside the assumption, naming the first such job; not missed; accepted. n is the
-- length of the schedule's legal beginning, i the job to be named where the witness is outside.
abbrev pub answered : Bool → ℕ → Bool → ℕ → Verdict → Witness
answered false n outside i v = witnesses.NotLegal n
answered true n true i v = witnesses.Outside i
answered true n false i v = blamed v

-- A part of a schedule: the tick at which it begins, and its entries.
pub record Part : Type 0 where
  pub from : ℕ
  pub entries : List ℕ

abbrev pub empty_part : Part
empty_part = record { from = 0; entries = [] }

-- The entries from arrival up to the finishing instant; for a job in every other standing the empty part.
abbrev pub part_to : ℕ → List ℕ → Standing → Part
part_to a schedule NotArrived = empty_part
part_to a schedule Unfinished = empty_part
part_to a schedule (Finished f) = record { from = a; entries = take (f - a) (drop a schedule) }
part_to a schedule (Ended e) = empty_part

-- An illegal claim gives the empty part too.
abbrev pub shown_by : Bool → Part → Part
shown_by false part = empty_part
shown_by true part = part

-- As a part of the caller's own schedule: a reference that holds the part's entries and points into the schedule, past the entries before
-- the part, each of which is two bytes wide. A reference's place is a block of memory and a byte in it.
pub record Shows (schedule : ℕ × ℕ) (p : Part) (place : ℕ × ℕ) (entries : List ℕ) : Type 0 where
  pub holds : entries ≡ p.entries
  pub block : place.0 ≡ schedule.0
  pub byte : place.1 ≡ schedule.1 + 2 * p.from

module _ (g : Given) (schedule : List ℕ) where
  -- A witness is a claim with a job number.
  unfoldable pub witness : ℕ → Witness
  witness j =
      answered (is_legal g schedule) (legal_length g schedule) (is_outside g.lists j) (outsider g.lists j) (verdict g.lists (replayed g schedule) j)

  unfoldable pub part : ℕ → Part
  part j = shown_by (is_legal g schedule) (part_to (arrival g.lists.jobs j) schedule (standing_at (replayed g schedule) j))
