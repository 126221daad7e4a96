-- What each entry point answers, refusals first, and what the caller's schedule list holds afterwards. An entry point makes only the
-- checks for what it is given.
use Rattle.std.specs.Prelude.{ℕ, zero, suc, List, get_or, length, Result, Ok, Err}
use Rattle.zsrm.specs.declared.record.Record.{Record}
use Rattle.zsrm.specs.declared.tie.Tie.{Tie}
use Rattle.tables.specs.Outcomes.{Outcome, Done, Refused}
use Rattle.zsrm.specs.declared.answers.Ran.{Ran}
use Rattle.zsrm.specs.declared.answers.Stepped.{Stepped}
use Rattle.zsrm.specs.declared.answers.Claim.{Claim}
use Rattle.zsrm.specs.declared.answers.Replayed.{Replayed}
use Rattle.zsrm.specs.declared.answers.Mended.{Mended}
use Rattle.tables.specs.declared.answers.Refusal.{Refusal}
use Rattle.zsrm.specs.declared.answers.Verdict.{Verdict}
use Rattle.zsrm.specs.declared.answers.Verdicts.{Verdicts}
use Rattle.zsrm.specs.declared.answers.Witness.{Witness}
use Rattle.bits.specs.Below.{list_from}
use Rattle.zsrm.specs.Given.{Given}
use Rattle.tables.specs.Refusals.{before, check_lists, check10, check13, unless, check_schedule}
use Rattle.zsrm.specs.Record.{check11, check12, check_room, blank, fresh, consistent}
use Rattle.zsrm.specs.Tick.{choice, ready_word, ready_count, ended_word, advanced}
use Rattle.zsrm.specs.Run.{entries_by, final_by, replayed, run_entries, run_record}
use Rattle.zsrm.specs.Legal.{claim}
use Rattle.zsrm.specs.Mend.{mend, mended}
use Rattle.zsrm.specs.Verdict.{Part, empty_part, part, verdict, witness}
use Rattle.tables.specs.Tables.{Lists, lists}
use Rattle.zsrm.specs.declared.answers.Claim.TheVariants as claims

-- A refused answer's record is blank.
unfoldable pub ran : Outcome → Record → Ran
ran outcome r = record { outcome = outcome; «record» = unless outcome (λ number place. blank) r }

-- A refused step's record is blank, and every other number in it is 0.
unfoldable pub refused_step : ℕ → ℕ → Stepped
refused_step number place =
    record { outcome = Refused number place; «record» = blank; ready = 0; ones = 0; entry = 0; ended = 0 }

-- A step reports the ready word, the number of its ones, the schedule entry and the ended word.
unfoldable pub stepped : Given → Tie → Record → Stepped
stepped g tie r =
    record {
      outcome = Done;
      «record» = advanced g r (choice g tie r);
      ready = ready_word g r;
      ones = ready_count g r;
      entry = choice g tie r;
      ended = ended_word g r (choice g tie r);
    }

-- One of all verdicts, as a list's element is read; there are 64, and past them stands a refusal with 0 at place 0.
abbrev pub verdict_of : Verdicts → ℕ → Result Verdict Refusal
verdict_of all j = get_or all.of j (Refused 0 0)

-- Of a schedule that the claim check answers legal its record, else the blank one.
abbrev pub if_legal : Result Claim Refusal → Record → Record
if_legal (Err refusal) r = blank
if_legal (Ok claims.Legal) r = r
if_legal (Ok (claims.NotLegal t)) r = blank

-- The fresh record, whatever record the method is called on.
unfoldable pub fresh_answer : List ℕ → List ℕ → Ran
fresh_answer tasks jobs = ran (check_lists (lists tasks jobs)) (fresh jobs)

-- The checks, in the order of their numbers: lists 2 to 8; step 11, 12; going on 10, 11, 12; run, claim and replay 9, 10
-- (`check_schedule`, in tables); mending 9, 10 of either list; all verdicts 11; verdict 11, 13; witness 9, 10, 13. Of a schedule the number
-- of its entries is checked.

-- 10 if either list has the wrong length: the claim, and the list that is lent for the result
unfoldable pub check_mend : Lists → ℕ → ℕ → ℕ → Outcome
check_mend l horizon entries lent = before (check_schedule l horizon entries) (check10 lent horizon)

unfoldable pub check_witness : Lists → ℕ → ℕ → ℕ → Outcome
check_witness l horizon entries j = before (check_schedule l horizon entries) (check13 l.jobs j)

unfoldable pub check_step : Given → Record → Outcome
check_step g r = before (check_lists g.lists) (before (check11 (consistent g r)) (check12 r.tick))

unfoldable pub check_go_on : Given → Record → ℕ → ℕ → Outcome
check_go_on g r ticks entries =
    before (check_lists g.lists) (before (check10 entries ticks) (before (check11 (consistent g r)) (check_room r.tick ticks)))

-- all verdicts: no job is named, so 13 is not given
unfoldable pub check_verdicts : Given → Record → Outcome
check_verdicts g r = before (check_lists g.lists) (check11 (consistent g r))

unfoldable pub check_verdict : Given → Record → ℕ → Outcome
check_verdict g r j = before (check_lists g.lists) (before (check11 (consistent g r)) (check13 g.lists.jobs j))

module _ (g : Given) where
  -- The entry points that are given a mode; a fresh record needs none. Steps and runs are given a tie choice, too.
  unfoldable pub step_answer : Tie → Record → Stepped
  step_answer tie r = unless (check_step g r) refused_step (stepped g tie r)

  -- what `step` gives, repeated n times from r
  unfoldable pub steps_from : Tie → Record → ℕ → Record
  steps_from tie r zero = r
  steps_from tie r (suc n) = (step_answer tie (steps_from tie r n)).«record»

  unfoldable pub run_answer : Tie → ℕ → List ℕ → Ran
  run_answer tie horizon schedule = ran (check_schedule g.lists horizon (length schedule)) (run_record g tie horizon)

  -- what the lent schedule holds after a run: its own entries, or what it held
  unfoldable pub run_schedule : Tie → ℕ → List ℕ → List ℕ
  run_schedule tie horizon schedule = unless (check_schedule g.lists horizon (length schedule)) (λ number place. schedule) (run_entries g tie horizon)

  -- Longer planning by parts: from a record that was saved, as many ticks on as are asked for. 9 is not given here.
  unfoldable pub go_on_answer : Tie → Record → ℕ → List ℕ → Ran
  go_on_answer tie r ticks schedule = ran (check_go_on g r ticks (length schedule)) (final_by g (choice g tie) r ticks)

  -- what the lent schedule holds afterwards: the entries of those ticks, or what it held
  unfoldable pub go_on_schedule : Tie → Record → ℕ → List ℕ → List ℕ
  go_on_schedule tie r ticks schedule = unless (check_go_on g r ticks (length schedule)) (λ number place. schedule) (entries_by g (choice g tie) r ticks)

  unfoldable pub claim_answer : ℕ → List ℕ → Result Claim Refusal
  claim_answer horizon schedule = unless (check_schedule g.lists horizon (length schedule)) Refused (Ok (claim g schedule))

  -- the claim check's own answer, and the record at the schedule's end where it is legal
  unfoldable pub replay_answer : ℕ → List ℕ → Replayed
  replay_answer horizon schedule =
      record { claim = claim_answer horizon schedule; «record» = if_legal (claim_answer horizon schedule) (replayed g schedule) }

  unfoldable pub mend_answer : ℕ → List ℕ → List ℕ → Result Mended Refusal
  mend_answer horizon schedule lent = unless (check_mend g.lists horizon (length schedule) (length lent)) Refused (Ok (mend g schedule))

  -- what the second list, which is lent, holds afterwards: the mended schedule, or what it held
  unfoldable pub mend_schedule : ℕ → List ℕ → List ℕ → List ℕ
  mend_schedule horizon schedule lent =
      unless (check_mend g.lists horizon (length schedule) (length lent)) (λ number place. lent) (mended g schedule)

  unfoldable pub verdict_answer : Record → ℕ → Result Verdict Refusal
  verdict_answer r j = unless (check_verdict g r j) Refused (Ok (verdict g.lists r j))

  -- all verdicts at once: what the lists and the record are refused with, and for each job number below 64, in the list or not, what
  -- `verdict` answers
  unfoldable pub verdicts_answer : Record → Verdicts
  verdicts_answer r = record { outcome = check_verdicts g r; of = list_from 0 64 (verdict_answer r) }

  unfoldable pub witness_answer : ℕ → List ℕ → ℕ → Result Witness Refusal
  witness_answer horizon schedule j = unless (check_witness g.lists horizon (length schedule) j) Refused (Ok (witness g schedule j))

  -- refused input and a job not in the list give the empty part
  unfoldable pub response_answer : ℕ → List ℕ → ℕ → Part
  response_answer horizon schedule j = unless (check_witness g.lists horizon (length schedule) j) (λ number place. empty_part) (part g schedule j)
