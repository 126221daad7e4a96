-- Document 01's traced schedules: what the entry points answer in each case of the table, under either tie choice, is what document 01
-- says. By computation, but for `premises_suffice`, which cites Promise: `Premises` are all that promise (ii) asks for; that a schedule in
-- each mode meets them is computed, too.
use Prim.Native.Nat.{◌<◌, suc, zero, ℕ, ◌≤◌}
use mathlib.Core.List.{List, [], ◌∷◌, map}
use mathlib.Core.Path.{refl, ◌≡◌}
use native.Mathlib.Omega.{arith}
use lib.ListN.{replicate}
use borrow.Author.Tests.{leb-true, ltb-true}
use Rattle.std.specs.Prelude.{Ok}
use Rattle.bits.specs.Below.{count, every, greatest, least, list_from, some, word}
use Rattle.zsrm.specs.declared.answers.Claim.TheVariants.{Legal, NotLegal}
use Rattle.zsrm.specs.declared.answers.Mended.TheVariants.{Changed, Whole}
use Rattle.zsrm.specs.declared.mode.Mode.{Mode}
use Rattle.zsrm.specs.declared.mode.Mode.TheVariants.{S, SE}
use Rattle.zsrm.specs.declared.record.Record.{Record}
use Rattle.zsrm.specs.declared.tie.Tie.{Tie}
use Rattle.zsrm.specs.declared.tie.Tie.TheVariants.{Lowest, Stay}
use Rattle.zsrm.specs.Answers.{check_mend, check_verdict, check_witness, claim_answer, check_go_on, check_step, go_on_schedule, mend_answer}
use Rattle.zsrm.specs.Answers.{mend_schedule, ran, run_answer, run_schedule, step_answer, stepped, verdict_answer, witness_answer}
use Rattle.tables.specs.Outcomes.{Done}
use Rattle.tables.specs.Refusals.{unless, ascending, before, check10, check13, check2, check3, check4, check5, check6}
use Rattle.tables.specs.Refusals.{check7, check8, check9, check_jobs, check_lists, check_tasks, outside, preceding, refuse, check_schedule}
use Rattle.zsrm.specs.Given.{Given, given}
use Rattle.zsrm.specs.Legal.{claim, legal_entry, scheduling_instant, instant_by, is_legal, legal_from, legal_length}
use Rattle.zsrm.specs.Mend.{differing, differs, keeps_previous, mend, mend_choice, mended}
use Rattle.zsrm.specs.Record.{arrived, arriving, blank, consistent, done_at, fresh, fresh_place, opening, place_at}
use Rattle.zsrm.specs.Record.{sound_at, sound_previous, standing_at, suspended_at, waited_at, check11, check12, check_room}
use Rattle.zsrm.specs.Run.{entries_by, record_at, record_before, replay, run_entries, run_record, final_by, replayed}
use Rattle.tables.specs.Tables.{arrival, criticality, deadline, deadline_instant, execution, idle, job_count, job_criticality, job_nominal}
use Rattle.tables.specs.Tables.{job_priority, nominal, overload, period, priority, task_count, task_of, offset, zero_slack_instant}
use Rattle.zsrm.specs.Said.{claim_said, standing_said, verdict_said, witness_said}
use Rattle.zsrm.specs.Tick.{advanced, alive, candidate, candidate_or_idle, choice, done_after, eligible, ends, finishes, goes_on, higher_priority, keeps}
use Rattle.zsrm.specs.Tick.{lowest, more_critical, over, past_zero_slack, place_after, some_job, standing_after, suspended, suspended_after, waited_after, waits}
use Rattle.zsrm.specs.Topmost.{Topmost, assured}
use Rattle.zsrm.specs.Traced.{both, computed, equals, said, cases}
use Rattle.zsrm.specs.Verdict.{breaks, is_outside, outsider, verdict, witness}
use Rattle.zsrm.proofs.Promise.{finishes_by, meets, never_blamed}
use Rattle.zsrm.specs.Said as say

pub traced : (tie : Tie) → map (computed tie) cases ≡ map said cases
unfolding cases said computed some every least greatest count word list_from task_count period deadline nominal overload criticality priority offset
    job_count task_of arrival execution job_criticality job_priority job_nominal zero_slack_instant deadline_instant refuse before ascending outside check2
    check3 check4 check_tasks check5 preceding check6 check7 check8 check_jobs check_lists check9 check10 check11 check13 place_at done_at suspended_at
    waited_at standing_at blank arriving arrived opening fresh_place fresh sound_at sound_previous consistent alive some_job more_critical higher_priority
    past_zero_slack suspended eligible candidate lowest keeps choice done_after over ends finishes suspended_after waits waited_after goes_on standing_after
    place_after advanced replay entries_by final_by run_entries run_record instant_by scheduling_instant candidate_or_idle legal_entry legal_from legal_length
    is_legal claim verdict unless ran check_schedule check_verdict run_answer run_schedule claim_answer verdict_answer replayed breaks is_outside outsider
    witness check_witness witness_answer
traced Stay = refl
traced Lowest = refl

-- The tie choices differ from a record that a caller hands in: case 10's jobs at tick 1, job 1 having run before. Stay goes on with job 1,
-- Lowest takes job 0.
abbrev pub handed : Mode → Record
handed mode = replay (given mode equals both) (fresh both) (1 ∷ [])

pub ties_differ : (mode : Mode) → ((step_answer (given mode equals both) Stay (handed mode)).entry ≡ 1)
    × ((step_answer (given mode equals both) Lowest (handed mode)).entry ≡ 0) × ((step_answer (given mode equals both) Lowest (handed mode)).outcome ≡ Done)
unfolding some every least greatest list_from task_count period deadline nominal overload criticality priority offset job_count task_of arrival execution
    job_criticality job_priority job_nominal zero_slack_instant refuse before ascending outside check2 check3 check4 check_tasks check5 preceding check6
    check7 check8 check_jobs check_lists check11 place_at done_at suspended_at waited_at standing_at arriving arrived opening fresh_place fresh sound_at
    sound_previous consistent alive some_job more_critical higher_priority past_zero_slack suspended eligible candidate lowest keeps choice done_after over
    ends finishes suspended_after waits waited_after goes_on standing_after place_after advanced replay unless check12 check_step step_answer stepped
ties_differ S = (refl, refl, refl)
ties_differ SE = (refl, refl, refl)

-- So after a legal schedule Lowest need not go on legally. Job 1 alone is legal at tick 0; from the record at its end Lowest goes on with
-- 00011, and 100011 is not legal at 1, which is no scheduling instant. Stay goes on with 11000, and 111000 is legal.
pub lowest_goes_on_illegally : (mode : Mode)
    → (claim_answer (given mode equals both) 1 (1 ∷ []) ≡ Ok Legal)
    × (go_on_schedule (given mode equals both) Lowest (replayed (given mode equals both) (1 ∷ [])) 5 (replicate 5 0) ≡ 0 ∷ 0 ∷ 0 ∷ 1 ∷ 1 ∷ [])
    × (claim_answer (given mode equals both) 6 (1 ∷ 0 ∷ 0 ∷ 0 ∷ 1 ∷ 1 ∷ []) ≡ Ok (NotLegal 1))
    × (go_on_schedule (given mode equals both) Stay (replayed (given mode equals both) (1 ∷ [])) 5 (replicate 5 0) ≡ 1 ∷ 1 ∷ 0 ∷ 0 ∷ 0 ∷ [])
    × (claim_answer (given mode equals both) 6 (1 ∷ 1 ∷ 1 ∷ 0 ∷ 0 ∷ 0 ∷ []) ≡ Ok Legal)
unfolding some every least greatest list_from task_count period deadline nominal overload criticality priority offset job_count task_of arrival execution
    job_criticality job_priority job_nominal zero_slack_instant refuse before ascending outside check2 check3 check4 check_tasks check5 preceding check6
    check7 check8 check_jobs check_lists check9 check10 check11 place_at done_at suspended_at waited_at standing_at arriving arrived opening fresh_place fresh
    sound_at sound_previous consistent alive some_job more_critical higher_priority past_zero_slack suspended eligible candidate lowest keeps choice
    done_after over ends finishes suspended_after waits waited_after goes_on standing_after place_after advanced replay entries_by instant_by
    scheduling_instant candidate_or_idle legal_entry legal_from legal_length is_legal claim unless check_schedule claim_answer replayed check_room check_go_on
    go_on_schedule
lowest_goes_on_illegally S = (refl, refl, refl, refl, refl)
lowest_goes_on_illegally SE = (refl, refl, refl, refl, refl)

-- Damaged claims over case 10's jobs, and what comes back. The last tick of job 0 dropped to idle: not legal at 2, where job 0 goes on, and 1
-- entry differs. Job 1 first, its last tick dropped and logged one tick late: job 1 goes on at 2, though it has not the lowest number, and 2
-- entries differ. All of it one tick late: at 0 the lowest number is taken and goes on, whatever the claim has later, and 5 entries differ.
-- And a legal claim.
pub mends : (mode : Mode)
    → (mend_answer (given mode equals both) 6 (0 ∷ 0 ∷ idle ∷ 1 ∷ 1 ∷ 1 ∷ []) (replicate 6 0) ≡ Ok (Changed 2 1))
    × (mend_schedule (given mode equals both) 6 (0 ∷ 0 ∷ idle ∷ 1 ∷ 1 ∷ 1 ∷ []) (replicate 6 0) ≡ 0 ∷ 0 ∷ 0 ∷ 1 ∷ 1 ∷ 1 ∷ [])
    × (mend_answer (given mode equals both) 6 (1 ∷ 1 ∷ idle ∷ 1 ∷ 0 ∷ 0 ∷ []) (replicate 6 0) ≡ Ok (Changed 2 2))
    × (mend_schedule (given mode equals both) 6 (1 ∷ 1 ∷ idle ∷ 1 ∷ 0 ∷ 0 ∷ []) (replicate 6 0) ≡ 1 ∷ 1 ∷ 1 ∷ 0 ∷ 0 ∷ 0 ∷ [])
    × (mend_answer (given mode equals both) 6 (idle ∷ 1 ∷ 1 ∷ 1 ∷ 0 ∷ 0 ∷ []) (replicate 6 0) ≡ Ok (Changed 0 5))
    × (mend_schedule (given mode equals both) 6 (idle ∷ 1 ∷ 1 ∷ 1 ∷ 0 ∷ 0 ∷ []) (replicate 6 0) ≡ 0 ∷ 0 ∷ 0 ∷ 1 ∷ 1 ∷ 1 ∷ [])
    × (mend_answer (given mode equals both) 6 (1 ∷ 1 ∷ 1 ∷ 0 ∷ 0 ∷ 0 ∷ []) (replicate 6 0) ≡ Ok Whole)
    × (mend_schedule (given mode equals both) 6 (1 ∷ 1 ∷ 1 ∷ 0 ∷ 0 ∷ 0 ∷ []) (replicate 6 0) ≡ 1 ∷ 1 ∷ 1 ∷ 0 ∷ 0 ∷ 0 ∷ [])
unfolding some every count least greatest list_from task_count period deadline nominal overload criticality priority offset job_count task_of arrival
    execution job_criticality job_priority job_nominal zero_slack_instant refuse before ascending outside check2 check3 check4 check_tasks check5 preceding
    check6 check7 check8 check_jobs check_lists check9 check10 place_at done_at suspended_at waited_at standing_at arriving arrived opening fresh_place fresh
    alive some_job more_critical higher_priority past_zero_slack suspended eligible candidate lowest done_after over ends finishes suspended_after waits
    waited_after goes_on standing_after place_after advanced replay entries_by instant_by scheduling_instant candidate_or_idle legal_entry legal_from legal_length
    is_legal unless check_schedule replayed record_at record_before differs differing keeps_previous mend_choice mended mend check_mend mend_answer
    mend_schedule
mends S = (refl, refl, refl, refl, refl, refl, refl, refl)
mends SE = (refl, refl, refl, refl, refl, refl, refl, refl)

-- All premises of promise (ii) and of what follows from it: a legal schedule, a task k that is topmost, a job j of it, and a horizon that
-- reaches both the instant that is assured and the job's deadline.
pub record Premises (g : Given) (horizon : ℕ) (schedule : List ℕ) (k j : ℕ) : Type 0 where
  pub legal : claim_said (claim_answer g horizon schedule) ≡ say.legal
  pub top : Topmost g.lists.tasks k
  pub job : j < job_count g.lists.jobs
  pub its : task_of g.lists.jobs j ≡ k
  pub reached : assured g j ≤ horizon
  pub due : deadline_instant g.lists j ≤ horizon

-- They are all that it asks for: the job is finished by the instant assured and judged met, and no witness is accepted against it.
pub premises_suffice : (g : Given) (horizon : ℕ) (schedule : List ℕ) (k j : ℕ) → Premises g horizon schedule k j
    → ((f : ℕ) × (standing_said (standing_at (replayed g schedule) j) ≡ say.finished_at f) × (f ≤ assured g j))
    × (verdict_said (verdict_answer g (replayed g schedule) j) ≡ say.met) × (witness_said (witness_answer g horizon schedule j) ≡ say.not_missed)
premises_suffice g horizon schedule k j p = (
  finishes_by g horizon schedule p.legal k p.top j p.job p.its p.reached,
  meets g horizon schedule p.legal k p.top j p.job p.its p.due,
  never_blamed g horizon schedule p.legal k p.top j p.job p.its p.due,
)

-- The case `nested` of specs/Traced with C 2 for its task 2, which is topmost: offset 4 plus overload time 3 is within its deadline 20. Job 2,
-- with c 3, runs in ticks 4 to 6, from its zero-slack instant on, and exceeds C in tick 6.
abbrev pub overrun : Mode → Given
overrun mode =
    given mode
    (20 ∷ 20 ∷ 4 ∷ 4 ∷ 1 ∷ 3 ∷ 20 ∷ 20 ∷ 20 ∷ 4 ∷ 4 ∷ 2 ∷ 2 ∷ 2 ∷ 20 ∷ 20 ∷ 2 ∷ 3 ∷ 3 ∷ 1 ∷ 4 ∷ [])
    (0 ∷ 0 ∷ 4 ∷ 1 ∷ 0 ∷ 4 ∷ 2 ∷ 0 ∷ 3 ∷ [])

-- every premise but legality, which the mode and the schedule decide
overrun_met : (mode : Mode) (schedule : List ℕ) → claim_said (claim_answer (overrun mode) 20 schedule) ≡ say.legal → Premises (overrun mode) 20 schedule 2 2
unfolding task_count criticality offset overload deadline job_count task_of arrival execution zero_slack_instant deadline_instant assured
overrun_met mode schedule legal =
    record {
      legal = legal;
      top = record { known = ltb-true 2 3 refl; above = less; fits = leb-true 7 20 refl };
      job = ltb-true 2 3 refl;
      its = refl;
      reached = leb-true 7 20 refl;
      due = leb-true 20 20 refl;
    }
  where
    less : (i : ℕ) → i < 3 → (i ≡ 2 → ⊥) → criticality (overrun mode).lists.tasks i < 3
    less zero l ne = ltb-true 1 3 refl
    less (suc zero) l ne = ltb-true 2 3 refl
    less (suc (suc zero)) l ne = absurd (ne refl)
    less (suc (suc (suc i))) l ne = absurd (omega arith)

-- In S jobs 1 and 0 then go on.
pub premises_met_s : Premises (overrun S) 20 (0 ∷ 0 ∷ 1 ∷ 1 ∷ 2 ∷ 2 ∷ 2 ∷ 1 ∷ 1 ∷ 0 ∷ 0 ∷ replicate 9 idle) 2 2
unfolding some list_from task_count period deadline nominal overload criticality priority offset job_count task_of arrival execution job_criticality
    job_priority job_nominal zero_slack_instant refuse before ascending outside check2 check3 check4 check_tasks check5 preceding check6 check7 check8
    check_jobs check_lists check9 check10 place_at done_at suspended_at waited_at standing_at arriving arrived opening fresh_place fresh alive some_job
    more_critical higher_priority past_zero_slack suspended eligible candidate done_after over ends finishes suspended_after waits waited_after goes_on
    standing_after place_after advanced instant_by scheduling_instant candidate_or_idle legal_entry legal_from legal_length is_legal claim unless check_schedule
    claim_answer claim_said greatest
premises_met_s = overrun_met S (0 ∷ 0 ∷ 1 ∷ 1 ∷ 2 ∷ 2 ∷ 2 ∷ 1 ∷ 1 ∷ 0 ∷ 0 ∷ replicate 9 idle) refl

-- In SE both are ended in tick 6, and the rest is idle.
pub premises_met_se : Premises (overrun SE) 20 (0 ∷ 0 ∷ 1 ∷ 1 ∷ 2 ∷ 2 ∷ 2 ∷ replicate 13 idle) 2 2
unfolding some list_from task_count period deadline nominal overload criticality priority offset job_count task_of arrival execution job_criticality
    job_priority job_nominal zero_slack_instant refuse before ascending outside check2 check3 check4 check_tasks check5 preceding check6 check7 check8
    check_jobs check_lists check9 check10 place_at done_at suspended_at waited_at standing_at arriving arrived opening fresh_place fresh alive some_job
    more_critical higher_priority past_zero_slack suspended eligible candidate done_after over ends finishes suspended_after waits waited_after goes_on
    standing_after place_after advanced instant_by scheduling_instant candidate_or_idle legal_entry legal_from legal_length is_legal claim unless check_schedule
    claim_answer claim_said greatest
premises_met_se = overrun_met SE (0 ∷ 0 ∷ 1 ∷ 1 ∷ 2 ∷ 2 ∷ 2 ∷ replicate 13 idle) refl
