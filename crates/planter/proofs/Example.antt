-- A day with one job of each task, and a depth job offered at 10: what `admit` answers, of the four jobs by computation, past them by
-- Admitted. Down-force runs over, 8 ticks instead of 4, which is where the modes part: in S the log is still open at 20, in SE it is ended,
-- and so is the offered job.
use Prim.Native.Nat.{◌+◌, ◌<◌, ℕ}
use mathlib.Core.List.{List, [], ◌++◌, ◌∷◌}
use mathlib.Core.Path.{ap, ap₂, refl, sym, ◌∙◌, ◌≡◌}
use native.Mathlib.Omega.{arith}
use lib.ListN.{drop, get_or-replicate, length, length-replicate, replicate}
use lib.Seq.{ext_get_or, get_or-drop}
use Rattle.bits.specs.Below.{every, greatest, least, list_from, some}
use Rattle.std.specs.Prelude.{Result, Ok}
use Rattle.tables.specs.declared.answers.Refusal.{Refusal}
use Rattle.tables.specs.Outcomes.{Done, Refused}
use Rattle.tables.specs.Refusals.{ascending, before, check10, check13, check2, check3, check4, check5, check6, check7}
use Rattle.tables.specs.Refusals.{check8, check9, check_jobs, check_lists, check_tasks, outside, preceding, refuse, unless, check_schedule}
use Rattle.tables.specs.Said.{outcome_said}
use Rattle.tables.specs.Tables.{arrival, criticality, deadline, deadline_instant, execution, job_count, job_criticality, job_nominal, job_priority}
use Rattle.tables.specs.Tables.{nominal, offset, overload, period, priority, task_count, task_of, zero_slack_instant}
use Rattle.zsrm.specs.declared.answers.Verdict.{Verdict}
use Rattle.zsrm.specs.declared.answers.Verdict.TheVariants.{Ended, Met, Open}
use Rattle.zsrm.specs.declared.mode.Mode.{Mode}
use Rattle.zsrm.specs.declared.mode.Mode.TheVariants.{S, SE}
use Rattle.zsrm.specs.Answers.{check_verdict, verdict_answer}
use Rattle.zsrm.specs.Record.{arrived, arriving, check11, consistent, done_at, fresh, fresh_place, opening, place_at, sound_at, sound_previous, standing_at, suspended_at, waited_at}
use Rattle.zsrm.specs.Run.{entries_by, final_by, replay, run_record}
use Rattle.zsrm.specs.Said.{verdict_said}
use Rattle.zsrm.specs.Tick.{advanced, alive, candidate, choice, done_after, eligible, ends, finishes, goes_on, higher_priority, keeps}
use Rattle.zsrm.specs.Tick.{lowest, more_critical, over, past_zero_slack, place_after, some_job, standing_after, suspended, suspended_after, waited_after, waits}
use Rattle.zsrm.specs.Verdict.{verdict}
use Rattle.zsrm.proofs.Laws.Said.{verdict_said_law}
use Rattle.planter.specs.declared.answers.Admission.{Admission}
use Rattle.planter.specs.declared.answers.Change.{Change}
use Rattle.planter.specs.Admission.{appended, change_at, verdict_in}
use Rattle.planter.specs.Answers.{admission, admit_answer, refused_admission}
use Rattle.planter.specs.Table.{depth}
use Rattle.planter.proofs.Promise.Admitted.{past_thirteen}

abbrev day : List ℕ
day = (0 ∷ 0 ∷ 8 ∷ []) ++ (1 ∷ 0 ∷ 4 ∷ []) ++ (2 ∷ 0 ∷ 6 ∷ [])

abbrev change : Result Verdict Refusal → Result Verdict Refusal → Change
change before after = record { before = before; after = after }

-- down-force, depth, log, and the offered job
abbrev changes : Mode → List Change
changes S = change (Ok Met) (Ok Met) ∷ change (Ok Met) (Ok Met) ∷ change (Ok Met) (Ok Open) ∷ change (Refused 13 0) (Ok Met) ∷ []
changes SE = change (Ok Met) (Ok Met) ∷ change (Ok Met) (Ok Met) ∷ change (Ok Met) (Ok Ended) ∷ change (Refused 13 0) (Ok Ended) ∷ []

-- of a number that is no job's
abbrev none : Change
none = change (Refused 13 0) (Refused 13 0)

abbrev got : Mode → Admission
got mode = admit_answer mode day 20 depth 10 4

-- the four jobs, by computation
front : (mode : Mode) → (got mode ≡ record { outcome = Done; count = 4; changes = changes mode ++ drop 4 (got mode).changes }) × (length (drop 4 (got mode).changes) ≡ 60)
unfolding some every least greatest list_from task_count period deadline nominal overload criticality priority offset job_count task_of arrival execution
    job_criticality job_priority job_nominal zero_slack_instant deadline_instant refuse before ascending outside check2 check3 check4 check_tasks check5
    preceding check6 check7 check8 check_jobs check_lists check9 check10 check11 check13 place_at done_at suspended_at waited_at standing_at arriving arrived
    opening fresh_place fresh sound_at sound_previous consistent alive some_job more_critical higher_priority past_zero_slack suspended eligible candidate
    lowest keeps choice done_after over ends finishes suspended_after waits waited_after goes_on standing_after place_after advanced replay entries_by
    final_by run_record verdict unless check_schedule check_verdict verdict_answer verdict_in change_at refused_admission admission appended admit_answer
front S = (refl, refl)
front SE = (refl, refl)

-- past them 13, by Admitted
rest : (mode : Mode) → drop 4 (got mode).changes ≡ replicate 60 none
unfolding job_count outcome_said verdict_said
rest mode =
    let admitted = ap (λ (a : Admission). outcome_said a.outcome) (front mode).0 in
    ext_get_or none (drop 4 (got mode).changes) (replicate 60 none) ((front mode).1 ∙ sym (length-replicate 60 none))
    (λ k l.
    let b : k < 60 = omega (arith, (front mode).1) in
    let both = past_thirteen mode day 20 depth 10 4 admitted (4 + k) none (omega arith) (omega arith) in
    get_or-drop 4 (got mode).changes k none ∙ ap₂ change (verdict_said_law _ (Refused 13 0) both.0) (verdict_said_law _ (Refused 13 0) both.1) ∙ sym (get_or-replicate 60 k none none b))

pub offered_at_10 : (mode : Mode) → admit_answer mode day 20 depth 10 4 ≡ record { outcome = Done; count = 4; changes = changes mode ++ replicate 60 none }
offered_at_10 mode = (front mode).0 ∙ ap (λ (l : List Change). record { outcome = Done; count = 4; changes = changes mode ++ l }) (rest mode)
