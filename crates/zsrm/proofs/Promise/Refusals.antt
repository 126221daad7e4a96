-- Demand 1: bad input gets exactly the refusal that the checks name, and the caller's lists then hold what they held.
use Prim.Native.Nat.{◌*◌, ◌+◌, ℕ}
use mathlib.Core.Bool.{Bool, false, true}
use mathlib.Core.List.{List}
use mathlib.Core.Logic.{◌↔◌, ⊎_elim}
use mathlib.Core.Path.{ap, refl, sym, ◌≡◌, ◌∙◌}
use lib.ListN.{length}
use Rattle.zsrm.specs.declared.answers.Stepped.{Stepped}
use Rattle.zsrm.specs.declared.record.Record.{Record}
use Rattle.zsrm.specs.declared.tie.Tie.{Tie}
use Rattle.zsrm.specs.declared.record.Standing.{Standing}
use Rattle.zsrm.specs.declared.record.Standing.TheVariants.{Finished, Ended}
use Rattle.zsrm.specs.Answers.{check_go_on, check_mend, check_step, check_verdict, check_verdicts, check_witness, claim_answer, fresh_answer, go_on_answer, go_on_schedule, mend_answer}
use Rattle.zsrm.specs.Answers.{mend_schedule, ran, refused_step, response_answer, run_answer, run_schedule, step_answer, stepped, verdict_answer, verdicts_answer, witness_answer}
use Rattle.zsrm.specs.Record.{blank, fresh, standing_at}
use Rattle.tables.specs.Refusals.{check_lists, check_schedule, check10, refuse, unless}
use Rattle.zsrm.specs.Run.{replayed}
use Rattle.zsrm.specs.Said.{claim_said, finished_at, mended_said, not_legal, standing_said, verdict_said, witness_said}
use Rattle.tables.specs.Said.{done, outcome_said, refused}
use Rattle.zsrm.specs.Given.{Given}
use Rattle.zsrm.specs.Mend.{mend}
use Rattle.tables.specs.Tables.{arrival, lists}
use Rattle.zsrm.specs.Verdict.{empty_part, verdict, witness, Part, part, part_to, shown_by}
use Rattle.zsrm.proofs.Laws.Answers.{run_outcome}
use Rattle.bits.proofs.Laws.Bools.{apart, by_cond}
use Rattle.zsrm.proofs.Laws.Said.{claim_said_law, mended_said_law, verdict_said_law, witness_said_law}
use Rattle.zsrm.proofs.Laws.Verdicts.{verdicts_refuse}
use Rattle.tables.proofs.Laws.Refusals.{unless_done, unless_refused, before_passes, before_stops}
use Rattle.tables.proofs.Laws.Said.{given_exactly, refusal_exactly, said_done, said_refused}
use Rattle.zsrm.specs.Legal.{claim, is_legal}
use Rattle.zsrm.specs.Bytes.{check_bytes, claim_result, packed_outcome, run_bytes, run_result}
use Rattle.zsrm.proofs.Laws.Mend.{refused_is}
use Rattle.zsrm.proofs.Laws.Witnesses.{part_empty}
use Rattle.std.specs.Prelude.{Err}
use Rattle.tables.specs.Outcomes.{Outcome, Done}
use Rattle.zsrm.proofs.Laws.Called.{decided, stopped}
use borrow.Author.Tests.{ne_eqb}
use Rattle.zsrm.specs.declared.answers.Claim.TheVariants as claims
use Rattle.zsrm.specs.declared.record.Standing.TheVariants as standings

-- The outcome of a fresh record, a step, going on, a run and all verdicts is what its checks say; a claim, mending, a verdict and a witness
-- are refused exactly where theirs refuse.
pub fresh_checked : (tasks jobs : List ℕ) → (fresh_answer tasks jobs).outcome ≡ check_lists (lists tasks jobs)
unfolding fresh_answer ran
fresh_checked tasks jobs = refl

pub step_checked : (g : Given) (tie : Tie) (r : Record) → (step_answer g tie r).outcome ≡ check_step g r
unfolding step_answer unless refused_step stepped
step_checked g tie r = go (check_step g r)
  where
    go : (o : Outcome) → (unless o refused_step (stepped g tie r)).outcome ≡ o
    go Done = refl
    go (Err w) = refl

pub go_on_checked : (g : Given) (tie : Tie) (r : Record) (ticks : ℕ) (lent : List ℕ) → (go_on_answer g tie r ticks lent).outcome ≡ check_go_on g r ticks (length lent)
unfolding go_on_answer ran
go_on_checked g tie r ticks lent = refl

pub run_outcome_checked : (g : Given) (tie : Tie) (horizon : ℕ) (lent : List ℕ) → (run_answer g tie horizon lent).outcome ≡ check_schedule g.lists horizon (length lent)
run_outcome_checked = run_outcome

pub verdicts_checked : (g : Given) (r : Record) → (verdicts_answer g r).outcome ≡ check_verdicts g r
unfolding verdicts_answer
verdicts_checked g r = refl

pub claim_refused : (g : Given) (horizon : ℕ) (schedule : List ℕ) (number place : ℕ)
    → claim_said (claim_answer g horizon schedule) ≡ refused number place ↔ outcome_said (check_schedule g.lists horizon (length schedule)) ≡ refused number place
unfolding claim_answer claim_said
claim_refused g horizon schedule number place =
    refusal_exactly claim_said claim_said_law (claim g schedule) (check_schedule g.lists horizon (length schedule)) (λ n p. refl) number place

pub mend_refused : (g : Given) (horizon : ℕ) (schedule lent : List ℕ) (number place : ℕ)
    → mended_said (mend_answer g horizon schedule lent) ≡ refused number place ↔ outcome_said (check_mend g.lists horizon (length schedule) (length lent)) ≡ refused number place
unfolding mend_answer mended_said
mend_refused g horizon schedule lent number place =
    refusal_exactly mended_said mended_said_law (mend g schedule) (check_mend g.lists horizon (length schedule) (length lent)) (λ n p. refl) number place

pub verdict_refused : (g : Given) (r : Record) (j number place : ℕ)
    → verdict_said (verdict_answer g r j) ≡ refused number place ↔ outcome_said (check_verdict g r j) ≡ refused number place
unfolding verdict_answer verdict_said
verdict_refused g r j number place =
    refusal_exactly verdict_said verdict_said_law (verdict g.lists r j) (check_verdict g r j) (λ n p. refl) number place

pub witness_refused : (g : Given) (horizon : ℕ) (schedule : List ℕ) (j number place : ℕ)
    → witness_said (witness_answer g horizon schedule j) ≡ refused number place ↔ outcome_said (check_witness g.lists horizon (length schedule) j) ≡ refused number place
unfolding witness_answer witness_said
witness_refused g horizon schedule j number place =
    refusal_exactly witness_said witness_said_law (witness g schedule j) (check_witness g.lists horizon (length schedule) j) (λ n p. refl) number place

-- Where all verdicts are refused, each of them is.
pub verdicts_refused : (g : Given) (r : Record) (j number place : ℕ) → outcome_said (verdicts_answer g r).outcome ≡ refused number place
    → verdict_said (verdict_answer g r j) ≡ refused number place
verdicts_refused g r j number place says =
    let e = sym (verdicts_checked g r) ∙ (said_refused (verdicts_answer g r).outcome number place).0 says in
    (verdict_refused g r j number place).1 ((said_refused (check_verdict g r j) number place).1 (verdicts_refuse g r j number place e))

-- What the witness check refuses has the empty part.
pub response_refused : (g : Given) (horizon : ℕ) (schedule : List ℕ) (j number place : ℕ)
    → outcome_said (check_witness g.lists horizon (length schedule) j) ≡ refused number place → response_answer g horizon schedule j ≡ empty_part
unfolding response_answer
response_refused g horizon schedule j number place says =
    let asked = check_witness g.lists horizon (length schedule) j in
    unless_refused _ _ asked number place ((said_refused asked number place).0 says)

-- So has an illegal claim, and a job without a finishing instant.
pub response_illegal : (g : Given) (horizon : ℕ) (schedule : List ℕ) (j t : ℕ) → claim_said (claim_answer g horizon schedule) ≡ not_legal t
    → response_answer g horizon schedule j ≡ empty_part
unfolding claim_said claim_answer claim part
response_illegal g horizon schedule j t says =
    let e = ((given_exactly claim_said claim_said_law (claim g schedule) _ (claims.NotLegal t)).0 says).1 in
    part_empty g horizon schedule j
    (by_cond (λ c. c ≡ claims.NotLegal t → part g schedule j ≡ empty_part) (is_legal g schedule) claims.Legal _ (λ q e. apart (cc)) (λ q e. rw q) e)

pub response_unfinished : (g : Given) (horizon : ℕ) (schedule : List ℕ) (j : ℕ) → ((f : ℕ) → standing_said (standing_at (replayed g schedule) j) ≡ finished_at f → ⊥)
    → response_answer g horizon schedule j ≡ empty_part
unfolding standing_said part
response_unfinished g horizon schedule j never = part_empty g horizon schedule j (by_claim (is_legal g schedule) (none (standing_at (replayed g schedule) j) refl))
  where
    none : (s : Standing) → standing_at (replayed g schedule) j ≡ s → part_to (arrival g.lists.jobs j) schedule s ≡ empty_part
    none standings.NotArrived q = refl
    none standings.Unfinished q = refl
    none (Finished f) q = absurd (never f (ap standing_said q))
    none (Ended e) q = refl

    by_claim : (b : Bool) {p : Part} → p ≡ empty_part → shown_by b p ≡ empty_part
    by_claim false e = refl
    by_claim true e = e

-- Where a fresh record is refused, it is blank; else it is the fresh record of the jobs.
pub fresh_refused : (tasks jobs : List ℕ) (number place : ℕ) → outcome_said (fresh_answer tasks jobs).outcome ≡ refused number place
    → (fresh_answer tasks jobs).«record» ≡ blank
unfolding fresh_answer ran
fresh_refused tasks jobs number place says = unless_refused _ _ _ number place ((said_refused (check_lists (lists tasks jobs)) number place).0 says)

pub fresh_done : (tasks jobs : List ℕ) → outcome_said (fresh_answer tasks jobs).outcome ≡ done → (fresh_answer tasks jobs).«record» ≡ fresh jobs
unfolding fresh_answer ran
fresh_done tasks jobs ok = unless_done _ _ _ ((said_done (check_lists (lists tasks jobs))).0 ok)

-- Where our run is refused, the lent list keeps what it held and the record is blank.
pub refused_keeps : (g : Given) (tie : Tie) (horizon : ℕ) (lent : List ℕ) (number place : ℕ) → outcome_said (run_answer g tie horizon lent).outcome ≡ refused number place
    → (run_schedule g tie horizon lent ≡ lent) × ((run_answer g tie horizon lent).«record» ≡ blank)
unfolding run_answer run_schedule ran
refused_keeps g tie horizon lent number place says =
    let e = (said_refused (check_schedule g.lists horizon (length lent)) number place).0 says in
    (unless_refused _ _ _ number place e, unless_refused _ _ _ number place e)

-- Where going on is refused, likewise.
pub refused_go_on_keeps : (g : Given) (tie : Tie) (r : Record) (ticks : ℕ) (lent : List ℕ) (number place : ℕ) → outcome_said (go_on_answer g tie r ticks lent).outcome ≡ refused number place
    → (go_on_schedule g tie r ticks lent ≡ lent) × ((go_on_answer g tie r ticks lent).«record» ≡ blank)
unfolding go_on_answer go_on_schedule ran
refused_go_on_keeps g tie r ticks lent number place says =
    let e = (said_refused (check_go_on g r ticks (length lent)) number place).0 says in
    (unless_refused _ _ _ number place e, unless_refused _ _ _ number place e)

-- Mending refuses what the claim check refuses, and else, with 10, a second list whose length is not the horizon.
pub mend_refused_as_claim : (g : Given) (horizon : ℕ) (schedule lent : List ℕ) (number place : ℕ) → claim_said (claim_answer g horizon schedule) ≡ refused number place
    → mended_said (mend_answer g horizon schedule lent) ≡ refused number place
unfolding check_mend
mend_refused_as_claim g horizon schedule lent number place says =
    let e = (said_refused (check_schedule g.lists horizon (length schedule)) number place).0 ((claim_refused g horizon schedule number place).0 says) in
    (mend_refused g horizon schedule lent number place).1 ((said_refused _ number place).1 (before_stops _ (check10 (length lent) horizon) number place e))

pub mend_refused_second : (g : Given) (horizon : ℕ) (schedule lent : List ℕ) → outcome_said (check_schedule g.lists horizon (length schedule)) ≡ done → (length lent ≡ horizon → ⊥)
    → mended_said (mend_answer g horizon schedule lent) ≡ refused 10 0
unfolding check_mend check10 refuse
mend_refused_second g horizon schedule lent ok other =
    (mend_refused g horizon schedule lent 10 0).1 ((said_refused (check_mend g.lists horizon (length schedule) (length lent)) 10 0).1
    (before_passes _ _ ((said_done (check_schedule g.lists horizon (length schedule))).0 ok) ∙ rw (ne_eqb (length lent) horizon other)))

-- Where mending is refused, the second list keeps what it held.
pub refused_mend_keeps : (g : Given) (horizon : ℕ) (schedule lent : List ℕ) (number place : ℕ) → mended_said (mend_answer g horizon schedule lent) ≡ refused number place
    → mend_schedule g horizon schedule lent ≡ lent
refused_mend_keeps g horizon schedule lent number place says =
    let e = (mend_refused g horizon schedule lent number place).0 says in
    (refused_is g horizon schedule lent number place ((said_refused (check_mend g.lists horizon (length schedule) (length lent)) number place).0 e)).1

-- Where a step is refused, its record is blank and every other number in it is 0 (`refused_step`).
pub refused_step_law : (g : Given) (tie : Tie) (r : Record) (number place : ℕ) → outcome_said (step_answer g tie r).outcome ≡ refused number place
    → ((step_answer g tie r).«record» ≡ blank) × (step_answer g tie r ≡ refused_step number place)
unfolding step_answer refused_step
refused_step_law g tie r number place says =
    let e = unless_refused _ _ (check_step g r) number place (sym (step_checked g tie r) ∙ (said_refused (step_answer g tie r).outcome number place).0 says) in
    (ap (λ (s : Stepped). s.«record») e, e)

-- Where the checks of their bytes refuse, both calls from C give the number plus 256 times the place; that they refuse nowhere else is
-- `c_run_exactly`, `c_legal_exactly` and `c_not_legal_exactly`.
module _ (mode : ℕ) (tasks jobs : List ℕ) (horizon : ℕ) (bytes : List ℕ) where
  pub c_refused : (number place : ℕ) → outcome_said (check_bytes mode tasks jobs horizon (length bytes)) ≡ refused number place
      → (run_result mode tasks jobs horizon bytes ≡ number + 256 * place) × (claim_result mode tasks jobs horizon bytes ≡ number + 256 * place)
  c_refused number place says =
      let s = stopped mode tasks jobs horizon bytes number place ((said_refused (check_bytes mode tasks jobs horizon (length bytes)) number place).0 says) in
      (sym s.run, sym s.claimed)

  -- Where a run from C is refused, the schedule's bytes stay as they were.
  pub c_refused_keeps : (run_result mode tasks jobs horizon bytes ≡ 0 → ⊥) → run_bytes mode tasks jobs horizon bytes ≡ bytes
  unfolding run_result packed_outcome
  c_refused_keeps other = ⊎_elim (λ w. absurd (other (rw w.checked))) (λ s. sym s.2.kept) (decided mode tasks jobs horizon bytes)
