-- What an answer that is no refusal says of the checks, and what acceptance says of the lists.
use Prim.Native.Nat.{◌+◌, ◌<◌, ℕ, ◌≤◌}
use mathlib.Core.Bool.{true, cond}
use mathlib.Core.List.{List}
use mathlib.Core.Logic.{◌↔◌}
use mathlib.Core.Path.{ap, ap₂, refl, sym, ◌∙◌, ◌≡◌}
use native.Mathlib.Omega.{arith}
use lib.Dec.{eqb}
use lib.ListN.{length}
use borrow.Author.Tests.{eq-eqb, eqb-false, eqb-true, not-false}
use Rattle.std.specs.Prelude.{Ok, Err}
use Rattle.zsrm.specs.declared.answers.Claim.{Claim}
use Rattle.tables.specs.Outcomes.{Outcome, Done, Refused}
use Rattle.zsrm.specs.declared.record.Record.{Record}
use Rattle.zsrm.specs.declared.tie.Tie.{Tie}
use Rattle.zsrm.specs.Answers.{check_step, claim_answer, ran, run_answer, run_schedule}
use Rattle.tables.specs.Refusals.{unless, check_lists, check_schedule}
use Rattle.zsrm.specs.Said.{claim_said}
use Rattle.zsrm.specs.Legal.{claim, is_legal, legal_from, legal_length}
use Rattle.zsrm.specs.Record.{consistent, fresh, check11, check12}
use Rattle.zsrm.specs.Run.{run_entries, run_record, entries_by, final_by}
use Rattle.zsrm.specs.Given.{Given}
use Rattle.tables.specs.Tables.{idle}
use Rattle.zsrm.proofs.Laws.Consistent.{consistent_tick, fresh_consistent}
use Rattle.zsrm.proofs.Laws.Places.{tick_fresh}
use Rattle.tables.proofs.Laws.Refusals.{before_first, before_second, refuse_fine, unless_done, unless_refused}
use Rattle.zsrm.proofs.Laws.Run.{length_run, our_run_legal}
use Rattle.zsrm.proofs.Laws.Said.{claim_said_law}
use Rattle.zsrm.proofs.Laws.Replay.{AllLegal}
use Rattle.bits.proofs.Laws.Bools.{by_cond, apart}
use Rattle.zsrm.specs.Tick.{choice}
use Rattle.tables.proofs.Laws.Accepted.{Accepted, accepted}
use Rattle.zsrm.specs.Said as say
use Rattle.zsrm.specs.declared.answers.Claim.TheVariants as claims

-- a whole schedule is legal exactly when each of its entries is
pub whole_legal : (g : Given) (schedule : List ℕ) → claim g schedule ≡ claims.Legal ↔ AllLegal g (fresh g.lists.jobs) idle schedule
unfolding claim is_legal legal_length
whole_legal g schedule = (there, λ c. rw (eq-eqb (legal_from g (fresh g.lists.jobs) idle schedule) (length schedule) c))
  where
    there : cond (eqb (legal_from g (fresh g.lists.jobs) idle schedule) (length schedule)) claims.Legal (claims.NotLegal (legal_from g (fresh g.lists.jobs) idle schedule)) ≡ claims.Legal
        → AllLegal g (fresh g.lists.jobs) idle schedule
    there =
        by_cond (λ c. c ≡ claims.Legal → AllLegal g (fresh g.lists.jobs) idle schedule) (eqb (legal_from g (fresh g.lists.jobs) idle schedule) (length schedule))
        claims.Legal (claims.NotLegal (legal_from g (fresh g.lists.jobs) idle schedule))
        (λ q _. eqb-true _ _ q) (λ q e. apart (cc))

-- a claim that is answered legal was accepted, and is legal
pub record LegalClaim (g : Given) (horizon : ℕ) (schedule : List ℕ) : Type 0 where
  pub checked : check_schedule g.lists horizon (length schedule) ≡ Done
  pub input : Accepted g.lists horizon (length schedule)
  pub legal : AllLegal g (fresh g.lists.jobs) idle schedule

pub is_legal_law : (g : Given) (horizon : ℕ) (schedule : List ℕ) → claim_said (claim_answer g horizon schedule) ≡ say.legal → LegalClaim g horizon schedule
unfolding claim_said claim_answer unless
is_legal_law g horizon schedule e =
    go (check_schedule g.lists horizon (length schedule)) refl (claim_said_law (claim_answer g horizon schedule) (Ok claims.Legal) e)
  where
    go : (o : Outcome) → check_schedule g.lists horizon (length schedule) ≡ o → unless o Refused (Ok (claim g schedule)) ≡ Ok claims.Legal → LegalClaim g horizon schedule
    go Done q c = record { checked = q; input = accepted g.lists horizon (length schedule) q; legal = (whole_legal g schedule).0 (cc) }
    go (Err w) q c = apart (cc)

pub run_outcome : (g : Given) (tie : Tie) (horizon : ℕ) (lent : List ℕ) → (run_answer g tie horizon lent).outcome ≡ check_schedule g.lists horizon (length lent)
unfolding run_answer ran
run_outcome g tie horizon lent = refl

-- a run that is not refused
pub run_given_law : (g : Given) (tie : Tie) (horizon : ℕ) (lent : List ℕ) → check_schedule g.lists horizon (length lent) ≡ Done
    → ((run_answer g tie horizon lent).«record» ≡ run_record g tie horizon) × (run_schedule g tie horizon lent ≡ run_entries g tie horizon)
unfolding run_answer ran run_schedule
run_given_law g tie horizon lent ok = (unless_done _ _ (check_schedule g.lists horizon (length lent)) ok, unless_done _ _ (check_schedule g.lists horizon (length lent)) ok)

-- what a run that is not refused writes is a legal claim
pub run_claim : (g : Given) (tie : Tie) (horizon : ℕ) (lent : List ℕ) → check_schedule g.lists horizon (length lent) ≡ Done
    → claim_answer g horizon (run_schedule g tie horizon lent) ≡ Ok claims.Legal
unfolding claim_answer
run_claim g tie horizon lent ok =
    let a = accepted g.lists horizon (length lent) ok in
    let es = run_entries g tie horizon in
    let same : length lent ≡ length es = a.whole ∙ sym (length_run g tie horizon) in
    rw (run_given_law g tie horizon lent ok).1
    (unless_done Refused (Ok (claim g es)) (check_schedule g.lists horizon (length es)) (rw same at ok)
    ∙ ap (λ (c : Claim). Ok c) ((whole_legal g es).1 (our_run_legal g a.lists tie horizon a.bounded)))

-- what a step that is not refused says of its record
pub record Steps (g : Given) (r : Record) : Type 0 where
  pub lists : check_lists g.lists ≡ Done
  pub sound : consistent g r ≡ true
  pub time : r.tick < 16384

pub steps : (g : Given) (r : Record) → check_step g r ≡ Done → Steps g r
unfolding check_step check11 check12
steps g r ok =
    let rest = before_second (check_lists g.lists) _ ok in
    let sound = not-false (consistent g r) (refuse_fine _ _ _ (before_first (check11 (consistent g r)) _ rest)) in
    let late = eqb-false r.tick 16384 (refuse_fine _ _ _ (before_second (check11 (consistent g r)) _ rest)) in
    let most = consistent_tick g r sound in
    record { lists = before_first (check_lists g.lists) _ ok; sound = sound; time = omega arith }

-- the run's answer and list, where nothing is refused and where something is
module _ (g : Given) (tie : Tie) (horizon : ℕ) (lent : List ℕ) where
  pub run_done : check_schedule g.lists horizon (length lent) ≡ Done → (made : Record)
      → made ≡ final_by g (choice g tie) (fresh g.lists.jobs) (length lent) → ran Done made ≡ run_answer g tie horizon lent
  unfolding run_answer run_record
  run_done ok made e =
      ap₂ ran (sym ok) (e ∙ ap (final_by g (choice g tie) (fresh g.lists.jobs)) (accepted g.lists horizon (length lent) ok).whole)

  pub run_writes : check_schedule g.lists horizon (length lent) ≡ Done → (l : List ℕ) → l ≡ entries_by g (choice g tie) (fresh g.lists.jobs) (length lent) → l ≡ run_schedule g tie horizon lent
  unfolding run_schedule run_entries
  run_writes ok l e =
      e ∙ ap (entries_by g (choice g tie) (fresh g.lists.jobs)) (accepted g.lists horizon (length lent) ok).whole
      ∙ sym (unless_done (λ number place. lent) (run_entries g tie horizon) (check_schedule g.lists horizon (length lent)) ok)

  pub run_refused : (number place : ℕ) → check_schedule g.lists horizon (length lent) ≡ Refused number place → (x : Record) → ran (Refused number place) x ≡ run_answer g tie horizon lent
  unfolding run_answer ran unless
  run_refused n p e x = rw e

  pub run_keeps : (number place : ℕ) → check_schedule g.lists horizon (length lent) ≡ Refused number place → lent ≡ run_schedule g tie horizon lent
  unfolding run_schedule
  run_keeps n p e = sym (unless_refused (λ number place. lent) (run_entries g tie horizon) (check_schedule g.lists horizon (length lent)) n p e)

-- what a run from the fresh record may rely on
pub record Starts (g : Given) (lent : List ℕ) (r : Record) : Type 0 where
  pub lists : check_lists g.lists ≡ Done
  pub sound : consistent g r ≡ true
  pub room : r.tick + length lent ≤ 16384

pub starts : (g : Given) (horizon : ℕ) (lent : List ℕ) (r : Record) → check_schedule g.lists horizon (length lent) ≡ Done → r ≡ fresh g.lists.jobs → Starts g lent r
starts g horizon lent r ok q =
    let a = accepted g.lists horizon (length lent) ok in
    record { lists = a.lists; sound = rw q (fresh_consistent g); room = let z = ap (λ (x : Record). x.tick) q ∙ tick_fresh g.lists.jobs in omega arith }
