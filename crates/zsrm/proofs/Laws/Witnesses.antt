-- Witnesses and shown parts as the code comes to them: what the checks say of the job named, and what a replay says. Then what is answered,
-- exactly: an answer that is no refusal is given where the checks pass, so what it says of the schedule is said of the claim's answer.
use Prim.Native.Nat.{◌+◌, ◌-◌, ◌<◌, ℕ, ◌≤◌}
use mathlib.Core.Bool.{Bool, false, true, not}
use mathlib.Core.List.{List}
use mathlib.Core.Path.{ap, ap₂, refl, sym, ◌∙◌, ◌≡◌}
use native.Mathlib.Omega.{arith}
use lib.Dec.{ltb, eqb}
use lib.ListN.{length, drop, take}
use borrow.Author.Tests.{eqb-true, not-false, not-true, eq-eqb, lt-ltb}
use Rattle.zsrm.specs.declared.answers.Verdict.{Verdict}
use Rattle.zsrm.specs.declared.answers.Witness.{Witness}
use Rattle.zsrm.specs.declared.claims.Walked.{Walked}
use Rattle.zsrm.specs.declared.record.Record.{Record}
use Rattle.zsrm.specs.declared.record.Standing.{Standing}
use Rattle.zsrm.specs.declared.record.Standing.TheVariants.{Ended, Finished, NotArrived, Unfinished}
use Rattle.zsrm.specs.Answers.{check_witness, claim_answer, response_answer, verdict_answer, witness_answer}
use Rattle.zsrm.specs.Given.{Given}
use Rattle.zsrm.specs.Code.Claims.{FitsIn, WalkedAs}
use Rattle.tables.specs.Refusals.{check_schedule, before, check13, refuse, unless}
use Rattle.tables.specs.Tables.{arrival, idle, job_count, Lists}
use Rattle.zsrm.specs.Record.{done_at, fresh, standing_at}
use Rattle.zsrm.specs.Run.{replayed}
use Rattle.zsrm.specs.Verdict.{answered, part, part_to, shown_by, verdict, witness, blamed, is_outside, missed, outsider, empty_part}
use Rattle.zsrm.proofs.Laws.Assumption.{named_outside}
use Rattle.zsrm.proofs.Laws.Claims.{replayed_whole}
use Rattle.zsrm.proofs.Laws.Consistent.{Sound, sound_at_law}
use Rattle.zsrm.proofs.Laws.Places.{tick_fresh}
use Rattle.tables.proofs.Laws.Accepted.{Accepted, accepted}
use Rattle.tables.proofs.Laws.Refusals.{before_first, before_second, same_ok, unless_done}
use Rattle.zsrm.proofs.Laws.Replay.{tick_replay, AllLegal}
use Rattle.zsrm.proofs.Readings.{spared, Within}
use Rattle.zsrm.specs.Legal.{is_legal, legal_length, claim}
use Rattle.zsrm.specs.declared.answers.Claim.TheVariants as claims
use Rattle.zsrm.specs.declared.answers.Witness.TheVariants as witnesses
use Rattle.zsrm.proofs.Laws.Verdicts.{Named, listed, verdict_answered}
use Rattle.zsrm.proofs.Laws.Consistent.{replayed_consistent}
use Rattle.zsrm.specs.declared.answers.Claim.{Claim}
use mathlib.Core.Logic.Iff
use mathlib.Core.Logic.{◌↔◌}
use Rattle.std.specs.Prelude.{Ok, Err}
use Rattle.tables.specs.Outcomes.{Outcome, Done}
use Rattle.zsrm.proofs.Laws.Said.{claim_said_law, verdict_said_law, witness_said_law}
use Rattle.zsrm.specs.Said.{claim_said, legal, verdict_said, witness_said}
use Rattle.zsrm.proofs.Laws.Answers.{is_legal_law}
use Rattle.tables.proofs.Laws.Said.{given_exactly, said_done}

-- what a witness that is not refused says of its input
pub record Witnessed (l : Lists) (horizon entries j : ℕ) : Type 0 where
  pub input : Accepted l horizon entries
  pub named : Named l j
  pub limit : entries ≤ 16384

pub witnessed : (l : Lists) (horizon entries j : ℕ) → check_witness l horizon entries j ≡ Done → Witnessed l horizon entries j
unfolding check_witness
witnessed l horizon entries j ok =
    let a = accepted l horizon entries (before_first (check_schedule l horizon entries) _ ok) in
    record {
      input = a;
      named = listed l j a.lists (before_second (check_schedule l horizon entries) _ ok);
      limit = omega (arith, a.bounded, a.whole);
    }

-- the answers to a witness in their order, as the code's tests come to them
module _ (legal : Bool) (n : ℕ) (outside : Bool) (i : ℕ) (v : Verdict) where
  pub answers_illegal : not legal ≡ true → witnesses.NotLegal n ≡ answered legal n outside i v
  answers_illegal h = rw (not-true legal h)

  pub answers_outside : not legal ≡ false → outside ≡ true → witnesses.Outside i ≡ answered legal n outside i v
  answers_outside h o = rw (not-false legal h, o)

  pub answers_within : not legal ≡ false → outside ≡ false → blamed v ≡ answered legal n outside i v
  answers_within h o = rw (not-false legal h, o)

  pub answers_spared : not legal ≡ false → outside ≡ false → missed v ≡ false → witnesses.NotMissed ≡ answered legal n outside i v
  answers_spared h o m = sym (spared v m) ∙ answers_within h o

-- a replay answers the witness: where it is legal its record is the one replayed, and elsewhere the verdict does not matter; i and m are
-- the first job that breaks the assumption and the number of jobs
pub witness_answer_law : (g : Given) (schedule : List ℕ) (j : ℕ) (x : Walked) (v : Verdict) (i m : ℕ) (w : Witness)
    → WalkedAs g schedule x → v ≡ verdict g.lists x.«record» j → i ≡ outsider g.lists j → m ≡ job_count g.lists.jobs
    → w ≡ answered (eqb x.ticks (length schedule)) x.ticks (ltb i m) i v → w ≡ witness g schedule j
unfolding witness is_legal
witness_answer_law g schedule j x v i m w p qv qi qm qw =
    qw ∙ ap (λ (n : ℕ). answered (eqb n (length schedule)) n (ltb i m) i v) p.ticks
    ∙ ap₂ (λ (o : Bool) (k : ℕ). answered (eqb n (length schedule)) n o k v) (ap₂ ltb qi qm ∙ named_outside g.lists j) qi
    ∙ go (eqb n (length schedule)) refl
  where
    n : ℕ
    n = legal_length g schedule

    o : Bool
    o = is_outside g.lists j

    k : ℕ
    k = outsider g.lists j

    go : (b : Bool) → eqb n (length schedule) ≡ b → answered b n o k v ≡ answered b n o k (verdict g.lists (replayed g schedule) j)
    go false e = refl
    go true e =
        ap (answered true n o k) (qv ∙ ap (λ (r : Record). verdict g.lists r j) (replayed_whole g schedule x p (eqb-true n (length schedule) e)))

-- so a finishing instant lies within it
pub part_fits : (g : Given) (schedule : List ℕ) (j : ℕ) → length schedule ≤ 16384 → j < 64 → AllLegal g (fresh g.lists.jobs) idle schedule
    → FitsIn (arrival g.lists.jobs j) schedule (standing_at (replayed g schedule) j)
unfolding replayed
part_fits g schedule j limit l legal =
    go (standing_at (replayed g schedule) j) (sound_at_law g (replayed g schedule) (replayed_consistent g schedule limit legal) j l)
    (tick_replay g (fresh g.lists.jobs) schedule ∙ ap (λ (t : ℕ). t + length schedule) (tick_fresh g.lists.jobs))
  where
    go : (s : Standing) → Sound g (replayed g schedule).tick j (done_at (replayed g schedule) j) s → (replayed g schedule).tick ≡ 0 + length schedule
        → FitsIn (arrival g.lists.jobs j) schedule s
    go NotArrived w e = tt
    go Unfinished w e = tt
    go (Finished f) w e = (omega (arith, w.after), omega (arith, w.by))
    go (Ended x) w e = tt

-- a replay answers for the part
pub part_answer : (g : Given) (schedule : List ℕ) (j : ℕ) (x : Walked) → WalkedAs g schedule x
    → shown_by (eqb x.ticks (length schedule)) (part_to (arrival g.lists.jobs j) schedule (standing_at x.«record» j)) ≡ part g schedule j
unfolding part is_legal
part_answer g schedule j x p =
    ap (λ (n : ℕ). shown_by (eqb n (length schedule)) (part_to (arrival g.lists.jobs j) schedule (standing_at x.«record» j))) p.ticks
    ∙ go (eqb (legal_length g schedule) (length schedule)) refl
  where
    go : (k : Bool) → eqb (legal_length g schedule) (length schedule) ≡ k
        → shown_by k (part_to (arrival g.lists.jobs j) schedule (standing_at x.«record» j)) ≡ shown_by k (part_to (arrival g.lists.jobs j) schedule (standing_at (replayed g schedule) j))
    go false e = refl
    go true e = ap (λ (r : Record). part_to (arrival g.lists.jobs j) schedule (standing_at r j)) (replayed_whole g schedule x p (eqb-true (legal_length g schedule) (length schedule) e))

-- a schedule that is accepted is accepted as a witness against a job of the list
job_checked_law : (l : Lists) (horizon entries j : ℕ) → check_schedule l horizon entries ≡ Done → j < job_count l.jobs → check_witness l horizon entries j ≡ Done
unfolding check_witness check13 refuse before
job_checked_law l horizon entries j ok named = rw (ok, lt-ltb j (job_count l.jobs) named)

-- a legal schedule was accepted, and its verdicts are not refused
module _ (g : Given) (horizon : ℕ) (schedule : List ℕ) (ok : claim_said (claim_answer g horizon schedule) ≡ legal) where
  module _ (j : ℕ) (l : j < job_count g.lists.jobs) where
    pub judged_end : verdict_answer g (replayed g schedule) j ≡ Ok (verdict g.lists (replayed g schedule) j)
    judged_end =
        let c = is_legal_law g horizon schedule ok in
        let a = c.input in
        verdict_answered g a.lists (replayed g schedule) (replayed_consistent g schedule (omega arith) c.legal) j l

    -- the part that is shown of a finished job
    pub shown : (f : ℕ) → standing_at (replayed g schedule) j ≡ Finished f
        → response_answer g horizon schedule j ≡ record { from = arrival g.lists.jobs j; entries = take (f - arrival g.lists.jobs j) (drop (arrival g.lists.jobs j) schedule) }
    unfolding response_answer part is_legal legal_length
    shown f q = unless_done _ _ (check_witness g.lists horizon (length schedule) j)
        (job_checked_law g.lists horizon (length schedule) j (is_legal_law g horizon schedule ok).checked l) ∙ rw (eq-eqb _ _ (is_legal_law g horizon schedule ok).legal, q)

-- what is answered to a witness: w exactly where the claim is answered c, the job is in the list, and A holds
module _ (g : Given) (horizon : ℕ) (schedule : List ℕ) (j : ℕ) where
  pub claim_answer_law : (w : Witness) (c : Claim) (A : Type 0)
      → (witness g schedule j ≡ w ↔ (claim g schedule ≡ c) × A)
      → witness_said (witness_answer g horizon schedule j) ≡ witness_said (Ok w) ↔ (claim_said (claim_answer g horizon schedule) ≡ claim_said (Ok c)) × (j < job_count g.lists.jobs) × A
  unfolding witness_answer claim_answer check_witness
  claim_answer_law w c A means =
      let asked = check_schedule g.lists horizon (length schedule) in
      let named = check_witness g.lists horizon (length schedule) j in
      let claims-so = given_exactly claim_said claim_said_law (claim g schedule) asked c in
      let says_so = given_exactly witness_said witness_said_law (witness g schedule j) named w in (
        λ h. let x = says_so.0 h in
            let ok = (said_done named).0 x.0 in
            let a = means.0 x.1 in
            (claims-so.1 ((said_done asked).1 (before_first asked (check13 g.lists.jobs j) ok), a.0), (witnessed g.lists horizon (length schedule) j ok).named.job, a.1),
        λ m. let x = claims-so.0 m.0 in
            says_so.1 ((said_done named).1 (job_checked_law g.lists horizon (length schedule) j ((said_done asked).0 x.0) m.1), means.1 (x.1, m.2)),
      )

  -- and where the claim is legal
  pub legal_answer : (w : Witness) (A : Type 0)
      → (witness g schedule j ≡ w ↔ (claim g schedule ≡ claims.Legal) × A)
      → witness_said (witness_answer g horizon schedule j) ≡ witness_said (Ok w) ↔ (claim_said (claim_answer g horizon schedule) ≡ legal) × (j < job_count g.lists.jobs) × A
  unfolding claim_said
  legal_answer w A means = claim_answer_law w claims.Legal A means

  -- it is accepted where the witness is within the assumption and the job has the verdict v in the schedule; w is what is answered for v
  pub accepted_exactly : (w : Witness) (v : Verdict)
      → (witness g schedule j ≡ w ↔ (claim g schedule ≡ claims.Legal) × Within g j × (verdict g.lists (replayed g schedule) j ≡ v))
      → witness_said (witness_answer g horizon schedule j) ≡ witness_said (Ok w)
      ↔ (claim_said (claim_answer g horizon schedule) ≡ legal) × (j < job_count g.lists.jobs) × Within g j × (verdict_said (verdict_answer g (replayed g schedule) j) ≡ verdict_said (Ok v))
  accepted_exactly w v blames =
      Iff.trans
      (legal_answer w (Within g j × (verdict g.lists (replayed g schedule) j ≡ v))
      (Iff.trans blames (λ m. (m.0, (m.1, m.2)), λ m. (m.0, m.1.0, m.1.1)))) (
        λ m. (m.0, m.1, m.2.0, ap verdict_said (judged_end g horizon schedule m.0 j m.1 ∙ ap (λ (x : Verdict). Ok x) m.2.1)),
        λ m. (m.0, m.1, (m.2, same_ok (sym (judged_end g horizon schedule m.0 j m.1) ∙ verdict_said_law (verdict_answer g (replayed g schedule) j) (Ok v) m.3))),
      )

-- where the part is empty the response is, refused or not
pub part_empty : (g : Given) (horizon : ℕ) (schedule : List ℕ) (j : ℕ) → part g schedule j ≡ empty_part → response_answer g horizon schedule j ≡ empty_part
unfolding response_answer unless
part_empty g horizon schedule j e = go (check_witness g.lists horizon (length schedule) j)
  where
    go : (o : Outcome) → unless o (λ number place. empty_part) (part g schedule j) ≡ empty_part
    go Done = e
    go (Err w) = refl
