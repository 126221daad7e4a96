-- Document 01 with its "some", "every", "exactly when", "least" and "lowest" said by quantifiers, sentence by sentence in its order, each
-- proved of the definition that computes it. A test holds where it is `true`; a later sentence uses the words of earlier ones.
-- g is what is given, r the record at tick t, e the tick's entry, p the entry before.
use Prim.Native.Nat.{◌+◌, ◌-◌, ◌<◌, suc, zero, ℕ, ◌≤◌}
use mathlib.Core.Bool.{◌&&◌, Bool, cond, false, not, or_assoc, true}
use mathlib.Core.List.{List, [], ◌∷◌}
use mathlib.Core.Logic.Iff
use mathlib.Core.Logic.{inl, inr, ◌↔◌, ◌≢◌, ◌⊎◌, ⊎_elim}
use mathlib.Core.Path.{ap, refl, subst, sym, ◌∙◌, ◌≡◌}
use native.Mathlib.Nat.{not-suc-le-zero}
use native.Mathlib.Omega.{arith}
use lib.Count.{ones}
use lib.Dec.{eqb, leb, ltb}
use lib.ListN.{get_or, length}
use borrow.Author.Tests.{eq-eqb, eqb-false, eqb-true, le-leb, leb-false, leb-true, lt-leb, lt-ltb, ne_eqb}
use Rattle.bits.specs.Below.{bit, least, some}
use Rattle.bits.proofs.Laws.Below.{least_found, some_true}
use Rattle.bits.proofs.Laws.Bools.{by_cond, clash, never_true, apart}
use Rattle.bits.proofs.Readings.{and_fails, and_reads, eq_reads, least_reads, lt_fails, lt_reads, none_reads, not_reads, or_else, or_reads, some_reads}
use Rattle.bits.proofs.Laws.Word.{bit_word}
use Rattle.std.specs.Prelude.{Result, Ok, Err}
use Rattle.tables.specs.declared.answers.Refusal.{Refusal}
use Rattle.zsrm.specs.declared.answers.Claim.TheVariants.{Legal, NotLegal}
use Rattle.zsrm.specs.declared.answers.Verdict.{Verdict}
use Rattle.zsrm.specs.declared.answers.Witness.{Witness}
use Rattle.zsrm.specs.declared.record.Record.{Record}
use Rattle.zsrm.specs.declared.tie.Tie.{Tie}
use Rattle.zsrm.specs.declared.tie.Tie.TheVariants.{Lowest, Stay}
use Rattle.zsrm.specs.declared.record.Standing.{Standing}
use Rattle.zsrm.specs.declared.record.Standing.TheVariants.{Ended, Finished, NotArrived, Unfinished}
use Rattle.zsrm.specs.declared.mode.Mode.TheVariants.{SE}
use Rattle.zsrm.specs.Legal.{claim, is_finished_at, legal_entry, scheduling_instant, instant_by, is_legal, legal_from, legal_length}
use Rattle.zsrm.specs.Mend.{keeps_previous, mend_choice}
use Rattle.zsrm.specs.Record.{consistent, done_at, fresh, place_at, standing_at, suspended_at, waited_at}
use Rattle.zsrm.specs.Given.{is_se, Given}
use Rattle.zsrm.specs.Run.{replay, replayed, record_at, record_before}
use Rattle.tables.specs.Tables.{arrival, deadline_instant, execution, idle, job_count, job_criticality, job_nominal, job_priority, zero_slack_instant}
use Rattle.zsrm.specs.Tick.{advanced, alive, candidate, candidate_or_idle, choice, done_after, eligible, ended_word, ends, finishes, goes_on, job_word, keeps}
use Rattle.zsrm.specs.Tick.{lowest, more_critical, over, past_zero_slack, place_after, ready_at, ready_count, ready_word, some_job, standing_after, suspended, suspended_after, waited_after, waits}
use Rattle.zsrm.specs.Said.{verdict_said}
use Rattle.zsrm.specs.Verdict.{verdict_is, answered, blamed, is_ended, is_late, is_met, is_open, judged, missed, verdict, witness, breaks, is_outside, outsider}
use Rattle.zsrm.proofs.Laws.Places.{done_advanced, alive_unfinished, previous_advanced, standing_alive, suspended_advanced, waited_advanced}
use Rattle.zsrm.proofs.Laws.Ready.{ready_ones, ready_exactly}
use Rattle.zsrm.proofs.Laws.Replay.{legal_at, Beginning, beginning, beginning_is}
use Rattle.zsrm.proofs.Laws.Answers.{whole_legal}
use Rattle.zsrm.proofs.Laws.Consistent.{Consistent, consistency}
use Rattle.zsrm.proofs.Laws.Tick.{Raised, done_idle, done_ran, eligible_unended, ended_suspended, goes_on_cases, none_raised, one_raised, runs_eligible}
use Rattle.zsrm.proofs.Laws.Tick.{se_reads, candidate_exactly, finishing, past_exactly, suspended_exactly, suspended_more, suspended_same, waited_more, waited_same, waiting}
use Rattle.zsrm.specs.declared.answers.Verdict.TheVariants as verdicts
use Rattle.zsrm.specs.declared.answers.Witness.TheVariants as witnesses
use Rattle.zsrm.proofs.Laws.Choice as choices
use Rattle.zsrm.specs.Said as say

-- some job of the list; every job of the list
abbrev pub SomeJob : Given → (ℕ → Type 0) → Type 0
SomeJob g P = (j : ℕ) × (j < job_count g.lists.jobs) × P j

abbrev pub EveryJob : Given → (ℕ → Type 0) → Type 0
EveryJob g P = (j : ℕ) → j < job_count g.lists.jobs → P j

-- ## The record

-- "It is consistent when" t ≤ 16,384, the previous entry is sound, and every place is sound and accounted for: `Previous`, `Sound` and
-- `Accounted`, in Laws/Consistent, have the sentences, the last two by the standing.
pub consistent_reads : (g : Given) (r : Record) → consistent g r ≡ true ↔ Consistent g r
consistent_reads = consistency

-- ## One tick

-- "At tick t a job is alive if arrived, neither finished nor ended."
pub alive_reads : (r : Record) (j : ℕ) → alive r j ≡ true ↔ standing_at r j ≡ Unfinished
unfolding alive
alive_reads r j = (alive_unfinished r j, λ e. rw e)

module _ (g : Given) (r : Record) where
  -- "Past zero slack: alive, and arrival + Z ≤ t."
  pub past_zero_slack_reads : (j : ℕ) → past_zero_slack g r j ≡ true ↔ (alive r j ≡ true) × (zero_slack_instant g.lists j ≤ r.tick)
  past_zero_slack_reads = past_exactly g r

  -- "Suspended: alive, and some job past zero slack is strictly more critical."
  pub suspended_reads : (j : ℕ) → suspended g r j ≡ true
      ↔ (alive r j ≡ true) × SomeJob g (λ i. (past_zero_slack g r i ≡ true) × (job_criticality g.lists j < job_criticality g.lists i))
  suspended_reads = suspended_exactly g r

  -- "Eligible: alive and not suspended."
  pub eligible_reads : (j : ℕ) → eligible g r j ≡ true ↔ (alive r j ≡ true) × (suspended g r j ≡ false)
  unfolding eligible
  eligible_reads j = and_reads Iff.rfl (not_reads _)

  -- "Candidate: eligible, with no eligible job of strictly higher priority."
  pub candidate_reads : (j : ℕ) → candidate g r j ≡ true
      ↔ (eligible g r j ≡ true) × EveryJob g (λ i. eligible g r i ≡ true → job_priority g.lists i ≤ job_priority g.lists j)
  candidate_reads = candidate_exactly g r

  -- "A candidate runs if there is one; otherwise the tick is idle."
  pub choice_idle : job_count g.lists.jobs ≤ 64 → (tie : Tie) → choice g tie r ≡ idle ↔ EveryJob g (λ j. candidate g r j ≡ false)
  choice_idle few tie = choices.choice_none g few tie r

  -- "The run's tie choice becomes: keep the job of the previous tick if it is still a candidate, else the lowest number." The lowest
  -- number always is what `Lowest` asks for.
  pub choice_keeps : r.previous < job_count g.lists.jobs → candidate g r r.previous ≡ true → choice g Stay r ≡ r.previous
  choice_keeps l c = choices.choice_kept g r l c

  pub choice_else : (r.previous < job_count g.lists.jobs → candidate g r r.previous ≡ true → ⊥) → choice g Stay r ≡ choice g Lowest r
  choice_else never =
      choices.choice_not_kept g Stay r (never_true (keeps g Stay r) (λ k. let w = (choices.keeps_reads g Stay r).0 k in never w.1 w.2))
      ∙ sym (choices.choice_lowest g r)

  pub choice_job : job_count g.lists.jobs ≤ 64 → (j : ℕ) → j < job_count g.lists.jobs
      → choice g Lowest r ≡ j ↔ (candidate g r j ≡ true) × ((i : ℕ) → i < j → candidate g r i ≡ false)
  unfolding lowest
  choice_job few j l = rw (choices.choice_lowest g r) (least_reads (candidate g r) (job_count g.lists.jobs) idle j l (omega arith))

-- what the tick does, its entry e being given
module _ (g : Given) (r : Record) (e : ℕ) where
  -- "The job that ran has one more tick done", and no other; the record after the tick holds it.
  pub done_after_ran : done_after g r e e ≡ suc (done_at r e)
  done_after_ran = done_ran g r e e refl

  pub done_after_other : (j : ℕ) → e ≢ j → done_after g r e j ≡ done_at r j
  done_after_other = done_idle g r e

  pub done_after_held : (j : ℕ) → j < 64 → done_at (advanced g r e) j ≡ done_after g r e j
  done_after_held = done_advanced g r e

  -- "The record keeps the previous entry": after the tick, the tick's own.
  pub previous_kept : (advanced g r e).previous ≡ e
  previous_kept = previous_advanced g r e

  -- "if that equals c it is finished at t + 1"
  pub finishes_reads : (j : ℕ) → finishes g r e j ≡ true ↔ (e ≡ j) × (done_after g r e j ≡ execution g.lists.jobs j)
  finishes_reads = finishing g r e

  pub finished_reads : (j : ℕ) → j < 64 → alive r j ≡ true
      → standing_at (advanced g r e) j ≡ Finished (suc r.tick) ↔ finishes g r e j ≡ true
  finished_reads j l a =
      rw (standing_alive g r e j l a) (goes_on_cases g r e (λ s. s ≡ Finished (suc r.tick) ↔ finishes g r e j ≡ true) j
      (λ q f. (λ h. (finishing g r e j).1 (q, f), λ h. refl)) (λ x y. (λ h. apart (cc), λ h. clash h x)) (λ x y. (λ h. apart (cc), λ h. clash h x)))

  -- "SE only: a job is over in tick t if past zero slack and its done at t, plus 1 if it runs in t, exceeds C."
  pub record Over (j : ℕ) : Type 0 where
    pub se : g.mode ≡ SE
    pub past : past_zero_slack g r j ≡ true
    pub exceeds : job_nominal g.lists j < done_after g r e j

  pub over_reads : (j : ℕ) → over g r e j ≡ true ↔ Over j
  unfolding over
  over_reads j =
      Iff.trans (and_reads (and_reads (se_reads g.mode) Iff.rfl) (lt_reads _ _))
      (λ w. record { se = w.0.0; past = w.0.1; exceeds = w.1 }, λ w. ((w.se, w.past), w.exceeds))

  -- "Every alive, strictly less critical job is then ended, with tick t": so it stands after the tick, unless it finished in it.
  pub ends_reads : (j : ℕ) → ends g r e j ≡ true
      ↔ (alive r j ≡ true) × SomeJob g (λ i. (over g r e i ≡ true) × (job_criticality g.lists j < job_criticality g.lists i))
  unfolding ends some_job more_critical
  ends_reads j = and_reads Iff.rfl (some_reads _ (λ i. and_reads Iff.rfl (lt_reads _ _)))

  pub ended_reads : (j : ℕ) → j < 64 → alive r j ≡ true
      → standing_at (advanced g r e) j ≡ Ended r.tick ↔ (finishes g r e j ≡ false) × (ends g r e j ≡ true)
  ended_reads j l a =
      rw (standing_alive g r e j l a) (goes_on_cases g r e (λ s. s ≡ Ended r.tick ↔ (finishes g r e j ≡ false) × (ends g r e j ≡ true)) j
      (λ q f. (λ h. apart (cc), λ h. clash ((finishing g r e j).1 (q, f)) h.0)) (λ x y. (λ h. (x, y), λ h. refl))
      (λ x y. (λ h. apart (cc), λ h. clash h.1 y)))

  -- "ticks suspended while alive": a job that is suspended in the tick has one more, and no other; the record after the tick holds it.
  pub suspended_after_suspended : (j : ℕ) → suspended g r j ≡ true → suspended_after g r e j ≡ suc (suspended_at r j)
  suspended_after_suspended = suspended_more g r e

  pub suspended_after_other : (j : ℕ) → suspended g r j ≡ false → suspended_after g r e j ≡ suspended_at r j
  suspended_after_other = suspended_same g r e

  pub suspended_after_held : (j : ℕ) → j < 64 → suspended_at (advanced g r e) j ≡ suspended_after g r e j
  suspended_after_held = suspended_advanced g r e

  -- "ticks eligible while another job ran": the same of a job that is eligible in the tick, the entry being another job of the list.
  pub waits_reads : (j : ℕ) → waits g r e j ≡ true ↔ (eligible g r j ≡ true) × (e < job_count g.lists.jobs) × (e ≢ j)
  waits_reads = waiting g r e

  pub waited_after_waits : (j : ℕ) → waits g r e j ≡ true → waited_after g r e j ≡ suc (waited_at r j)
  waited_after_waits = waited_more g r e

  pub waited_after_other : (j : ℕ) → waits g r e j ≡ false → waited_after g r e j ≡ waited_at r j
  waited_after_other = waited_same g r e

  pub waited_after_held : (j : ℕ) → j < 64 → waited_at (advanced g r e) j ≡ waited_after g r e j
  waited_after_held = waited_advanced g r e

  -- "the tick in which it is ended counts as suspended"
  pub ended_counts_suspended : (j : ℕ) → ends g r e j ≡ true → suspended_after g r e j ≡ suc (suspended_at r j)
  ended_counts_suspended j h = suspended_more g r e j (ended_suspended g r e j h)

-- "A step reports a 64-bit ready word, whose bit p is set exactly when an eligible job of priority p exists, the number of its ones, the
-- schedule entry, and a 64-bit word whose bit j is set exactly when job j is ended in this tick."
pub ready_word_reads : (g : Given) (r : Record) (p : ℕ) → p < 64
    → bit (ready_word g r) p ≡ true ↔ SomeJob g (λ j. (eligible g r j ≡ true) × (job_priority g.lists j ≡ p))
unfolding ready_word
ready_word_reads g r p l = rw (bit_word (ready_at g r) 64 p l) (ready_exactly g r p)

pub ready_count_reads : (g : Given) (r : Record) → ready_count g r ≡ ones (ready_word g r)
ready_count_reads g r = sym (ready_ones g r)

pub ended_word_reads : (g : Given) (r : Record) (e j : ℕ) → j < 64
    → bit (ended_word g r e) j ≡ true ↔ (j < job_count g.lists.jobs) × (ends g r e j ≡ true)
unfolding ended_word job_word
ended_word_reads g r e j l = rw (bit_word (λ i. ltb i (job_count g.lists.jobs) && ends g r e i) 64 j l) (and_reads (lt_reads j _) Iff.rfl)

-- ## Legal schedules, verdicts, witnesses

module _ (g : Given) (r : Record) where
  -- "Tick t is a scheduling instant if a job arrives at t, finishes at t, or has arrival + Z = t (in any standing), or, in SE, ran in
  -- t − 1 and reached done = C."
  pub record Reached (p j : ℕ) : Type 0 where
    pub se : g.mode ≡ SE
    pub ran_last : p ≡ j
    pub done : done_at r j ≡ job_nominal g.lists j

  pub scheduling_instant_reads : (p : ℕ) → scheduling_instant g r p ≡ true
      ↔ SomeJob g (λ j. (arrival g.lists.jobs j ≡ r.tick) ⊎ (standing_at r j ≡ Finished r.tick) ⊎ (zero_slack_instant g.lists j ≡ r.tick) ⊎ Reached p j)
  unfolding scheduling_instant some_job instant_by
  scheduling_instant_reads p =
      some_reads _ (λ j. simp or_assoc (or_reads (eq_reads _ _) (or_reads (finished (standing_at r j)) (or_reads (eq_reads _ _) (reached j)))))
    where
      finished : (s : Standing) → is_finished_at r.tick s ≡ true ↔ s ≡ Finished r.tick
      finished NotArrived = (λ h. apart (cc), λ h. apart (cc))
      finished Unfinished = (λ h. apart (cc), λ h. apart (cc))
      finished (Finished f) = (λ h. ap Finished (eqb-true f r.tick h), λ h. eq-eqb f r.tick (cc))
      finished (Ended x) = (λ h. apart (cc), λ h. apart (cc))

      reached : (j : ℕ) → (is_se g.mode && eqb p j && eqb (done_at r j) (job_nominal g.lists j)) ≡ true ↔ Reached p j
      reached j =
          Iff.trans (and_reads (and_reads (se_reads g.mode) (eq_reads p j)) (eq_reads _ _))
          (λ w. record { se = w.0.0; ran_last = w.0.1; done = w.1 }, λ w. ((w.se, w.ran_last), w.done))

  -- "An entry is legal if it is a candidate, or idle with no candidate, and, where t > 0 is no scheduling instant, equals the entry before."
  pub candidate_or_idle_reads : (e : ℕ) → candidate_or_idle g r e ≡ true
      ↔ ((e < job_count g.lists.jobs) × (candidate g r e ≡ true)) ⊎ ((e ≡ idle) × EveryJob g (λ j. candidate g r j ≡ false))
  unfolding candidate_or_idle some_job
  candidate_or_idle_reads e =
      or_reads (and_reads (lt_reads e _) Iff.rfl) (and_reads (eq_reads e idle) (Iff.trans (not_reads _) (none_reads _ (λ j. Iff.rfl))))

  pub legal_entry_reads : (p e : ℕ) → legal_entry g r p e ≡ true
      ↔ (candidate_or_idle g r e ≡ true) × (0 < r.tick → scheduling_instant g r p ≡ false → e ≡ p)
  unfolding legal_entry
  legal_entry_reads p e = and_reads Iff.rfl (simp or_assoc (or_else later (or_else Iff.rfl (eq_reads e p))))
    where
      later : eqb r.tick 0 ≡ false ↔ 0 < r.tick
      later = (λ h. omega (arith, eqb-false r.tick 0 h), λ l. ne_eqb r.tick 0 (λ z. omega arith))

  -- The job that a legal entry runs is not ended in its tick: so the ended word's jobs are those that then stand as ended.
  pub ended_legal : (e j : ℕ) → candidate_or_idle g r e ≡ true → j < 64 → alive r j ≡ true
      → standing_at (advanced g r e) j ≡ Ended r.tick ↔ ends g r e j ≡ true
  ended_legal e j d l a =
      Iff.trans (ended_reads g r e j l a)
      (λ w. w.1, λ h. (never_true _ (λ f. clash h (eligible_unended g r e j (runs_eligible g r e j d l ((finishing g r e j).0 f).0))), h))

  -- "done plus both": a tick whose entry may run raises exactly one of the three numbers of a job alive, by one, and none of any other's.
  pub alive_raises_one : (e j : ℕ) → candidate_or_idle g r e ≡ true → j < 64 → j < job_count g.lists.jobs → alive r j ≡ true
      → Raised g r e j 1 0 0 ⊎ Raised g r e j 0 1 0 ⊎ Raised g r e j 0 0 1
  alive_raises_one e j may = one_raised g r e may j

  pub other_raises_none : (e j : ℕ) → candidate_or_idle g r e ≡ true → j < 64 → alive r j ≡ false → Raised g r e j 0 0 0
  other_raises_none e j may = none_raised g r e may j

-- "earlier entries taken as given": the entry before tick t, idle before the first; entry t of a schedule is legal.
abbrev pub entry_before : List ℕ → ℕ → ℕ
entry_before es t = get_or (idle ∷ es) t idle

abbrev pub LegalAt : Given → List ℕ → ℕ → Type 0
LegalAt g es t = legal_entry g (record_before g es t) (entry_before es t) (get_or es t idle) ≡ true

-- The entry before is the one that the record before the tick keeps ..
kept_at : (g : Given) (r : Record) (es : List ℕ) (t : ℕ) → t ≤ length es → (record_at g r es t).previous ≡ get_or (r.previous ∷ es) t idle
unfolding record_at replay advanced
kept_at g r [] zero b = refl
kept_at g r [] (suc t) b = absurd (not-suc-le-zero b)
kept_at g r (e ∷ es) zero b = refl
kept_at g r (e ∷ es) (suc t) b = kept_at g (advanced g r e) es t (omega arith)

pub entry_before_kept : (g : Given) (es : List ℕ) (t : ℕ) → t ≤ length es → (record_before g es t).previous ≡ entry_before es t
unfolding record_before fresh
entry_before_kept g es t b = kept_at g (fresh g.lists.jobs) es t b

-- .. but no rule of a legal schedule looks at what the record keeps: "Legal claims .. do not change".
pub previous_unseen : (g : Given) (r : Record) (previous last : ℕ) (es : List ℕ)
    → legal_from g (record { tick = r.tick; previous = previous; places = r.places }) last es ≡ legal_from g r last es
unfolding legal_from legal_entry scheduling_instant instant_by candidate_or_idle candidate eligible suspended past_zero_slack alive some_job advanced
    place_after standing_after goes_on finishes ends over done_after suspended_after waited_after waits done_at suspended_at waited_at standing_at place_at
previous_unseen g r previous last [] = refl
previous_unseen g r previous last (e ∷ es) = refl

-- "A claim is legal, or 'not legal at t' with t the least such tick."
pub claim_legal : (g : Given) (es : List ℕ) → claim g es ≡ Legal ↔ ((t : ℕ) → t < length es → LegalAt g es t)
unfolding record_before
claim_legal g es =
    Iff.trans (whole_legal g es) (
      λ c t l. legal_at g (fresh g.lists.jobs) idle es c t l,
      λ h. beginning_is g (fresh g.lists.jobs) idle es (length es) (record { within = omega arith; good = h; bad = λ l. absurd (omega arith) }),
    )

pub record LeastIllegal (g : Given) (es : List ℕ) (t : ℕ) : Type 0 where
  pub within : t < length es
  pub illegal : ¬ (LegalAt g es t)
  pub earlier : (s : ℕ) → s < t → LegalAt g es s

pub claim_not_legal : (g : Given) (es : List ℕ) (t : ℕ) → claim g es ≡ NotLegal t ↔ LeastIllegal g es t
unfolding claim is_legal legal_length record_before
claim_not_legal g es t = (there, back)
  where
    n : ℕ
    n = legal_from g (fresh g.lists.jobs) idle es

    b : Beginning g (fresh g.lists.jobs) idle es n
    b = beginning g (fresh g.lists.jobs) idle es

    least : n < length es → LeastIllegal g es n
    least l = record { within = l; illegal = λ x. clash x (b.bad l); earlier = b.good }

    there : cond (eqb n (length es)) Legal (NotLegal n) ≡ NotLegal t → LeastIllegal g es t
    there =
        by_cond (λ c. c ≡ NotLegal t → LeastIllegal g es t) (eqb n (length es)) Legal (NotLegal n) (λ q e. apart (cc))
        (λ q e. let same : n ≡ t = cc in
        let ne = eqb-false n (length es) q in
        subst (LeastIllegal g es) same (least (omega (arith, b.within))))

    back : LeastIllegal g es t → cond (eqb n (length es)) Legal (NotLegal n) ≡ NotLegal t
    back w =
        let same : n ≡ t = beginning_is g (fresh g.lists.jobs) idle es t (record { within = omega (arith, w.within); good = w.earlier; bad = λ l. never_true _ w.illegal }) in
        rw (ne_eqb n (length es) (λ e. omega (arith, w.within))) (ap NotLegal same)

-- Request Eleven: a salvage tool "keeps the previous entry where the tick is above 0 and no scheduling instant, and otherwise takes the
-- lowest numbered candidate, or idle where there is none", which is what the tie choice Lowest asks for.
module _ (g : Given) (r : Record) where
  pub mend_keeps : 0 < r.tick → scheduling_instant g r r.previous ≡ false → mend_choice g r ≡ r.previous
  unfolding mend_choice keeps_previous
  mend_keeps l q = rw (lt-ltb 0 r.tick l, q)

  pub mend_else : (0 < r.tick → scheduling_instant g r r.previous ≡ true) → mend_choice g r ≡ choice g Lowest r
  unfolding mend_choice keeps_previous
  mend_else h =
      rw (never_true (ltb 0 r.tick && not (scheduling_instant g r r.previous))
      (λ k. let w = (and_reads (lt_reads 0 r.tick) (not_reads (scheduling_instant g r r.previous))).0 k in clash (h w.0) w.1))
      (sym (choices.choice_lowest g r))

-- "Verdict from a consistent record .., H being its own tick: ended; met if finished at f ≤ arrival + D; late if finished later, or alive
-- with H ≥ arrival + D; open otherwise." And by how much: exactly n where it finished n ticks, one or more, after arrival + D; at least n
-- where it is alive n ticks, none or more, after it.
abbrev pub Judged : Given → Record → ℕ → Verdict → Type 0
Judged g r j verdicts.Ended = (e : ℕ) × (standing_at r j ≡ Ended e)
Judged g r j verdicts.Met = (f : ℕ) × (standing_at r j ≡ Finished f) × (f ≤ deadline_instant g.lists j)
Judged g r j (verdicts.Late n true) = (standing_at r j ≡ Finished (deadline_instant g.lists j + n)) × (0 < n)
Judged g r j (verdicts.Late n false) = (alive r j ≡ true) × (r.tick ≡ deadline_instant g.lists j + n)
Judged g r j verdicts.Open = (standing_at r j ≡ NotArrived) ⊎ ((alive r j ≡ true) × (r.tick < deadline_instant g.lists j))

pub verdict_reads : (g : Given) (r : Record) (j : ℕ) (v : Verdict) → verdict g.lists r j ≡ v ↔ Judged g r j v
unfolding verdict
verdict_reads g r j v = (λ e. subst J e (holds (standing_at r j) refl), back v)
  where
    J : Verdict → Type 0
    J x = Judged g r j x

    D : ℕ
    D = deadline_instant g.lists j

    holds : (s : Standing) → standing_at r j ≡ s → J (judged D r.tick s)
    holds (Ended e) q = (e, q)
    holds (Finished f) q =
        by_cond J (leb f D) verdicts.Met (verdicts.Late (f - D) true) (λ h. (f, q, leb-true f D h))
        (λ h. let l = leb-false f D h in (q ∙ ap Finished (omega arith), omega arith))
    holds Unfinished q =
        let a = (alive_reads r j).1 q in
        by_cond J (leb D r.tick) (verdicts.Late (r.tick - D) false) verdicts.Open (λ h. let l = leb-true D r.tick h in (a, omega arith))
        (λ h. inr (a, leb-false D r.tick h))
    holds NotArrived q = inl q

    back : (v : Verdict) → J v → verdict g.lists r j ≡ v
    back verdicts.Ended w = rw w.1
    back verdicts.Met w = rw (w.1, le-leb w.0 D w.2)
    back (verdicts.Late n true) w =
        rw (w.0, lt-leb (D + n) D (omega (arith, w.1))) (ap (λ (m : ℕ). verdicts.Late m true) (omega arith))
    back (verdicts.Late n false) w =
        rw ((alive_reads r j).0 w.0, le-leb D r.tick (omega (arith, w.1))) (ap (λ (m : ℕ). verdicts.Late m false) (omega (arith, w.1)))
    back verdicts.Open (inl w) = rw w
    back verdicts.Open (inr w) = rw ((alive_reads r j).0 w.0, lt-leb D r.tick w.1)

-- A verdict is met, late, ended or open exactly where it is that in numbers.
pub is_met_reads : (v : Result Verdict Refusal) → verdict_is is_met v ≡ true ↔ verdict_said v ≡ say.met
unfolding verdict_said
is_met_reads (Err w) = (λ e. apart (cc), λ e. apart (cc))
is_met_reads (Ok verdicts.Met) = (λ e. refl, λ e. refl)
is_met_reads (Ok (verdicts.Late n is_exact)) = (λ e. apart (cc), λ e. apart (cc))
is_met_reads (Ok verdicts.Ended) = (λ e. apart (cc), λ e. apart (cc))
is_met_reads (Ok verdicts.Open) = (λ e. apart (cc), λ e. apart (cc))

pub is_late_reads : (v : Result Verdict Refusal) → verdict_is is_late v ≡ true ↔ ((n : ℕ) × (is_exact : Bool) × (verdict_said v ≡ say.late n is_exact))
unfolding verdict_said
is_late_reads (Err w) = (λ e. apart (cc), λ w. let e = w.2 in apart (cc))
is_late_reads (Ok verdicts.Met) = (λ e. apart (cc), λ w. let e = w.2 in apart (cc))
is_late_reads (Ok (verdicts.Late n is_exact)) = (λ e. (n, is_exact, refl), λ w. refl)
is_late_reads (Ok verdicts.Ended) = (λ e. apart (cc), λ w. let e = w.2 in apart (cc))
is_late_reads (Ok verdicts.Open) = (λ e. apart (cc), λ w. let e = w.2 in apart (cc))

pub is_ended_reads : (v : Result Verdict Refusal) → verdict_is is_ended v ≡ true ↔ verdict_said v ≡ say.ended
unfolding verdict_said
is_ended_reads (Err w) = (λ e. apart (cc), λ e. apart (cc))
is_ended_reads (Ok verdicts.Met) = (λ e. apart (cc), λ e. apart (cc))
is_ended_reads (Ok (verdicts.Late n is_exact)) = (λ e. apart (cc), λ e. apart (cc))
is_ended_reads (Ok verdicts.Ended) = (λ e. refl, λ e. refl)
is_ended_reads (Ok verdicts.Open) = (λ e. apart (cc), λ e. apart (cc))

pub is_open_reads : (v : Result Verdict Refusal) → verdict_is is_open v ≡ true ↔ verdict_said v ≡ say.still_open
unfolding verdict_said
is_open_reads (Err w) = (λ e. apart (cc), λ e. apart (cc))
is_open_reads (Ok verdicts.Met) = (λ e. apart (cc), λ e. apart (cc))
is_open_reads (Ok (verdicts.Late n is_exact)) = (λ e. apart (cc), λ e. apart (cc))
is_open_reads (Ok verdicts.Ended) = (λ e. apart (cc), λ e. apart (cc))
is_open_reads (Ok verdicts.Open) = (λ e. refl, λ e. refl)

-- "Missed means late or ended."
abbrev pub IsLate : Verdict → Type 0
IsLate v = (n : ℕ) × (is_exact : Bool) × (v ≡ verdicts.Late n is_exact)

pub missed_reads : (v : Verdict) → missed v ≡ true ↔ IsLate v ⊎ (v ≡ verdicts.Ended)
missed_reads v = (there v, ⊎_elim (λ e. rw e.2) (λ e. rw e))
  where
    there : (v : Verdict) → missed v ≡ true → IsLate v ⊎ (v ≡ verdicts.Ended)
    there verdicts.Met h = apart (cc)
    there (verdicts.Late n is_exact) h = inl (n, is_exact, refl)
    there verdicts.Ended h = inr refl
    there verdicts.Open h = apart (cc)

-- A miss of job j counts against a table "only where every job of a strictly more critical task than the named one keeps to its nominal
-- time C": within the assumption.
abbrev pub Within : Given → ℕ → Type 0
Within g j = EveryJob g (λ i. job_criticality g.lists j < job_criticality g.lists i → execution g.lists.jobs i ≤ job_nominal g.lists i)

-- Job i breaks the assumption: it is strictly more critical, and its c exceeds its C.
abbrev pub Breaks : Given → ℕ → ℕ → Type 0
Breaks g j i = (job_criticality g.lists j < job_criticality g.lists i) × (job_nominal g.lists i < execution g.lists.jobs i)

-- Outside it, "naming the first such job": the job i of the list breaks it, and no job of a lower number does.
pub record FirstOutside (g : Given) (j i : ℕ) : Type 0 where
  pub job : i < job_count g.lists.jobs
  pub more_critical_law : job_criticality g.lists j < job_criticality g.lists i
  pub exceeds : job_nominal g.lists i < execution g.lists.jobs i
  pub lowest : (k : ℕ) → k < i → job_criticality g.lists j < job_criticality g.lists k → execution g.lists.jobs k ≤ job_nominal g.lists k

module _ (g : Given) (j : ℕ) where
  breaks_reads : (i : ℕ) → breaks g.lists j i ≡ true ↔ Breaks g j i
  unfolding breaks
  breaks_reads i = and_reads (lt_reads _ _) (lt_reads _ _)

  keeps_reads : (i : ℕ) → breaks g.lists j i ≡ false
      ↔ (job_criticality g.lists j < job_criticality g.lists i → execution g.lists.jobs i ≤ job_nominal g.lists i)
  unfolding breaks
  keeps_reads i = Iff.trans (and_fails (lt_fails _ _)) (λ h m. h ((lt_reads _ _).1 m), λ h t. h ((lt_reads _ _).0 t))

  pub within_reads : is_outside g.lists j ≡ false ↔ Within g j
  unfolding is_outside some_job
  within_reads = none_reads _ keeps_reads

  pub outside_reads : (i : ℕ) → (is_outside g.lists j ≡ true) × (outsider g.lists j ≡ i) ↔ FirstOutside g j i
  unfolding is_outside some_job outsider
  outside_reads i = (there, back)
    where
      n : ℕ
      n = job_count g.lists.jobs

      there : (some n (breaks g.lists j) ≡ true) × (least n (breaks g.lists j) n ≡ i) → FirstOutside g j i
      there w =
          let l : i < n = omega (arith, w.1, (least_found (breaks g.lists j) n n w.0).0) in
          let f = (least_reads (breaks g.lists j) n n i l (omega arith)).0 w.1 in
          let b = (breaks_reads i).0 f.0 in
          record { job = l; more_critical_law = b.0; exceeds = b.1; lowest = λ k m. (keeps_reads k).0 (f.1 k m) }

      back : FirstOutside g j i → (some n (breaks g.lists j) ≡ true) × (least n (breaks g.lists j) n ≡ i)
      back w =
          let b = (breaks_reads i).1 (w.more_critical_law, w.exceeds) in
          (some_true (breaks g.lists j) n i w.job b, (least_reads (breaks g.lists j) n n i w.job (omega arith)).1 (b, λ k m. (keeps_reads k).1 (w.lowest k m)))

-- for the proofs: against a job that has not missed no witness is accepted
pub spared : (x : Verdict) → missed x ≡ false → blamed x ≡ witnesses.NotMissed
spared verdicts.Met h = refl
spared (verdicts.Late by is_exact) h = apart (cc)
spared verdicts.Ended h = apart (cc)
spared verdicts.Open h = refl

-- "A witness is a claim with a job number. Answers, in order: not legal at t;" outside the assumption; "not missed; accepted."
abbrev pub Answered : Given → List ℕ → ℕ → Witness → Type 0
Answered g es j (witnesses.NotLegal t) = claim g es ≡ NotLegal t
Answered g es j (witnesses.Outside i) = (claim g es ≡ Legal) × FirstOutside g j i
Answered g es j witnesses.NotMissed = (claim g es ≡ Legal) × Within g j × (missed (verdict g.lists (replayed g es) j) ≡ false)
Answered g es j (witnesses.AcceptedLate n is_exact) = (claim g es ≡ Legal) × Within g j × (verdict g.lists (replayed g es) j ≡ verdicts.Late n is_exact)
Answered g es j witnesses.AcceptedEnded = (claim g es ≡ Legal) × Within g j × (verdict g.lists (replayed g es) j ≡ verdicts.Ended)

pub witness_reads : (g : Given) (es : List ℕ) (j : ℕ) (w : Witness) → witness g es j ≡ w ↔ Answered g es j w
unfolding witness claim
witness_reads g es j w = (λ e. subst (λ (x : Witness). Answered g es j x) e (holds (is_legal g es) refl (is_outside g.lists j) refl v refl), back w)
  where
    v : Verdict
    v = verdict g.lists (replayed g es) j

    n : ℕ
    n = legal_length g es

    first : ℕ
    first = outsider g.lists j

    holds : (l : Bool) → is_legal g es ≡ l → (o : Bool) → is_outside g.lists j ≡ o → (x : Verdict) → v ≡ x → Answered g es j (answered l n o first x)
    holds false q o p x k = rw q
    holds true q true p x k = (rw q, (outside_reads g j first).0 (p, refl))
    holds true q false p verdicts.Met k = (rw q, (within_reads g j).0 p, ap missed k)
    holds true q false p (verdicts.Late by is_exact) k = (rw q, (within_reads g j).0 p, k)
    holds true q false p verdicts.Ended k = (rw q, (within_reads g j).0 p, k)
    holds true q false p verdicts.Open k = (rw q, (within_reads g j).0 p, ap missed k)

    legal : claim g es ≡ Legal → is_legal g es ≡ true
    legal = by_cond (λ c. c ≡ Legal → is_legal g es ≡ true) (is_legal g es) Legal (NotLegal n) (λ q e. q) (λ q e. apart (cc))

    back : (w : Witness) → Answered g es j w → witness g es j ≡ w
    back (witnesses.NotLegal t) a =
        by_cond (λ c. c ≡ NotLegal t → answered (is_legal g es) n (is_outside g.lists j) first v ≡ witnesses.NotLegal t) (is_legal g es) Legal (NotLegal n) (λ q e. apart (cc))
        (λ q e. let same : n ≡ t = cc in rw q (ap witnesses.NotLegal same)) a
    back (witnesses.Outside i) a = let w = (outside_reads g j i).1 a.1 in rw (legal a.0, w.0) (ap witnesses.Outside w.1)
    back witnesses.NotMissed a = rw (legal a.0, (within_reads g j).1 a.1) (spared v a.2)
    back (witnesses.AcceptedLate by is_exact) a = rw (legal a.0, (within_reads g j).1 a.1, a.2)
    back witnesses.AcceptedEnded a = rw (legal a.0, (within_reads g j).1 a.1, a.2)
