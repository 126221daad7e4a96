-- The code's tests of a claim's entry are document 01's, and a replay that goes on with legal entries.
use Prim.Native.Nat.{◌+◌, ◌<◌, suc, ℕ, ◌≤◌}
use mathlib.Core.Bool.{◌&&◌, Bool, false, not, true, ◌||◌, cond}
use mathlib.Core.List.{List, [], ◌∷◌}
use mathlib.Core.Logic.{inl, inr, ◌⊎◌}
use mathlib.Core.Path.{ap, ap₂, sym, ◌∙◌, ◌≡◌}
use native.Mathlib.Omega.{arith}
use lib.Dec.{eqb, ltb}
use lib.ListN.{drop, drop_of_length-le, get_or, length}
use lib.Seq.{drop-cons}
use borrow.Author.Tests.{eq-eqb, eqb-true, ltb-true, ne_eqb, not-true}
use Rattle.bits.specs.Below.{bit, greatest, some, word}
use Rattle.bits.proofs.Laws.Below.{some_found}
use Rattle.bits.proofs.Laws.Bools.{and_left, clash, either, never_true, not_of, same_test}
use Rattle.bits.proofs.Laws.Word.{bit_above, bit_word, word_none}
use Rattle.std.specs.Prelude.{Result, Ok}
use Rattle.tables.specs.declared.answers.Refusal.{Refusal}
use Rattle.tables.specs.Outcomes.{Done, Refused}
use Rattle.zsrm.specs.declared.answers.Claim.{Claim}
use Rattle.zsrm.specs.declared.answers.Claim.TheVariants.{Legal, NotLegal}
use Rattle.zsrm.specs.declared.answers.Replayed.{Replayed}
use Rattle.zsrm.specs.declared.claims.Walked.{Walked}
use Rattle.zsrm.specs.declared.record.Record.{Record}
use Rattle.zsrm.specs.declared.look.View.{View}
use Rattle.zsrm.specs.Answers.{claim_answer, if_legal, replay_answer}
use Rattle.zsrm.specs.Given.{is_se, Given}
use Rattle.zsrm.specs.Code.Claims.{WalkedAs, top_or_idle, instant_at}
use Rattle.tables.specs.Tables.{idle, job_count, job_priority, Lists}
use Rattle.zsrm.specs.Legal.{legal_entry, scheduling_instant, instant_by, legal_from, legal_length, claim, is_legal}
use Rattle.zsrm.specs.Record.{blank, consistent, done_at, fresh, place_at, standing_at}
use Rattle.tables.specs.Refusals.{check_lists, check_schedule}
use Rattle.zsrm.specs.Run.{record_at, record_before, replay, replayed}
use Rattle.zsrm.specs.Tick.{candidate, candidate_or_idle, eligible, ready_at, ready_word, some_job}
use Rattle.zsrm.specs.Code.View.{has_priority, view}
use Rattle.zsrm.proofs.Laws.Consistent.{fresh_consistent}
use Rattle.zsrm.proofs.Laws.Places.{previous_fresh, tick_fresh}
use Rattle.zsrm.proofs.Laws.Ready.{ready_of}
use Rattle.zsrm.proofs.Laws.Tick.{candidate_eligible, some_candidate}
use Rattle.zsrm.proofs.Laws.View.{candidate_view, seen}
use Rattle.zsrm.proofs.Laws.Replay.{legal_stops, replayed_is}
use Rattle.tables.proofs.Laws.Accepted.{bounded, lists_few}
use Rattle.tables.proofs.Laws.Refusals.{unless_done, unless_refused}

-- the reasons for a scheduling instant, place by place
abbrev pub instant_in : Lists → Bool → ℕ → Record → ℕ → Bool
instant_in l se last r j = instant_at l se last r.tick j (place_at r j)

pub instant_by_law : (g : Given) (se : Bool) (last : ℕ) (r : Record) (n : ℕ) → se ≡ is_se g.mode → n ≡ job_count g.lists.jobs
    → some n (instant_in g.lists se last r) ≡ scheduling_instant g r last
unfolding scheduling_instant some_job instant_by instant_at standing_at done_at
instant_by_law g se last r n p q = ap₂ (λ (k : ℕ) (b : Bool). some k (instant_in g.lists b last r)) q p

-- an entry may run, by the view
module _ (g : Given) (r : Record) (few : job_count g.lists.jobs ≤ 64) (fit : (j : ℕ) → j < job_count g.lists.jobs → job_priority g.lists j < 64) where
  -- no job is a candidate exactly where no priority is ready
  none_ready : not (some_job g.lists.jobs (candidate g r)) ≡ eqb (ready_word g r) 0
  unfolding some_job ready_word ready_at
  none_ready = same_test _ _ there back
    where
      n : ℕ
      n = job_count g.lists.jobs

      there : not (some n (candidate g r)) ≡ true → eqb (word 64 (ready_at g r)) 0 ≡ true
      there h =
          eq-eqb (word 64 (ready_at g r)) 0
          (word_none (ready_at g r) 64 (λ p _. never_true (ready_at g r p) (λ s.
          let w = some_found (λ j. eligible g r j && eqb (job_priority g.lists j) p) n s in
          clash (some_candidate g r w.0 w.1 (and_left (eligible g r w.0) _ w.2)) (not-true (some n (candidate g r)) h))))

      back : eqb (word 64 (ready_at g r)) 0 ≡ true → not (some n (candidate g r)) ≡ true
      back h =
          not_of (never_true (some n (candidate g r)) (λ s.
          let w = some_found (candidate g r) n s in
          let e = candidate_eligible g r w.0 w.2 in
          let z = eqb-true (word 64 (ready_at g r)) 0 h in
          clash (ready_of g r w.0 w.1 e)
          (sym (bit_word (ready_at g r) 64 (job_priority g.lists w.0) (fit w.0 w.1)) ∙ ap (λ (x : ℕ). bit x (job_priority g.lists w.0)) z
          ∙ bit_above 0 0 (job_priority g.lists w.0) (omega arith) (omega arith))))

  pub top_or_idle_law : (e : ℕ) → top_or_idle g.lists (view g.lists r) e ≡ candidate_or_idle g r e
  unfolding top_or_idle candidate_or_idle has_priority ready_word
  top_or_idle_law e =
      ap₂ (λ (a b : Bool). a || (eqb e idle && b)) (named (either (ltb e (job_count g.lists.jobs))))
      (ap (λ (w : ℕ). eqb w 0) (seen g r few).ready ∙ sym none_ready)
    where
      named : (ltb e (job_count g.lists.jobs) ≡ true) ⊎ (ltb e (job_count g.lists.jobs) ≡ false)
          → (ltb e (job_count g.lists.jobs) && (bit (view g.lists r).eligible e && eqb (job_priority g.lists e) (greatest 64 (bit (view g.lists r).ready) 64)))
          ≡ (ltb e (job_count g.lists.jobs) && candidate g r e)
      named (inl l) =
          ap (λ (x : Bool). ltb e (job_count g.lists.jobs) && x) (candidate_view g r few fit e (ltb-true e (job_count g.lists.jobs) l))
      named (inr l) = rw l

-- on accepted lists, by the view that the code has
pub seen_may : (g : Given) → check_lists g.lists ≡ Done → (r : Record) (v : View) (e : ℕ) (b : Bool) → v ≡ view g.lists r → b ≡ top_or_idle g.lists v e
    → b ≡ candidate_or_idle g r e
seen_may g ok r v e b p q =
    q ∙ ap (λ (x : View). top_or_idle g.lists x e) p
    ∙ top_or_idle_law g r (lists_few g.lists ok) (λ j l. let w = bounded g.lists ok j l in omega arith) e

-- a replay that has come to tick t, all entries before it being legal; the entry before it is the one that the record keeps
pub record Replaying (g : Given) (schedule : List ℕ) (r : Record) (t : ℕ) : Type 0 where
  pub legal : legal_length g schedule ≡ t + legal_from g r r.previous (drop t schedule)
  pub here : r ≡ record_before g schedule t
  pub sound : consistent g r ≡ true
  pub time : r.tick ≡ t

module _ (g : Given) (schedule : List ℕ) where
  pub replaying_none : (r : Record) → r ≡ fresh g.lists.jobs → Replaying g schedule r 0
  unfolding legal_length record_before record_at replay
  replaying_none r q =
      record { legal = rw (q, previous_fresh g.lists.jobs) (omega arith); here = q; sound = rw q (fresh_consistent g); time = rw q (tick_fresh g.lists.jobs) }

  -- the entry at t, and those behind it
  at : (t e : ℕ) → t < length schedule → e ≡ get_or schedule t 0 → drop t schedule ≡ e ∷ drop (suc t) schedule
  at t e b q = drop-cons schedule t 0 b ∙ ap (λ (x : ℕ). x ∷ drop (suc t) schedule) (sym q)

  -- it stops at an entry that is not legal, or at the end
  pub replaying_stops : (r : Record) (t e : ℕ) → Replaying g schedule r t → t < length schedule → e ≡ get_or schedule t 0 → legal_entry g r r.previous e ≡ false
      → WalkedAs g schedule (record { ticks = t; «record» = r })
  replaying_stops r t e w b q h =
      let none : legal_from g r r.previous (drop t schedule) ≡ 0 =
      ap (legal_from g r r.previous) (at t e b q) ∙ legal_stops g r r.previous e (drop (suc t) schedule) h in
      let all : t ≡ legal_length g schedule = omega (arith, w.legal, none) in
      record { ticks = all; here = w.here ∙ ap (record_before g schedule) all }

  pub replaying_ends : (r : Record) (t : ℕ) → Replaying g schedule r t → length schedule ≤ t → WalkedAs g schedule (record { ticks = t; «record» = r })
  unfolding legal_from
  replaying_ends r t w b =
      let none : drop t schedule ≡ [] = drop_of_length-le schedule b in
      let all : t ≡ legal_length g schedule = omega (arith, w.legal, ap (legal_from g r r.previous) none) in
      record { ticks = all; here = w.here ∙ ap (record_before g schedule) all }

-- where all entries are legal, the record is the one at the end
pub replayed_whole : (g : Given) (schedule : List ℕ) (x : Walked) → WalkedAs g schedule x → legal_length g schedule ≡ length schedule → x.«record» ≡ replayed g schedule
replayed_whole g schedule x p all = p.here ∙ replayed_is g schedule (legal_length g schedule) (sym all)

-- what a replay's count answers to a claim
pub claim_answer_law : (g : Given) (schedule : List ℕ) (x : Walked) → WalkedAs g schedule x
    → cond (eqb x.ticks (length schedule)) Legal (NotLegal x.ticks) ≡ claim g schedule
unfolding claim is_legal
claim_answer_law g schedule x p = ap (λ (n : ℕ). cond (eqb n (length schedule)) Legal (NotLegal n)) p.ticks

-- what the code answers to a schedule that is to be replayed: the claim and the record that goes with it
module _ (g : Given) (horizon : ℕ) (schedule : List ℕ) where
  replay_made : (c : Result Claim Refusal) (r : Record) → c ≡ claim_answer g horizon schedule → r ≡ if_legal c (replayed g schedule)
      → ◌≡◌ {A = Replayed} (record { claim = c; «record» = r }) (replay_answer g horizon schedule)
  unfolding replay_answer
  replay_made c r p q =
      ap₂ (λ (x : Result Claim Refusal) (y : Record). let z : Replayed = record { claim = x; «record» = y } in z) p (q ∙ ap (λ (x : Result Claim Refusal). if_legal x (replayed g schedule)) p)

  module _ (x : Walked) (w : WalkedAs g schedule x) (ok : check_schedule g.lists horizon (length schedule) ≡ Done) where
    found : Ok (cond (eqb x.ticks (length schedule)) Legal (NotLegal x.ticks)) ≡ claim_answer g horizon schedule
    unfolding claim_answer
    found = ap (λ (c : Claim). Ok c) (claim_answer_law g schedule x w) ∙ sym (unless_done _ _ _ ok)

    pub replay_legal : x.ticks ≡ length schedule → ◌≡◌ {A = Replayed} (record { claim = Ok Legal; «record» = x.«record» }) (replay_answer g horizon schedule)
    replay_legal all = replay_made (Ok Legal) x.«record» (rw (eq-eqb _ _ all) at found) (replayed_whole g schedule x w (sym w.ticks ∙ all))

    pub replay_illegal : (r : Record) → (x.ticks ≡ length schedule → ⊥) → r ≡ blank
        → ◌≡◌ {A = Replayed} (record { claim = Ok (NotLegal x.ticks); «record» = r }) (replay_answer g horizon schedule)
    replay_illegal r some q = replay_made (Ok (NotLegal x.ticks)) r (rw (ne_eqb _ _ some) at found) q

  pub replay_refused : (number place : ℕ) (r : Record) → check_schedule g.lists horizon (length schedule) ≡ Refused number place → r ≡ blank
      → ◌≡◌ {A = Replayed} (record { claim = Refused number place; «record» = r }) (replay_answer g horizon schedule)
  unfolding claim_answer
  replay_refused number place r e q = replay_made (Refused number place) r (sym (unless_refused _ _ _ _ _ e)) q
