-- The records that the code builds place by place are the document's: the fresh one, and the one advanced by a tick.
use Prim.Native.Nat.{◌+◌, ◌<◌, suc, ℕ, ◌≤◌}
use mathlib.Core.Bool.{Bool, cond, false, true}
use mathlib.Core.List.{List}
use mathlib.Core.Logic.{inl, inr, ◌⊎◌}
use mathlib.Core.Path.{ap, ap₂, refl, sym, ◌∙◌, ◌≡◌}
use native.Mathlib.Numerals.{add-one}
use native.Mathlib.Omega.{arith}
use lib.Dec.{eqb, leb, ltb}
use lib.ListN.{get_or, length, length-replicate, replicate}
use borrow.Author.Tests.{le-leb, le-ltb, lt-leb, lt-ltb, ltb-false, ltb-true}
use Rattle.bits.specs.Below.{bit, list_from}
use Rattle.bits.proofs.Laws.Arrays.{Written, written_all, written_none}
use Rattle.bits.proofs.Laws.Below.{list_same}
use Rattle.zsrm.specs.declared.next.Ticked.{Ticked}
use Rattle.zsrm.specs.declared.record.Place.{Place}
use Rattle.zsrm.specs.declared.record.Record.{Record}
use Rattle.zsrm.specs.declared.record.Standing.{Standing}
use Rattle.zsrm.specs.declared.record.Standing.TheVariants.{Ended, Finished, NotArrived, Unfinished}
use Rattle.zsrm.specs.Code.Gathered.{arrival_in, execution_in}
use Rattle.zsrm.specs.Code.Next.{next_at, next_place, next_record, next_standing}
use Rattle.zsrm.specs.Code.Underway.{next_at_in, next_in}
use Rattle.zsrm.specs.Code.Leap.{leapt}
use Rattle.zsrm.specs.Code.View.{ticked}
use Rattle.zsrm.specs.Record.{arrived, arriving, blank, consistent, done_at, empty, fresh, fresh_place, opening, place_at, standing_at, suspended_at, waited_at}
use Rattle.zsrm.specs.Given.{Given}
use Rattle.tables.specs.Tables.{arrival, execution, idle, job_count}
use Rattle.zsrm.specs.Tick.{advanced, alive, candidate_or_idle, ended_word, ends, finishes, goes_on, is_unfinished, suspended, waits}
use Rattle.zsrm.specs.Tick.{done_after, place_after, standing_after, suspended_after, waited_after}
use Rattle.zsrm.proofs.Laws.Consistent.{beyond_waits}
use Rattle.zsrm.proofs.Laws.View.{job_word_bit}
use Rattle.zsrm.proofs.Laws.Tick.{none_raised}
use Rattle.bits.proofs.Laws.Bools.{and_false_right, by_cond, either}

-- a record is its tick, its previous entry and its places
pub same_record : (r s : Record) → r.tick ≡ s.tick → r.previous ≡ s.previous → r.places ≡ s.places → r ≡ s
same_record r s t e p =
    ap₂ (λ (t e : ℕ). let x : Record = record { tick = t; previous = e; places = r.places } in x) t e
    ∙ ap (λ (l : List Place). let x : Record = record { tick = s.tick; previous = s.previous; places = l } in x) p

-- a place is its three numbers and its standing
pub same_place : (p q : Place) → p.done ≡ q.done → p.suspended ≡ q.suspended → p.waited ≡ q.waited → p.standing ≡ q.standing → p ≡ q
same_place p q d s w t =
    ap₂ (λ (d s : ℕ). let x : Place = record { done = d; suspended = s; waited = p.waited; standing = p.standing } in x) d s
    ∙ ap₂ (λ (w : ℕ) (t : Standing). let x : Place = record { done = q.done; suspended = q.suspended; waited = w; standing = t } in x) w t

pub fresh_begun : (jobs : List ℕ) (out : Record) → out ≡ blank → (out.tick ≡ 0) × (out.previous ≡ idle) × Written empty (fresh_place jobs) blank.places out.places 64 0
unfolding blank
fresh_begun jobs out e =
    (ap (λ (r : Record). r.tick) e, ap (λ (r : Record). r.previous) e, rw e (written_none empty (fresh_place jobs) (replicate 64 empty) 64 (length-replicate 64 empty)))

pub fresh_made : (jobs : List ℕ) (out : Record) (j : ℕ) → out.tick ≡ 0 → out.previous ≡ idle → Written empty (fresh_place jobs) blank.places out.places 64 j → 64 ≤ j → out ≡ fresh jobs
unfolding fresh
fresh_made jobs out j t e w m =
    same_record out (record { tick = 0; previous = idle; places = list_from 0 64 (fresh_place jobs) }) t e
    (written_all empty (fresh_place jobs) blank.places out.places 64 j w (λ k a b. absurd (omega arith)))

-- the places as the loop has made them so far: those of the jobs below j are the next ones
abbrev pub MadeUpTo : List ℕ → ℕ → ℕ → Record → ℕ → Ticked → Record → ℕ → Type 0
MadeUpTo g first last r k d out j = (out.tick ≡ r.tick + k) × Written empty (next_at_in g first last r k d) r.places out.places 64 j

module _ (g : List ℕ) (first last : ℕ) (r : Record) (k : ℕ) (d : Ticked) where
  -- below the first they stay
  pub made_first : length r.places ≡ 64 → Written empty (next_at_in g first last r k d) r.places r.places 64 first
  unfolding next_at_in place_at
  made_first e = record { size = e; each = λ j l. go j (either (ltb j first)) }
    where
      go : (j : ℕ) → (ltb j first ≡ true) ⊎ (ltb j first ≡ false) → get_or r.places j empty ≡ cond (ltb j first) (next_at_in g first last r k d j) (get_or r.places j empty)
      go j (inl a) = rw (a, lt-leb first j (ltb-true j first a))
      go j (inr a) = rw a

  -- the place of job j is as it was until it is written
  pub made_held : (out : Record) (j : ℕ) → MadeUpTo g first last r k d out j → j < 64 → place_at out j ≡ place_at r j
  unfolding place_at
  made_held out j w l = w.1.each j l ∙ rw (le-ltb j j (omega arith))

  -- the next place of job j
  pub next_at_law : (j : ℕ) (p v : Place) (a c : ℕ) → first ≤ j → j < last → p ≡ place_at r j → a ≡ arrival_in g j → c ≡ execution_in g j
      → v ≡ next_place r.tick k d j a c p → v ≡ next_at_in g first last r k d j
  unfolding next_at_in
  next_at_law j p v a c m l qp qa qc qv =
      qv ∙ ap (λ (q : Place). next_place r.tick k d j a c q) qp ∙ ap₂ (λ (x y : ℕ). next_place r.tick k d j x y (place_at r j)) qa qc
      ∙ rw (le-leb first j m, lt-ltb j last l)

  pub next_made : (out : Record) (j : ℕ) → MadeUpTo g first last r k d out j → last ≤ j
      → ◌≡◌ {A = Record} (record { tick = out.tick; previous = d.entry; places = out.places }) (next_in g first last r k d)
  unfolding next_in next_at_in place_at
  next_made out j w m =
      same_record (record { tick = out.tick; previous = d.entry; places = out.places })
      (record { tick = r.tick + k; previous = d.entry; places = list_from 0 64 (next_at_in g first last r k d) }) w.0 refl
      (written_all empty (next_at_in g first last r k d) r.places out.places 64 j w.1
      (λ i a b. rw (and_false_right (leb first i) (le-ltb i last (omega arith)))))

-- a job is suspended for no more ticks than pass, but for the one in which it is ended
pub held_most : (b : Bool) (k : ℕ) → k ≤ 16384 → cond b 1 k ≤ 16384
held_most true k l = omega arith
held_most false k l = l

pub more_most : (b : Bool) (k m : ℕ) → k ≤ m → cond b k 0 ≤ m
more_most true k m l = l
more_most false k m l = omega arith

-- in one tick a job that is suspended is so for one tick, whether it is ended or not
pub one_suspended : (b : Bool) → ◌≡◌ {A = ℕ} (cond b 1 1) 1
one_suspended true = refl
one_suspended false = refl

-- the record after a tick whose entry may run is the one that document 01 advances to
module _ (g : Given) (r : Record) (e : ℕ) (few : job_count g.lists.jobs ≤ 64) (sound : consistent g r ≡ true) (may : candidate_or_idle g r e ≡ true) where
  -- the place of a job
  job_next : (j : ℕ) → j < job_count g.lists.jobs
      → next_place r.tick 1 (ticked g r e) j (arrival g.lists.jobs j) (execution g.lists.jobs j) (place_at r j) ≡ place_after g r e j
  unfolding place_after done_after suspended_after waited_after standing_after goes_on finishes opening arriving arrived done_at suspended_at waited_at standing_at ended_word
  job_next j l =
      same_place (next_place r.tick 1 (ticked g r e) j (arrival g.lists.jobs j) (execution g.lists.jobs j) (place_at r j)) (place_after g r e j) refl
      (ap₂ (λ (b : Bool) (n : ℕ). suspended_at r j + cond b n 0) (job_word_bit g.lists.jobs (suspended g r) j few l) (one_suspended (bit (ended_word g r e) j)))
      (ap (λ (b : Bool). waited_at r j + cond b 1 0) (job_word_bit g.lists.jobs (waits g r e) j few l))
      (go (standing_at r j) (lt-ltb j (job_count g.lists.jobs) l) (job_word_bit g.lists.jobs (ends g r e) j few l))
    where
      go : (s : Standing) → ltb j (job_count g.lists.jobs) ≡ true → bit (ended_word g r e) j ≡ ends g r e j
          → next_standing r.tick 1 (eqb e j) (bit (ended_word g r e) j) (arrival g.lists.jobs j) (execution g.lists.jobs j) (done_at r j + cond (eqb e j) 1 0) s
          ≡ standing_after g r e j s
      go NotArrived q w = rw (q, add-one)
      go Unfinished q w = rw (w, add-one)
      go (Finished f) q w = refl
      go (Ended t) q w = refl

  -- a place beyond the jobs stays: nothing there is alive, so nothing there runs
  pub beyond_next : (j : ℕ) → job_count g.lists.jobs ≤ j → j < 64 → place_at r j ≡ place_after g r e j
  unfolding place_after standing_after opening arrived alive standing_at done_at suspended_at waited_at
  beyond_next j m l =
      let away = beyond_waits g r sound j m l in
      let none = none_raised g r e may j l (ap is_unfinished away) in
      same_place (place_at r j) (place_after g r e j) (omega (arith, none.done_by_law)) (omega (arith, none.suspended_by)) (omega (arith, none.waited_by))
      (away ∙ sym (ap (standing_after g r e j) away ∙ rw (le-ltb j (job_count g.lists.jobs) m)))

  -- a leap by one is a tick
  pub leap_one : leapt g r e 1 ≡ advanced g r e
  unfolding leapt next_record next_at advanced
  leap_one =
      same_record _ (record { tick = suc r.tick; previous = e; places = list_from 0 64 (place_after g r e) }) (add-one r.tick) refl
      (list_same 64 (next_at g.lists.jobs r 1 (ticked g r e)) (place_after g r e) (λ j l.
      by_cond (λ p. p ≡ place_after g r e j) (ltb j (job_count g.lists.jobs)) _ _ (λ q. job_next j (ltb-true _ _ q)) (λ q. beyond_next j (ltb-false _ _ q) l)))
