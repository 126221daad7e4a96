-- What consistency says, place by place: the one statement of it. The fresh record is consistent, and a legal entry keeps a record so; so
-- every record of a legal schedule is.
use Prim.Native.Nat.{◌+◌, ◌<◌, suc, ℕ, ◌≤◌}
use mathlib.Core.Bool.{false, true}
use mathlib.Core.List.{List}
use mathlib.Core.Path.{ap, refl, subst, sym, ◌∙◌, ◌≡◌}
use mathlib.Core.Logic.Iff
use mathlib.Core.Logic.{inl, inr, ◌↔◌, ◌≢◌, ◌⊎◌, ⊎_elim}
use native.Mathlib.Decide.{ℕ_discrete}
use native.Mathlib.Omega.{arith}
use lib.ListN.{length}
use Rattle.bits.proofs.Laws.Bools.{clash, passed, passes, and_true, not_of, apart}
use Rattle.zsrm.specs.declared.record.Place.{Place}
use Rattle.zsrm.specs.declared.record.Record.{Record}
use Rattle.zsrm.specs.declared.record.Standing.{Standing}
use Rattle.zsrm.specs.declared.record.Standing.TheVariants.{Ended, Finished, NotArrived, Unfinished}
use Rattle.zsrm.specs.Record.{accounted, arrived, consistent, done_at, fresh, fresh_place, opening, place_at, sound_at, sound_place, sound_previous, spent, standing_at, suspended_at, waited_at}
use Rattle.zsrm.specs.Run.{record_before, replayed}
use Rattle.zsrm.specs.Given.{is_se, Given}
use Rattle.tables.specs.Tables.{arrival, execution, idle, job_count}
use Rattle.zsrm.specs.Tick.{advanced, alive, candidate_or_idle, done_after, finishes, place_after, standing_after, is_unfinished}
use Rattle.zsrm.proofs.Laws.Places.{done_advanced, done_fresh, place_advanced, place_fresh, previous_advanced, previous_fresh}
use Rattle.zsrm.proofs.Laws.Places.{standing_advanced, standing_fresh, tick_advanced, tick_fresh, away_reads, opening_cases}
use Rattle.bits.proofs.Readings.{and_reads, eq_reads, every_reads, le_reads, lt_reads, or_reads}
use Rattle.zsrm.proofs.Laws.Tick.{done_dead, done_idle, done_most, ends_by, goes_on_cases, none_raised, one_raised, runs_or_idle, se_reads, finishing, is_se_law}
use Rattle.zsrm.proofs.Laws.Replay.{AllLegal, kept_at, legal_may, replayed_is}
use Rattle.zsrm.specs.declared.mode.Mode.TheVariants.{S, SE}

-- "It is consistent when", of the place j at tick t, by its standing
module _ (g : Given) (t j done : ℕ) where
  -- "done ≤ t − arrival for arrived jobs": the place is a job's, and its arrival does not exceed t
  pub record Here : Type 0 where
    pub job : j < job_count g.lists.jobs
    pub room : arrival g.lists.jobs j + done ≤ t

  -- "places beyond the job list are not arrived with 0 done; a job is not arrived exactly when its arrival exceeds t, and then has 0 done"
  pub record Waiting : Type 0 where
    pub away : j < job_count g.lists.jobs → t < arrival g.lists.jobs j
    pub none : done ≡ 0

  -- "an unfinished or ended job has done < c"
  pub record Running : Type 0 where
    pub here : Here
    pub short : done < execution g.lists.jobs j

  -- "a finished one done = c"; "a finishing instant lies from arrival + c to t"
  pub record Complete (f : ℕ) : Type 0 where
    pub here : Here
    pub whole : done ≡ execution g.lists.jobs j
    pub after : arrival g.lists.jobs j + execution g.lists.jobs j ≤ f
    pub by : f ≤ t

  -- "an ending tick from arrival to t − 1; in mode S nothing is ended"
  pub record Stopped (e : ℕ) : Type 0 where
    pub here : Here
    pub short : done < execution g.lists.jobs j
    pub after : arrival g.lists.jobs j ≤ e
    pub by : e < t
    pub se : g.mode ≡ SE

  abbrev pub Sound : Standing → Type 0
  Sound NotArrived = Waiting
  Sound Unfinished = Running
  Sound (Finished f) = Complete f
  Sound (Ended e) = Stopped e

  -- as it is tested
  abbrev Tested : Standing → Type 0
  Tested s = sound_place (is_se g.mode) (arrived g.lists.jobs t j) (arrival g.lists.jobs j) (execution g.lists.jobs j) t done s ≡ true

  sound_reads : (s : Standing) → Tested s ↔ Sound s
  unfolding arrived
  sound_reads s = (there s, back s)
    where
      there : (s : Standing) → Tested s → Sound s
      there NotArrived h = record { away = (away_reads g.lists.jobs t j).0 (search passed); none = search passed }
      there Unfinished h = search passed depth 9
      there (Finished f) h = search passed depth 9
      there (Ended e) h = search (passed, is_se_law) depth 9

      since : Here → arrival g.lists.jobs j ≤ t
      since w = omega arith

      back : (s : Standing) → Sound s → Tested s
      back NotArrived w = and_true (not_of ((away_reads g.lists.jobs t j).1 w.away)) (search passes)
      back Unfinished w = let a = since w.here in search passes
      back (Finished f) w = let a = since w.here in search passes depth 7
      back (Ended e) w = let a = since w.here in let s = (se_reads g.mode).1 w.se in search passes depth 9

-- "For an arrived job, done plus both is t, the finishing instant, or the ending tick plus 1, minus the arrival. Before arrival both are 0."
abbrev pub Accounted : ℕ → ℕ → Place → Standing → Type 0
Accounted a t p NotArrived = (p.suspended ≡ 0) × (p.waited ≡ 0)
Accounted a t p Unfinished = a + spent p ≡ t
Accounted a t p (Finished f) = a + spent p ≡ f
Accounted a t p (Ended e) = a + spent p ≡ e + 1

accounted_reads : (a t : ℕ) (p : Place) (s : Standing) → accounted a t p s ≡ true ↔ Accounted a t p s
accounted_reads a t p NotArrived = and_reads (eq_reads _ _) (eq_reads _ _)
accounted_reads a t p Unfinished = eq_reads _ _
accounted_reads a t p (Finished f) = eq_reads _ _
accounted_reads a t p (Ended e) = eq_reads _ _

-- "The record keeps the previous entry, which must be idle at tick 0, later idle or a job in the list."
abbrev pub Previous : List ℕ → ℕ → ℕ → Type 0
Previous jobs t e = (e ≡ idle) ⊎ ((0 < t) × (e < job_count jobs))

previous_reads : (jobs : List ℕ) (t e : ℕ) → sound_previous jobs t e ≡ true ↔ Previous jobs t e
unfolding sound_previous
previous_reads jobs t e = or_reads (eq_reads _ _) (and_reads (lt_reads _ _) (lt_reads _ _))

-- and: "t ≤ 16,384"
pub record Consistent (g : Given) (r : Record) : Type 0 where
  pub tick_most : r.tick ≤ 16384
  pub previous : Previous g.lists.jobs r.tick r.previous
  pub places : (j : ℕ) → j < 64 → Sound g r.tick j (done_at r j) (standing_at r j)
  pub accounts : (j : ℕ) → j < 64 → Accounted (arrival g.lists.jobs j) r.tick (place_at r j) (standing_at r j)

pub consistency : (g : Given) (r : Record) → consistent g r ≡ true ↔ Consistent g r
unfolding consistent sound_at
consistency g r =
    Iff.trans (and_reads (and_reads (le_reads _ _) (previous_reads g.lists.jobs r.tick r.previous)) (every_reads 64 (λ j.
    and_reads (sound_reads g r.tick j (done_at r j) (standing_at r j)) (accounted_reads (arrival g.lists.jobs j) r.tick (place_at r j) (standing_at r j)))))
    (λ w. record { tick_most = w.0.0; previous = w.0.1; places = λ j l. (w.1 j l).0; accounts = λ j l. (w.1 j l).1 }, λ w. ((w.tick_most, w.previous), λ j l. (w.places j l, w.accounts j l)))

-- a place where nothing has run is sound with nothing done
opening_sound : (g : Given) (t j done : ℕ) → done ≡ 0 → Sound g t j done (opening g.lists.jobs t j)
opening_sound g t j done z =
    opening_cases g.lists.jobs t j (Sound g t j done)
    (λ l a c. record { here = record { job = l; room = omega arith }; whole = omega arith; after = omega arith; by = a })
    (λ l a c. record { here = record { job = l; room = omega arith }; short = omega arith })
    (λ w. record { away = w; none = z })

-- and accounted for, if its job has not arrived before
opening_accounted : (g : Given) (t j : ℕ) (p : Place) → (j < job_count g.lists.jobs → t ≤ arrival g.lists.jobs j) → p.done ≡ 0 → p.suspended ≡ 0 → p.waited ≡ 0
    → Accounted (arrival g.lists.jobs j) t p (opening g.lists.jobs t j)
opening_accounted g t j p h d s w =
    opening_cases g.lists.jobs t j (Accounted (arrival g.lists.jobs j) t p) (λ l a c. omega arith) (λ l a c. omega (arith, h l)) (λ _. (s, w))

pub fresh_consistent : (g : Given) → consistent g (fresh g.lists.jobs) ≡ true
unfolding fresh_place
fresh_consistent g =
    (consistency g (fresh g.lists.jobs)).1
    (record {
      tick_most = rw tick_fresh (omega arith);
      previous = inl (previous_fresh g.lists.jobs);
      places = λ j l. rw (done_fresh, standing_fresh, tick_fresh) (opening_sound g 0 j 0 refl);
      accounts = λ j l. rw (standing_fresh, place_fresh, tick_fresh) (opening_accounted g 0 j (fresh_place g.lists.jobs j) (λ _. omega arith) refl refl refl);
    })

-- from a sound place to a sound place
module _ (g : Given) (r : Record) (e : ℕ) (may : candidate_or_idle g r e ≡ true) (j : ℕ) (l : j < 64) where
  stays_here : Here g r.tick j (done_at r j) → Here g (suc r.tick) j (done_after g r e j)
  stays_here w = record { job = w.job; room = omega (arith, done_most g r e j) }

  keeps_place : (s : Standing) → standing_at r j ≡ s → Sound g r.tick j (done_at r j) s
      → Sound g (suc r.tick) j (done_after g r e j) (standing_after g r e j s)
  unfolding standing_after alive
  keeps_place NotArrived q w = opening_sound g (suc r.tick) j (done_after g r e j) (done_dead g r e may j l (ap is_unfinished q) ∙ w.none)
  keeps_place Unfinished q w =
      let here = stays_here w.here in
      goes_on_cases g r e (Sound g (suc r.tick) j (done_after g r e j)) j
      (λ p f. record { here = here; whole = f; after = omega arith; by = omega arith })
      (λ x y. record { here = here; short = short x (ℕ_discrete e j); after = omega arith; by = omega arith; se = (ends_by g r e j y).1.se })
      (λ x y. record { here = here; short = short x (ℕ_discrete e j) })
    where
      short : finishes g r e j ≡ false → Dec (e ≡ j) → done_after g r e j < execution g.lists.jobs j
      short x (yes p) =
          let n : done_after g r e j ≢ execution g.lists.jobs j = λ f. clash ((finishing g r e j).1 (p, f)) x in
          omega (arith, w.short, done_most g r e j)
      short x (no p) = omega (arith, w.short, done_idle g r e j p)
  keeps_place (Finished f) q w =
      record { here = stays_here w.here; whole = done_dead g r e may j l (ap is_unfinished q) ∙ w.whole; after = w.after; by = omega arith }
  keeps_place (Ended x) q w =
      record {
        here = stays_here w.here;
        short = omega (arith, done_dead g r e may j l (ap is_unfinished q));
        after = w.after;
        by = omega arith;
        se = w.se;
      }

  -- from an accounted place to an accounted place: a job alive has spent one more tick, every other job none
  spent_on : j < job_count g.lists.jobs → alive r j ≡ true → spent (place_after g r e j) ≡ suc (spent (place_at r j))
  unfolding place_after done_at suspended_at waited_at
  spent_on k a =
      ⊎_elim (λ w. omega (arith, w.done_by_law, w.suspended_by, w.waited_by))
      (⊎_elim (λ w. omega (arith, w.done_by_law, w.suspended_by, w.waited_by)) (λ w. omega (arith, w.done_by_law, w.suspended_by, w.waited_by)))
      (one_raised g r e may j l k a)

  spent_same : alive r j ≡ false → spent (place_after g r e j) ≡ spent (place_at r j)
  unfolding place_after done_at suspended_at waited_at
  spent_same a = let w = none_raised g r e may j l a in omega (arith, w.done_by_law, w.suspended_by, w.waited_by)

  keeps_account : (s : Standing) → standing_at r j ≡ s → Sound g r.tick j (done_at r j) s
      → Accounted (arrival g.lists.jobs j) r.tick (place_at r j) s
      → Accounted (arrival g.lists.jobs j) (suc r.tick) (place_after g r e j) (standing_after g r e j s)
  unfolding standing_after alive place_after done_at suspended_at waited_at
  keeps_account NotArrived q w h =
      let z = none_raised g r e may j l (ap is_unfinished q) in
      opening_accounted g (suc r.tick) j (place_after g r e j) w.away (omega (arith, z.done_by_law, w.none)) (omega (arith, z.suspended_by, h.0)) (omega (arith, z.waited_by, h.1))
  keeps_account Unfinished q w h =
      let more = spent_on w.here.job (ap is_unfinished q) in
      goes_on_cases g r e (Accounted (arrival g.lists.jobs j) (suc r.tick) (place_after g r e j))
      j (λ p f. omega (arith, more, h)) (λ x y. omega (arith, more, h)) (λ x y. omega (arith, more, h))
  keeps_account (Finished f) q w h = omega (arith, spent_same (ap is_unfinished q), h)
  keeps_account (Ended x) q w h = omega (arith, spent_same (ap is_unfinished q), h)

pub advanced_consistent : (g : Given) (r : Record) (e : ℕ) → r.tick < 16384 → candidate_or_idle g r e ≡ true → consistent g r ≡ true
    → consistent g (advanced g r e) ≡ true
advanced_consistent g r e b may ok =
    (consistency g (advanced g r e)).1
    (record {
      tick_most = rw tick_advanced (omega arith);
      previous =
          ⊎_elim (λ c. inr (rw tick_advanced (omega arith), rw previous_advanced c.0)) (λ c. inl (previous_advanced g r e ∙ c.0))
          (runs_or_idle g r e may);
      places = λ j l.
          rw (done_advanced, standing_advanced, tick_advanced)
          (keeps_place g r e may j l (standing_at r j) refl (((consistency g r).0 ok).places j l));
      accounts = λ j l.
          rw (standing_advanced, place_advanced, tick_advanced)
          (keeps_account g r e may j l (standing_at r j) refl (((consistency g r).0 ok).places j l) (((consistency g r).0 ok).accounts j l));
    })

module _ (g : Given) (r : Record) (ok : consistent g r ≡ true) where
  -- the places of a consistent record are sound
  pub sound_at_law : (j : ℕ) → j < 64 → Sound g r.tick j (done_at r j) (standing_at r j)
  sound_at_law = ((consistency g r).0 ok).places

  pub consistent_tick : r.tick ≤ 16384
  consistent_tick = ((consistency g r).0 ok).tick_most

  -- and accounted for
  pub account_at : (j : ℕ) → j < 64 → Accounted (arrival g.lists.jobs j) r.tick (place_at r j) (standing_at r j)
  account_at = ((consistency g r).0 ok).accounts

  -- nothing spent exceeds the tick
  pub spent_tick : (j : ℕ) → j < 64 → spent (place_at r j) ≤ r.tick
  unfolding done_at
  spent_tick j l = go (standing_at r j) (sound_at_law j l) (account_at j l)
    where
      go : (s : Standing) → Sound g r.tick j (done_at r j) s → Accounted (arrival g.lists.jobs j) r.tick (place_at r j) s → spent (place_at r j) ≤ r.tick
      go NotArrived w h = omega (arith, w.none, h.0, h.1)
      go Unfinished w h = omega arith
      go (Finished f) w h = omega (arith, w.by)
      go (Ended e) w h = omega (arith, w.by)

  -- a job that has arrived and is neither finished nor ended is alive
  pub pending_alive : (j : ℕ) → j < job_count g.lists.jobs → job_count g.lists.jobs ≤ 64 → arrival g.lists.jobs j ≤ r.tick
      → ((f : ℕ) → standing_at r j ≡ Finished f → ⊥) → ((e : ℕ) → standing_at r j ≡ Ended e → ⊥) → alive r j ≡ true
  unfolding alive
  pending_alive j l few a nf ne = go (standing_at r j) refl (sound_at_law j (omega arith))
    where
      go : (s : Standing) → standing_at r j ≡ s → Sound g r.tick j (done_at r j) s → is_unfinished s ≡ true
      go NotArrived q w = absurd (omega (arith, w.away l))
      go Unfinished q w = refl
      go (Finished f) q w = absurd (nf f q)
      go (Ended e) q w = absurd (ne e q)

  -- in mode S nothing is ended
  pub unended : g.mode ≡ S → (j e : ℕ) → j < 64 → standing_at r j ≡ Ended e → ⊥
  unended s j e l q =
      let w = rw q at (sound_at_law j l) in
      let both : S ≡ SE = sym s ∙ w.se in
      apart (cc)

  -- a place beyond the jobs is not arrived
  pub beyond_waits : (j : ℕ) → job_count g.lists.jobs ≤ j → j < 64 → standing_at r j ≡ NotArrived
  beyond_waits j m l = go (standing_at r j) (sound_at_law j l)
    where
      go : (s : Standing) → Sound g r.tick j (done_at r j) s → s ≡ NotArrived
      go NotArrived w = refl
      go Unfinished w = absurd (omega arith)
      go (Finished f) w = absurd (omega arith)
      go (Ended e) w = absurd (omega arith)

-- the record before each tick of a legal schedule, and the one at its end, is consistent
pub legal_consistent : (g : Given) (schedule : List ℕ) → length schedule ≤ 16384 → AllLegal g (fresh g.lists.jobs) idle schedule → (t : ℕ) → consistent g (record_before g schedule t) ≡ true
unfolding record_before
legal_consistent g schedule limit legal t =
    kept_at g 16384 (λ r. consistent g r ≡ true) (λ r p e b l s. advanced_consistent g r e b (legal_may g r p e l) s) (fresh g.lists.jobs) idle schedule
    (rw tick_fresh (omega arith)) legal (fresh_consistent g) t

pub replayed_consistent : (g : Given) (schedule : List ℕ) → length schedule ≤ 16384 → AllLegal g (fresh g.lists.jobs) idle schedule → consistent g (replayed g schedule) ≡ true
replayed_consistent g schedule limit legal =
    subst (λ (r : Record). consistent g r ≡ true) (replayed_is g schedule (length schedule) refl) (legal_consistent g schedule limit legal (length schedule))
