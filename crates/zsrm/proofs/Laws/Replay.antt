-- A schedule, tick by tick: the record before each entry is the replay of the entries before it, and each entry is legal there or not.
-- An invariant that each legal entry keeps holds of every such record.
use native.Mathlib.Decide.{dec_lt}
use Prim.Native.Nat.{◌+◌, ◌<◌, suc, zero, ℕ, ◌≤◌}
use mathlib.Core.Bool.{false, true, Bool, ◌||◌}
use mathlib.Core.List.{◌++◌, List, [], ◌∷◌}
use mathlib.Core.Logic.{inl, inr, ◌⊎◌}
use mathlib.Core.Path.{ap, refl, sym, ◌∙◌, ◌≡◌}
use native.Mathlib.Nat.{not-suc-le-zero}
use native.Mathlib.Omega.{arith}
use lib.ListN.{get_or, length, length-take, take}
use lib.Seq.{take-length, take-suc}
use Rattle.bits.proofs.Laws.Bools.{and_left, either, clash, and_true, or_left, or_right}
use Rattle.zsrm.specs.declared.record.Record.{Record}
use Rattle.zsrm.specs.Legal.{legal_entry, legal_from, scheduling_instant}
use Rattle.zsrm.specs.Record.{fresh}
use Rattle.zsrm.specs.Run.{replay, replayed, record_at, record_before}
use Rattle.zsrm.specs.Given.{Given}
use Rattle.tables.specs.Tables.{idle}
use Rattle.zsrm.specs.Tick.{advanced, candidate_or_idle}
use borrow.Author.Tests.{eq-eqb}
use lib.Dec.{eqb}
use Rattle.zsrm.proofs.Laws.Places.{tick_fresh}

-- a legal entry is a candidate, or idle with no candidate
pub legal_may : (g : Given) (r : Record) (p e : ℕ) → legal_entry g r p e ≡ true → candidate_or_idle g r e ≡ true
unfolding legal_entry
legal_may g r p e h = and_left (candidate_or_idle g r e) _ h

module _ (g : Given) where
  -- an entry that may run, and is the one before again where the tick is no scheduling instant, is legal
  pub legal_by : (r : Record) (last e : ℕ) → candidate_or_idle g r e ≡ true → (scheduling_instant g r last ≡ false → e ≡ last) → legal_entry g r last e ≡ true
  unfolding legal_entry
  legal_by r last e may stays = and_true may (go (either (scheduling_instant g r last)))
    where
      go : (scheduling_instant g r last ≡ true) ⊎ (scheduling_instant g r last ≡ false) → (eqb r.tick 0 || scheduling_instant g r last || eqb e last) ≡ true
      go (inl i) = or_left _ (or_right (eqb r.tick 0) i)
      go (inr q) = or_right (eqb r.tick 0 || scheduling_instant g r last) (eq-eqb e last (stays q))

  -- at the fresh record it need only be one that may run
  pub legal_at_fresh : (e : ℕ) → candidate_or_idle g (fresh g.lists.jobs) e ≡ true → legal_entry g (fresh g.lists.jobs) idle e ≡ true
  unfolding legal_entry
  legal_at_fresh e may = and_true may (or_left _ (or_left _ (eq-eqb (fresh g.lists.jobs).tick 0 (tick_fresh g.lists.jobs))))

  -- every entry is legal
  abbrev pub AllLegal : Record → ℕ → List ℕ → Type 0
  AllLegal r p es = legal_from g r p es ≡ length es

  -- the two steps
  pub legal_goes_on : (r : Record) (p e : ℕ) (es : List ℕ) → legal_entry g r p e ≡ true → legal_from g r p (e ∷ es) ≡ suc (legal_from g (advanced g r e) e es)
  unfolding legal_from
  legal_goes_on r p e es q = rw (q, legal_from)

  pub legal_stops : (r : Record) (p e : ℕ) (es : List ℕ) → legal_entry g r p e ≡ false → legal_from g r p (e ∷ es) ≡ 0
  unfolding legal_from
  legal_stops r p e es q = rw (q, legal_from)

  -- the first of legal entries is legal, and so is the rest from the advanced record
  pub legal_first : (r : Record) (p e : ℕ) (es : List ℕ) → AllLegal r p (e ∷ es) → legal_entry g r p e ≡ true
  legal_first r p e es c = go (either (legal_entry g r p e))
    where
      go : (legal_entry g r p e ≡ true) ⊎ (legal_entry g r p e ≡ false) → legal_entry g r p e ≡ true
      go (inl q) = q
      go (inr q) = absurd (omega (arith, legal_stops r p e es q))

  pub legal_rest : (r : Record) (p e : ℕ) (es : List ℕ) → AllLegal r p (e ∷ es) → AllLegal (advanced g r e) e es
  legal_rest r p e es c = omega (arith, legal_goes_on r p e es (legal_first r p e es c))

  -- entry i is legal, earlier entries taken as given
  abbrev pub LegalIn : Record → ℕ → List ℕ → ℕ → Bool
  LegalIn r p es i = legal_entry g (record_at g r es i) (get_or (p ∷ es) i idle) (get_or es i idle)

  -- the first k entries are legal, and the next, if there is one, is not
  pub record Beginning (r : Record) (p : ℕ) (es : List ℕ) (k : ℕ) : Type 0 where
    pub within : k ≤ length es
    pub good : (i : ℕ) → i < k → LegalIn r p es i ≡ true
    pub bad : k < length es → LegalIn r p es k ≡ false

  pub beginning : (r : Record) (p : ℕ) (es : List ℕ) → Beginning r p es (legal_from g r p es)
  unfolding record_at replay legal_from
  beginning r p [] = record { within = omega arith; good = λ i l. absurd (not-suc-le-zero l); bad = λ l. absurd (not-suc-le-zero l) }
  beginning r p (e ∷ es) = go (either (legal_entry g r p e)) (beginning (advanced g r e) e es)
    where
      go : (legal_entry g r p e ≡ true) ⊎ (legal_entry g r p e ≡ false) → Beginning (advanced g r e) e es (legal_from g (advanced g r e) e es)
          → Beginning r p (e ∷ es) (legal_from g r p (e ∷ es))
      go (inl q) w =
          rw (legal_goes_on r p e es q)
          (record { within = omega (arith, w.within); good = earlier; bad = λ l. w.bad (omega arith) })
        where
          earlier : (i : ℕ) → i < suc (legal_from g (advanced g r e) e es) → LegalIn r p (e ∷ es) i ≡ true
          earlier zero l = q
          earlier (suc i) l = w.good i (omega arith)
      go (inr q) w =
          rw (legal_stops r p e es q)
          (record { within = omega arith; good = λ i l. absurd (not-suc-le-zero l); bad = λ l. q })

  -- there is one such k
  pub beginning_is : (r : Record) (p : ℕ) (es : List ℕ) (k : ℕ) → Beginning r p es k → legal_from g r p es ≡ k
  beginning_is r p es k w = go (dec_lt (legal_from g r p es) k) (dec_lt k (legal_from g r p es))
    where
      b : Beginning r p es (legal_from g r p es)
      b = beginning r p es

      go : Dec (legal_from g r p es < k) → Dec (k < legal_from g r p es) → legal_from g r p es ≡ k
      go (yes l) m = clash (w.good (legal_from g r p es) l) (b.bad (omega (arith, w.within)))
      go (no l) (yes m) = clash (b.good k m) (w.bad (omega (arith, b.within)))
      go (no l) (no m) = omega arith

  -- the longest legal beginning is legal
  pub legal_prefix : (r : Record) (p : ℕ) (es : List ℕ) → AllLegal r p (take (legal_from g r p es) es)
  unfolding legal_from
  legal_prefix r p [] = refl
  legal_prefix r p (e ∷ es) = go (either (legal_entry g r p e)) (legal_prefix (advanced g r e) e es)
    where
      go : (legal_entry g r p e ≡ true) ⊎ (legal_entry g r p e ≡ false) → AllLegal (advanced g r e) e (take (legal_from g (advanced g r e) e es) es)
          → AllLegal r p (take (legal_from g r p (e ∷ es)) (e ∷ es))
      go (inl q) rest = rw (legal_goes_on r p e es q) (legal_goes_on r p e (take (legal_from g (advanced g r e) e es) es) q ∙ ap suc rest)
      go (inr q) rest = rw (legal_stops r p e es q)

  pub legal_at : (r : Record) (p : ℕ) (es : List ℕ) → AllLegal r p es → (t : ℕ) → t < length es → LegalIn r p es t ≡ true
  legal_at r p es c t h = (beginning r p es).good t (omega arith)

  pub tick_replay : (r : Record) (es : List ℕ) → (replay g r es).tick ≡ r.tick + length es
  unfolding replay advanced
  tick_replay r [] = omega arith
  tick_replay r (e ∷ es) = let ih = tick_replay (advanced g r e) es in omega arith

  -- entries end to end
  pub replay_append : (r : Record) (xs ys : List ℕ) → replay g r (xs ++ ys) ≡ replay g (replay g r xs) ys
  unfolding replay
  replay_append r [] ys = refl
  replay_append r (x ∷ xs) ys = replay_append (advanced g r x) xs ys

  -- the record before the next tick
  pub record_more : (es : List ℕ) (t d : ℕ) → t < length es → record_before g es (suc t) ≡ advanced g (record_before g es t) (get_or es t d)
  unfolding record_before record_at replay
  record_more es t d b = ap (replay g (fresh g.lists.jobs)) (take-suc es t d b) ∙ replay_append (fresh g.lists.jobs) (take t es) (get_or es t d ∷ [])

  -- what each legal entry at a tick below the limit keeps holds before each entry of a legal schedule, and after the last
  module _ (limit : ℕ) (P : Record → Type 0)
      (keeps : (r : Record) (p e : ℕ) → r.tick < limit → legal_entry g r p e ≡ true → P r → P (advanced g r e)) where
    pub kept_at : (r : Record) (p : ℕ) (es : List ℕ) → r.tick + length es ≤ limit → AllLegal r p es → P r → (t : ℕ) → P (record_at g r es t)
    unfolding record_at replay advanced
    kept_at r p [] b c h zero = h
    kept_at r p [] b c h (suc t) = h
    kept_at r p (e ∷ es) b c h zero = h
    kept_at r p (e ∷ es) b c h (suc t) =
        kept_at (advanced g r e) e es (omega arith) (legal_rest r p e es c) (keeps r p e (omega arith) (legal_first r p e es c) h) t

pub tick_record_before : (g : Given) (es : List ℕ) (t : ℕ) → t ≤ length es → (record_before g es t).tick ≡ t
unfolding record_before record_at fresh
tick_record_before g es t h = tick_replay g (fresh g.lists.jobs) (take t es) ∙ simp length-take (omega arith)

-- the record before the tick after the last is the one at the end
pub replayed_is : (g : Given) (es : List ℕ) (n : ℕ) → length es ≡ n → record_before g es n ≡ replayed g es
unfolding record_before record_at replayed
replayed_is g es n e = ap (λ (x : ℕ). replay g (fresh g.lists.jobs) (take x es)) (sym e) ∙ rw take-length
