-- Runs and claims by leaps. In a quiet stretch our run takes one entry, under either tie choice, and so does mending from the lowest
-- candidate, or where the stretch is silent. In a silent stretch a claim is legal just as far as it repeats its entry, and where it ends
-- with an instant any candidate is legal again. So a loop takes its invariant over a whole stretch in one turn.
use Prim.Native.Nat.{◌%◌, ◌*◌, ◌+◌, ◌/◌, ◌<◌, suc, zero, ℕ, ◌≤◌}
use mathlib.Core.Bool.{◌&&◌, ◌||◌, false, true}
use mathlib.Core.List.{◌++◌, List, [], append_assoc, ◌∷◌}
use mathlib.Core.Logic.{◌≢◌, ⊎_elim}
use mathlib.Core.Path.{ap, ap₂, refl, sym, ◌∙◌, ◌≡◌}
use native.Mathlib.Numerals.{add-one}
use native.Mathlib.Omega.{arith}
use lib.Dec.{eqb, ltb}
use lib.ListN.{drop, get_or, length, length-append, length-replicate, replicate, replicate-append-replicate, take}
use lib.Seq.{drop-cons, length-sets, length-take-le, sets, sets-eq, take-add, take_at}
use borrow.Author.Tests.{eq-eqb, lt-ltb, ne_eqb}
use Rattle.bits.proofs.Laws.Below.{some_false}
use Rattle.bits.proofs.Laws.Bools.{and_left, and_true, not_of, or_left, or_right, same_test}
use Rattle.tables.specs.Tables.{idle, job_count}
use Rattle.zsrm.specs.declared.claims.Walked.{Walked}
use Rattle.zsrm.specs.declared.record.Record.{Record}
use Rattle.zsrm.specs.declared.tie.Tie.{Tie}
use Rattle.zsrm.specs.declared.tie.Tie.TheVariants.{Lowest, Stay}
use Rattle.tables.specs.Bytes.{bytes_of, number_bytes, numbers_in, put_at}
use Rattle.zsrm.specs.Bytes.{packed_claim}
use Rattle.zsrm.specs.Code.Claims.{WalkedAs}
use Rattle.zsrm.specs.Code.Leap.{Quiet, Reaches, Silent, leapt}
use Rattle.zsrm.specs.Given.{Given}
use Rattle.zsrm.specs.Legal.{claim, legal_entry, legal_from, scheduling_instant}
use Rattle.zsrm.specs.Mend.{keeps_previous, mend_choice}
use Rattle.zsrm.specs.Record.{consistent, fresh}
use Rattle.zsrm.specs.Run.{entries_by, final_by, record_at, record_before, replay}
use Rattle.zsrm.specs.Tick.{candidate, candidate_or_idle, choice, some_job}
use Rattle.tables.proofs.Laws.Bytes.{bytes_append, length_bytes, length_numbers, put_behind, put_fits}
use Rattle.zsrm.proofs.Laws.Bytes.{Writing}
use Rattle.zsrm.proofs.Laws.Choice.{choice_kept, choice_lowest, choice_may, choice_none}
use Rattle.zsrm.proofs.Laws.Claims.{Replaying, claim_answer_law, replaying_none, replaying_stops}
use Rattle.zsrm.proofs.Laws.Going.{Going, entries_more, entries_parts, final_parts}
use Rattle.zsrm.proofs.Laws.Leap.{Held, leap_held, leap_reaches, leap_replay, leap_sound, next_leap, no_instant, only_legal, previous_leapt, silent_within, tick_leapt}
use Rattle.zsrm.proofs.Laws.Next.{leap_one}
use Rattle.zsrm.proofs.Laws.Places.{tick_fresh}
use Rattle.zsrm.proofs.Laws.Replay.{legal_goes_on, legal_may, replay_append}
use Rattle.zsrm.proofs.Laws.Tick.{runs_or_idle}

-- one more of the same
replicate_more : (k e : ℕ) → replicate (suc k) e ≡ replicate k e ++ (e ∷ [])
replicate_more k e = sym (replicate-append-replicate k 1 e ∙ ap (λ (m : ℕ). replicate m e) (add-one k))

-- a way to choose that takes e in each tick of a stretch of k ticks
pub record Takes (g : Given) (r : Record) (e : ℕ) (pick : Record → ℕ) (k : ℕ) : Type 0 where
  pub first : pick r ≡ e
  pub later : (i : ℕ) → 1 ≤ i → i < k → pick (leapt g r e i) ≡ e

module _ (g : Given) (r : Record) (e : ℕ) (few : job_count g.lists.jobs ≤ 64) (sound : consistent g r ≡ true) (may : candidate_or_idle g r e ≡ true) (u : ℕ) (quiet : Quiet g r e u) where
  held : (k : ℕ) → 1 ≤ k → r.tick + k < u → r.tick + k ≤ 16384 → Held g r e k
  held = leap_held g r e few sound may u quiet

  -- our run is such a way, under either tie choice
  pub choice_takes : (tie : Tie) → e ≡ choice g tie r → (k : ℕ) → r.tick + k ≤ u → r.tick + k ≤ 16384 → Takes g r e (choice g tie) k
  unfolding some_job
  choice_takes Lowest q k b room =
      record {
        first = sym q;
        later = λ i some l. choice_lowest g (leapt g r e i) ∙ (held i some (omega arith) (omega arith)).lowest_held ∙ sym (choice_lowest g r) ∙ sym q;
      }
  choice_takes Stay q k b room = record { first = sym q; later = stays }
    where
      stays : (i : ℕ) → 1 ≤ i → i < k → choice g Stay (leapt g r e i) ≡ e
      stays i some l = ⊎_elim job none (runs_or_idle g r e may)
        where
          same : (j : ℕ) → j < job_count g.lists.jobs → candidate g (leapt g r e i) j ≡ candidate g r j
          same = (held i some (omega arith) (omega arith)).candidate_held

          job : (e < job_count g.lists.jobs) × (candidate g r e ≡ true) → choice g Stay (leapt g r e i) ≡ e
          job c =
              let p = previous_leapt g r e i in
              choice_kept g (leapt g r e i) (rw p c.0) (ap (candidate g (leapt g r e i)) p ∙ same e c.0 ∙ c.1) ∙ p

          none : (e ≡ idle) × (some_job g.lists.jobs (candidate g r) ≡ false) → choice g Stay (leapt g r e i) ≡ e
          none c = (choice_none g few Stay (leapt g r e i)).1 (λ j m. same j m ∙ some_false (candidate g r) (job_count g.lists.jobs) j m c.1) ∙ sym c.0

  -- its entries are the one, and its record the leapt one
  module _ (pick : Record → ℕ) where
    pub takes_entries : (k : ℕ) → 1 ≤ k → r.tick + k ≤ u → r.tick + k ≤ 16384 → Takes g r e pick k → entries_by g pick r k ≡ replicate k e
    unfolding entries_by final_by
    takes_entries zero some b room w = absurd (omega arith)
    takes_entries (suc zero) some b room w = ap (λ (x : ℕ). x ∷ []) w.first
    takes_entries (suc (suc k)) some b room w =
        let n = suc k in
        let before : entries_by g pick r n ≡ replicate n e =
        takes_entries (suc k) (omega arith) (omega arith) (omega arith) (record { first = w.first; later = λ i s l. w.later i s (omega arith) }) in
        let here : replay g r (entries_by g pick r n) ≡ leapt g r e n = ap (replay g r) before ∙ leap_replay g r e few sound may u quiet n (omega arith) (omega arith) (omega arith) in
        ap (entries_by g pick r) (sym (add-one n)) ∙ entries_more g pick r n
        ∙ ap₂ (λ (l : List ℕ) (x : ℕ). l ++ (x ∷ [])) before (ap pick here ∙ w.later n (omega arith) (omega arith)) ∙ sym (replicate_more n e)

    module _ (k : ℕ) (some : 1 ≤ k) (b : r.tick + k ≤ u) (room : r.tick + k ≤ 16384) (w : Takes g r e pick k) where
      pub takes_final : final_by g pick r k ≡ leapt g r e k
      unfolding final_by
      takes_final = ap (replay g r) (takes_entries k some b room w) ∙ leap_replay g r e few sound may u quiet k some b room

module _ (g : Given) (r : Record) (e : ℕ) (few : job_count g.lists.jobs ≤ 64) (sound : consistent g r ≡ true) (may : candidate_or_idle g r e ≡ true) (u : ℕ) (silent : Silent g r e u) where
  -- mending takes the one entry
  pub mend_takes : e ≡ mend_choice g r → (k : ℕ) → r.tick + k ≤ u → r.tick + k ≤ 16384 → Takes g r e (mend_choice g) k
  unfolding mend_choice keeps_previous
  mend_takes q k b room =
      record {
        first = sym q;
        later = λ i some l.
            let m = leapt g r e i in
            let late : ltb 0 m.tick ≡ true = lt-ltb 0 m.tick (omega (arith, tick_leapt g r e i)) in
            let still : scheduling_instant g m m.previous ≡ false = ap (scheduling_instant g m) (previous_leapt g r e i) ∙ no_instant g r e few sound may u silent i some (omega arith) in
            rw (and_true late (not_of still)) (previous_leapt g r e i);
      }

  -- a claim that repeats a legal entry is legal throughout the stretch
  pub leap_legal : (k : ℕ) → 1 ≤ k → r.tick + k ≤ u → r.tick + k ≤ 16384 → (last : ℕ) → legal_entry g r last e ≡ true → (rest : List ℕ)
      → legal_from g r last (replicate k e ++ rest) ≡ k + legal_from g (leapt g r e k) e rest
  leap_legal zero some b room last h rest = absurd (omega arith)
  leap_legal (suc zero) some b room last h rest =
      legal_goes_on g r last e rest h ∙ ap (λ (x : Record). suc (legal_from g x e rest)) (sym (leap_one g r e few sound may)) ∙ omega arith
  leap_legal (suc (suc k)) some b room last h rest =
      let n = suc k in
      let list : replicate (suc n) e ++ rest ≡ replicate n e ++ (e ∷ rest) = ap (λ (l : List ℕ). l ++ rest) (replicate_more n e) ∙ append_assoc (replicate n e) (e ∷ []) rest in
      let here : legal_entry g (leapt g r e n) e e ≡ true = only_legal g r e few sound may u silent n (omega arith) (omega arith) e ∙ eq-eqb e e refl in
      let goes : legal_from g (leapt g r e n) e (e ∷ rest) ≡ suc (legal_from g (leapt g r e (suc n)) e rest) =
      legal_goes_on g (leapt g r e n) e e rest here ∙ ap (λ (x : Record). suc (legal_from g x e rest)) (next_leap g r e few sound may u silent.quiet n (omega arith) (omega arith) (omega arith)) in
      ap (legal_from g r last) list ∙ omega (arith, leap_legal (suc k) (omega arith) (omega arith) (omega arith) last h (e ∷ rest), goes)

-- a loop that makes a run, taken over a leap
module _ (g : Given) (few : job_count g.lists.jobs ≤ 64) (pick : Record → ℕ) (start r : Record) (n k e : ℕ) (w : Going g pick start r n) (some : 1 ≤ k) (room : start.tick + (n + k) ≤ 16384)
    (may : candidate_or_idle g r e ≡ true) (quiet : Quiet g r e (r.tick + k)) (takes : Takes g r e pick k) where
  fits : r.tick + k ≤ 16384
  fits = omega (arith, w.time)

  pub going_leap : (next : Record) → next ≡ leapt g r e k → Going g pick start next (n + k)
  going_leap next q =
      record {
        is =
            q ∙ sym (takes_final g r e few w.sound may (r.tick + k) quiet pick k some (omega arith) fits takes)
            ∙ ap (λ (x : Record). final_by g pick x k) w.is ∙ sym (final_parts g pick start n k);
        sound = rw q (leap_sound g r e few w.sound may (r.tick + k) quiet k some (omega arith) fits);
        time = rw q (tick_leapt g r e k ∙ omega (arith, w.time));
      }

  -- its entries are those before, and the one for as long as the stretch
  pub going_entries : entries_by g pick start (n + k) ≡ entries_by g pick start n ++ replicate k e
  going_entries =
      entries_parts g pick start n k
      ∙ ap (λ (x : List ℕ). entries_by g pick start n ++ x)
      (ap (λ (x : Record). entries_by g pick x k) (sym w.is) ∙ takes_entries g r e few w.sound may (r.tick + k) quiet pick k some (omega arith) fits takes)

  -- those that it has written into a list, and as bytes
  pub going_fills : (l after : List ℕ) → take n l ≡ entries_by g pick start n → take (n + k) after ≡ take n l ++ replicate k e → take (n + k) after ≡ entries_by g pick start (n + k)
  going_fills l after p q = q ∙ ap (λ (x : List ℕ). x ++ replicate k e) p ∙ sym going_entries

  pub going_fills_bytes : (l after : List ℕ) → take (n * 2) l ≡ bytes_of 2 (entries_by g pick start n) → take ((n + k) * 2) after ≡ take (n * 2) l ++ bytes_of 2 (replicate k e)
      → take ((n + k) * 2) after ≡ bytes_of 2 (entries_by g pick start (n + k))
  going_fills_bytes l after p q =
      q ∙ ap (λ (x : List ℕ). x ++ bytes_of 2 (replicate k e)) p ∙ sym (bytes_append 2 (entries_by g pick start n) (replicate k e)) ∙ ap (bytes_of 2) (sym going_entries)

-- our run that writes its entries as bytes
pub writing_leap : (g : Given) (tie : Tie) → job_count g.lists.jobs ≤ 64 → (size : ℕ) (bytes after : List ℕ) (r next : Record) (t k e : ℕ) → Writing g tie size bytes r t → 1 ≤ k → t + k ≤ 16384
    → e ≡ choice g tie r → Quiet g r e (r.tick + k) → next ≡ leapt g r e k → length after ≡ size → take ((t + k) * 2) after ≡ take (t * 2) bytes ++ bytes_of 2 (replicate k e)
    → Writing g tie size after next (t + k)
writing_leap g tie few size bytes after r next t k e w some limit q quiet made long front =
    let start = fresh g.lists.jobs in
    let room : start.tick + (t + k) ≤ 16384 = omega (arith, tick_fresh g.lists.jobs) in
    let fits : r.tick + k ≤ 16384 = omega (arith, w.going.time) in
    let may : candidate_or_idle g r e ≡ true = ap (candidate_or_idle g r) q ∙ choice_may g tie r in
    let takes = choice_takes g r e few w.going.sound may (r.tick + k) quiet tie q k (omega arith) fits in
    record {
      long = long;
      going = going_leap g few (choice g tie) start r t k e w.going some room may quiet takes next made;
      front = going_fills_bytes g few (choice g tie) start r t k e w.going some room may quiet takes bytes after w.front front;
    }

-- stores in a row: the front of what they leave, and one more of the same, as an entry and as its bytes
pub stored_front : (l vs : List ℕ) (t k : ℕ) → length vs ≡ k → t + k ≤ length l → take (t + k) (sets l t vs) ≡ take t l ++ vs
stored_front l vs t k long b =
    ap (take (t + k)) (sets-eq vs l t (omega arith))
    ∙ take_at (take t l ++ vs) (drop (t + length vs) l) (t + k) (length-append (take t l) vs ∙ ap₂ (λ (x y : ℕ). x + y) (length-take-le t l (omega arith)) long)

pub stored_none_bytes : (l : List ℕ) (t e : ℕ) → l ≡ sets l (t * 2) (bytes_of 2 (replicate 0 e))
unfolding bytes_of
stored_none_bytes l t e = refl

pub length_stored_bytes : (k e : ℕ) → length (bytes_of 2 (replicate k e)) ≡ k * 2
length_stored_bytes k e = length_bytes 2 (replicate k e) ∙ ap (λ (m : ℕ). m * 2) (length-replicate k e)

pub stored_more_bytes : (l : List ℕ) (t k e : ℕ) → (t + k) * 2 + 2 ≤ length l
    → put_at 2 (sets l (t * 2) (bytes_of 2 (replicate k e))) ((t + k) * 2) e ≡ sets l (t * 2) (bytes_of 2 (replicate (k + 1) e))
unfolding bytes_of number_bytes
stored_more_bytes l t k e b =
    let m = sets l (t * 2) (bytes_of 2 (replicate k e)) in
    let next : (t + k) * 2 ≡ t * 2 + length (replicate k e) * 2 = omega (arith, length-replicate k e) in
    put_fits 2 m ((t + k) * 2) e (omega (arith, length-sets l (t * 2) (bytes_of 2 (replicate k e))))
    ∙ ap (λ (n : ℕ). sets m n (e % 256 ∷ e / 256 ∷ [])) next ∙ put_behind 2 l (replicate k e) (e ∷ []) (t * 2)
    ∙ ap (λ (es : List ℕ). sets l (t * 2) (bytes_of 2 es)) (replicate-append-replicate k 1 e)

-- a claim by leaps: the k entries from t on are e
abbrev pub Same : List ℕ → ℕ → ℕ → ℕ → Type 0
Same schedule t k e = (i : ℕ) → i < k → get_or schedule (t + i) 0 ≡ e

same_drop : (schedule : List ℕ) (k t e : ℕ) → t + k ≤ length schedule → Same schedule t k e → drop t schedule ≡ replicate k e ++ drop (t + k) schedule
same_drop schedule zero t e b w = let z : t ≡ t + 0 = omega arith in ap (λ (x : ℕ). drop x schedule) z
same_drop schedule (suc k) t e b w =
    let here : t ≡ t + 0 = omega arith in
    let rest : suc t + k ≡ t + suc k = omega arith in
    drop-cons schedule t 0 (omega arith)
    ∙ ap₂ (λ (x : ℕ) (l : List ℕ). x ∷ l) (ap (λ (x : ℕ). get_or schedule x 0) here ∙ w 0 (omega arith))
    (same_drop schedule k (suc t) e (omega arith) (λ i l. let z : suc t + i ≡ t + suc i = omega arith in ap (λ (x : ℕ). get_or schedule x 0) z ∙ w (suc i) (omega arith))
    ∙ ap (λ (x : ℕ). replicate k e ++ drop x schedule) rest)

same_take : (schedule : List ℕ) (k t e : ℕ) → t + k ≤ length schedule → Same schedule t k e → take (t + k) schedule ≡ take t schedule ++ replicate k e
same_take schedule k t e b w =
    take-add t k schedule
    ∙ ap (λ (l : List ℕ). take t schedule ++ l) (ap (take k) (same_drop schedule k t e b w) ∙ take_at (replicate k e) (drop (t + k) schedule) k (length-replicate k e))

-- where the tick is 0 or a scheduling instant, an entry that may run is legal
module _ (g : Given) (r : Record) (last : ℕ) where
  abbrev pub Free : Type 0
  Free = (eqb r.tick 0 || scheduling_instant g r last) ≡ true

  pub free_legal : Free → (e : ℕ) → legal_entry g r last e ≡ candidate_or_idle g r e
  unfolding legal_entry
  free_legal free e =
      let tests = eqb r.tick 0 || scheduling_instant g r last || eqb e last in
      same_test (candidate_or_idle g r e && tests) (candidate_or_idle g r e) (and_left (candidate_or_idle g r e) tests) (λ c. and_true c (or_left (eqb e last) free))

module _ (g : Given) (few : job_count g.lists.jobs ≤ 64) (schedule : List ℕ) (short : length schedule ≤ 16384) (r : Record) (t k e : ℕ)
    (w : Replaying g schedule r t) (some : 1 ≤ k) (same : Same schedule t k e) (legal : legal_entry g r r.previous e ≡ true) where
  runs : candidate_or_idle g r e ≡ true
  runs = legal_may g r r.previous e legal

  -- a replay, taken over a leap
  pub replaying_leap : t + k ≤ length schedule → Silent g r e (r.tick + k) → (next : Record) → next ≡ leapt g r e k → Replaying g schedule next (t + k)
  unfolding record_before record_at
  replaying_leap b silent next q =
      let u = r.tick + k in
      let room : r.tick + k ≤ 16384 = omega (arith, w.time) in
      let goes : legal_from g r r.previous (drop t schedule) ≡ k + legal_from g (leapt g r e k) e (drop (t + k) schedule) =
      ap (legal_from g r r.previous) (same_drop schedule k t e b same) ∙ leap_legal g r e few w.sound runs u silent k some (omega arith) room r.previous legal (drop (t + k) schedule) in
      let rest : legal_from g next next.previous (drop (t + k) schedule) ≡ legal_from g (leapt g r e k) e (drop (t + k) schedule) =
      ap (λ (x : Record). legal_from g x x.previous (drop (t + k) schedule)) q
      ∙ ap (λ (p : ℕ). legal_from g (leapt g r e k) p (drop (t + k) schedule)) (previous_leapt g r e k) in
      record {
        legal = omega (arith, w.legal, goes, rest);
        here =
            q ∙ sym (leap_replay g r e few w.sound runs u silent.quiet k some (omega arith) room) ∙ ap (λ (x : Record). replay g x (replicate k e)) w.here
            ∙ sym (ap (replay g (fresh g.lists.jobs)) (same_take schedule k t e b same) ∙ replay_append g (fresh g.lists.jobs) (take t schedule) (replicate k e));
        sound = rw q (leap_sound g r e few w.sound runs u silent.quiet k some (omega arith) room);
        time = rw q (tick_leapt g r e k ∙ omega (arith, w.time));
      }

  -- it stops inside a stretch, at another entry
  pub replaying_breaks : t + k < length schedule → (u : ℕ) → Silent g r e u → r.tick + k < u → get_or schedule (t + k) 0 ≢ e → (next : Record) → next ≡ leapt g r e k
      → WalkedAs g schedule (record { ticks = t + k; «record» = next })
  replaying_breaks b u silent early other next q =
      let x = get_or schedule (t + k) 0 in
      let on = replaying_leap (omega arith) (silent_within g r e u (r.tick + k) silent (omega arith)) next q in
      let not-legal : legal_entry g next next.previous x ≡ false =
      ap (λ (y : Record). legal_entry g y y.previous x) q ∙ ap (λ (p : ℕ). legal_entry g (leapt g r e k) p x) (previous_leapt g r e k)
      ∙ only_legal g r e few w.sound runs u silent k some early x ∙ ne_eqb x e other in
      replaying_stops g schedule next (t + k) x on b refl not-legal

-- a replay that goes from instant to instant: where it stands any entry that may run is legal
pub record Walking (g : Given) (schedule : List ℕ) (r : Record) (t : ℕ) : Type 0 where
  pub replaying : Replaying g schedule r t
  pub free : Free g r r.previous

module _ (g : Given) (schedule : List ℕ) where
  pub walking_none : (r : Record) → r ≡ fresh g.lists.jobs → Walking g schedule r 0
  walking_none r q =
      record { replaying = replaying_none g schedule r q; free = or_left (scheduling_instant g r r.previous) (eq-eqb r.tick 0 (ap (λ (x : Record). x.tick) q ∙ tick_fresh g.lists.jobs)) }

  -- it stops at an entry that may not run
  pub walking_stops : (r : Record) (t e : ℕ) → Walking g schedule r t → t < length schedule → e ≡ get_or schedule t 0 → candidate_or_idle g r e ≡ false
      → WalkedAs g schedule (record { ticks = t; «record» = r })
  walking_stops r t e w b q h = replaying_stops g schedule r t e w.replaying b q (free_legal g r r.previous w.free e ∙ h)

  module _ (few : job_count g.lists.jobs ≤ 64) (short : length schedule ≤ 16384) (r : Record) (t k e : ℕ) (w : Walking g schedule r t) (some : 1 ≤ k) (same : Same schedule t k e)
      (may : candidate_or_idle g r e ≡ true) (next : Record) (q : next ≡ leapt g r e k) where
    allowed : legal_entry g r r.previous e ≡ true
    allowed = free_legal g r r.previous w.free e ∙ may

    -- over a whole stretch
    pub walking_leap : t + k ≤ length schedule → Silent g r e (r.tick + k) → Reaches g r e (r.tick + k) → Walking g schedule next (t + k)
    walking_leap b silent reaches =
        record {
          replaying = replaying_leap g few schedule short r t k e w.replaying some same allowed b silent next q;
          free =
              ap (λ (x : Record). eqb x.tick 0 || scheduling_instant g x x.previous) q
              ∙ or_right (eqb (leapt g r e k).tick 0) (ap (scheduling_instant g (leapt g r e k)) (previous_leapt g r e k) ∙ leap_reaches g r e few may k reaches);
        }

    -- up to another entry inside it
    pub walking_breaks : t + k < length schedule → (u : ℕ) → Silent g r e u → r.tick + k < u → get_or schedule (t + k) 0 ≢ e
        → WalkedAs g schedule (record { ticks = t + k; «record» = next })
    walking_breaks b u silent early other = replaying_breaks g few schedule short r t k e w.replaying some same allowed b u silent early other next q

-- what a replay of bytes answers, as one number
module _ (g : Given) (bytes : List ℕ) (x : Walked) (w : WalkedAs g (numbers_in 2 bytes) x) where
  pub walked_part : x.ticks < length bytes / 2 → 65536 + x.ticks ≡ packed_claim (claim g (numbers_in 2 bytes))
  unfolding packed_claim
  walked_part b =
      let n = length_numbers 2 bytes in
      ap packed_claim (rw (ne_eqb x.ticks (length (numbers_in 2 bytes)) (λ z. omega arith)) at (claim_answer_law g (numbers_in 2 bytes) x w))

  pub walked_whole : x.ticks ≡ length bytes / 2 → 0 ≡ packed_claim (claim g (numbers_in 2 bytes))
  unfolding packed_claim
  walked_whole all =
      let n = length_numbers 2 bytes in
      ap packed_claim (rw (eq-eqb x.ticks (length (numbers_in 2 bytes)) (omega arith)) at (claim_answer_law g (numbers_in 2 bytes) x w))
