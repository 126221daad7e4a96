-- A claim of a call from C, which goes from instant to instant with no record. Where it stands any entry that may run is legal. So it
-- stops at an entry that may not run; over a stretch that repeats its entry it goes to the next instant; and else it stops at the first
-- other entry of the stretch.
use Prim.Native.Nat.{◌+◌, ◌*◌, ◌/◌, ◌<◌, ℕ, ◌≤◌}
use mathlib.Core.Bool.{◌&&◌, ◌||◌, Bool, false, not, true}
use mathlib.Core.List.{List}
use mathlib.Core.Logic.{◌≢◌}
use mathlib.Core.Path.{ap, refl, sym, ◌∙◌, ◌≡◌}
use native.Mathlib.Decide.{dec_lt}
use native.Mathlib.Numerals.{add-one}
use native.Mathlib.Omega.{arith}
use lib.Bits.{and_le_l, and_le_r, bit_or, bit_xor, or_add_and, xor_add_and, xor_self}
use lib.Dec.{eqb}
use lib.ListN.{get_or, length}
use borrow.Author.Tests.{eq-eqb, eqb-true, ne_eqb}
use Rattle.bits.specs.Below.{some}
use Rattle.bits.proofs.Laws.Below.{least_found, some_false}
use Rattle.bits.proofs.Laws.Bools.{and_left, and_right, and_true, clash, same_test}
use Rattle.tables.specs.Bytes.{number_at, numbers_in}
use Rattle.tables.specs.Tables.{job_count}
use Rattle.tables.proofs.Laws.Accepted.{lists_few}
use Rattle.tables.proofs.Laws.Bytes.{length_numbers, numbers_at}
use Rattle.zsrm.specs.declared.compact.Going.{Going}
use Rattle.zsrm.specs.declared.record.Record.{Record}
use Rattle.zsrm.specs.Code.Calls.{alive_after, Call, done_by, eligible_of, others_in, reach_of, stretch_of}
use Rattle.zsrm.specs.Code.Compact.{Current, Holds, Onward}
use Rattle.zsrm.specs.Code.Gathered.{arrival_in}
use Rattle.zsrm.specs.Code.Leap.{leapt, Silent}
use Rattle.zsrm.specs.Code.Masks.{may_stand}
use Rattle.zsrm.specs.Code.Underway.{repeated}
use Rattle.zsrm.specs.Given.{Given}
use Rattle.zsrm.specs.Bytes.{packed_claim}
use Rattle.zsrm.specs.Legal.{claim, legal_entry}
use Rattle.zsrm.specs.Record.{done_at, fresh, place_at}
use Rattle.zsrm.specs.Tick.{candidate_or_idle}
use Rattle.zsrm.proofs.Laws.Calls.{call_leaps, call_one, call_reaches, call_silent, call_stands, call_within, done_length, reach_within}
use Rattle.zsrm.proofs.Laws.Claims.{Replaying, replaying_ends}
use Rattle.zsrm.proofs.Laws.Compact.{carried_fresh, current_made}
use Rattle.zsrm.proofs.Laws.Consistent.{spent_tick}
use Rattle.zsrm.proofs.Laws.Leaps.{Free, free_legal, replaying_leap, Same, walked_part, walked_whole, Walking, walking_breaks, walking_leap}
use Rattle.zsrm.proofs.Laws.Leaps.{walking_none, walking_stops}
use Rattle.zsrm.proofs.Laws.Underway.{repeated_other, repeated_same, repeats_met, repeats_on, stops}

-- or-ed differences are 0 where there is none
or_none : (a b : ℕ) → eqb (bit_or a b) 0 ≡ (eqb a 0 && eqb b 0)
or_none a b =
    same_test (eqb (bit_or a b) 0) (eqb a 0 && eqb b 0)
    (λ h. let z = eqb-true (bit_or a b) 0 h in and_true (eq-eqb a 0 (omega (arith, z, or_add_and a b, and_le_r a b))) (eq-eqb b 0 (omega (arith, z, or_add_and a b, and_le_l a b))))
    (λ h. eq-eqb (bit_or a b) 0 (omega (arith, eqb-true a 0 (and_left (eqb a 0) (eqb b 0) h), eqb-true b 0 (and_right (eqb a 0) (eqb b 0) h), or_add_and a b)))

differ_none : (a b : ℕ) → eqb (bit_xor a b) 0 ≡ eqb a b
differ_none a b =
    same_test (eqb (bit_xor a b) 0) (eqb a b) (λ h. eq-eqb a b (omega (arith, eqb-true (bit_xor a b) 0 h, xor_add_and a b, and_le_l a b, and_le_r a b)))
    (λ h. eq-eqb (bit_xor a b) 0 (ap (λ (y : ℕ). bit_xor a y) (sym (eqb-true a b h)) ∙ xor_self a))

-- the loop over them
module _ (list : List ℕ) (t e : ℕ) where
  pub others_none : not (eqb 0 0) ≡ others_in list t e 0
  unfolding others_in some
  others_none = refl

  pub others_more : (i d d' x : ℕ) → not (eqb d 0) ≡ others_in list t e i → x ≡ get_or list (t + i) 0 → d' ≡ bit_or d (bit_xor x e) → not (eqb d' 0) ≡ others_in list t e (i + 1)
  unfolding others_in some
  others_more i d d' x w q r =
      ap (λ (y : ℕ). not (eqb y 0)) r
      ∙ ap not (or_none d (bit_xor x e) ∙ ap (λ (b : Bool). eqb d 0 && b) (differ_none x e ∙ ap (λ (y : ℕ). eqb y e) q)) ∙ turn (eqb d 0) (eqb (get_or list (t + i) 0) e)
      ∙ ap (λ (b : Bool). not (eqb (get_or list (t + i) 0) e) || b) w ∙ ap (λ (m : ℕ). some m (λ j. not (eqb (get_or list (t + j) 0) e))) (sym (add-one i))
    where
      turn : (a b : Bool) → not (a && b) ≡ (not b || not a)
      turn true true = refl
      turn true false = refl
      turn false true = refl
      turn false false = refl

  -- all are the same, or the first other one lies among them
  pub others_same : (k : ℕ) → others_in list t e k ≡ false → Same list t k e
  unfolding others_in
  others_same k h i l = eqb-true (get_or list (t + i) 0) e (flip (eqb (get_or list (t + i) 0) e) (some_false (λ j. not (eqb (get_or list (t + j) 0) e)) k i l h))
    where
      flip : (b : Bool) → not b ≡ false → b ≡ true
      flip true h = refl
      flip false h = clash refl h

  pub others_before : (k : ℕ) → others_in list t e k ≡ true → repeated list t e k < k
  unfolding others_in repeated
  others_before k h = (least_found (λ i. not (eqb (get_or list (t + i) 0) e)) k k h).0

  pub others_end : (i k d : ℕ) → i ≤ k → k ≤ i → not (eqb d 0) ≡ others_in list t e i → not (eqb d 0) ≡ others_in list t e k
  others_end i k d a b w = let q : i ≡ k = omega arith in w ∙ ap (others_in list t e) q

  -- the loop that looks for it
  pub same_start : (k : ℕ) → some 0 (stops list t e k) ≡ false
  unfolding some
  same_start k = refl

  pub same_on : (k i x : ℕ) → some i (stops list t e k) ≡ false → x ≡ get_or list (t + i) 0 → x ≡ e → some (i + 1) (stops list t e k) ≡ false
  same_on k i x w q h = repeats_on list t e k i false w (sym (ap not (eq-eqb (get_or list (t + i) 0) e (sym q ∙ h)))) refl

  pub same_met : (k i x : ℕ) → i < k → some i (stops list t e k) ≡ false → x ≡ get_or list (t + i) 0 → (x ≡ e → ⊥) → i ≡ repeated list t e k
  same_met k i x l w q h = repeats_met list t e k i true l w (sym (ap not (ne_eqb (get_or list (t + i) 0) e (λ y. h (q ∙ y))))) refl

-- an entry as it is read
pub entry_read : (bytes : List ℕ) (i x : ℕ) → i < length bytes / 2 → x ≡ number_at 2 bytes (i * 2) → x ≡ get_or (numbers_in 2 bytes) i 0
entry_read bytes i x l q = q ∙ sym (numbers_at 2 bytes i l)

-- what is carried stands for the record before tick t of the schedule, where any entry that may run is legal
pub record Claiming (x : Given) (schedule done : List ℕ) (s : Going) (t : ℕ) : Type 0 where
  pub «record» : Record
  pub size : length done ≡ 64
  pub replaying : Replaying x schedule «record» t
  pub free : t < length schedule → Free x «record» «record».previous
  pub holds : Holds x true «record» done s

-- what a turn comes to, where the entry e may run for k ticks: it stops at the first other entry of them, or goes on behind them
pub record Turned (x : Given) (g masks : List ℕ) (n : ℕ) (se : Bool) (bytes done : List ℕ) (s : Going) (t e k : ℕ) : Type 0 where
  pub short : length bytes ≤ 32768
  pub one : 1 ≤ k
  pub within : t + k ≤ length bytes / 2
  pub before : (d : Bool) → d ≡ others_in (numbers_in 2 bytes) t e k → d ≡ true → (i : ℕ) → i ≡ repeated (numbers_in 2 bytes) t e k → t + i < length bytes / 2
  pub breaks : (d : Bool) → d ≡ others_in (numbers_in 2 bytes) t e k → d ≡ true → (i : ℕ) → i ≡ repeated (numbers_in 2 bytes) t e k
      → 65536 + (t + i) ≡ packed_claim (claim x (numbers_in 2 bytes))
  pub on : (d : Bool) → d ≡ others_in (numbers_in 2 bytes) t e k → d ≡ false → (s' : Going) (done' : List ℕ) → s'.alive ≡ alive_after g se done e n masks s k → s'.early ≡ s.early
      → s'.came ≡ s.came → s'.soon ≡ s.soon → done' ≡ done_by done e n k → Claiming x (numbers_in 2 bytes) done' s' (t + k)

module _ (x : Given) (g masks : List ℕ) (n : ℕ) (se : Bool) (z : Call x g masks n se) (bytes : List ℕ) (limit : length bytes ≤ 32768) where
  abbrev schedule : List ℕ
  schedule = numbers_in 2 bytes

  abbrev ticks : ℕ
  ticks = length bytes / 2

  long : length schedule ≡ ticks
  long = length_numbers 2 bytes

  short : length schedule ≤ 16384
  short = omega (arith, long)

  few : job_count x.lists.jobs ≤ 64
  few = lists_few x.lists z.ok

  pub claiming_none : (done : List ℕ) (s : Going) → length done ≡ 64 → ((j : ℕ) → j < 64 → get_or done j 0 ≡ 0) → s.alive ≡ 0 → s.early ≡ 0 → s.came ≡ 0 → s.soon ≡ 65535
      → Claiming x schedule done s 0
  claiming_none done s size none qa qe qc qs =
      let w = walking_none x schedule (fresh x.lists.jobs) refl in
      record { «record» = fresh x.lists.jobs; size = size; replaying = w.replaying; free = λ _. w.free; holds = rw (qa, qe, qc, qs) (carried_fresh x true done few none) }

  pub claiming_ends : (done : List ℕ) (s : Going) (t : ℕ) → Claiming x schedule done s t → t ≤ ticks → ticks ≤ t → 0 ≡ packed_claim (claim x schedule)
  claiming_ends done s t w a b = walked_whole x bytes _ (replaying_ends x schedule w.«record» t w.replaying (omega (arith, long))) (omega arith)

  module _ (done : List ℕ) (s : Going) (t : ℕ) (w : Claiming x schedule done s t) (b : t < ticks) (s' : Going) (on : Onward g n t s s')
      (later : s'.came < n → t < arrival_in g s'.came) (ahead : t < s'.soon) (e : ℕ) where
    abbrev r : Record
    r = w.«record»

    inside : t < length schedule
    inside = omega (arith, long)

    cur : Current x true r s'.alive s'.early s'.came s'.soon done
    cur = current_made g n t s s' x true r done z.ok z.times z.count (sym w.replaying.time) on later ahead w.holds

    -- what is done of a job fits
    pub claiming_room : (reach : ℕ) → reach ≡ reach_of g n s' t ticks → e < n → get_or done e 0 + reach < 65536
    unfolding done_at
    claiming_room reach q l =
        let d : get_or done e 0 ≡ (place_at r e).done = cur.carried.dones e (omega (arith, z.count)) in
        omega (arith, d, spent_tick x r w.replaying.sound e (omega (arith, few, z.count)), w.replaying.time, reach_within g n s' t ticks reach q)

    module _ (read : e ≡ number_at 2 bytes (t * 2)) (among : ℕ) (seen : among ≡ eligible_of masks g s') (m : Bool) (stands : m ≡ may_stand masks among e) where
      here : e ≡ get_or schedule t 0
      here = entry_read bytes t e b read

      walking : Walking x schedule r t
      walking = record { replaying = w.replaying; free = w.free inside }

      runs : m ≡ candidate_or_idle x r e
      runs = stands ∙ ap (λ (y : ℕ). may_stand masks y e) seen ∙ call_stands x g masks n se z true r done s' w.replaying.sound cur e

      pub claiming_stops : m ≡ false → 65536 + t ≡ packed_claim (claim x schedule)
      claiming_stops h = walked_part x bytes _ (walking_stops x schedule r t e walking inside here (sym runs ∙ h)) b

      module _ (taken : m ≡ true) (reach : ℕ) (reaches : reach ≡ reach_of g n s' t ticks) (k : ℕ) (goes : k ≡ stretch_of g se done e n reach) where
        may : candidate_or_idle x r e ≡ true
        may = sym runs ∙ taken

        far : k ≡ stretch_of g se done e n (reach_of g n s' r.tick ticks)
        far = goes ∙ ap (stretch_of g se done e n) (reaches ∙ ap (λ (y : ℕ). reach_of g n s' y ticks) (sym w.replaying.time))

        ahead_of : r.tick < ticks
        ahead_of = omega (arith, w.replaying.time)

        claiming_one : 1 ≤ k
        claiming_one = call_one x g masks n se z true r done s' w.replaying.sound cur e may ticks ahead_of k far

        claiming_within : t + k ≤ ticks
        claiming_within = omega (arith, call_within x g masks n se z true r done s' w.replaying.sound cur e may ticks ahead_of k far, w.replaying.time)

        silent : Silent x r e (r.tick + k)
        silent = call_silent x g masks n se z true r done s' w.replaying.sound cur e may ticks ahead_of k far refl

        -- it stops at the first other entry
        module _ (d : Bool) (differs : d ≡ others_in schedule t e k) where
          module _ (some : d ≡ true) (i : ℕ) (p : i ≡ repeated schedule t e k) where
            before : i < k
            before = rw p (others_before schedule t e k (sym differs ∙ some))

            claiming_before : t + i < ticks
            claiming_before = omega (arith, before, claiming_within)

            claiming_breaks : 65536 + (t + i) ≡ packed_claim (claim x schedule)
            claiming_breaks =
                walked_part x bytes _
                (walking_breaks x schedule few short r t i e walking (at_least (dec_lt 0 i)) (λ j l. repeated_same schedule t e k j (rw (sym p) l)) may (leapt x r e i) refl
                (omega (arith, claiming_before, long)) (r.tick + k) silent (omega (arith, before)) other)
                claiming_before
              where
                other : get_or schedule (t + i) 0 ≢ e
                other y = repeated_other schedule t e k (rw (sym p) before) (ap (λ (m : ℕ). get_or schedule (t + m) 0) (sym p) ∙ y)

                at_least : Dec (0 < i) → 1 ≤ i
                at_least (yes l) = l
                at_least (no l) = let y : t + i ≡ t = omega arith in absurd (other (ap (λ (m : ℕ). get_or schedule m 0) y ∙ sym here))

          -- or goes on at the next instant
          claiming_on : d ≡ false → (s'' : Going) (done' : List ℕ) → s''.alive ≡ alive_after g se done e n masks s' k → s''.early ≡ s'.early
              → s''.came ≡ s'.came → s''.soon ≡ s'.soon → done' ≡ done_by done e n k → Claiming x schedule done' s'' (t + k)
          claiming_on h s'' done' qa qe qc qs qd =
              record {
                «record» = leapt x r e k;
                size = ap length qd ∙ done_length done e n k ∙ w.size;
                replaying = replaying_leap x few schedule short r t k e w.replaying claiming_one same allowed (omega (arith, claiming_within, long)) silent (leapt x r e k) refl;
                free = λ l. (walking_leap x schedule few short r t k e walking claiming_one same may (leapt x r e k) refl (omega (arith, claiming_within, long)) silent
                    (call_reaches x g masks n se z true r done s' w.replaying.sound cur e may ticks ahead_of k far refl (omega arith)
                    (omega (arith, l, long, w.replaying.time)))).free;
                holds = call_leaps x g masks n se z true r done s' w.replaying.sound cur e may k s'' done' w.size qa qe qc qs qd;
              }
            where
              same : Same schedule t k e
              same = others_same schedule t e k (sym differs ∙ h)

              allowed : legal_entry x r r.previous e ≡ true
              allowed = free_legal x r r.previous (w.free inside) e ∙ may

        pub claiming_turns : Turned x g masks n se bytes done s' t e k
        claiming_turns = record { short = limit; one = claiming_one; within = claiming_within; before = claiming_before; breaks = claiming_breaks; on = claiming_on }
