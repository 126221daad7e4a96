-- A run that goes by leaps. What the code sees, ends and makes from the gathered numbers is the tick's, where what it keeps beside the
-- record is true; a place outside those that it makes anew stays, for its job is not alive and does not come; so what is kept is true again.
use Prim.Native.Nat.{◌+◌, ◌<◌, ℕ, ◌≤◌, ◌^◌}
use mathlib.Core.Bool.{◌&&◌, Bool, cond, false, not, true}
use mathlib.Core.List.{List}
use mathlib.Core.Logic.{inl, inr, ◌⊎◌, ◌≢◌}
use mathlib.Core.Path.{ap, ap₂, refl, subst, sym, ◌∙◌, ◌≡◌}
use native.Mathlib.Decide.{dec_le, dec_lt}
use native.Mathlib.Omega.{arith}
use lib.Dec.{eqb, leb, ltb}
use lib.ListN.{get_or}
use borrow.Author.Tests.{eqb-false, eqb-true, le-leb, lt-leb, lt-ltb, ltb-false, ltb-true, ne_eqb, not-true}
use Rattle.bits.specs.Below.{bit, greatest_key, least, some, word}
use Rattle.bits.specs.Word.{with_bit}
use Rattle.bits.proofs.Laws.Below.{least_found, least_is, least_none, list_same, scan_end, scan_on, some_false}
use Rattle.bits.proofs.Laws.Bools.{and_left, and_right, and_true, by_cond, clash, either, never_true}
use Rattle.bits.proofs.Laws.Most.{greatest_key_same, greatest_key_skip}
use Rattle.bits.proofs.Laws.Sweep.{stays}
use Rattle.bits.proofs.Laws.Word.{bit_above, collect, word_none, word_same}
use Rattle.bits.proofs.Readings.{least_reads}
use Rattle.tables.specs.Outcomes.{Done}
use Rattle.tables.specs.Refusals.{check_lists}
use Rattle.tables.specs.Tables.{arrival, execution, job_count, job_criticality, job_nominal, Lists, zero_slack_instant}
use Rattle.tables.proofs.Laws.Accepted.{lists_few}
use Rattle.zsrm.specs.declared.leap.Underway.{Underway}
use Rattle.zsrm.specs.declared.next.Ticked.{Ticked}
use Rattle.zsrm.specs.declared.record.Place.{Place}
use Rattle.zsrm.specs.declared.record.Record.{Record}
use Rattle.zsrm.specs.declared.record.Standing.{Standing}
use Rattle.zsrm.specs.declared.record.Standing.TheVariants.{Ended, Finished, NotArrived, Unfinished}
use Rattle.zsrm.specs.declared.look.View.{View}
use Rattle.zsrm.specs.declared.tie.Tie.{Tie}
use Rattle.zsrm.specs.Code.Gathered.{ahead_in, arrival_in, Came, came_in, chosen_in, criticality_in, Early, execution_in}
use Rattle.zsrm.specs.Code.Gathered.{Gap, gap_in, Gathers, nominal_in, ticked_in, top_or_idle_in, view_in, with_span}
use Rattle.zsrm.specs.Code.Leap.{leapt, Reaches, Silent}
use Rattle.zsrm.specs.Code.Next.{next_at, next_place, next_record, next_standing}
use Rattle.zsrm.specs.Code.Underway.{alive_in, done_in, ended_in, first_in, Kept, leap_in, most_over, next_at_in, next_in, over_in, repeated, started_in}
use Rattle.zsrm.specs.Code.View.{greatest_criticality, overruns, overrun_word, ticked, view}
use Rattle.zsrm.specs.Given.{Given, is_se}
use Rattle.zsrm.specs.Record.{consistent, done_at, place_at, standing_at, suspended_at, waited_at}
use Rattle.zsrm.specs.Tick.{alive, candidate_or_idle, choice, ended_word, ends, is_unfinished, job_word, suspended, waits}
use Rattle.zsrm.proofs.Laws.Claims.{seen_may}
use Rattle.zsrm.proofs.Laws.Consistent.{sound_at_law}
use Rattle.zsrm.proofs.Laws.Gap.{came_next, early_first, early_next, gap_is}
use Rattle.zsrm.proofs.Laws.Gathered.{chosen_in_law, job_word_below, less_in_law, ticked_in_law, top_or_idle_in_law, view_in_law}
use Rattle.zsrm.proofs.Laws.Leap.{done_leapt, place_leapt, standing_leapt, suspended_leapt, tick_leapt, waited_leapt}
use Rattle.zsrm.proofs.Laws.Next.{same_place}
use Rattle.zsrm.proofs.Laws.Places.{alive_unfinished}
use Rattle.zsrm.proofs.Laws.Tick.{eligible_alive, runs_eligible, suspended_exactly, waiting}
use Rattle.zsrm.proofs.Laws.View.{ended_s, ended_se, job_word_bit, our_choice, seen, ticked_made}

-- the first of those that are made anew
first_cases : (a came : ℕ) → (first_in a came ≤ came) × (first_in a came ≤ least 64 (bit a) 64)
unfolding first_in
first_cases a came =
    by_cond (λ m. (m ≤ came) × (m ≤ least 64 (bit a) 64)) (ltb (least 64 (bit a) 64) came) (least 64 (bit a) 64) came
    (λ p. (omega (arith, ltb-true (least 64 (bit a) 64) came p), omega arith)) (λ p. (omega arith, ltb-false (least 64 (bit a) 64) came p))

pub first_most : (a came : ℕ) → first_in a came ≤ came
first_most a came = (first_cases a came).0

first_lowest : (a came j : ℕ) → j < first_in a came → j < least 64 (bit a) 64
first_lowest a came j b = omega (arith, (first_cases a came).1)

-- below its lowest bit a word has none
lowest_clear : (a j : ℕ) → j < 64 → j < least 64 (bit a) 64 → bit a j ≡ false
lowest_clear a j l b = go (either (some 64 (bit a)))
  where
    go : (some 64 (bit a) ≡ true) ⊎ (some 64 (bit a) ≡ false) → bit a j ≡ false
    go (inr z) = some_false (bit a) 64 j l z
    go (inl z) =
        let y = least_found (bit a) 64 64 z in
        ((least_reads (bit a) 64 64 (least 64 (bit a) 64) y.0 (omega arith)).0 refl).1 j b

-- how many have come is from the first to n
module _ (g : List ℕ) (n first t : ℕ) (b : first ≤ n) where
  came_range : (first ≤ came_in g n first t) × (came_in g n first t ≤ n)
  unfolding came_in
  came_range = go (either (some n f))
    where
      f : ℕ → Bool
      f j = leb first j && ltb t (arrival_in g j)

      go : (some n f ≡ true) ⊎ (some n f ≡ false) → (first ≤ least n f n) × (least n f n ≤ n)
      go (inr s) = rw (least_none f n n s) (b, omega arith)
      go (inl s) =
          let x = least_found f n n s in
          (search_first (least n f n) x.1, omega (arith, x.0))
        where
          search_first : (m : ℕ) → f m ≡ true → first ≤ m
          search_first m h = go_le (dec_le first m)
            where
              go_le : Dec (first ≤ m) → first ≤ m
              go_le (yes p) = p
              go_le (no p) = clash (and_left (leb first m) (ltb t (arrival_in g m)) h) (lt-leb first m (omega arith))

  pub came_from : first ≤ came_in g n first t
  came_from = came_range.0

  pub came_to : came_in g n first t ≤ n
  came_to = came_range.1

-- the record as the code makes it, place by place, where the places that it leaves stay
module _ (l : Lists) (g : List ℕ) (w : Gathers l g) (r : Record) (k : ℕ) (d : Ticked) where
  next_same : (first last : ℕ) → last ≤ job_count l.jobs
      → ((j : ℕ) → j < job_count l.jobs → j < 64 → (leb first j && ltb j last) ≡ false → next_at l.jobs r k d j ≡ place_at r j)
      → next_in g first last r k d ≡ next_record l.jobs r k d
  unfolding next_in next_record next_at_in next_at
  next_same first last most out =
      ap (λ (ps : List Place). let x : Record = record { tick = r.tick + k; previous = d.entry; places = ps } in x)
      (list_same 64 (next_at_in g first last r k d) (next_at l.jobs r k d) (λ j m. go j m (either (leb first j && ltb j last)) (either (ltb j (job_count l.jobs)))))
    where
      go : (j : ℕ) → j < 64 → ((leb first j && ltb j last) ≡ true) ⊎ ((leb first j && ltb j last) ≡ false) → (ltb j (job_count l.jobs) ≡ true) ⊎ (ltb j (job_count l.jobs) ≡ false)
          → cond (leb first j && ltb j last) (next_place r.tick k d j (arrival_in g j) (execution_in g j) (place_at r j)) (place_at r j)
          ≡ cond (ltb j (job_count l.jobs)) (next_place r.tick k d j (arrival l.jobs j) (execution l.jobs j) (place_at r j)) (place_at r j)
      go j m (inl a) (inl b) =
          rw (a, b) (ap₂ (λ (x y : ℕ). next_place r.tick k d j x y (place_at r j)) (w.arrivals j (ltb-true j _ b)) (w.executions j (ltb-true j _ b)))
      go j m (inl a) (inr b) = absurd (omega (arith, ltb-true j last (and_right (leb first j) (ltb j last) a), ltb-false j (job_count l.jobs) b, most))
      go j m (inr a) (inl b) = rw a (sym (out j (ltb-true j _ b) m a))
      go j m (inr a) (inr b) = rw (a, b)

  -- all of them made anew
  pub next_in_law : next_in g 0 (job_count l.jobs) r k d ≡ next_record l.jobs r k d
  next_in_law =
      next_same 0 (job_count l.jobs) (omega arith) (λ j b _ f. clash (and_true (le-leb 0 j (omega arith)) (lt-ltb j (job_count l.jobs) b)) f)

-- over a leap a job that is not alive keeps its place, unless it comes
module _ (x : Given) (r : Record) (e k : ℕ) (few : job_count x.lists.jobs ≤ 64) (may : candidate_or_idle x r e ≡ true) (j : ℕ) (l : j < job_count x.lists.jobs) where
  place_kept : alive r j ≡ false → (standing_at r j ≡ NotArrived → r.tick + k < arrival x.lists.jobs j) → place_at (leapt x r e k) j ≡ place_at r j
  unfolding done_at suspended_at waited_at standing_at alive
  place_kept a away =
      same_place (place_at (leapt x r e k) j) (place_at r j)
      (done_leapt x r e k few j l ∙ ap (λ (b : Bool). done_at r j + cond b k 0) runs ∙ omega arith)
      (suspended_leapt x r e k few j l ∙ ap (λ (b : Bool). suspended_at r j + cond b (cond (ends x r e j) 1 k) 0) held ∙ omega arith)
      (waited_leapt x r e k few j l ∙ ap (λ (b : Bool). waited_at r j + cond b k 0) waits_not ∙ omega arith)
      (standing_leapt x r e k few j l ∙ go (eqb e j) _ _ (standing_at r j) a away)
    where
      runs : eqb e j ≡ false
      runs = ne_eqb e j (λ q. clash (eligible_alive x r j (runs_eligible x r e j may (omega arith) q)) a)

      held : suspended x r j ≡ false
      held = never_true _ (λ s. clash ((suspended_exactly x r j).0 s).0 a)

      waits_not : waits x r e j ≡ false
      waits_not = never_true _ (λ s. clash (eligible_alive x r j ((waiting x r e j).0 s).0) a)

      go : (ran ended : Bool) (d : ℕ) (s : Standing) → is_unfinished s ≡ false → (s ≡ NotArrived → r.tick + k < arrival x.lists.jobs j)
          → next_standing r.tick k ran ended (arrival x.lists.jobs j) (execution x.lists.jobs j) d s ≡ s
      go ran ended d NotArrived u h = rw (lt-leb (arrival x.lists.jobs j) (r.tick + k) (h refl))
      go ran ended d Unfinished u h = clash refl u
      go ran ended d (Finished f) u h = refl
      go ran ended d (Ended t) u h = refl

-- what is seen, chosen and ended by the gathered numbers
module _ (x : Given) (g : List ℕ) (ok : check_lists x.lists ≡ Done) (w : Gathers x.lists g) (r : Record) (living : ℕ) (q : living ≡ job_word x.lists.jobs (alive r)) where
  few : job_count x.lists.jobs ≤ 64
  few = lists_few x.lists ok

  pub seen_in : (v : View) → v ≡ view_in g living r.tick → v ≡ view x.lists r
  seen_in v p = p ∙ ap (λ (a : ℕ). view_in g a r.tick) q ∙ view_in_law x.lists g r w few

  module _ (v : View) (p : v ≡ view x.lists r) where
    small_alive : v.alive < 2 ^ job_count x.lists.jobs
    small_alive = rw (ap (λ (y : View). y.alive) p ∙ (seen x r few).alive) (job_word_below x.lists.jobs (alive r) few)

    small_eligible : v.eligible < 2 ^ job_count x.lists.jobs
    small_eligible = rw (ap (λ (y : View). y.eligible) p ∙ (seen x r few).eligible) (job_word_below x.lists.jobs _ few)

    small_past : v.past < 2 ^ job_count x.lists.jobs
    small_past = rw (ap (λ (y : View). y.past) p ∙ (seen x r few).past) (job_word_below x.lists.jobs _ few)

    pub choice_in : (tie : Tie) (e : ℕ) → e ≡ chosen_in g (job_count x.lists.jobs) tie v r.previous → e ≡ choice x tie r
    choice_in tie e h = our_choice x ok tie r v e p (h ∙ chosen_in_law x.lists g v w few small_eligible tie r.previous)

    pub may_in : (e : ℕ) (b : Bool) → b ≡ top_or_idle_in g (job_count x.lists.jobs) v e → b ≡ candidate_or_idle x r e
    may_in e b h = seen_may x ok r v e b p (h ∙ top_or_idle_in_law x.lists g v w few small_eligible e)

    -- those over, and the greatest criticality among them
    most_over_law : (e : ℕ) → most_over g r v.past e ≡ greatest_criticality x.lists (overrun_word x.lists r v.past e)
    unfolding most_over greatest_criticality overrun_word over_in overruns
    most_over_law e =
        stays (λ k. greatest_key k (over_in g r v.past e) (criticality_in g)) (job_count x.lists.jobs) 64 few
        (λ k a _. greatest_key_skip (over_in g r v.past e) (criticality_in g) k (none k a))
        ∙ greatest_key_same (over_in g r v.past e) (bit (job_word x.lists.jobs (λ j. overruns x.lists v.past e j (done_at r j)))) (criticality_in g)
        (job_criticality x.lists) (job_count x.lists.jobs)
        (λ k b. ap (λ (m : ℕ). bit v.past k && ltb m (done_at r k + cond (eqb e k) 1 0)) (w.nominals k b)
        ∙ sym (job_word_bit x.lists.jobs (λ j. overruns x.lists v.past e j (done_at r j)) k few b)) (λ k b _. w.criticalities k b)
      where
        none : (k : ℕ) → job_count x.lists.jobs ≤ k → (bit v.past k && ltb (nominal_in g k) (done_at r k + cond (eqb e k) 1 0)) ≡ false
        none k a = ap (λ (b : Bool). b && ltb (nominal_in g k) (done_at r k + cond (eqb e k) 1 0)) (bit_above v.past (job_count x.lists.jobs) k small_past a)

    pub ended_in_law : (se : Bool) → se ≡ is_se x.mode → (e : ℕ) → ended_in g se r v e ≡ ended_word x r e
    unfolding ended_in
    ended_in_law se s e = by_cond (λ y. y ≡ ended_word x r e) se _ 0
        (λ h. ended_se x r v e few p _ (most_over g r v.past e) _ (sym s ∙ h) refl (most_over_law e) (less_in_law x.lists g w few v.alive small_alive (most_over g r v.past e)))
        (λ h. ended_s x r v e few p (sym s ∙ h))

    pub ticked_is : (se : Bool) → se ≡ is_se x.mode → (e : ℕ) → ticked_in (job_count x.lists.jobs) v e (ended_in g se r v e) ≡ ticked x r e
    ticked_is se s e = ticked_made x r v e few p (ended_in g se r v e) _ (ended_in_law se s e) (ticked_in_law x.lists.jobs v e (ended_in g se r v e))

-- the jobs alive, collected from the first on
module _ (r : Record) (first : ℕ) where
  pub alive_none : 0 ≡ alive_in r first first
  unfolding alive_in
  alive_none = sym (word_none _ 64 (λ j _. go j (either (ltb j first))))
    where
      go : (j : ℕ) → (ltb j first ≡ true) ⊎ (ltb j first ≡ false) → (ltb j first && (leb first j && alive r j)) ≡ false
      go j (inl a) = rw (a, lt-leb first j (ltb-true j first a))
      go j (inr a) = rw a

  pub alive_more : (j w v : ℕ) (b : Bool) → first ≤ j → w ≡ alive_in r first j → b ≡ alive r j → v ≡ cond b (with_bit w j) w → v ≡ alive_in r first (j + 1)
  unfolding alive_in
  alive_more j w v b l p q h = collect (λ i. leb first i && alive r i) j w v b p (q ∙ sym (ap (λ (y : Bool). y && alive r j) (le-leb first j l))) h

pub alive_all : (jobs : List ℕ) (r : Record) → alive_in r 0 (job_count jobs) ≡ job_word jobs (alive r)
unfolding alive_in job_word
alive_all jobs r = word_same _ _ 64 (λ j _. ap (λ (b : Bool). ltb j (job_count jobs) && (b && alive r j)) (le-leb 0 j (omega arith)))

-- a run underway
pub kept_first : (x : Given) (g : List ℕ) (ok : check_lists x.lists ≡ Done) (w : Gathers x.lists g) (r : Record) → Kept x.lists (started_in g (job_count x.lists.jobs) r)
unfolding started_in
kept_first x g ok w r =
    let c = came_next x.lists g ok (lists_few x.lists ok) w r.tick 0 (omega arith) (λ j b. absurd (omega arith)) in
    record {
      living = alive_all x.lists.jobs r;
      came = c;
      early = early_first x.lists r.tick _ (lists_few x.lists ok) c;
    }

module _ (x : Given) (g : List ℕ) (ok : check_lists x.lists ≡ Done) (w : Gathers x.lists g) (s : Underway) (kept : Kept x.lists s) (sound : consistent x s.«record» ≡ true)
    (e k : ℕ) (may : candidate_or_idle x s.«record» e ≡ true) where
  abbrev r : Record
  r = s.«record»

  abbrev n : ℕ
  n = job_count x.lists.jobs

  some_few : n ≤ 64
  some_few = lists_few x.lists ok

  abbrev then : ℕ
  then = came_in g n s.came (r.tick + k)

  come : Came x.lists (r.tick + k) then
  come = came_next x.lists g ok some_few w (r.tick + k) s.came kept.came.within (λ j b. omega (arith, kept.came.come j b))

  -- a job alive has come
  alive_come : (j : ℕ) → j < n → alive r j ≡ true → j < s.came
  alive_come j l a = go (dec_lt j s.came)
    where
      go : Dec (j < s.came) → j < s.came
      go (yes b) = b
      go (no b) =
          let w = rw (alive_unfinished r j a) at (sound_at_law x r sound j (omega (arith, some_few))) in
          absurd (omega (arith, w.here.room, kept.came.later j (omega arith) l))

  -- one that has not arrived has not come
  away_later : (j : ℕ) → j < n → standing_at r j ≡ NotArrived → s.came ≤ j
  away_later j l q = go (dec_le s.came j)
    where
      go : Dec (s.came ≤ j) → s.came ≤ j
      go (yes b) = b
      go (no b) =
          let w = rw q at (sound_at_law x r sound j (omega (arith, some_few))) in
          absurd (omega (arith, w.away l, kept.came.come j (omega arith)))

  bit_alive : (j : ℕ) → j < n → bit s.alive j ≡ alive r j
  bit_alive j l = ap (λ (a : ℕ). bit a j) kept.living ∙ job_word_bit x.lists.jobs (alive r) j some_few l

  -- below the first no job is alive
  first_none : (j : ℕ) → j < n → j < first_in s.alive s.came → alive r j ≡ false
  first_none j l b = sym (bit_alive j l) ∙ lowest_clear s.alive j (omega (arith, some_few)) (first_lowest s.alive s.came j b)

  -- so a job outside is not alive, and keeps its place
  outside : (j : ℕ) → j < n → (leb (first_in s.alive s.came) j && ltb j then) ≡ false → (alive r j ≡ false) × (place_at (leapt x r e k) j ≡ place_at r j)
  outside j l f = go (dec_le (first_in s.alive s.came) j) (dec_lt j then)
    where
      first : ℕ
      first = first_in s.alive s.came

      go : Dec (first ≤ j) → Dec (j < then) → (alive r j ≡ false) × (place_at (leapt x r e k) j ≡ place_at r j)
      go (yes a) (yes b) = clash (and_true (le-leb first j a) (lt-ltb j then b)) f
      go (yes a) (no b) =
          let late : r.tick + k < arrival x.lists.jobs j = come.later j (omega arith) l in
          let not_yet : alive r j ≡ false = never_true _ (λ h. omega (arith, kept.came.come j (alive_come j l h))) in
          (not_yet, place_kept x r e k some_few may j l not_yet (λ _. late))
      go (no a) b =
          let gone = first_none j l (omega arith) in
          (gone, place_kept x r e k some_few may j l gone (λ q. absurd (omega (arith, away_later j l q, first_most s.alive s.came))))

  module _ (se : Bool) (is : se ≡ is_se x.mode) (v : View) (p : v ≡ view_in g s.alive r.tick) where
    pub record_leaps : (left : ℕ) → (leap_in g n se s v e k left).«record» ≡ leapt x r e k
    unfolding leap_in leapt
    record_leaps left =
        ap (next_in g (first_in s.alive s.came) then r k) (ticked_is x g ok w r s.alive kept.living v (seen_in x g ok w r s.alive kept.living v p) se is e)
        ∙ next_same x.lists g w r k (ticked x r e) (first_in s.alive s.came) then come.within
        (λ j l m f. sym (unfold leapt in place_leapt x r e k j m) ∙ (unfold leapt in (outside j l f).1))

    pub kept_leap : r.tick ≤ r.tick + k → (left : ℕ) → left ≡ word 64 (ahead_in g s.early r.tick) → Kept x.lists (leap_in g n se s v e k left)
    kept_leap le left q =
        record {
          living = alive_then;
          came = rw time come_then;
          early = rw time early_then;
        }
      where
        next : Underway
        next = leap_in g n se s v e k left

        time : next.«record».tick ≡ r.tick + k
        time = ap (λ (y : Record). y.tick) (record_leaps left) ∙ tick_leapt x r e k

        come_then : Came x.lists (r.tick + k) (leap_in g n se s v e k left).came
        come_then = unfold leap_in in come

        early_then : Early x.lists (r.tick + k) (leap_in g n se s v e k left).early
        early_then = unfold leap_in in rw q (early_next x.lists g ok some_few w r.tick (r.tick + k) s.early s.came then kept.early kept.came come le)

        turned : (a b c : Bool) → (b && (a && c)) ≡ ((a && b) && c)
        turned true true c = refl
        turned true false c = refl
        turned false true c = refl
        turned false false c = refl

        same : (j : ℕ) → (ltb j then && (leb (first_in s.alive s.came) j && alive next.«record» j)) ≡ (ltb j n && alive next.«record» j)
        same j = turned (leb (first_in s.alive s.came) j) (ltb j then) (alive next.«record» j) ∙ go (either (ltb j n)) (either (leb (first_in s.alive s.came) j && ltb j then))
          where
            go : (ltb j n ≡ true) ⊎ (ltb j n ≡ false) → ((leb (first_in s.alive s.came) j && ltb j then) ≡ true) ⊎ ((leb (first_in s.alive s.came) j && ltb j then) ≡ false)
                → (leb (first_in s.alive s.came) j && ltb j then && alive next.«record» j) ≡ (ltb j n && alive next.«record» j)
            go (inl a) (inl b) = rw (a, b)
            go (inl a) (inr b) =
                let o = outside j (ltb-true j n a) b in
                rw (a, b) (sym (still o.0 (ap (λ (y : Record). place_at y j) (record_leaps left) ∙ o.1)))
              where
                still : alive r j ≡ false → place_at next.«record» j ≡ place_at r j → alive next.«record» j ≡ false
                still h q = unfold alive standing_at in (ap (λ (y : Place). is_unfinished y.standing) q ∙ (unfold alive standing_at in h))
            go (inr a) (inl b) = absurd (omega (arith, ltb-true j then (and_right (leb (first_in s.alive s.came) j) (ltb j then) b), ltb-false j n a, come.within))
            go (inr a) (inr b) = rw (a, b)

        alive_then : next.alive ≡ job_word x.lists.jobs (alive next.«record»)
        alive_then = unfold leap_in alive_in job_word in word_same _ _ 64 (λ j _. same j)

-- how far nothing happens
module _ (x : Given) (g : List ℕ) (ok : check_lists x.lists ≡ Done) (w : Gathers x.lists g) (s : Underway) (kept : Kept x.lists s) (sound : consistent x s.«record» ≡ true)
    (se : Bool) (is : se ≡ is_se x.mode) (e most k : ℕ) (may : candidate_or_idle x s.«record» e ≡ true) (some : 1 ≤ most)
    (q : k ≡ gap_in g (job_count x.lists.jobs) se s.«record».tick e (done_in s.«record» (job_count x.lists.jobs) e) s.came s.early most) where
  abbrev at : Record
  at = s.«record»

  ahead_gap : Gap x.lists se at.tick e (done_in at (job_count x.lists.jobs) e) most k
  ahead_gap =
      subst (λ (m : ℕ). Gap x.lists se at.tick e (done_in at (job_count x.lists.jobs) e) most m) (sym q)
      (gap_is x.lists g ok (lists_few x.lists ok) w se at.tick e (done_in at (job_count x.lists.jobs) e) s.came s.early most kept.came kept.early some)

  done_is : e < job_count x.lists.jobs → done_in at (job_count x.lists.jobs) e ≡ done_at at e
  unfolding done_in
  done_is l = rw (lt-ltb e (job_count x.lists.jobs) l)

  short : e < job_count x.lists.jobs → done_at at e < execution x.lists.jobs e
  short l =
      let small : e < 64 = omega (arith, lists_few x.lists ok) in
      let w = rw (alive_unfinished at e (eligible_alive x at e (runs_eligible x at e e may small refl))) at (sound_at_law x at sound e small) in
      w.short

  pub ahead_one : 1 ≤ k
  ahead_one = ahead_gap.one

  pub ahead_within : k ≤ most
  ahead_within = ahead_gap.within

  pub ahead_silent : Silent x at e (at.tick + k)
  ahead_silent =
      record {
        quiet = record {
          arrivals = ahead_gap.arrivals;
          slacks = λ j l _ b. ahead_gap.slacks j l b;
          finish = λ l. omega (arith, ahead_gap.finish l (rw (done_is l) (short l)), done_is l);
          nominal = λ h l b. omega (arith, ahead_gap.nominal (is ∙ h) l (rw (done_is l) b), done_is l);
        };
        slacks = ahead_gap.slacks;
      }

  pub ahead_reaches : k < most → Reaches x at e (at.tick + k)
  ahead_reaches b = go (ahead_gap.reached b)
    where
      go : ((j : ℕ) × (j < job_count x.lists.jobs) × (arrival x.lists.jobs j ≡ at.tick + k))
          ⊎ ((j : ℕ) × (j < job_count x.lists.jobs) × (zero_slack_instant x.lists j ≡ at.tick + k))
          ⊎ ((e < job_count x.lists.jobs) × (execution x.lists.jobs e ≡ done_in at (job_count x.lists.jobs) e + k))
          ⊎ ((se ≡ true) × (e < job_count x.lists.jobs) × (job_nominal x.lists e ≡ done_in at (job_count x.lists.jobs) e + k))
          → Reaches x at e (at.tick + k)
      go (inl h) = inl (h.0, h.1, inl h.2)
      go (inr (inl h)) = inl (h.0, h.1, inr h.2)
      go (inr (inr (inl h))) = inr (h.0, inl (omega (arith, h.1, done_is h.0)))
      go (inr (inr (inr h))) = inr (h.1, inr (sym is ∙ h.0, omega (arith, h.2, done_is h.1)))

-- as far as a list repeats an entry
module _ (list : List ℕ) (t e k : ℕ) where
  abbrev pub stops : ℕ → Bool
  stops i = not (eqb (get_or list (t + i) 0) e)

  repeated_is : (repeated list t e k ≤ k) × ((i : ℕ) → i < repeated list t e k → stops i ≡ false) × (repeated list t e k < k → stops (repeated list t e k) ≡ true)
  unfolding repeated
  repeated_is = go (either (some k stops))
    where
      go : (some k stops ≡ true) ⊎ (some k stops ≡ false)
          → (least k stops k ≤ k) × ((i : ℕ) → i < least k stops k → stops i ≡ false) × (least k stops k < k → stops (least k stops k) ≡ true)
      go (inr z) = rw (least_none stops k k z) (omega arith, (λ i b. some_false stops k i b z), λ b. absurd (omega arith))
      go (inl z) =
          let y = least_found stops k k z in
          (omega (arith, y.0), ((least_reads stops k k (least k stops k) y.0 (omega arith)).0 refl).1, λ _. y.1)

  pub repeated_within : repeated list t e k ≤ k
  repeated_within = repeated_is.0

  pub repeated_same : (i : ℕ) → i < repeated list t e k → get_or list (t + i) 0 ≡ e
  repeated_same i b = eqb-true (get_or list (t + i) 0) e (flip (eqb (get_or list (t + i) 0) e) (repeated_is.1 i b))
    where
      flip : (b : Bool) → not b ≡ false → b ≡ true
      flip true h = refl
      flip false h = clash refl h

  pub repeated_other : repeated list t e k < k → get_or list (t + repeated list t e k) 0 ≢ e
  repeated_other b = eqb-false (get_or list (t + repeated list t e k) 0) e (not-true _ (repeated_is.2 b))

-- the code's steps to them
pub started_made : (g : List ℕ) (n : ℕ) (r : Record) (a came early : ℕ) → a ≡ alive_in r 0 n → came ≡ came_in g n 0 r.tick → early ≡ with_span 0 0 came
    → ◌≡◌ {A = Underway} (record { «record» = r; alive = a; came = came; early = early }) (started_in g n r)
unfolding started_in
started_made g n r a came early qa qc qe = rw (qe, qc, qa)

pub leap_made : (g : List ℕ) (n : ℕ) (se : Bool) (s : Underway) (v : View) (e k left first came ended : ℕ) (d : Ticked) (next : Record) (a early : ℕ)
    → first ≡ first_in s.alive s.came → came ≡ came_in g n s.came (s.«record».tick + k) → ended ≡ ended_in g se s.«record» v e
    → d ≡ ticked_in n v e ended → next ≡ next_in g first came s.«record» k d → a ≡ alive_in next first came → early ≡ with_span left s.came came
    → ◌≡◌ {A = Underway} (record { «record» = next; alive = a; came = came; early = early }) (leap_in g n se s v e k left)
unfolding leap_in
leap_made g n se s v e k left first came ended d next a early qf qc qw qd qn qa qe = rw (qe, qa, qn, qd, qw, qc, qf)

-- the loop over what a list repeats
module _ (list : List ℕ) (t e k : ℕ) where
  pub repeats_on : (i : ℕ) (b : Bool) → some i (stops list t e k) ≡ false → b ≡ stops list t e k i → b ≡ false → some (i + 1) (stops list t e k) ≡ false
  repeats_on i b p q f = scan_on (stops list t e k) i b p q f

  pub repeats_met : (i : ℕ) (b : Bool) → i < k → some i (stops list t e k) ≡ false → b ≡ stops list t e k i → b ≡ true → i ≡ repeated list t e k
  unfolding repeated
  repeats_met i b l p q f = sym (least_is (stops list t e k) k k i l p (sym q ∙ f))

  pub repeats_end : (i : ℕ) → i ≤ k → k ≤ i → some i (stops list t e k) ≡ false → k ≡ repeated list t e k
  unfolding repeated
  repeats_end i a b p = sym (least_none (stops list t e k) k k (scan_end (stops list t e k) k i a b p))

pub started_record : (g : List ℕ) (n : ℕ) (r : Record) (s : Underway) → s ≡ started_in g n r → s.«record» ≡ r
unfolding started_in
started_record g n r s q = ap (λ (y : Underway). y.«record») q
