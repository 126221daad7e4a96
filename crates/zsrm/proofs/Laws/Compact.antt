-- What is carried stands for a record: a leap finishes at most its entry and ends who is ended in its first tick, and who comes in it opens
-- at its end; so the words follow. Who is alive and not early is past zero slack. And up to the next arrival, the next zero-slack instant
-- carried and the end of the entry's ticks a stretch is quiet, or silent where all that came are carried.
use Prim.Native.Nat.{◌+◌, ◌<◌, min, ℕ, ◌≤◌}
use mathlib.Core.Bool.{◌&&◌, ◌||◌, Bool, cond, false, not, true}
use mathlib.Core.List.{List}
use mathlib.Core.Logic.{inl, inr, ◌⊎◌, ⊎_elim}
use mathlib.Core.Path.{ap, ap₂, refl, subst, sym, ◌∙◌, ◌≡◌}
use native.Mathlib.Decide.{ℕ_discrete, dec_le, dec_lt}
use native.Mathlib.Nat.{le_trans, lt_of_lt_of_le}
use native.Mathlib.Omega.{arith}
use lib.Dec.{eqb, leb, ltb}
use lib.ListN.{get_or}
use Rattle.std.proofs.lemmas.Bool.{cases_lt}
use borrow.Author.Tests.{eq-eqb, eqb-true, le-leb, le-ltb, lt-leb, lt-ltb, ltb-true, ne_eqb}
use Rattle.bits.specs.Below.{bit, some, word}
use Rattle.bits.specs.Word.{with_bit, without}
use Rattle.bits.proofs.Laws.Below.{last_or_below, some_false, some_found}
use Rattle.bits.proofs.Laws.Bools.{and_false_right, and_left, and_right, and_true, by_cond, clash, either, never_true, or_cases, or_left, or_right, same_test}
use Rattle.bits.proofs.Laws.Word.{bit_above, bit_word, with_bit_word, without_word, word_lt, word_none, word_same}
use Rattle.bits.proofs.Laws.Most.{most_there}
use Rattle.tables.specs.Outcomes.{Done}
use Rattle.tables.specs.Refusals.{check_lists}
use Rattle.tables.specs.Tables.{arrival, execution, job_count, job_criticality, job_nominal, zero_slack_instant}
use Rattle.zsrm.specs.declared.compact.Going.{Going}
use Rattle.zsrm.specs.declared.record.Record.{Record}
use Rattle.zsrm.specs.declared.record.Standing.{Standing}
use Rattle.zsrm.specs.declared.record.Standing.TheVariants.{Ended, Finished, NotArrived, Unfinished}
use Rattle.zsrm.specs.Code.Compact.{Carried, counted_in, Current, Holds, Onward, OnwardRun, stays, Times}
use Rattle.zsrm.specs.Code.Gathered.{ahead_in, arrival_gap, arrival_in, Came, run_gap, slack_gap, slack_in}
use Rattle.zsrm.specs.Code.Masks.{meet}
use Rattle.zsrm.specs.Code.Leap.{Quiet, Silent, leapt}
use Rattle.zsrm.specs.Code.Next.{next_standing}
use Rattle.zsrm.specs.Given.{Given, is_se}
use Rattle.zsrm.specs.Record.{consistent, done_at, fresh, opening, standing_at}
use Rattle.zsrm.specs.Tick.{alive, candidate, eligible, ended_word, ends, is_unfinished, job_word, past_zero_slack, some_job}
use Rattle.zsrm.proofs.Laws.Consistent.{Sound, sound_at_law}
use Rattle.zsrm.proofs.Laws.Gap.{ArrivalStage, RunStage, SlackStage, after_arrival, arrival_stage, arrivals_ascend, run_stage, slack_stage}
use Rattle.zsrm.proofs.Laws.Leap.{done_leapt, standing_leapt, tick_leapt}
use Rattle.zsrm.proofs.Laws.Places.{done_fresh, opening_cases, standing_fresh, tick_fresh}
use Rattle.zsrm.proofs.Laws.Tick.{eligible_exactly, some_candidate, top_eligible}
use Rattle.zsrm.proofs.Laws.View.{job_word_bit, job_word_same}

-- before the first tick nothing is carried
pub carried_fresh : (g : Given) (all : Bool) (done : List ℕ) → job_count g.lists.jobs ≤ 64 → ((j : ℕ) → j < 64 → get_or done j 0 ≡ 0)
    → Carried g all (fresh g.lists.jobs) 0 0 0 65535 done
carried_fresh g all done few none =
    record {
      lives = unfold job_word in sym (word_none _ 64 (λ j _. and_false_right (ltb j n) (ap (λ (b : Bool). b && alive r j) (le-ltb j 0 (omega arith)))));
      within = omega arith;
      come = λ j l. absurd (omega arith);
      opens = λ j a l h. unfold alive in ap is_unfinished (standing_fresh g.lists.jobs j (omega (arith, few)))
          ∙ opened j l (subst (λ (t : ℕ). arrival g.lists.jobs j ≤ t) (tick_fresh g.lists.jobs) h);
      dones = λ j l. none j (omega (arith, few)) ∙ sym (done_fresh g.lists.jobs j (omega (arith, few)));
      listed = λ j h. clash h (nothing j);
      earlies = λ j l. absurd (omega arith);
      first = λ j h. clash h (nothing j);
      met = λ _. inl refl;
    }
  where
    n : ℕ
    n = job_count g.lists.jobs

    r : Record
    r = fresh g.lists.jobs

    nothing : (j : ℕ) → bit 0 j ≡ false
    nothing j = bit_above 0 0 j (omega arith) (omega arith)

    opened : (j : ℕ) → j < n → arrival g.lists.jobs j ≤ 0 → is_unfinished (opening g.lists.jobs 0 j) ≡ ltb 0 (execution g.lists.jobs j)
    opened j l a =
        opening_cases g.lists.jobs 0 j (λ s. is_unfinished s ≡ ltb 0 (execution g.lists.jobs j)) (λ _ _ c. sym (le-ltb 0 (execution g.lists.jobs j) (omega (arith, c))))
        (λ _ _ c. sym (lt-ltb 0 (execution g.lists.jobs j) (omega (arith, c)))) (λ w. absurd (omega (arith, w l)))

-- who stays was alive
stays_alive : (g : Given) (r : Record) (e k j : ℕ) → stays g r e k j ≡ true → alive r j ≡ true
unfolding stays
stays_alive g r e k j h = and_left (alive r j) (not (ends g r e j)) (and_left (alive r j && not (ends g r e j)) _ h)

-- a leap, job by job
module _ (g : Given) (r : Record) (e k : ℕ) (few : job_count g.lists.jobs ≤ 64) (sound : consistent g r ≡ true) where
  -- who came before it
  pub stays_leapt : (j : ℕ) → j < job_count g.lists.jobs → arrival g.lists.jobs j ≤ r.tick → alive (leapt g r e k) j ≡ stays g r e k j
  unfolding alive stays
  stays_leapt j l a = ap is_unfinished (standing_leapt g r e k few j l) ∙ go (standing_at r j) (sound_at_law g r sound j (omega (arith, few)))
    where
      c : ℕ
      c = execution g.lists.jobs j

      over : (f h : Bool) → is_unfinished (cond f (Finished (r.tick + k)) (cond h (Ended r.tick) Unfinished)) ≡ (true && not h && not f)
      over true true = refl
      over true false = refl
      over false true = refl
      over false false = refl

      runs : (b : Bool) → (b && eqb (done_at r j + cond b k 0) c) ≡ (b && eqb (done_at r j + k) c)
      runs true = refl
      runs false = refl

      go : (s : Standing) → Sound g r.tick j (done_at r j) s
          → is_unfinished (next_standing r.tick k (eqb e j) (ends g r e j) (arrival g.lists.jobs j) c (done_at r j + cond (eqb e j) k 0) s)
          ≡ (is_unfinished s && not (ends g r e j) && not (eqb e j && eqb (done_at r j + k) c))
      go NotArrived w = absurd (omega (arith, w.away l))
      go Unfinished w = over (eqb e j && eqb (done_at r j + cond (eqb e j) k 0) c) (ends g r e j) ∙ ap (λ (b : Bool). true && not (ends g r e j) && not b) (runs (eqb e j))
      go (Finished f) w = refl
      go (Ended x) w = refl

  -- who comes in it
  pub opens_leapt : (j : ℕ) → j < job_count g.lists.jobs → r.tick < arrival g.lists.jobs j → arrival g.lists.jobs j ≤ r.tick + k
      → alive (leapt g r e k) j ≡ ltb 0 (execution g.lists.jobs j)
  unfolding alive
  opens_leapt j l a h = ap is_unfinished (standing_leapt g r e k few j l) ∙ go (standing_at r j) (sound_at_law g r sound j (omega (arith, few)))
    where
      c : ℕ
      c = execution g.lists.jobs j

      some : Dec (c ≡ 0) → is_unfinished (cond (eqb c 0) (Finished (arrival g.lists.jobs j)) Unfinished) ≡ ltb 0 c
      some (yes z) = rw (eq-eqb c 0 z) (sym (le-ltb 0 c (omega arith)))
      some (no z) = rw (ne_eqb c 0 z) (sym (lt-ltb 0 c (omega (arith, z))))

      go : (s : Standing) → Sound g r.tick j (done_at r j) s
          → is_unfinished (next_standing r.tick k (eqb e j) (ends g r e j) (arrival g.lists.jobs j) c (done_at r j + cond (eqb e j) k 0) s) ≡ ltb 0 c
      go NotArrived w = rw (le-leb (arrival g.lists.jobs j) (r.tick + k) h) (some (ℕ_discrete c 0))
      go Unfinished w = absurd (omega (arith, w.here.room))
      go (Finished f) w = absurd (omega (arith, w.here.room))
      go (Ended x) w = absurd (omega (arith, w.here.room))

-- what is carried at a record's tick
module _ (g : Given) (all : Bool) (r : Record) (living early came soon : ℕ) (done : List ℕ) (few : job_count g.lists.jobs ≤ 64) (sound : consistent g r ≡ true)
    (cur : Current g all r living early came soon done) where
  -- who is alive has come
  alive_came : (j : ℕ) → j < job_count g.lists.jobs → alive r j ≡ true → arrival g.lists.jobs j ≤ r.tick
  unfolding alive
  alive_came j l h = go (standing_at r j) (sound_at_law g r sound j (omega (arith, few))) h
    where
      go : (s : Standing) → Sound g r.tick j (done_at r j) s → is_unfinished s ≡ true → arrival g.lists.jobs j ≤ r.tick
      go NotArrived w t = clash t refl
      go Unfinished w t = omega (arith, w.here.room)
      go (Finished f) w t = clash t refl
      go (Ended x) w t = clash t refl

  -- so is one of those that came
  alive_counted : (j : ℕ) → j < job_count g.lists.jobs → alive r j ≡ true → j < came
  alive_counted j l h = go (dec_le came j)
    where
      go : Dec (came ≤ j) → j < came
      go (no q) = omega (arith, q)
      go (yes q) = absurd (omega (arith, cur.later j q l, alive_came j l h))

  -- the word is that of the jobs alive
  pub living_alive : living ≡ job_word g.lists.jobs (alive r)
  living_alive =
      cur.carried.lives
      ∙ job_word_same g.lists.jobs _ _ (λ j l. same_test _ _ (λ h. and_right (ltb j came) (alive r j) h) (λ h. and_true (lt-ltb j came (alive_counted j l h)) h))

  -- early is exact on the living
  pub early_exact : (j : ℕ) → j < job_count g.lists.jobs → alive r j ≡ true → bit early j ≡ ltb r.tick (zero_slack_instant g.lists j)
  early_exact j l a =
      same_test _ _ (λ h. lt-ltb r.tick (zero_slack_instant g.lists j) (omega (arith, cur.ahead, cur.carried.first j h)))
      (λ h. cur.carried.earlies j (alive_counted j l a) (or_right all a) (ltb-true r.tick (zero_slack_instant g.lists j) h))

  -- the others of them are past zero slack
  pub past_carried : without living early ≡ job_word g.lists.jobs (past_zero_slack g r)
  unfolding without past_zero_slack
  past_carried = ap (λ (x : ℕ). without x early) living_alive ∙ (unfold job_word without in word_same _ _ 64 (λ j b. go j b (either (ltb j n))))
    where
      n : ℕ
      n = job_count g.lists.jobs

      turn : (a b : ℕ) → not (ltb a b) ≡ leb b a
      turn a b = by (dec_lt a b)
        where
          by : Dec (a < b) → not (ltb a b) ≡ leb b a
          by (yes h) = rw (lt-ltb a b h, lt-leb b a h)
          by (no h) = rw (le-ltb a b (omega (arith, h)), le-leb b a (omega (arith, h)))

      each : (j : ℕ) → j < n → (b : Bool) → alive r j ≡ b → (b && not (bit early j)) ≡ (b && leb (zero_slack_instant g.lists j) r.tick)
      each j l true a = ap not (early_exact j l a) ∙ turn r.tick (zero_slack_instant g.lists j)
      each j l false a = refl

      go : (j : ℕ) → j < 64 → (ltb j n ≡ true) ⊎ (ltb j n ≡ false)
          → (bit (word 64 (λ i. ltb i n && alive r i)) j && not (bit early j)) ≡ (ltb j n && (alive r j && leb (zero_slack_instant g.lists j) r.tick))
      go j b (inl t) = ap (λ (x : Bool). x && not (bit early j)) (bit_word _ 64 j b) ∙ rw t (each j (ltb-true j n t) (alive r j) refl)
      go j b (inr t) = ap (λ (x : Bool). x && not (bit early j)) (bit_word _ 64 j b) ∙ rw t

  -- after a leap, who stays, and the ticks done
  pub carried_leap : (e k living' : ℕ) (done' : List ℕ) → living' ≡ job_word g.lists.jobs (stays g r e k)
      → ((j : ℕ) → j < job_count g.lists.jobs → get_or done' j 0 ≡ get_or done j 0 + cond (eqb e j) k 0) → Carried g all (leapt g r e k) living' early came soon done'
  carried_leap e k living' done' q d =
      record {
        lives = q ∙ job_word_same g.lists.jobs _ _ (λ j l. each j l (dec_le came j));
        within = cur.carried.within;
        come = λ j l. rw tick_leapt (omega (arith, cur.carried.come j l));
        opens = λ j a l h. opens_leapt g r e k few sound j l (cur.later j a l) (rw tick_leapt at h);
        dones = λ j l. d j l ∙ ap (λ (x : ℕ). x + cond (eqb e j) k 0) (cur.carried.dones j l) ∙ sym (done_leapt g r e k few j l);
        listed = cur.carried.listed;
        earlies = λ j l a h. cur.carried.earlies j l (was j l all a) (later (rw tick_leapt at h));
        first = cur.carried.first;
        met = cur.carried.met;
      }
    where
      later : {x : ℕ} → r.tick + k < x → r.tick < x
      later h = omega arith

      here : (j : ℕ) → j < came → alive (leapt g r e k) j ≡ stays g r e k j
      here j l = stays_leapt g r e k few sound j (omega (arith, cur.carried.within)) (cur.carried.come j l)

      was : (j : ℕ) → j < came → (b : Bool) → (b || alive (leapt g r e k) j) ≡ true → (b || alive r j) ≡ true
      was j l true h = refl
      was j l false h = stays_alive g r e k j (sym (here j l) ∙ h)

      each : (j : ℕ) → j < job_count g.lists.jobs → Dec (came ≤ j) → stays g r e k j ≡ (ltb j came && alive (leapt g r e k) j)
      each j l (no b) = rw (lt-ltb j came (omega (arith, b))) (sym (here j (omega (arith, b))))
      each j l (yes b) = rw (le-ltb j came b) (never_true _ (λ h. omega (arith, alive_counted j l (stays_alive g r e k j h))))

  module _ (ok : check_lists g.lists ≡ Done) (e k : ℕ) (next : came < job_count g.lists.jobs → r.tick + k ≤ arrival g.lists.jobs came) (until : r.tick + k ≤ soon)
      (finish : e < job_count g.lists.jobs → done_at r e + k ≤ execution g.lists.jobs e)
      (nominal : is_se g.mode ≡ true → e < job_count g.lists.jobs → done_at r e < job_nominal g.lists e → done_at r e + k ≤ job_nominal g.lists e) where
    coming : (j : ℕ) → came ≤ j → j < job_count g.lists.jobs → r.tick + k ≤ arrival g.lists.jobs j
    coming j b l = le_trans (next (omega arith)) (arrivals_ascend g.lists ok came j b l)

    pub quiet_carried : Quiet g r e (r.tick + k)
    quiet_carried =
        record {
          arrivals = λ j l h. by j l h (dec_le came j);
          slacks = λ j l a h. le_trans until (cur.carried.first j (cur.carried.earlies j (alive_counted j l a) (or_right all a) h));
          finish = λ l. omega (arith, finish l);
          nominal = λ s l h. omega (arith, nominal s l h);
        }
      where
        by : (j : ℕ) → j < job_count g.lists.jobs → r.tick < arrival g.lists.jobs j → Dec (came ≤ j) → r.tick + k ≤ arrival g.lists.jobs j
        by j l h (yes b) = coming j b l
        by j l h (no b) = absurd (omega (arith, cur.carried.come j (omega (arith, b))))

    pub silent_carried : all ≡ true → Silent g r e (r.tick + k)
    silent_carried t = record { quiet = quiet_carried; slacks = λ j l h. by j l h (dec_le came j) }
      where
        by : (j : ℕ) → j < job_count g.lists.jobs → r.tick < zero_slack_instant g.lists j → Dec (came ≤ j) → r.tick + k ≤ zero_slack_instant g.lists j
        by j l h (yes b) = le_trans (coming j b l) (after_arrival g.lists j)
        by j l h (no b) = le_trans until (cur.carried.first j (cur.carried.earlies j (omega (arith, b)) (or_left (alive r j) t) h))

-- a bit put in a word
bit_with : (w p q : ℕ) → q < 64 → bit (with_bit w p) q ≡ (bit w q || eqb q p)
unfolding with_bit
bit_with w p q l = bit_word (λ x. bit w x || eqb x p) 64 q l

with_either : (w p q : ℕ) → bit (with_bit w p) q ≡ true → (bit w q ≡ true) ⊎ (q ≡ p)
with_either w p q h = go (dec_lt q 64)
  where
    by : (bit w q ≡ true) ⊎ (eqb q p ≡ true) → (bit w q ≡ true) ⊎ (q ≡ p)
    by (inl x) = inl x
    by (inr x) = inr (eqb-true q p x)

    go : Dec (q < 64) → (bit w q ≡ true) ⊎ (q ≡ p)
    go (yes l) = by (or_cases (bit w q) (eqb q p) (sym (bit_with w p q l) ∙ h))
    go (no l) = clash h (unfold with_bit in bit_above (word 64 (λ x. bit w x || eqb x p)) 64 q (word_lt _ 64) (omega (arith, l)))

-- what is carried at a record's tick, before all that come by it are counted
module _ (g : Given) (all : Bool) (r : Record) (living early came soon : ℕ) (done : List ℕ) (at : Carried g all r living early came soon done) where
  -- one job more is counted
  pub carried_more : (living' early' soon' : ℕ) → job_count g.lists.jobs ≤ 64 → came < job_count g.lists.jobs → arrival g.lists.jobs came ≤ r.tick
      → living' ≡ cond (ltb 0 (execution g.lists.jobs came)) (with_bit living came) living → early' ≡ with_bit early came
      → soon' ≤ soon → soon' ≤ zero_slack_instant g.lists came → (soon' ≡ soon) ⊎ (soon' ≡ zero_slack_instant g.lists came)
      → Carried g all r living' early' (came + 1) soon' done
  carried_more living' early' soon' few l a ql qe b z m =
      record {
        lives = ql ∙ by_cond (λ x. x ≡ job_word g.lists.jobs then) (ltb 0 (execution g.lists.jobs came)) (with_bit living came) living opened shut;
        within = omega arith;
        come = λ j m. comes j (last_or_below came j (omega arith));
        opens = λ j m. at.opens j (omega arith);
        dones = at.dones;
        listed = λ j h. below j (with_either early came j (rw qe at h));
        earlies = λ j m x h. rw qe (bit_with early came j (omega arith) ∙ early_then j x h (last_or_below came j (omega arith)));
        first = λ j h. ahead j (with_either early came j (rw qe at h));
        met = λ t. reached t m;
      }
    where
      n : ℕ
      n = job_count g.lists.jobs

      before : ℕ → Bool
      before j = ltb j came && alive r j

      then : ℕ → Bool
      then j = ltb j (came + 1) && alive r j

      its : alive r came ≡ ltb 0 (execution g.lists.jobs came)
      its = at.opens came (omega arith) l a

      near : (q : ℕ) → (q ≡ came → ⊥) → ltb q came ≡ ltb q (came + 1)
      near q m = same_test _ _ (λ e. lt-ltb q (came + 1) (omega (arith, ltb-true q came e))) (λ e. lt-ltb q came (omega (arith, ltb-true q (came + 1) e, m)))

      or_none : (x : Bool) → (x || false) ≡ x
      or_none true = refl
      or_none false = refl

      opened : ltb 0 (execution g.lists.jobs came) ≡ true → with_bit living came ≡ job_word g.lists.jobs then
      opened t = ap (λ (x : ℕ). with_bit x came) at.lives ∙ (unfold job_word in with_bit_word (λ j. ltb j n && before j) came ∙ word_same _ _ 64 (λ q _. each q (ℕ_discrete q came)))
        where
          each : (q : ℕ) → Dec (q ≡ came) → ((ltb q n && before q) || eqb q came) ≡ (ltb q n && then q)
          each q (yes e) =
              or_right (ltb q n && before q) (eq-eqb q came e)
              ∙ sym (and_true (lt-ltb q n (omega arith)) (and_true (lt-ltb q (came + 1) (omega arith)) (ap (alive r) e ∙ its ∙ t)))
          each q (no e) = ap (λ (b : Bool). (ltb q n && before q) || b) (ne_eqb q came e) ∙ or_none (ltb q n && before q) ∙ ap (λ (b : Bool). ltb q n && (b && alive r q)) (near q e)

      shut : ltb 0 (execution g.lists.jobs came) ≡ false → living ≡ job_word g.lists.jobs then
      shut t = at.lives ∙ job_word_same g.lists.jobs before then (λ q _. each q (ℕ_discrete q came))
        where
          each : (q : ℕ) → Dec (q ≡ came) → before q ≡ then q
          each q (yes e) = let x : alive r q ≡ false = ap (alive r) e ∙ its ∙ t in and_false_right (ltb q came) x ∙ sym (and_false_right (ltb q (came + 1)) x)
          each q (no e) = ap (λ (b : Bool). b && alive r q) (near q e)

      comes : (j : ℕ) → (j ≡ came) ⊎ (j < came) → arrival g.lists.jobs j ≤ r.tick
      comes j (inl e) = subst (λ (x : ℕ). arrival g.lists.jobs x ≤ r.tick) (sym e) a
      comes j (inr m) = at.come j m

      below : (j : ℕ) → (bit early j ≡ true) ⊎ (j ≡ came) → j < came + 1
      below j (inl h) = omega (arith, at.listed j h)
      below j (inr e) = omega arith

      early_then : (j : ℕ) → (all || alive r j) ≡ true → r.tick < zero_slack_instant g.lists j → (j ≡ came) ⊎ (j < came) → (bit early j || eqb j came) ≡ true
      early_then j x h (inl e) = or_right (bit early j) (eq-eqb j came e)
      early_then j x h (inr m) = or_left (eqb j came) (at.earlies j m x h)

      ahead : (j : ℕ) → (bit early j ≡ true) ⊎ (j ≡ came) → soon' ≤ zero_slack_instant g.lists j
      ahead j (inl h) = le_trans b (at.first j h)
      ahead j (inr e) = subst (λ (x : ℕ). soon' ≤ zero_slack_instant g.lists x) (sym e) z

      reached : all ≡ true → (soon' ≡ soon) ⊎ (soon' ≡ zero_slack_instant g.lists came)
          → (soon' ≡ 65535) ⊎ ((j : ℕ) × (j < job_count g.lists.jobs) × (zero_slack_instant g.lists j ≡ soon'))
      reached t (inl e) = ⊎_elim (λ h. inl (e ∙ h)) (λ h. inr (h.0, h.1, h.2 ∙ sym e)) (at.met t)
      reached t (inr e) = inr (came, l, sym e)

  -- fewer are early: those are kept that count and whose zero-slack instant lies ahead
  pub carried_fewer : (early' soon' : ℕ) → ((j : ℕ) → bit early' j ≡ true → bit early j ≡ true) → ((j : ℕ) → bit early' j ≡ true → soon' ≤ zero_slack_instant g.lists j)
      → ((j : ℕ) → j < came → bit early j ≡ true → (all || alive r j) ≡ true → r.tick < zero_slack_instant g.lists j → bit early' j ≡ true)
      → (all ≡ true → (soon' ≡ 65535) ⊎ ((j : ℕ) × (j < job_count g.lists.jobs) × (zero_slack_instant g.lists j ≡ soon')))
      → Carried g all r living early' came soon' done
  carried_fewer early' soon' fewer first kept met =
      record {
        lives = at.lives;
        within = at.within;
        come = at.come;
        opens = at.opens;
        dones = at.dones;
        listed = λ j h. at.listed j (fewer j h);
        earlies = λ j l x h. kept j l (at.earlies j l x h) x h;
        first = first;
        met = met;
      }

-- who stays, as words
module _ (g : Given) (r : Record) (e k : ℕ) where
  -- without the ended, and without the entry where it finishes
  pub stays_word : (x : ℕ) → x ≡ cond (eqb (done_at r e + k) (execution g.lists.jobs e)) (with_bit 0 e) 0
      → without (without (job_word g.lists.jobs (alive r)) (ended_word g r e)) x ≡ job_word g.lists.jobs (stays g r e k)
  unfolding ended_word job_word stays
  stays_word x q = ap (λ (w : ℕ). without w x) (without_word (λ j. ltb j n && alive r j) (λ j. ltb j n && ends g r e j)) ∙ (unfold without in word_same _ _ 64 each)
    where
      n : ℕ
      n = job_count g.lists.jobs

      fin : Bool
      fin = eqb (done_at r e + k) (execution g.lists.jobs e)

      none : (j : ℕ) → bit 0 j ≡ false
      none j = bit_above 0 0 j (omega arith) (omega arith)

      its : (j : ℕ) → j < 64 → (b : Bool) → bit (cond b (with_bit 0 e) 0) j ≡ (b && eqb j e)
      its j l true = bit_with 0 e j l ∙ ap (λ (y : Bool). y || eqb j e) (none j)
      its j l false = none j

      same : (j : ℕ) → Dec (e ≡ j) → (fin && eqb j e) ≡ (eqb e j && eqb (done_at r j + k) (execution g.lists.jobs j))
      same j (yes h) =
          ap (λ (b : Bool). fin && b) (eq-eqb j e (sym h)) ∙ turn fin
          ∙ ap₂ (λ (b c : Bool). b && c) (sym (eq-eqb e j h)) (ap (λ (y : ℕ). eqb (done_at r y + k) (execution g.lists.jobs y)) h)
        where
          turn : (b : Bool) → (b && true) ≡ (true && b)
          turn true = refl
          turn false = refl
      same j (no h) =
          and_false_right fin (ne_eqb j e (λ y. h (sym y))) ∙ sym (ap (λ (b : Bool). b && eqb (done_at r j + k) (execution g.lists.jobs j)) (ne_eqb e j h))

      spread : (b a h f : Bool) → (((b && a) && not (b && h)) && not f) ≡ (b && ((a && not h) && not f))
      spread true a h f = refl
      spread false a h f = refl

      each : (j : ℕ) → j < 64 → (bit (word 64 (λ i. (ltb i n && alive r i) && not (ltb i n && ends g r e i))) j && not (bit x j))
          ≡ (ltb j n && ((alive r j && not (ends g r e j)) && not (eqb e j && eqb (done_at r j + k) (execution g.lists.jobs j))))
      each j l =
          ap₂ (λ (a b : Bool). a && not b) (bit_word _ 64 j l) (ap (λ (w : ℕ). bit w j) q ∙ its j l fin ∙ same j (ℕ_discrete e j))
          ∙ spread (ltb j n) (alive r j) (ends g r e j) (eqb e j && eqb (done_at r j + k) (execution g.lists.jobs j))

  -- with no candidate nobody is alive, so all stay
  pub none_stays : some_job g.lists.jobs (candidate g r) ≡ false → job_word g.lists.jobs (alive r) ≡ job_word g.lists.jobs (stays g r e k)
  none_stays s = job_word_same g.lists.jobs (alive r) (stays g r e k) (λ j l. dead j l ∙ sym (never_true _ (λ h. clash (stays_alive g r e k j h) (dead j l))))
    where
      dead : (j : ℕ) → j < job_count g.lists.jobs → alive r j ≡ false
      dead j l = never_true _ (λ a. clash (by a (either (eligible g r j))) s)
        where
          by : alive r j ≡ true → (eligible g r j ≡ true) ⊎ (eligible g r j ≡ false) → some_job g.lists.jobs (candidate g r) ≡ true
          by a (inl h) = some_candidate g r j l h
          by a (inr h) = blocked (either (some (job_count g.lists.jobs) (past_zero_slack g r)))
            where
              blocked : (some (job_count g.lists.jobs) (past_zero_slack g r) ≡ true) ⊎ (some (job_count g.lists.jobs) (past_zero_slack g r) ≡ false)
                  → some_job g.lists.jobs (candidate g r) ≡ true
              blocked (inl p) =
                  let i = some_found (past_zero_slack g r) (job_count g.lists.jobs) p in
                  let w = most_there (past_zero_slack g r) (job_criticality g.lists) (job_count g.lists.jobs) i.0 i.1 i.2 in
                  some_candidate g r w.0 w.1.below (top_eligible g r w.0 w.1)
              blocked (inr p) = clash ((eligible_exactly g r j).1 (a, λ i m z. clash z (some_false (past_zero_slack g r) (job_count g.lists.jobs) i m p))) h

-- what the code carries, with the next job counted
pub counted_onward : (gathered : List ℕ) (n t : ℕ) (s s' : Going) → n ≤ 64 → s.came < n → arrival_in gathered s.came ≤ t → s' ≡ counted_in gathered s → Onward gathered n t s s'
unfolding counted_in
counted_onward gathered n t s s' few l a q g all r done w e u at =
    rw q (carried_more g all r s.alive s.early s.came s.soon done at _ _ _ (omega arith) b (rw (← u, ← (w.arrivals s.came b)) a)
    (ap (λ (x : ℕ). cond (ltb 0 x) (with_bit s.alive s.came) s.alive) (w.executions s.came b)) refl (less z s.soon)
    (rw (← (w.slacks s.came b)) (low z s.soon)) (rw (← (w.slacks s.came b)) (one z s.soon)))
  where
    z : ℕ
    z = slack_in gathered s.came

    b : s.came < job_count g.lists.jobs
    b = omega arith

    less : (x y : ℕ) → min x y ≤ y
    less x y = omega arith

    low : (x y : ℕ) → min x y ≤ x
    low x y = omega arith

    one : (x y : ℕ) → (min x y ≡ y) ⊎ (min x y ≡ x)
    one x y = ⊎_elim (λ l. inr (omega arith)) (λ l. inl (omega arith)) (cases_lt x y)

-- one after another
pub onward_then : (gathered : List ℕ) (n t : ℕ) (s s' s'' : Going) → Onward gathered n t s s' → Onward gathered n t s' s'' → Onward gathered n t s s''
onward_then gathered n t s s' s'' a b g all r done w e u at = b g all r done w e u (a g all r done w e u at)

pub counted_came : (g : List ℕ) (s s' : Going) → s' ≡ counted_in g s → s'.came ≡ s.came + 1
unfolding counted_in
counted_came g s s' q = ap (λ (x : Going). x.came) q

-- with those alone early whose zero-slack instant lies ahead
module _ (gathered : List ℕ) (t most : ℕ) (s s' : Going) (a : s'.alive ≡ s.alive) (e : s'.early ≡ word 64 (ahead_in gathered s.early t)) (c : s'.came ≡ s.came)
    (o : s'.soon ≡ t + slack_gap gathered s.early t most 64) where
  pub pruned_onward : t + most ≡ 65535 → (n : ℕ) → n ≤ 64 → Onward gathered n t s s'
  unfolding ahead_in
  pruned_onward end n few g all r done w q u at =
      rw (a, c) (carried_fewer g all r s.alive s.early s.came s.soon done at s'.early s'.soon (λ j h. and_left (bit s.early j) _ (seen j (among j h) h)) first kept
      (λ _. met))
    where
      z : SlackStage gathered s.early t most 64 (slack_gap gathered s.early t most 64)
      z = slack_stage gathered s.early t most 64

      among : (j : ℕ) → bit s'.early j ≡ true → j < 64
      among j h = go (dec_lt j 64)
        where
          go : Dec (j < 64) → j < 64
          go (yes l) = l
          go (no l) = clash (rw e at h) (bit_above _ 64 j (word_lt _ 64) (omega (arith, l)))

      seen : (j : ℕ) → j < 64 → bit s'.early j ≡ true → (bit s.early j && ltb t (slack_in gathered j)) ≡ true
      seen j l h = sym (bit_word (λ i. bit s.early i && ltb t (slack_in gathered i)) 64 j l) ∙ ap (λ (x : ℕ). bit x j) (sym e) ∙ h

      job : (j : ℕ) → j < s.came → j < job_count g.lists.jobs
      job j l = omega (arith, at.within)

      first : (j : ℕ) → bit s'.early j ≡ true → s'.soon ≤ zero_slack_instant g.lists j
      first j h =
          let l = among j h in
          let b = and_left (bit s.early j) (ltb t (slack_in gathered j)) (seen j l h) in
          let x = z.all j l b (ltb-true t (slack_in gathered j) (and_right (bit s.early j) (ltb t (slack_in gathered j)) (seen j l h))) in
          omega (arith, x, o, w.slacks j (job j (at.listed j b)))

      kept : (j : ℕ) → j < s.came → bit s.early j ≡ true → (all || alive r j) ≡ true → r.tick < zero_slack_instant g.lists j → bit s'.early j ≡ true
      kept j l b x h =
          ap (λ (y : ℕ). bit y j) e ∙ bit_word (λ i. bit s.early i && ltb t (slack_in gathered i)) 64 j (omega (arith, job j l))
          ∙ and_true b (lt-ltb t (slack_in gathered j) (omega (arith, w.slacks j (job j l))))

      met : (s'.soon ≡ 65535) ⊎ ((j : ℕ) × (j < job_count g.lists.jobs) × (zero_slack_instant g.lists j ≡ s'.soon))
      met =
          ⊎_elim (λ h. inl (o ∙ ap (λ (x : ℕ). t + x) h ∙ end))
          (λ h. inr (h.0, job h.0 (at.listed h.0 h.1), sym (w.slacks h.0 (job h.0 (at.listed h.0 h.1))) ∙ h.2 ∙ sym o)) z.stage.met

  pub pruned_ahead : 1 ≤ most → t < s'.soon
  pruned_ahead h = omega (arith, o, (slack_stage gathered s.early t most 64).stage.one h)

-- what a loop over them answers fits
pub slack_within : (gathered : List ℕ) (early t most : ℕ) → slack_gap gathered early t most 64 ≤ most
slack_within gathered early t most = (slack_stage gathered early t most 64).stage.most

-- so what is carried is current
pub current_made : (gathered : List ℕ) (n t : ℕ) (s s' : Going) (g : Given) (all : Bool) (r : Record) (done : List ℕ) → check_lists g.lists ≡ Done → Times g.lists gathered
    → n ≡ job_count g.lists.jobs → t ≡ r.tick → Onward gathered n t s s' → (s'.came < n → t < arrival_in gathered s'.came) → t < s'.soon → Holds g all r done s
    → Current g all r s'.alive s'.early s'.came s'.soon done
current_made gathered n t s s' g all r done ok w e u on later ahead at =
    record {
      carried = on g all r done w e u at;
      later = λ j b l. lt_of_lt_of_le (next (omega arith)) (arrivals_ascend g.lists ok s'.came j b l);
      ahead = omega arith;
    }
  where
    next : s'.came < job_count g.lists.jobs → r.tick < arrival g.lists.jobs s'.came
    next b = omega (arith, later (omega arith), w.arrivals s'.came b)

-- how many ticks a stretch may have: to the next arrival, and as far as the entry's job runs
module _ (g : Given) (all : Bool) (r : Record) (living early came soon : ℕ) (done : List ℕ) (few : job_count g.lists.jobs ≤ 64) (sound : consistent g r ≡ true)
    (cur : Current g all r living early came soon done) where
  pub current_came : Came g.lists r.tick came
  current_came = record { within = cur.carried.within; come = cur.carried.come; later = cur.later }

  module _ (ok : check_lists g.lists ≡ Done) (gathered : List ℕ) (w : Times g.lists gathered) (e most : ℕ) (within : r.tick + most ≤ soon)
      (runs : e < job_count g.lists.jobs → done_at r e < execution g.lists.jobs e) where
    abbrev pub reach : ℕ
    reach = arrival_gap gathered (job_count g.lists.jobs) came r.tick most

    abbrev pub run : ℕ
    run = run_gap gathered (job_count g.lists.jobs) (is_se g.mode) e (done_at r e) reach

    a : ArrivalStage g.lists r.tick most reach
    a = arrival_stage g.lists gathered w ok r.tick came most current_came

    x : RunStage g.lists (is_se g.mode) e (done_at r e) reach run
    x = run_stage g.lists gathered w (is_se g.mode) e (done_at r e) reach

    pub run_one : 1 ≤ most → 1 ≤ run
    run_one h = x.stage.one (a.stage.one h)

    pub run_within : run ≤ most
    run_within = le_trans x.stage.most a.stage.most

    next : came < job_count g.lists.jobs → r.tick + run ≤ arrival g.lists.jobs came
    next b = omega (arith, a.all came b (cur.later came (omega arith) b), x.stage.most)

    pub run_quiet : Quiet g r e (r.tick + run)
    run_quiet = quiet_carried g all r living early came soon done few sound cur ok e run next (omega (arith, run_within)) (λ l. x.finish l (runs l)) x.nominal

    pub run_silent : all ≡ true → Silent g r e (r.tick + run)
    run_silent = silent_carried g all r living early came soon done few sound cur ok e run next (omega (arith, run_within)) (λ l. x.finish l (runs l)) x.nominal

-- in a run the living alone are early
pub carried_living : (g : Given) (r : Record) (living early came soon : ℕ) (done : List ℕ) → job_count g.lists.jobs ≤ 64 → Carried g false r living early came soon done
    → Carried g false r living (meet early living) came soon done
unfolding meet
carried_living g r living early came soon done few at =
    carried_fewer g false r living early came soon done at _ soon (λ j h. and_left (bit early j) (bit living j) (both j (dec_lt j 64) h))
    (λ j h. at.first j (and_left (bit early j) (bit living j) (both j (dec_lt j 64) h)))
    (λ j l b a _. bit_word (λ p. bit early p && bit living p) 64 j (omega (arith, at.within)) ∙ and_true b (lives j l a)) (λ h. clash h refl)
  where
    both : (j : ℕ) → Dec (j < 64) → bit (word 64 (λ p. bit early p && bit living p)) j ≡ true → (bit early j && bit living j) ≡ true
    both j (yes l) h = sym (bit_word (λ p. bit early p && bit living p) 64 j l) ∙ h
    both j (no l) h = clash h (bit_above _ 64 j (word_lt _ 64) (omega (arith, l)))

    lives : (j : ℕ) → j < came → alive r j ≡ true → bit living j ≡ true
    lives j l a =
        ap (λ (x : ℕ). bit x j) at.lives ∙ job_word_bit g.lists.jobs (λ i. ltb i came && alive r i) j few (omega (arith, at.within)) ∙ and_true (lt-ltb j came l) a

-- so what a run carries may drop who is not alive
pub kept_onward : (gathered : List ℕ) (t : ℕ) (s mid s' : Going) → mid.alive ≡ s.alive → mid.early ≡ meet s.early s.alive → mid.came ≡ s.came → mid.soon ≡ s.soon
    → ((n : ℕ) → n ≤ 64 → Onward gathered n t mid s') → OnwardRun gathered t s s'
kept_onward gathered t s mid s' a e c o on g r done w few u at =
    on (job_count g.lists.jobs) few g false r done w refl u (rw (a, e, c, o) (carried_living g r s.alive s.early s.came s.soon done few at))
