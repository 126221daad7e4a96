-- A leap by k is k ticks of its entry one by one, where nothing happens strictly between them. Inside such a stretch nobody arrives,
-- finishes or comes past zero slack, so the eligible jobs stay; and who is over there was over in the stretch's first tick, so all endings
-- happen in that. So each tick inside has the same candidates and makes the leap one tick longer. Where the zero-slack instants of jobs
-- that are not alive lie outside, too, it is no scheduling instant.
use Prim.Native.Nat.{◌+◌, ◌<◌, suc, zero, ℕ, ◌≤◌}
use mathlib.Core.Bool.{◌&&◌, ◌||◌, Bool, cond, false, not, true}
use mathlib.Core.List.{◌++◌}
use mathlib.Core.Logic.{inl, inr, ◌⊎◌, ⊎_elim}
use mathlib.Core.Path.{ap, ap₂, refl, subst, sym, ◌∙◌, ◌≡◌}
use native.Mathlib.Decide.{ℕ_discrete, dec_lt}
use native.Mathlib.Numerals.{add-one}
use native.Mathlib.Omega.{arith}
use lib.Dec.{eqb, ltb}
use lib.ListN.{replicate, replicate-append-replicate}
use borrow.Author.Tests.{eq-eqb, eqb-true, le-ltb, lt-leb, lt-ltb, ltb-true, ne_eqb}
use Rattle.bits.specs.Below.{greatest_key, list_from, some}
use Rattle.bits.proofs.Laws.Below.{get_or_list, list_same, none_passes, some_found, some_true}
use Rattle.bits.proofs.Laws.Bools.{and_false_right, and_left, and_right, and_true, clash, never_true, not_of, or_left, or_right, same_test}
use Rattle.bits.proofs.Laws.Most.{greatest_key_law, most_there}
use Rattle.zsrm.specs.declared.record.Place.{Place}
use Rattle.zsrm.specs.declared.record.Record.{Record}
use Rattle.zsrm.specs.declared.record.Standing.{Standing}
use Rattle.zsrm.specs.declared.record.Standing.TheVariants.{Ended, Finished, NotArrived, Unfinished}
use Rattle.tables.specs.Tables.{arrival, execution, job_count, job_criticality, job_nominal, zero_slack_instant}
use Rattle.zsrm.specs.Code.Leap.{Quiet, Reaches, Silent, leapt}
use Rattle.zsrm.specs.Code.Next.{next_at, next_place, next_record, next_standing}
use Rattle.zsrm.specs.Code.View.{ticked}
use Rattle.zsrm.specs.Given.{Given, is_se}
use Rattle.zsrm.specs.Legal.{instant_by, is_finished_at, legal_entry, scheduling_instant}
use Rattle.zsrm.specs.Record.{arrived, arriving, consistent, done_at, empty, opening, place_at, standing_at, suspended_at, waited_at}
use Rattle.zsrm.specs.Run.{replay}
use Rattle.zsrm.specs.Tick.{advanced, alive, candidate, candidate_or_idle, eligible, ended_word, ends, finishes, goes_on, is_unfinished, lowest, more_critical, over, past_zero_slack, some_job}
use Rattle.zsrm.specs.Tick.{done_after, place_after, standing_after, suspended, suspended_after, waited_after, waits}
use Rattle.zsrm.proofs.Laws.Consistent.{Sound, advanced_consistent, sound_at_law}
use Rattle.zsrm.proofs.Laws.Next.{beyond_next, leap_one, same_place, same_record}
use Rattle.zsrm.proofs.Laws.Places.{alive_unfinished}
use Rattle.zsrm.proofs.Laws.Replay.{replay_append}
use Rattle.zsrm.proofs.Laws.Steady.{candidate_alike, lowest_alike, may_alike}
use Rattle.zsrm.proofs.Laws.Tick.{ended_suspended, eligible_alive, eligible_exactly, eligible_unended}
use Rattle.zsrm.proofs.Laws.Tick.{past_exactly, runs_eligible, suspended_exactly, top_eligible}
use Rattle.zsrm.proofs.Laws.View.{job_word_bit}

-- what stands at a place of the record leapt to
module _ (g : Given) (r : Record) (e k : ℕ) where
  pub tick_leapt : (leapt g r e k).tick ≡ r.tick + k
  unfolding leapt next_record
  tick_leapt = refl

  pub previous_leapt : (leapt g r e k).previous ≡ e
  unfolding leapt next_record
  previous_leapt = refl

  pub place_leapt : (j : ℕ) → j < 64 → place_at (leapt g r e k) j ≡ next_at g.lists.jobs r k (ticked g r e) j
  unfolding place_at leapt next_record
  place_leapt j l = get_or_list 64 (next_at g.lists.jobs r k (ticked g r e)) j empty l

  pub place_beyond : (j : ℕ) → job_count g.lists.jobs ≤ j → j < 64 → place_at (leapt g r e k) j ≡ place_at r j
  unfolding next_at
  place_beyond j m l = place_leapt j l ∙ rw (le-ltb j (job_count g.lists.jobs) m)

  module _ (few : job_count g.lists.jobs ≤ 64) (j : ℕ) (l : j < job_count g.lists.jobs) where
    place_job : place_at (leapt g r e k) j ≡ next_place r.tick k (ticked g r e) j (arrival g.lists.jobs j) (execution g.lists.jobs j) (place_at r j)
    unfolding next_at
    place_job = place_leapt j (omega arith) ∙ rw (lt-ltb j (job_count g.lists.jobs) l)

    pub done_leapt : done_at (leapt g r e k) j ≡ done_at r j + cond (eqb e j) k 0
    unfolding done_at
    done_leapt = ap (λ (p : Place). p.done) place_job

    pub suspended_leapt : suspended_at (leapt g r e k) j ≡ suspended_at r j + cond (suspended g r j) (cond (ends g r e j) 1 k) 0
    unfolding suspended_at ended_word
    suspended_leapt =
        ap (λ (p : Place). p.suspended) place_job
        ∙ ap₂ (λ (a b : Bool). suspended_at r j + cond a (cond b 1 k) 0) (job_word_bit g.lists.jobs (suspended g r) j few l) (job_word_bit g.lists.jobs (ends g r e) j few l)

    pub waited_leapt : waited_at (leapt g r e k) j ≡ waited_at r j + cond (waits g r e j) k 0
    unfolding waited_at
    waited_leapt = ap (λ (p : Place). p.waited) place_job ∙ ap (λ (b : Bool). waited_at r j + cond b k 0) (job_word_bit g.lists.jobs (waits g r e) j few l)

    pub standing_leapt : standing_at (leapt g r e k) j
        ≡ next_standing r.tick k (eqb e j) (ends g r e j) (arrival g.lists.jobs j) (execution g.lists.jobs j) (done_at r j + cond (eqb e j) k 0) (standing_at r j)
    unfolding standing_at done_at ended_word
    standing_leapt =
        ap (λ (p : Place). p.standing) place_job
        ∙ ap (λ (b : Bool). next_standing r.tick k (eqb e j) b (arrival g.lists.jobs j) (execution g.lists.jobs j) (done_at r j + cond (eqb e j) k 0) (standing_at r j))
        (job_word_bit g.lists.jobs (ends g r e) j few l)

-- a shorter stretch is as quiet, and as silent
pub quiet_within : (g : Given) (r : Record) (e u v : ℕ) → Quiet g r e u → v ≤ u → Quiet g r e v
quiet_within g r e u v q b =
    record {
      arrivals = λ j l h. omega (arith, q.arrivals j l h);
      slacks = λ j l a h. omega (arith, q.slacks j l a h);
      finish = λ l. omega (arith, q.finish l);
      nominal = λ s l h. omega (arith, q.nominal s l h);
    }

pub silent_within : (g : Given) (r : Record) (e u v : ℕ) → Silent g r e u → v ≤ u → Silent g r e v
silent_within g r e u v w b = record { quiet = quiet_within g r e u v w.quiet b; slacks = λ j l h. omega (arith, w.slacks j l h) }

-- inside a stretch that begins with tick t nobody arrives and nobody finishes
abbrev still : ℕ → Bool → Standing → Standing
still t ended NotArrived = NotArrived
still t ended Unfinished = cond ended (Ended t) Unfinished
still t ended (Finished f) = Finished f
still t ended (Ended x) = Ended x

still_alive : (t : ℕ) (b : Bool) (s : Standing) → is_unfinished (still t b s) ≡ (is_unfinished s && not b)
still_alive t b NotArrived = refl
still_alive t true Unfinished = refl
still_alive t false Unfinished = refl
still_alive t b (Finished f) = refl
still_alive t b (Ended x) = refl

-- what is added to the ticks suspended: one tick more where it is still so
added : (s b : Bool) (n k : ℕ) → n + cond s (cond b 1 k) 0 + cond (s && not b) 1 0 ≡ n + cond s (cond b 1 (k + 1)) 0
added true true n k = omega arith
added true false n k = omega arith
added false b n k = omega arith

-- what is added to the others
adds : (b : Bool) (n k : ℕ) → n + cond b k 0 + cond b 1 0 ≡ n + cond b (k + 1) 0
adds true n k = omega arith
adds false n k = omega arith

-- where each that passes one test has one as great that passes the other, the greatest key does not exceed the other's
top_most : (f h : ℕ → Bool) (key : ℕ → ℕ) (n : ℕ) → ((i : ℕ) → i < n → f i ≡ true → (j : ℕ) × (j < n) × ((h j ≡ true) × (key i ≤ key j))) → greatest_key n f key ≤ greatest_key n h key
top_most f h key n w = go (dec_lt top (greatest_key n f key))
  where
    top : ℕ
    top = greatest_key n h key

    go : Dec (top < greatest_key n f key) → greatest_key n f key ≤ top
    go (no b) = omega arith
    go (yes b) =
        let s = some_found (λ i. f i && ltb top (key i)) n (greatest_key_law f key n top ∙ lt-ltb top (greatest_key n f key) b) in
        let x = w s.0 s.1 (and_left (f s.0) _ s.2) in
        let above = ltb-true top (key s.0) (and_right (f s.0) _ s.2) in
        let more : top < key x.0 = omega (arith, x.2.1) in
        let some = some_true (λ i. h i && ltb top (key i)) n x.0 x.1 (and_true x.2.0 (lt-ltb top (key x.0) more)) in
        absurd (omega (arith, ltb-true top top (sym (greatest_key_law h key n top) ∙ some)))

none_of : {a b c d : Bool} → a ≡ false → b ≡ false → c ≡ false → d ≡ false → (a || b || c || d) ≡ false
none_of p q s t = rw (p, q, s, t)

-- Inside a stretch of the entry e, k ticks from its first: what stays. Who is eligible, and so who may run; who is suspended, but for those
-- ended, and by how critical a job; and nobody is ended any more.
pub record Held (g : Given) (r : Record) (e k : ℕ) : Type 0 where
  pub eligible_held : (j : ℕ) → j < job_count g.lists.jobs → eligible g (leapt g r e k) j ≡ eligible g r j
  pub candidate_held : (j : ℕ) → j < job_count g.lists.jobs → candidate g (leapt g r e k) j ≡ candidate g r j
  pub lowest_held : lowest g (leapt g r e k) ≡ lowest g r
  pub may_held : (x : ℕ) → candidate_or_idle g (leapt g r e k) x ≡ candidate_or_idle g r x
  pub suspended_held : (j : ℕ) → j < job_count g.lists.jobs → suspended g (leapt g r e k) j ≡ (suspended g r j && not (ends g r e j))
  pub top_held : greatest_key (job_count g.lists.jobs) (past_zero_slack g (leapt g r e k)) (job_criticality g.lists)
      ≡ greatest_key (job_count g.lists.jobs) (past_zero_slack g r) (job_criticality g.lists)
  pub none_ends : (j : ℕ) → j < job_count g.lists.jobs → ends g (leapt g r e k) e j ≡ false

module _ (g : Given) (r : Record) (e : ℕ) (few : job_count g.lists.jobs ≤ 64) (sound : consistent g r ≡ true) (may : candidate_or_idle g r e ≡ true) (u : ℕ) (quiet : Quiet g r e u) where
  small : (j : ℕ) → j < job_count g.lists.jobs → j < 64
  small j l = omega arith

  module _ (k : ℕ) (inside : r.tick + k < u) where
    -- the entry has not done its c yet
    unfinished : (j : ℕ) → j < job_count g.lists.jobs → e ≡ j → done_at r j + k < execution g.lists.jobs j
    unfinished j l q =
        let f = subst (λ (i : ℕ). i < job_count g.lists.jobs → u + done_at r i ≤ r.tick + execution g.lists.jobs i) q quiet.finish l in
        omega arith

    -- nor, in SE, reached its C
    unreached : is_se g.mode ≡ true → (j : ℕ) → j < job_count g.lists.jobs → e ≡ j → done_at r j < job_nominal g.lists j → done_at r j + k < job_nominal g.lists j
    unreached se j l q d =
        let c = subst (λ (i : ℕ). i < job_count g.lists.jobs → done_at r i < job_nominal g.lists i → u + done_at r i ≤ r.tick + job_nominal g.lists i) q (quiet.nominal se) l d in
        omega arith

    standing_mid : (j : ℕ) → j < job_count g.lists.jobs → standing_at (leapt g r e k) j ≡ still r.tick (ends g r e j) (standing_at r j)
    standing_mid j l = standing_leapt g r e k few j l ∙ go (standing_at r j) (sound_at_law g r sound j (small j l))
      where
        done : ℕ
        done = done_at r j + cond (eqb e j) k 0

        not_yet : (eqb e j && eqb done (execution g.lists.jobs j)) ≡ false
        not_yet =
            never_true _ (λ h.
            let q = eqb-true e j (and_left (eqb e j) _ h) in
            let c = eqb-true done _ (and_right (eqb e j) _ h) in
            let d : done ≡ done_at r j + k = ap (λ (b : Bool). done_at r j + cond b k 0) (eq-eqb e j q) in
            omega (arith, unfinished j l q))

        go : (s : Standing) → Sound g r.tick j (done_at r j) s
            → next_standing r.tick k (eqb e j) (ends g r e j) (arrival g.lists.jobs j) (execution g.lists.jobs j) done s ≡ still r.tick (ends g r e j) s
        go NotArrived w = rw (lt-leb (arrival g.lists.jobs j) (r.tick + k) (omega (arith, quiet.arrivals j l (w.away l))))
        go Unfinished w = rw not_yet
        go (Finished f) w = refl
        go (Ended x) w = refl

    alive_mid : (j : ℕ) → j < job_count g.lists.jobs → alive (leapt g r e k) j ≡ (alive r j && not (ends g r e j))
    unfolding alive
    alive_mid j l = ap is_unfinished (standing_mid j l) ∙ still_alive r.tick (ends g r e j) (standing_at r j)

    was_alive : (j : ℕ) → j < job_count g.lists.jobs → alive (leapt g r e k) j ≡ true → alive r j ≡ true
    was_alive j l h = and_left (alive r j) _ (sym (alive_mid j l) ∙ h)

    -- past zero slack inside: past zero slack in the first tick
    past_was : (j : ℕ) → j < job_count g.lists.jobs → past_zero_slack g (leapt g r e k) j ≡ true → past_zero_slack g r j ≡ true
    past_was j l h =
        let w = (past_exactly g (leapt g r e k) j).0 h in
        let t = tick_leapt g r e k in
        let a = was_alive j l w.0 in
        (past_exactly g r j).1 (a, by a (dec_lt r.tick (zero_slack_instant g.lists j)) (rw t at w.1))
      where
        by : alive r j ≡ true → Dec (r.tick < zero_slack_instant g.lists j) → zero_slack_instant g.lists j ≤ r.tick + k → zero_slack_instant g.lists j ≤ r.tick
        by a (yes b) x = absurd (omega (arith, quiet.slacks j l a b))
        by a (no b) x = omega arith

    past_stays : (j : ℕ) → j < job_count g.lists.jobs → past_zero_slack g r j ≡ true → ends g r e j ≡ false → past_zero_slack g (leapt g r e k) j ≡ true
    past_stays j l h x =
        let w = (past_exactly g r j).0 h in
        (past_exactly g (leapt g r e k) j).1 (alive_mid j l ∙ and_true w.0 (not_of x), rw tick_leapt (omega (arith, w.1)))

    -- the most critical job past zero slack is eligible, so not ended
    past_top : (i : ℕ) → i < job_count g.lists.jobs → past_zero_slack g r i ≡ true
        → (j : ℕ) × (j < job_count g.lists.jobs) × ((past_zero_slack g (leapt g r e k) j ≡ true) × (job_criticality g.lists i ≤ job_criticality g.lists j))
    past_top i l h =
        let w = most_there (past_zero_slack g r) (job_criticality g.lists) (job_count g.lists.jobs) i l h in
        (w.0, w.1.below, (past_stays w.0 w.1.below w.1.passes (eligible_unended g r e w.0 (top_eligible g r w.0 w.1)), w.1.tops i l h))

    -- so the greatest criticality past zero slack stays
    top_mid : greatest_key (job_count g.lists.jobs) (past_zero_slack g (leapt g r e k)) (job_criticality g.lists)
        ≡ greatest_key (job_count g.lists.jobs) (past_zero_slack g r) (job_criticality g.lists)
    top_mid =
        let n = job_count g.lists.jobs in
        let m = past_zero_slack g (leapt g r e k) in
        let a : greatest_key n m (job_criticality g.lists) ≤ greatest_key n (past_zero_slack g r) (job_criticality g.lists) =
        top_most m (past_zero_slack g r) (job_criticality g.lists) n (λ i l h. (i, l, (past_was i l h, omega arith))) in
        let b : greatest_key n (past_zero_slack g r) (job_criticality g.lists) ≤ greatest_key n m (job_criticality g.lists) =
        top_most (past_zero_slack g r) m (job_criticality g.lists) n past_top in
        omega arith

    -- and who is eligible
    eligible_mid : (j : ℕ) → j < job_count g.lists.jobs → eligible g (leapt g r e k) j ≡ eligible g r j
    eligible_mid j l = same_test (eligible g (leapt g r e k) j) (eligible g r j) was stays
      where
        was : eligible g (leapt g r e k) j ≡ true → eligible g r j ≡ true
        was h =
            let a = (eligible_exactly g (leapt g r e k) j).0 h in
            (eligible_exactly g r j).1 (was_alive j l a.0, λ i m p. let w = past_top i m p in omega (arith, w.2.1, a.1 w.0 w.1 w.2.0))

        stays : eligible g r j ≡ true → eligible g (leapt g r e k) j ≡ true
        stays h =
            let w = (eligible_exactly g r j).0 h in
            (eligible_exactly g (leapt g r e k) j).1 (alive_mid j l ∙ and_true w.0 (not_of (eligible_unended g r e j h)), λ i m p. w.1 i m (past_was i m p))

    may_mid : (x : ℕ) → candidate_or_idle g (leapt g r e k) x ≡ candidate_or_idle g r x
    may_mid = may_alike g r (leapt g r e k) eligible_mid

    -- over inside: over in the first tick
    over_was : (j : ℕ) → j < job_count g.lists.jobs → over g (leapt g r e k) e j ≡ true → over g r e j ≡ true
    unfolding over done_after
    over_was j l h =
        let both = and_left (is_se g.mode && past_zero_slack g (leapt g r e k) j) _ h in
        let se = and_left (is_se g.mode) _ both in
        let c = ltb-true (job_nominal g.lists j) _ (and_right (is_se g.mode && past_zero_slack g (leapt g r e k) j) _ h) in
        and_true (and_true se (past_was j l (and_right (is_se g.mode) _ both)))
        (lt-ltb (job_nominal g.lists j) _ (by se (ℕ_discrete e j) (subst (λ (d : ℕ). job_nominal g.lists j < d + cond (eqb e j) 1 0) (done_leapt g r e k few j l) c)))
      where
        by : is_se g.mode ≡ true → Dec (e ≡ j) → job_nominal g.lists j < done_at r j + cond (eqb e j) k 0 + cond (eqb e j) 1 0 → job_nominal g.lists j < done_at r j + cond (eqb e j) 1 0
        by se (no q) = rw (ne_eqb e j q) (λ c. omega arith)
        by se (yes q) = rw (eq-eqb e j q) (λ c. reached (dec_lt (done_at r j) (job_nominal g.lists j)) c)
          where
            reached : Dec (done_at r j < job_nominal g.lists j) → job_nominal g.lists j < done_at r j + k + 1 → job_nominal g.lists j < done_at r j + 1
            reached (yes b) c = absurd (omega (arith, unreached se j l q b))
            reached (no b) c = omega arith

    -- so nobody is ended inside: who would be was ended in the first tick
    ends_mid : (j : ℕ) → j < job_count g.lists.jobs → ends g (leapt g r e k) e j ≡ false
    unfolding ends some_job
    ends_mid j l =
        never_true _ (λ h.
        let a = sym (alive_mid j l) ∙ and_left (alive (leapt g r e k) j) _ h in
        let w = some_found (λ i. over g (leapt g r e k) e i && more_critical g i j) (job_count g.lists.jobs) (and_right (alive (leapt g r e k) j) _ h) in
        let more = and_right (over g (leapt g r e k) e w.0) _ w.2 in
        let was = over_was w.0 w.1 (and_left (over g (leapt g r e k) e w.0) _ w.2) in
        clash (and_true (and_left (alive r j) _ a) (some_true (λ i. over g r e i && more_critical g i j) (job_count g.lists.jobs) w.0 w.1 (and_true was more)))
        (ended_not (and_right (alive r j) _ a)))
      where
        ended_not : not (ends g r e j) ≡ true → ends g r e j ≡ false
        ended_not x = never_true _ (λ y. clash x (ap not y))

    -- who is suspended stays so, but for those ended
    suspended_mid : (j : ℕ) → j < job_count g.lists.jobs → suspended g (leapt g r e k) j ≡ (suspended g r j && not (ends g r e j))
    unfolding eligible
    suspended_mid j l =
        go (alive r j) (ends g r e j) (suspended g r j) (alive (leapt g r e k) j) (suspended g (leapt g r e k) j) (alive_mid j l) (eligible_mid j l)
        (λ h. ((suspended_exactly g r j).0 h).0) (λ h. ((suspended_exactly g (leapt g r e k) j).0 h).0) (ended_suspended g r e j)
      where
        go : (a b s x y : Bool) → x ≡ (a && not b) → (x && not y) ≡ (a && not s) → (s ≡ true → a ≡ true) → (y ≡ true → x ≡ true) → (b ≡ true → s ≡ true) → y ≡ (s && not b)
        go a true s x true p q h i j = clash (i refl) (p ∙ and_false_right a refl)
        go a true s x false p q h i j = sym (and_false_right s refl)
        go a false s false true p q h i j = clash (i refl) refl
        go true false true true true p q h i j = refl
        go true false false true true p q h i j = clash q refl
        go false false s true true p q h i j = clash refl p
        go true false true true false p q h i j = clash refl q
        go true false true false false p q h i j = clash p refl
        go false false true x false p q h i j = clash (h refl) refl
        go a false false x false p q h i j = refl

    waits_mid : (j : ℕ) → j < job_count g.lists.jobs → waits g (leapt g r e k) e j ≡ waits g r e j
    unfolding waits
    waits_mid j l = ap (λ (b : Bool). b && ltb e (job_count g.lists.jobs) && not (eqb e j)) (eligible_mid j l)

    -- one tick more, of each number and of the standing
    done_more : (j : ℕ) → j < job_count g.lists.jobs → done_after g (leapt g r e k) e j ≡ done_at r j + cond (eqb e j) (k + 1) 0
    unfolding done_after
    done_more j l = ap (λ (d : ℕ). d + cond (eqb e j) 1 0) (done_leapt g r e k few j l) ∙ adds (eqb e j) (done_at r j) k

    suspended_more : (j : ℕ) → j < job_count g.lists.jobs → suspended_after g (leapt g r e k) e j ≡ suspended_at r j + cond (suspended g r j) (cond (ends g r e j) 1 (k + 1)) 0
    unfolding suspended_after
    suspended_more j l =
        ap₂ (λ (d : ℕ) (b : Bool). d + cond b 1 0) (suspended_leapt g r e k few j l) (suspended_mid j l) ∙ added (suspended g r j) (ends g r e j) (suspended_at r j) k

    waited_more : (j : ℕ) → j < job_count g.lists.jobs → waited_after g (leapt g r e k) e j ≡ waited_at r j + cond (waits g r e j) (k + 1) 0
    unfolding waited_after
    waited_more j l = ap₂ (λ (d : ℕ) (b : Bool). d + cond b 1 0) (waited_leapt g r e k few j l) (waits_mid j l) ∙ adds (waits g r e j) (waited_at r j) k

    standing_more : (j : ℕ) → j < job_count g.lists.jobs
        → standing_after g (leapt g r e k) e j (standing_at (leapt g r e k) j)
        ≡ next_standing r.tick (k + 1) (eqb e j) (ends g r e j) (arrival g.lists.jobs j) (execution g.lists.jobs j) (done_at r j + cond (eqb e j) (k + 1) 0) (standing_at r j)
    unfolding standing_after goes_on finishes opening arriving arrived
    standing_more j l = ap (standing_after g (leapt g r e k) e j) (standing_mid j l) ∙ go (ends g r e j) refl (standing_at r j)
      where
        next : suc (leapt g r e k).tick ≡ r.tick + (k + 1)
        next = omega (arith, tick_leapt g r e k)

        unmoved : ends g r e j ≡ true → eqb e j ≡ false
        unmoved h = ne_eqb e j (λ q. clash h (eligible_unended g r e j (runs_eligible g r e j may (small j l) q)))

        go : (b : Bool) → ends g r e j ≡ b → (s : Standing) → standing_after g (leapt g r e k) e j (still r.tick b s)
            ≡ next_standing r.tick (k + 1) (eqb e j) b (arrival g.lists.jobs j) (execution g.lists.jobs j) (done_at r j + cond (eqb e j) (k + 1) 0) s
        go b h NotArrived = rw (lt-ltb j (job_count g.lists.jobs) l, next)
        go true h Unfinished = rw (unmoved h)
        go false h Unfinished = rw (ends_mid j l, done_more j l, next)
        go b h (Finished f) = refl
        go b h (Ended x) = refl

    place_more : consistent g (leapt g r e k) ≡ true → (j : ℕ) → j < 64 → place_after g (leapt g r e k) e j ≡ place_at (leapt g r e (k + 1)) j
    unfolding place_after done_at suspended_at waited_at standing_at
    place_more w j l = go (dec_lt j (job_count g.lists.jobs))
      where
        go : Dec (j < job_count g.lists.jobs) → place_after g (leapt g r e k) e j ≡ place_at (leapt g r e (k + 1)) j
        go (yes b) =
            same_place (place_after g (leapt g r e k) e j) (place_at (leapt g r e (k + 1)) j) (done_more j b ∙ sym (done_leapt g r e (k + 1) few j b))
            (suspended_more j b ∙ sym (suspended_leapt g r e (k + 1) few j b)) (waited_more j b ∙ sym (waited_leapt g r e (k + 1) few j b))
            (standing_more j b ∙ sym (standing_leapt g r e (k + 1) few j b))
        go (no b) =
            sym (beyond_next g (leapt g r e k) e few w (may_mid e ∙ may) j (omega arith) l)
            ∙ place_beyond g r e k j (omega arith) l ∙ sym (place_beyond g r e (k + 1) j (omega arith) l)

    -- one tick more is a leap by one more
    leap_more : consistent g (leapt g r e k) ≡ true → advanced g (leapt g r e k) e ≡ leapt g r e (k + 1)
    unfolding advanced
    leap_more w =
        let next : suc (leapt g r e k).tick ≡ (leapt g r e (k + 1)).tick = omega (arith, tick_leapt g r e k, tick_leapt g r e (k + 1)) in
        same_record (record { tick = suc (leapt g r e k).tick; previous = e; places = list_from 0 64 (place_after g (leapt g r e k) e) }) (leapt g r e (k + 1)) next
        (sym (previous_leapt g r e (k + 1))) (list_same 64 (place_after g (leapt g r e k) e) (next_at g.lists.jobs r (k + 1) (ticked g r e)) (λ j l. place_more w j l ∙ place_leapt g r e (k + 1) j l)
        ∙ places)
      where
        places : list_from 0 64 (next_at g.lists.jobs r (k + 1) (ticked g r e)) ≡ (leapt g r e (k + 1)).places
        places = unfold leapt next_record in refl

  -- the leapt record is consistent
  pub leap_sound : (k : ℕ) → 1 ≤ k → r.tick + k ≤ u → r.tick + k ≤ 16384 → consistent g (leapt g r e k) ≡ true
  leap_sound zero some b room = absurd (omega arith)
  leap_sound (suc zero) some b room = ap (consistent g) (leap_one g r e few sound may) ∙ advanced_consistent g r e (omega arith) may sound
  leap_sound (suc (suc k)) some b room =
      let w = leap_sound (suc k) (omega arith) (omega arith) (omega arith) in
      let to : advanced g (leapt g r e (suc k)) e ≡ leapt g r e (suc (suc k)) = leap_more (suc k) (omega arith) w ∙ ap (leapt g r e) (add-one (suc k)) in
      ap (consistent g) (sym to) ∙ advanced_consistent g (leapt g r e (suc k)) e (omega (arith, tick_leapt g r e (suc k))) (may_mid (suc k) (omega arith) e ∙ may) w

  -- one tick more, from a record inside
  pub next_leap : (k : ℕ) → 1 ≤ k → r.tick + k < u → r.tick + k ≤ 16384 → advanced g (leapt g r e k) e ≡ leapt g r e (suc k)
  next_leap k some b room = leap_more k b (leap_sound k some (omega arith) room) ∙ ap (leapt g r e) (add-one k)

  -- k ticks one by one are one leap
  pub leap_replay : (k : ℕ) → 1 ≤ k → r.tick + k ≤ u → r.tick + k ≤ 16384 → replay g r (replicate k e) ≡ leapt g r e k
  unfolding replay
  leap_replay zero some b room = absurd (omega arith)
  leap_replay (suc zero) some b room = sym (leap_one g r e few sound may)
  leap_replay (suc (suc k)) some b room =
      let last : replicate (suc (suc k)) e ≡ replicate (suc k) e ++ replicate 1 e =
      sym (replicate-append-replicate (suc k) 1 e ∙ ap (λ (m : ℕ). replicate m e) (add-one (suc k))) in
      ap (replay g r) last ∙ replay_append g r (replicate (suc k) e) (replicate 1 e)
      ∙ ap (λ (x : Record). advanced g x e) (leap_replay (suc k) (omega arith) (omega arith) (omega arith)) ∙ next_leap (suc k) (omega arith) (omega arith) (omega arith)

  pub leap_held : (k : ℕ) → 1 ≤ k → r.tick + k < u → r.tick + k ≤ 16384 → Held g r e k
  leap_held k some b room =
      record {
        eligible_held = eligible_mid k b;
        candidate_held = candidate_alike g r (leapt g r e k) (eligible_mid k b);
        lowest_held = lowest_alike g r (leapt g r e k) (eligible_mid k b);
        may_held = may_mid k b;
        suspended_held = suspended_mid k b;
        top_held = top_mid k b;
        none_ends = ends_mid k b;
      }

-- each tick inside a silent stretch is no scheduling instant, and so the stretch's entry is the only legal one
module _ (g : Given) (r : Record) (e : ℕ) (few : job_count g.lists.jobs ≤ 64) (sound : consistent g r ≡ true) (may : candidate_or_idle g r e ≡ true) (u : ℕ) (silent : Silent g r e u) where
  pub no_instant : (k : ℕ) → 1 ≤ k → r.tick + k < u → scheduling_instant g (leapt g r e k) e ≡ false
  unfolding scheduling_instant some_job instant_by
  no_instant k some inside =
      none_passes (instant_by g (leapt g r e k) e) (job_count g.lists.jobs) (λ j l.
      none_of (ne_eqb (arrival g.lists.jobs j) (leapt g r e k).tick (no_arrival j l)) (no_finish j l)
      (ne_eqb (zero_slack_instant g.lists j) (leapt g r e k).tick (no_slack j l)) (never_true _ (no_nominal j l)))
    where
      t : (leapt g r e k).tick ≡ r.tick + k
      t = tick_leapt g r e k

      no_arrival : (j : ℕ) → j < job_count g.lists.jobs → arrival g.lists.jobs j ≡ (leapt g r e k).tick → ⊥
      no_arrival j l q = omega (arith, t, silent.quiet.arrivals j l (omega (arith, t)))

      no_slack : (j : ℕ) → j < job_count g.lists.jobs → zero_slack_instant g.lists j ≡ (leapt g r e k).tick → ⊥
      no_slack j l q = omega (arith, t, silent.slacks j l (omega (arith, t)))

      no_finish : (j : ℕ) → j < job_count g.lists.jobs → is_finished_at (leapt g r e k).tick (standing_at (leapt g r e k) j) ≡ false
      no_finish j l =
          ap (is_finished_at (leapt g r e k).tick) (standing_mid g r e few sound may u silent.quiet k inside j l)
          ∙ go (ends g r e j) (standing_at r j) (sound_at_law g r sound j (omega arith))
        where
          go : (b : Bool) (s : Standing) → Sound g r.tick j (done_at r j) s → is_finished_at (leapt g r e k).tick (still r.tick b s) ≡ false
          go b NotArrived w = refl
          go true Unfinished w = refl
          go false Unfinished w = refl
          go b (Finished f) w = ne_eqb f (leapt g r e k).tick (λ q. omega (arith, t, w.by))
          go b (Ended x) w = refl

      no_nominal : (j : ℕ) → j < job_count g.lists.jobs → (is_se g.mode && eqb e j && eqb (done_at (leapt g r e k) j) (job_nominal g.lists j)) ≡ true → ⊥
      no_nominal j l h =
          let se = and_left (is_se g.mode) _ (and_left (is_se g.mode && eqb e j) _ h) in
          let q = eqb-true e j (and_right (is_se g.mode) _ (and_left (is_se g.mode && eqb e j) _ h)) in
          let c = eqb-true (done_at (leapt g r e k) j) _ (and_right (is_se g.mode && eqb e j) _ h) in
          let d : done_at (leapt g r e k) j ≡ done_at r j + k = done_leapt g r e k few j l ∙ ap (λ (b : Bool). done_at r j + cond b k 0) (eq-eqb e j q) in
          omega (arith, unreached g r e few sound may u silent.quiet k inside se j l q (omega arith))

  pub only_legal : (k : ℕ) → 1 ≤ k → r.tick + k < u → (x : ℕ) → legal_entry g (leapt g r e k) e x ≡ eqb x e
  unfolding legal_entry
  only_legal k some inside x =
      rw (late, no_instant k some inside) (same_test (candidate_or_idle g m x && eqb x e) (eqb x e) (and_right (candidate_or_idle g m x) (eqb x e))
      (λ q. and_true (ap (candidate_or_idle g m) (eqb-true x e q) ∙ may_mid g r e few sound may u silent.quiet k inside e ∙ may) q))
    where
      m : Record
      m = leapt g r e k

      late : eqb m.tick 0 ≡ false
      late = ne_eqb m.tick 0 (λ q. omega (arith, tick_leapt g r e k))

-- at the end of a stretch that is one of the instants it is bounded by, the tick is a scheduling instant
module _ (g : Given) (r : Record) (e : ℕ) (few : job_count g.lists.jobs ≤ 64) (may : candidate_or_idle g r e ≡ true) where
  pub leap_reaches : (k : ℕ) → Reaches g r e (r.tick + k) → scheduling_instant g (leapt g r e k) e ≡ true
  unfolding scheduling_instant some_job instant_by
  leap_reaches k = ⊎_elim (λ x. by_job x.0 x.1 x.2) (λ x. by_entry x.0 x.1)
    where
      m : Record
      m = leapt g r e k

      t : r.tick + k ≡ m.tick
      t = sym (tick_leapt g r e k)

      here : (j : ℕ) → j < job_count g.lists.jobs → instant_by g m e j ≡ true → some (job_count g.lists.jobs) (instant_by g m e) ≡ true
      here j l = some_true (instant_by g m e) (job_count g.lists.jobs) j l

      by_job : (j : ℕ) → j < job_count g.lists.jobs → (arrival g.lists.jobs j ≡ r.tick + k) ⊎ (zero_slack_instant g.lists j ≡ r.tick + k)
          → some (job_count g.lists.jobs) (instant_by g m e) ≡ true
      by_job j l (inl q) = here j l (or_left _ (or_left _ (or_left _ (eq-eqb (arrival g.lists.jobs j) m.tick (q ∙ t)))))
      by_job j l (inr q) =
          here j l (or_left _ (or_right (eqb (arrival g.lists.jobs j) m.tick || is_finished_at m.tick (standing_at m j)) (eq-eqb (zero_slack_instant g.lists j) m.tick (q ∙ t))))

      by_entry : e < job_count g.lists.jobs
          → (r.tick + k + done_at r e ≡ r.tick + execution g.lists.jobs e) ⊎ ((is_se g.mode ≡ true) × (r.tick + k + done_at r e ≡ r.tick + job_nominal g.lists e))
          → some (job_count g.lists.jobs) (instant_by g m e) ≡ true
      by_entry l (inl q) =
          let whole : done_at r e + k ≡ execution g.lists.jobs e = omega arith in
          let lives = alive_unfinished r e (eligible_alive g r e (runs_eligible g r e e may (omega arith) refl)) in
          let stands : standing_at m e ≡ Finished (r.tick + k) = standing_leapt g r e k few e l ∙ rw (lives, eq-eqb e e refl, eq-eqb (done_at r e + k) (execution g.lists.jobs e) whole) in
          here e l (or_left _ (or_left _ (or_right (eqb (arrival g.lists.jobs e) m.tick) (ap (is_finished_at m.tick) stands ∙ eq-eqb (r.tick + k) m.tick t))))
      by_entry l (inr x) =
          let q = x.1 in
          let d : done_at m e ≡ job_nominal g.lists e = done_leapt g r e k few e l ∙ ap (λ (b : Bool). done_at r e + cond b k 0) (eq-eqb e e refl) ∙ omega arith in
          here e l (or_right (eqb (arrival g.lists.jobs e) m.tick || is_finished_at m.tick (standing_at m e) || eqb (zero_slack_instant g.lists e) m.tick)
          (and_true (and_true x.0 (eq-eqb e e refl)) (eq-eqb (done_at m e) (job_nominal g.lists e) d)))
