-- One turn of a loop by leaps. What the loop keeps is true before it, so what it sees, how far nothing happens and the record that it makes
-- are the leap's; so the run, the mending or the claim is taken over as many ticks, and what is kept is true again.
use Prim.Native.Nat.{◌+◌, ◌-◌, ◌<◌, ℕ, ◌≤◌}
use mathlib.Core.Bool.{Bool, false, true}
use mathlib.Core.List.{◌++◌, List}
use mathlib.Core.Logic.{◌≢◌}
use mathlib.Core.Path.{ap, sym, ◌∙◌, ◌≡◌}
use native.Mathlib.Decide.{dec_lt}
use native.Mathlib.Omega.{arith}
use lib.ListN.{get_or, length, length-replicate, replicate, take}
use lib.Seq.{sets}
use Rattle.bits.specs.Below.{bit, word}
use Rattle.bits.specs.Below as below
use Rattle.tables.specs.Outcomes.{Done}
use Rattle.tables.specs.Refusals.{check_lists}
use Rattle.tables.specs.Tables.{job_count}
use Rattle.tables.proofs.Laws.Accepted.{lists_few}
use Rattle.zsrm.specs.declared.answers.Stepped.{Stepped}
use Rattle.zsrm.specs.declared.leap.Underway.{Underway}
use Rattle.zsrm.specs.declared.next.Ticked.{Ticked}
use Rattle.zsrm.specs.declared.record.Record.{Record}
use Rattle.zsrm.specs.declared.look.View.{View}
use Rattle.zsrm.specs.declared.tie.Tie.{Tie}
use Rattle.zsrm.specs.Answers.{stepped}
use Rattle.zsrm.specs.Code.Claims.{WalkedAs}
use Rattle.zsrm.specs.Code.Gathered.{ahead_in, chosen_in, gap_in, Gathers, ticked_in, top_or_idle_in, view_in}
use Rattle.zsrm.specs.Code.Leap.{leapt, Quiet, Reaches, Silent}
use Rattle.zsrm.specs.Code.Underway.{alive_in, done_in, ended_in, Kept, leap_in, next_in, repeated, started_in}
use Rattle.zsrm.specs.Code.View.{view}
use Rattle.zsrm.specs.Given.{Given, is_se}
use Rattle.zsrm.specs.Legal.{legal_entry}
use Rattle.zsrm.specs.Mend.{mend_choice}
use Rattle.zsrm.specs.Record.{consistent, place_at, spent}
use Rattle.zsrm.specs.Run.{entries_by}
use Rattle.zsrm.specs.Tick.{advanced, candidate_or_idle, choice, ended_word}
use Rattle.zsrm.proofs.Laws.Claims.{Replaying}
use Rattle.zsrm.proofs.Laws.Consistent.{spent_tick}
use Rattle.zsrm.proofs.Laws.Going.{Going}
use Rattle.zsrm.proofs.Laws.Leap.{silent_within}
use Rattle.zsrm.proofs.Laws.Leaps.{choice_takes, Free, free_legal, going_entries, going_fills, going_leap, mend_takes, replaying_leap}
use Rattle.zsrm.proofs.Laws.Leaps.{Same, stored_front, Takes, walking_breaks, walking_leap, walking_stops, Walking}
use Rattle.zsrm.proofs.Laws.Next.{leap_one}
use Rattle.zsrm.proofs.Laws.Underway.{ahead_one, ahead_silent, ahead_reaches, ahead_within, alive_all, choice_in, ended_in_law}
use Rattle.zsrm.proofs.Laws.Underway.{kept_first, kept_leap, may_in, next_in_law, record_leaps, repeated_other, repeated_same}
use Rattle.zsrm.proofs.Laws.Underway.{repeated_within, seen_in, ticked_is}
use Rattle.zsrm.proofs.Laws.View.{our_choice_runs, stepped_made}

-- what a loop by leaps starts from: lists that passed their checks, their numbers gathered and counted, and the mode
pub record Setup (x : Given) (g : List ℕ) (n : ℕ) (se : Bool) : Type 0 where
  pub ok : check_lists x.lists ≡ Done
  pub gathers : Gathers x.lists g
  pub count : n ≡ job_count x.lists.jobs
  pub mode : se ≡ is_se x.mode

pub made_setup : (x : Given) (g : List ℕ) (n : ℕ) (se : Bool) → check_lists x.lists ≡ Done → Gathers x.lists g → n ≡ job_count x.lists.jobs → se ≡ is_se x.mode → Setup x g n se
made_setup x g n se ok gathers count mode = record { ok = ok; gathers = gathers; count = count; mode = mode }

-- What a turn of a claim comes to, from t on, where nothing happens for so many ticks and the entry goes on for k: it stops at another entry
-- before their end, else it goes on.
pub record Walks (x : Given) (schedule : List ℕ) (t far k : ℕ) (next : Underway) : Type 0 where
  pub one : 1 ≤ k
  pub within : t + k ≤ length schedule
  pub room : t + k ≤ 16384
  pub breaks : k < far → WalkedAs x schedule (record { ticks = t + k; «record» = next.«record» })
  pub on : far ≤ k → Replaying x schedule next.«record» (t + k) × (t + k < length schedule → Free x next.«record» next.«record».previous)
  pub kept : Kept x.lists next

module _ (x : Given) (g : List ℕ) (n : ℕ) (se : Bool) (z : Setup x g n se) where
  few : job_count x.lists.jobs ≤ 64
  few = lists_few x.lists z.ok

  pub setup_fits : n ≤ 64
  setup_fits = omega (arith, few, z.count)

  pub first_kept : (r : Record) (s : Underway) → s ≡ started_in g n r → Kept x.lists s
  first_kept r s q = rw (q, z.count) (kept_first x g z.ok z.gathers r)

  -- one tick
  module _ (r : Record) (v : View) (p : v ≡ view_in g (alive_in r 0 n) r.tick) where
    pub step_seen : v ≡ view x.lists r
    step_seen = seen_in x g z.ok z.gathers r (alive_in r 0 n) (ap (alive_in r 0) z.count ∙ alive_all x.lists.jobs r) v p

    module _ (e : ℕ) where
      pub step_ended : ended_in g se r v e ≡ ended_word x r e
      step_ended = ended_in_law x g z.ok z.gathers r (alive_in r 0 n) (ap (alive_in r 0) z.count ∙ alive_all x.lists.jobs r) v step_seen se z.mode e

      pub step_next : consistent x r ≡ true → candidate_or_idle x r e ≡ true → next_in g 0 n r 1 (ticked_in n v e (ended_in g se r v e)) ≡ advanced x r e
      unfolding leapt
      step_next sound may =
          ap (λ (m : ℕ). next_in g 0 m r 1 (ticked_in m v e (ended_in g se r v e))) z.count
          ∙ ap (next_in g 0 (job_count x.lists.jobs) r 1)
          (ticked_is x g z.ok z.gathers r (alive_in r 0 n) (ap (alive_in r 0) z.count ∙ alive_all x.lists.jobs r) v step_seen se z.mode e)
          ∙ next_in_law x.lists g z.gathers r 1 _ ∙ leap_one x r e few sound may

    pub step_chosen : (tie : Tie) (e : ℕ) → e ≡ chosen_in g n tie v r.previous → e ≡ choice x tie r
    step_chosen tie e h =
        choice_in x g z.ok z.gathers r (alive_in r 0 n) (ap (alive_in r 0) z.count ∙ alive_all x.lists.jobs r) v step_seen tie e
        (h ∙ ap (λ (m : ℕ). chosen_in g m tie v r.previous) z.count)

  pub step_made : (tie : Tie) (r : Record) (a : ℕ) (v : View) (e ended : ℕ) (d : Ticked) (next : Record) (ones : ℕ) → consistent x r ≡ true → a ≡ alive_in r 0 n
      → v ≡ view_in g a r.tick → e ≡ chosen_in g n tie v r.previous → ended ≡ ended_in g se r v e → d ≡ ticked_in n v e ended → next ≡ next_in g 0 n r 1 d
      → ones ≡ below.count 64 (bit v.ready)
      → ◌≡◌ {A = Stepped} (record { outcome = Done; «record» = next; ready = v.ready; ones = ones; entry = e; ended = ended }) (stepped x tie r)
  step_made tie r a v e ended d next ones sound qa qv qe qw qd qn qo =
      let p : v ≡ view_in g (alive_in r 0 n) r.tick = qv ∙ ap (λ (y : ℕ). view_in g y r.tick) qa in
      let chose = step_chosen r v p tie e qe in
      stepped_made x z.ok tie r v next e ended ones (step_seen r v p) chose
      (qn ∙ ap (next_in g 0 n r 1) (qd ∙ ap (ticked_in n v e) qw) ∙ step_next r v p e sound (our_choice_runs x z.ok tie r e chose)) (qw ∙ step_ended r v p e) qo

  module _ (s : Underway) (kept : Kept x.lists s) (v : View) (p : v ≡ view_in g s.alive s.«record».tick) where
    turn_seen : v ≡ view x.lists s.«record»
    turn_seen = seen_in x g z.ok z.gathers s.«record» s.alive kept.living v p

    pub turn_chosen : (tie : Tie) (e : ℕ) → e ≡ chosen_in g n tie v s.«record».previous → e ≡ choice x tie s.«record»
    turn_chosen tie e h =
        choice_in x g z.ok z.gathers s.«record» s.alive kept.living v turn_seen tie e (h ∙ ap (λ (m : ℕ). chosen_in g m tie v s.«record».previous) z.count)

    pub turn_may : (e : ℕ) (b : Bool) → b ≡ top_or_idle_in g n v e → b ≡ candidate_or_idle x s.«record» e
    turn_may e b h = may_in x g z.ok z.gathers s.«record» s.alive kept.living v turn_seen e b (h ∙ ap (λ (m : ℕ). top_or_idle_in g m v e) z.count)

    module _ (sound : consistent x s.«record» ≡ true) (e : ℕ) (may : candidate_or_idle x s.«record» e ≡ true) where
      -- what a leap asks for
      pub turn_fits : (k : ℕ) → s.«record».tick + k ≤ 16384 → ((n ≤ 64) × (s.came ≤ n))
          × ((s.«record».tick + k ≤ 16384) × ((j : ℕ) → j < 64 → spent (place_at s.«record» j) ≤ s.«record».tick))
      turn_fits k b = ((setup_fits, omega (arith, kept.came.within, z.count)), (b, spent_tick x s.«record» sound))

      module _ (k left : ℕ) (ql : left ≡ word 64 (ahead_in g s.early s.«record».tick)) (next : Underway) (made : next ≡ leap_in g n se s v e k left) where
        pub turn_record : next.«record» ≡ leapt x s.«record» e k
        turn_record =
            ap (λ (y : Underway). y.«record») (made ∙ ap (λ (m : ℕ). leap_in g m se s v e k left) z.count)
            ∙ record_leaps x g z.ok z.gathers s kept sound e k may se z.mode v p left

        pub turn_kept : Kept x.lists next
        turn_kept = rw (made, z.count) (kept_leap x g z.ok z.gathers s kept sound e k may se z.mode v p (omega arith) left ql)

      -- how far nothing happens
      module _ (most k : ℕ) (some : 1 ≤ most) (q : k ≡ gap_in g n se s.«record».tick e (done_in s.«record» n e) s.came s.early most) where
        far : k ≡ gap_in g (job_count x.lists.jobs) se s.«record».tick e (done_in s.«record» (job_count x.lists.jobs) e) s.came s.early most
        far = q ∙ ap (λ (m : ℕ). gap_in g m se s.«record».tick e (done_in s.«record» m e) s.came s.early most) z.count

        pub turn_one : 1 ≤ k
        turn_one = ahead_one x g z.ok z.gathers s kept sound se z.mode e most k may some far

        pub turn_within : k ≤ most
        turn_within = ahead_within x g z.ok z.gathers s kept sound se z.mode e most k may some far

        pub turn_silent : Silent x s.«record» e (s.«record».tick + k)
        turn_silent = ahead_silent x g z.ok z.gathers s kept sound se z.mode e most k may some far

        pub turn_quiet : Quiet x s.«record» e (s.«record».tick + k)
        turn_quiet = turn_silent.quiet

        pub turn_reaches : k < most → Reaches x s.«record» e (s.«record».tick + k)
        turn_reaches = ahead_reaches x g z.ok z.gathers s kept sound se z.mode e most k may some far

        -- a run of any choice that is kept in a stretch
        module _ (pick : Record → ℕ) (start : Record) (t : ℕ) (w : Going x pick start s.«record» t) (room : start.tick + (t + most) ≤ 16384)
            (takes : Takes x s.«record» e pick k) where
          pub turn_going : (left : ℕ) → left ≡ word 64 (ahead_in g s.early s.«record».tick) → (next : Underway) → next ≡ leap_in g n se s v e k left
              → Going x pick start next.«record» (t + k)
          turn_going left ql next made =
              going_leap x few pick start s.«record» t k e w turn_one (omega (arith, turn_within)) may turn_quiet takes next.«record» (turn_record k left ql next made)

          pub turn_entries : entries_by x pick start (t + k) ≡ entries_by x pick start t ++ replicate k e
          turn_entries = going_entries x few pick start s.«record» t k e w turn_one (omega (arith, turn_within)) may turn_quiet takes

          pub turn_fills : (l after : List ℕ) → take t l ≡ entries_by x pick start t → t + k ≤ length l → after ≡ sets l t (replicate k e)
              → take (t + k) after ≡ entries_by x pick start (t + k)
          turn_fills l after front b q =
              going_fills x few pick start s.«record» t k e w turn_one (omega (arith, turn_within)) may turn_quiet takes l after front
              (ap (take (t + k)) q ∙ stored_front l (replicate k e) t k (length-replicate k e) b)

        -- our run
        pub turn_takes : (tie : Tie) → s.«record».tick + k ≤ 16384 → e ≡ choice x tie s.«record» → Takes x s.«record» e (choice x tie) k
        turn_takes tie room h = choice_takes x s.«record» e few sound may (s.«record».tick + k) turn_quiet tie h k (omega arith) room

        pub turn_mends : s.«record».tick + k ≤ 16384 → e ≡ mend_choice x s.«record» → Takes x s.«record» e (mend_choice x) k
        turn_mends room h = mend_takes x s.«record» e few sound may (s.«record».tick + k) turn_silent h k (omega arith) room

    -- a claim: where it stands any entry that may run is legal, unless it is at its end
    module _ (schedule : List ℕ) (short : length schedule ≤ 16384) (t : ℕ) (w : Replaying x schedule s.«record» t)
        (free : t < length schedule → Free x s.«record» s.«record».previous) (b : t < length schedule) (e : ℕ) (here : e ≡ get_or schedule t 0) where
      walking : Walking x schedule s.«record» t
      walking = record { replaying = w; free = free b }

      pub walk_stops : candidate_or_idle x s.«record» e ≡ false → WalkedAs x schedule (record { ticks = t; «record» = s.«record» })
      walk_stops h = walking_stops x schedule s.«record» t e walking b here h

      module _ (may : candidate_or_idle x s.«record» e ≡ true) (far : ℕ)
          (q : far ≡ gap_in g n se s.«record».tick e (done_in s.«record» n e) s.came s.early (length schedule - t)) (k : ℕ) (qk : k ≡ repeated schedule t e far) where
        most_one : 1 ≤ length schedule - t
        most_one = omega arith

        far_one : 1 ≤ far
        far_one = turn_one w.sound e may (length schedule - t) far most_one q

        far_within : far ≤ length schedule - t
        far_within = turn_within w.sound e may (length schedule - t) far most_one q

        far_silent : Silent x s.«record» e (s.«record».tick + far)
        far_silent = turn_silent w.sound e may (length schedule - t) far most_one q

        k_within : k ≤ far
        k_within = rw qk (repeated_within schedule t e far)

        same : Same schedule t k e
        same i l = repeated_same schedule t e far i (rw (sym qk) l)

        other : k < far → get_or schedule (t + k) 0 ≢ e
        other h z = repeated_other schedule t e far (rw (sym qk) h) (ap (λ (m : ℕ). get_or schedule (t + m) 0) (sym qk) ∙ z)

        allowed : legal_entry x s.«record» s.«record».previous e ≡ true
        allowed = free_legal x s.«record» s.«record».previous (free b) e ∙ may

        pub walk_one : 1 ≤ k
        walk_one = at_least (dec_lt 0 k)
          where
            at_least : Dec (0 < k) → 1 ≤ k
            at_least (yes l) = l
            at_least (no l) = let z : t + k ≡ t = omega arith in absurd (other (omega (arith, far_one)) (ap (λ (m : ℕ). get_or schedule m 0) z ∙ sym here))

        pub walk_within : t + k ≤ length schedule
        walk_within = omega (arith, k_within, far_within)

        pub walk_room : s.«record».tick + k ≤ 16384
        walk_room = omega (arith, walk_within, w.time)

        module _ (next : Record) (made : next ≡ leapt x s.«record» e k) where
          pub walk_breaks : k < far → WalkedAs x schedule (record { ticks = t + k; «record» = next })
          walk_breaks h =
              walking_breaks x schedule few short s.«record» t k e walking walk_one same may next made (omega (arith, far_within)) (s.«record».tick + far) far_silent (omega arith) (other h)

          pub walk_on : far ≤ k → Replaying x schedule next (t + k) × (t + k < length schedule → Free x next next.previous)
          walk_on h =
              let all : k ≡ far = omega (arith, k_within) in
              let silent : Silent x s.«record» e (s.«record».tick + k) =
              silent_within x s.«record» e (s.«record».tick + far) (s.«record».tick + k) far_silent (omega arith) in (
                replaying_leap x few schedule short s.«record» t k e w walk_one same allowed walk_within silent next made,
                λ l. (walking_leap x schedule few short s.«record» t k e walking walk_one same may next made walk_within silent
                    (rw all (turn_reaches w.sound e may (length schedule - t) far most_one q (omega (arith, all))))).free,
              )

        -- the whole of it
        pub walk_turns : (left : ℕ) → left ≡ word 64 (ahead_in g s.early s.«record».tick) → (next : Underway) → next ≡ leap_in g n se s v e k left → Walks x schedule t far k next
        walk_turns left ql next made =
            let leaps : next.«record» ≡ leapt x s.«record» e k = turn_record w.sound e may k left ql next made in
            record {
              one = walk_one;
              within = walk_within;
              room = omega (arith, walk_within);
              breaks = walk_breaks next.«record» leaps;
              on = walk_on next.«record» leaps;
              kept = turn_kept w.sound e may k left ql next made;
            }
