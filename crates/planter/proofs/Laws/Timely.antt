-- No job of the planter is ever late, in any legal schedule and either mode: each is met, ended or open.
--
-- While a down-force or a depth job is alive, the tick goes to one of the two tasks: down-force is never suspended, depth by down-force alone,
-- and the log has the lowest priority. Let s be where the stretch of such ticks began that reaches up to now: no job of the two that arrived
-- before s is alive, and every tick since went to one that arrived since. In the 20 ticks from s on there arrive at most one down-force job
-- and two depth jobs, with 8 + 2 * 4 ticks of work: a stretch has at most 16 ticks. So a down-force job alive is at most 16 ticks old. A depth
-- job that arrives by s + 8 runs at once and is through by s + 12: no down-force job is past zero slack before that, and depth jobs lie 10
-- apart; one that arrives later is, while alive, younger than 8 ticks. A log job has every tick that goes to neither; of the 40 ticks from s
-- on, s being the start of the stretch in which it arrives, the two have at most 32, so that it has finished, or was ended, before they are
-- over.
use Prim.Native.Nat.{◌+◌, ◌<◌, suc, zero, ℕ, ◌≤◌}
use mathlib.Core.Bool.{◌&&◌, cond, false, false≢true, true}
use mathlib.Core.List.{List}
use mathlib.Core.Logic.{◌⊎◌, ◌≢◌, inl, inr, ⊎_elim}
use mathlib.Core.Path.{ap, refl, subst, sym, ◌∙◌, ◌≡◌}
use native.Mathlib.Decide.{ℕ_discrete, dec_le, dec_lt}
use native.Mathlib.Omega.{arith}
use lib.Dec.{eqb, leb}
use lib.ListN.{length}
use lib.Seq.{take-length}
use borrow.Author.Tests.{eq-eqb, eqb-true, le-leb, leb-true, ne_eqb}
use Rattle.bits.specs.Below.{sum_below}
use Rattle.bits.proofs.Laws.Bools.{and_left, and_right, and_true, by_cond, clash, either, not_of}
use Rattle.bits.proofs.Laws.Sums.{sum_more, sum_same}
use Rattle.tables.specs.Outcomes.{Done}
use Rattle.tables.specs.Refusals.{check_jobs}
use Rattle.tables.specs.Tables.{arrival, criticality, deadline, deadline_instant, execution, idle, job_count, job_criticality}
use Rattle.tables.specs.Tables.{job_priority, offset, overload, period, priority, task_count, task_of, zero_slack_instant}
use Rattle.tables.proofs.Laws.Accepted.{apart, few_jobs, accepted_job}
use Rattle.zsrm.specs.declared.mode.Mode.{Mode}
use Rattle.zsrm.specs.declared.mode.Mode.TheVariants.{SE}
use Rattle.zsrm.specs.declared.record.Record.{Record}
use Rattle.zsrm.specs.declared.record.Standing.{Standing}
use Rattle.zsrm.specs.declared.record.Standing.TheVariants.{Ended, Finished, NotArrived, Unfinished}
use Rattle.zsrm.specs.Given.{Given}
use Rattle.zsrm.specs.Record.{consistent, done_at, fresh, standing_at}
use Rattle.zsrm.specs.Run.{record_at, replay, replayed}
use Rattle.zsrm.specs.Tick.{advanced, alive, candidate, candidate_or_idle, eligible, past_zero_slack, some_job, standing_after, suspended, is_unfinished}
use Rattle.zsrm.proofs.Laws.Consistent.{Sound, advanced_consistent, fresh_consistent, sound_at_law}
use Rattle.zsrm.proofs.Laws.Places.{alive_unfinished, done_advanced, opening_cases, standing_advanced, standing_fresh, tick_advanced, tick_fresh}
use Rattle.zsrm.proofs.Laws.Replay.{AllLegal, kept_at, legal_may, tick_replay}
use Rattle.zsrm.proofs.Laws.Tick.{candidate_eligible, candidate_exactly, done_idle, done_ran, eligible_alive}
use Rattle.zsrm.proofs.Laws.Tick.{eligible_exactly, goes_on_cases, past_exactly, runs_or_idle, some_candidate, suspended_exactly}
use Rattle.planter.specs.Table.{depth, down_force, log, planter, table}

-- ## Multiples

unfoldable times : ℕ → ℕ → ℕ
times zero x = 0
times (suc m) x = times m x + x

-- ## The table, by its three tasks

task_cases : (P : ℕ → Type 0) → P down_force → P depth → P log → (k : ℕ) → k < 3 → P k
task_cases P f d l zero h = f
task_cases P f d l (suc zero) h = d
task_cases P f d l (suc (suc zero)) h = l
task_cases P f d l (suc (suc (suc k))) h = absurd (omega arith)

-- a finishing instant is not after the deadline
abbrev InTime : ℕ → Standing → Type 0
InTime due NotArrived = Unit {0}
InTime due Unfinished = Unit {0}
InTime due (Finished f) = f ≤ due
InTime due (Ended e) = Unit {0}

module _ (mode : Mode) (jobs : List ℕ) (ok : check_jobs table jobs ≡ Done) where
  abbrev g : Given
  g = planter mode jobs

  small : (j : ℕ) → j < job_count jobs → j < 64
  small j l = omega (arith, few_jobs table jobs ok)

  known : (j : ℕ) → j < job_count jobs → task_of jobs j < 3
  unfolding task_count
  known j l = (accepted_job table jobs ok j l).known

  -- ## A job alive, and what the tick leaves of it

  -- it has less done than its overload time, and no more than the ticks since its arrival
  record Lives (r : Record) (j : ℕ) : Type 0 where
    short : done_at r j < overload table (task_of jobs j)
    here : arrival jobs j + done_at r j ≤ r.tick

  lives : (r : Record) → consistent g r ≡ true → (j : ℕ) → j < job_count jobs → alive r j ≡ true → Lives r j
  lives r c j l a =
      let w = rw (alive_unfinished r j a) at (sound_at_law g r c j (small j l)) in
      let within = (accepted_job table jobs ok j l).within in
      record { short = omega (arith, w.short); here = w.here.room }

  record Worked (r : Record) (j : ℕ) : Type 0 where
    most : done_at r j ≤ overload table (task_of jobs j)
    since : 0 < done_at r j → arrival jobs j < r.tick

  worked : (r : Record) → consistent g r ≡ true → (j : ℕ) → j < job_count jobs → Worked r j
  worked r c j l = go (standing_at r j) (sound_at_law g r c j (small j l)) (accepted_job table jobs ok j l).within
    where
      go : (x : Standing) → Sound g r.tick j (done_at r j) x → execution jobs j ≤ overload table (task_of jobs j) → Worked r j
      go NotArrived w within = record { most = omega (arith, w.none); since = λ h. absurd (omega (arith, w.none)) }
      go Unfinished w within = record { most = omega (arith, w.short); since = λ h. omega (arith, w.here.room) }
      go (Finished f) w within = record { most = omega (arith, w.whole); since = λ h. omega (arith, w.here.room) }
      go (Ended e) w within = record { most = omega (arith, w.short); since = λ h. omega (arith, w.here.room) }

  -- alive after a tick, and arrived by it: alive in it
  was_alive : (r : Record) (e : ℕ) → consistent g r ≡ true → (j : ℕ) → j < job_count jobs → arrival jobs j ≤ r.tick → alive (advanced g r e) j ≡ true → alive r j ≡ true
  unfolding alive standing_after
  was_alive r e c j l here a =
      go (standing_at r j) refl (sound_at_law g r c j (small j l)) (ap is_unfinished (sym (standing_advanced g r e j (small j l))) ∙ a)
    where
      go : (x : Standing) → standing_at r j ≡ x → Sound g r.tick j (done_at r j) x → is_unfinished (standing_after g r e j x) ≡ true → is_unfinished (standing_at r j) ≡ true
      go NotArrived q w h = absurd (omega (arith, w.away l))
      go Unfinished q w h = ap is_unfinished q
      go (Finished f) q w h = absurd (false≢true h)
      go (Ended t) q w h = absurd (false≢true h)

  -- ## The ticks of a task's jobs that arrived from s on

  unfoldable had : ℕ → ℕ → Record → ℕ → ℕ
  had k s r j = cond (eqb (task_of jobs j) k && leb s (arrival jobs j)) (done_at r j) 0

  unfoldable ticks_of : ℕ → ℕ → Record → ℕ
  ticks_of k s r = sum_below (job_count jobs) (had k s r)

  -- In m periods there arrive at most m jobs of a task.
  most_had : (k : ℕ) (r : Record) → consistent g r ≡ true → (n : ℕ) → n ≤ job_count jobs → (m s : ℕ)
      → ((j : ℕ) → j < n → task_of jobs j ≡ k → 0 < done_at r j → arrival jobs j < s + times m (period table k)) → sum_below n (had k s r) ≤ times m (overload table k)
  unfolding sum_below had times
  most_had k r c zero l m s by = omega arith
  most_had k r c (suc n) l m s by =
      by_cond (λ x. x + sum_below n (had k s r) ≤ times m (overload table k)) (eqb (task_of jobs n) k && leb s (arrival jobs n)) (done_at r n) 0
      (λ q. counted (eqb-true _ _ (and_left (eqb (task_of jobs n) k) _ q)) (leb-true _ _ (and_right (eqb (task_of jobs n) k) _ q))
      (ℕ_discrete (done_at r n) 0) m by (λ m by. most_had k r c n (omega arith) m s by))
      (λ q. omega (arith, most_had k r c n (omega arith) m s (λ j h its some. by j (omega arith) its some)))
    where
      Within : ℕ → ℕ → Type 0
      Within n m = (j : ℕ) → j < n → task_of jobs j ≡ k → 0 < done_at r j → arrival jobs j < s + times m (period table k)

      counted : task_of jobs n ≡ k → s ≤ arrival jobs n → Dec (done_at r n ≡ 0) → (m : ℕ) → Within (suc n) m → ((m : ℕ) → Within n m → sum_below n (had k s r) ≤ times m (overload table k))
          → done_at r n + sum_below n (had k s r) ≤ times m (overload table k)
      counted its from (yes q) m by ih = omega (arith, ih m (λ j h its some. by j (omega arith) its some))
      counted its from (no q) zero by ih = absurd (omega (arith, by n (omega arith) its (omega arith)))
      counted its from (no q) (suc m) by ih =
          let last = by n (omega arith) its (omega arith) in
          let its-most : done_at r n ≤ overload table k = subst (λ (x : ℕ). done_at r n ≤ overload table x) its (worked r c n (omega arith)).most in
          let gap : (j : ℕ) → j < n → task_of jobs j ≡ k → arrival jobs j + period table k ≤ arrival jobs n =
          λ j h same. subst (λ (x : ℕ). arrival jobs j + period table x ≤ arrival jobs n) its (apart table jobs ok j n h (omega arith) (same ∙ sym its)) in
          omega (arith, its-most, ih m (λ j h same some. omega (arith, last, gap j h same)))

  -- Of the jobs that arrived from s on, down-force's have had at most 8 ticks for each 20 since s, depth's 4 for each 10.
  bounded : (r : Record) → consistent g r ≡ true → (s m p : ℕ) → r.tick ≤ s + times m 20 → r.tick ≤ s + times p 10 → ticks_of down_force s r + ticks_of depth s r ≤ times m 8 + times p 4
  unfolding ticks_of period overload
  bounded r c s m p first second =
      let a : ticks_of down_force s r ≤ times m 8 = most_had down_force r c (job_count jobs) (omega arith) m s (λ j l its some. omega (arith, (worked r c j l).since some)) in
      let b : ticks_of depth s r ≤ times p 4 = most_had depth r c (job_count jobs) (omega arith) p s (λ j l its some. omega (arith, (worked r c j l).since some)) in
      omega (arith, a, b)

  -- A tick gives one more to the job that runs, where it is counted, and leaves every other sum.
  module _ (r : Record) (e : ℕ) where
    had_same : (k s j : ℕ) → j < job_count jobs → e ≢ j → had k s (advanced g r e) j ≡ had k s r j
    unfolding had
    had_same k s j l z = ap (λ (x : ℕ). cond (eqb (task_of jobs j) k && leb s (arrival jobs j)) x 0) (done_advanced g r e j (small j l) ∙ done_idle g r e j z)

    ticks_more : (k s : ℕ) → e < job_count jobs → task_of jobs e ≡ k → s ≤ arrival jobs e → ticks_of k s (advanced g r e) ≡ suc (ticks_of k s r)
    unfolding ticks_of had
    ticks_more k s l its from = sum_more (job_count jobs) e (had k s r) (had k s (advanced g r e)) l here (had_same k s)
      where
        here : had k s (advanced g r e) e ≡ suc (had k s r e)
        here =
            let counts = and_true (eq-eqb (task_of jobs e) k its) (le-leb s (arrival jobs e) from) in
            rw counts (done_advanced g r e e (small e l) ∙ done_ran g r e e refl)

    ticks_same : (k s : ℕ) → (e < job_count jobs → task_of jobs e ≡ k → ⊥) → ticks_of k s (advanced g r e) ≡ ticks_of k s r
    unfolding ticks_of had
    ticks_same k s other = sum_same (job_count jobs) (had k s r) (had k s (advanced g r e)) (λ j l. go j l (ℕ_discrete e j))
      where
        go : (j : ℕ) → j < job_count jobs → Dec (e ≡ j) → had k s (advanced g r e) j ≡ had k s r j
        go j l (yes q) = rw (ne_eqb (task_of jobs j) k (λ its. other (omega (arith, q)) (ap (task_of jobs) q ∙ its)))
        go j l (no q) = had_same k s j l q

  -- the ticks of both
  abbrev both : ℕ → Record → ℕ
  both s r = ticks_of down_force s r + ticks_of depth s r

  -- a job of one of the two
  record Two (j : ℕ) : Type 0 where
    job_of : j < job_count jobs
    its : task_of jobs j < 2

  both_more : (r : Record) (e s : ℕ) → Two e → s ≤ arrival jobs e → both s (advanced g r e) ≡ suc (both s r)
  both_more r e s two from = go (task_of jobs e) refl two.its
    where
      go : (k : ℕ) → task_of jobs e ≡ k → k < 2 → both s (advanced g r e) ≡ suc (both s r)
      go zero q h = omega (arith, ticks_more r e down_force s two.job_of q from, ticks_same r e depth s (λ l z. omega (arith, q, z)))
      go (suc zero) q h = omega (arith, ticks_more r e depth s two.job_of q from, ticks_same r e down_force s (λ l z. omega (arith, q, z)))
      go (suc (suc k)) q h = absurd (omega arith)

  both_same : (r : Record) (e s : ℕ) → (Two e → ⊥) → both s (advanced g r e) ≡ both s r
  both_same r e s other =
      let f = ticks_same r e down_force s (λ l z. other (record { job_of = l; its = omega (arith, z) })) in
      let d = ticks_same r e depth s (λ l z. other (record { job_of = l; its = omega (arith, z) })) in
      omega arith

  -- ## Who runs

  -- Where a job of the two is alive, one of the two is eligible ..
  two_eligible : (r : Record) (j : ℕ) → Two j → alive r j ≡ true → (i : ℕ) × Two i × (eligible g r i ≡ true)
  unfolding eligible job_criticality criticality
  two_eligible r j two a = ⊎_elim held free (either (suspended g r j))
    where
      free : suspended g r j ≡ false → (i : ℕ) × Two i × (eligible g r i ≡ true)
      free q = (j, two, and_true a (not_of q))

      held : suspended g r j ≡ true → (i : ℕ) × Two i × (eligible g r i ≡ true)
      held q =
          let w = ((suspended_exactly g r j).0 q).1 in
          let i = w.0 in
          let least = task_cases (λ k. k < 2 → 2 ≤ criticality table k) (λ _. leb-true 2 3 refl)
          (λ _. leb-true 2 2 refl) (λ h. absurd (omega arith)) (task_of jobs j) (known j two.job_of) two.its in
          let top = task_cases (λ k. 2 < criticality table k → (k ≡ 0) × (criticality table k ≡ 3)) (λ _. (refl, refl))
          (λ h. absurd (omega arith)) (λ h. absurd (omega arith)) (task_of jobs i) (known i w.1) (omega (arith, least, w.2.1)) in
          let none : (x : ℕ) → x < job_count jobs → criticality table (task_of jobs x) ≤ 3
          = λ x l. task_cases (λ k. criticality table k ≤ 3) (leb-true 3 3 refl) (leb-true 2 3 refl) (leb-true 1 3 refl) (task_of jobs x) (known x l) in
          (i, record { job_of = w.1; its = omega (arith, top.0) }, (eligible_exactly g r i).1 (((past_exactly g r i).0 w.2.0).0, λ x l p. omega (arith, none x l, top.1)))

  -- .. and the tick is one of the two's.
  two_runs : (r : Record) (e : ℕ) → candidate_or_idle g r e ≡ true → (j : ℕ) → Two j → alive r j ≡ true → Two e
  unfolding job_priority priority
  two_runs r e may j two a = let w = two_eligible r j two a in go w.0 w.1 w.2 (runs_or_idle g r e may)
    where
      go : (i : ℕ) → Two i → eligible g r i ≡ true → ((e < job_count jobs) × (candidate g r e ≡ true)) ⊎ ((e ≡ idle) × (some_job jobs (candidate g r) ≡ false)) → Two e
      go i t x (inr none) = clash (some_candidate g r i t.job_of x) none.1
      go i t x (inl runs) =
          let least = task_cases (λ k. k < 2 → 2 ≤ priority table k) (λ _. leb-true 2 2 refl) (λ _. leb-true 2 3 refl) (λ h. absurd (omega arith)) (task_of jobs i) (known i t.job_of) t.its in
          let more = ((candidate_exactly g r e).0 runs.1).1 i t.job_of x in
          record {
            job_of = runs.0;
            its = task_cases (λ k. 2 ≤ priority table k → k < 2) (λ _. omega arith) (λ _. omega arith) (λ h. absurd (omega arith)) (task_of jobs e) (known e runs.0) (omega (arith, least, more));
          }

  -- Where some job is eligible, the tick goes to a candidate, which is alive.
  record Runs (r : Record) (e : ℕ) : Type 0 where
    job_of : e < job_count jobs
    runs : candidate g r e ≡ true
    lives_on : alive r e ≡ true

  some_runs : (r : Record) (e : ℕ) → candidate_or_idle g r e ≡ true → (j : ℕ) → j < job_count jobs → eligible g r j ≡ true → Runs r e
  some_runs r e may j l x =
      ⊎_elim (λ c. record { job_of = c.0; runs = c.1; lives_on = eligible_alive g r e (candidate_eligible g r e c.1) })
      (λ c. clash (some_candidate g r j l x) c.1) (runs_or_idle g r e may)

  -- ## The invariant

  -- No job of the two that arrived before s is alive.
  abbrev Since : Record → ℕ → Type 0
  Since r s = (j : ℕ) → Two j → alive r j ≡ true → s ≤ arrival jobs j

  -- the stretch from s up to now
  record Stretch (r : Record) (s : ℕ) : Type 0 where
    begun : s ≤ r.tick
    since : Since r s
    filled : r.tick ≡ s + both s r
    short : r.tick ≤ s + 16
    at_once : (j : ℕ) → j < job_count jobs → task_of jobs j ≡ depth → alive r j ≡ true → (arrival jobs j + done_at r j ≡ r.tick) ⊎ (s + 8 < arrival jobs j)

  -- a log job alive that arrived in the stretch from s on: all ticks since s are the two's or its own
  record Behind (r : Record) (j s : ℕ) : Type 0 where
    begun : s ≤ arrival jobs j
    since : Since r s
    filled : r.tick ≡ s + both s r + done_at r j
    short : r.tick ≤ s + 37

  record Good (r : Record) : Type 0 where
    sound : consistent g r ≡ true
    stretch : (s : ℕ) × Stretch r s
    behind : (j : ℕ) → j < job_count jobs → task_of jobs j ≡ log → alive r j ≡ true → (s : ℕ) × Behind r j s
    timely : (j : ℕ) → j < job_count jobs → InTime (deadline_instant g.lists j) (standing_at r j)

  -- a job alive is not yet due
  before_due : (r : Record) → Good r → (j : ℕ) → j < job_count jobs → alive r j ≡ true → r.tick < deadline_instant g.lists j
  unfolding deadline_instant deadline overload
  before_due r h j l a = go (task_of jobs j) refl (known j l)
    where
      s : ℕ
      s = h.stretch.0

      w : Stretch r s
      w = h.stretch.1

      go : (k : ℕ) → task_of jobs j ≡ k → k < 3 → r.tick < arrival jobs j + deadline table (task_of jobs j)
      go zero q b = rw q (omega (arith, w.short, w.since j (record { job_of = l; its = omega (arith, q) }) a))
      go (suc zero) q b =
          let v = rw q at (lives r h.sound j l a).short in
          rw q (⊎_elim (λ (x : arrival jobs j + done_at r j ≡ r.tick). omega (arith, v)) (λ (x : s + 8 < arrival jobs j). omega (arith, w.short)) (w.at_once j l q a))
      go (suc (suc zero)) q b = let v = (h.behind j l q a).1 in rw q (omega (arith, v.begun, v.short))
      go (suc (suc (suc k))) q b = absurd (omega arith)

  fresh_good : Good (fresh jobs)
  unfolding deadline_instant times
  fresh_good =
      let c = fresh_consistent g in
      let zero-tick = tick_fresh jobs in
      let none : both 0 (fresh jobs) ≤ 0 = bounded (fresh jobs) c 0 0 0 (omega arith) (omega arith) in
      record {
        sound = c;
        stretch = (
          0,
          record {
            begun = omega arith;
            since = λ j two a. omega arith;
            filled = omega arith;
            short = omega arith;
            at_once = λ j l its a. inl (omega (arith, (lives (fresh jobs) c j l a).here));
          },
        );
        behind = λ j l its a.
            (0, record { begun = omega arith; since = λ i two b. omega arith; filled = omega (arith, (lives (fresh jobs) c j l a).here); short = omega arith });
        timely = λ j l. rw (standing_fresh jobs j (small j l)) (opening_cases jobs 0 j (InTime (deadline_instant g.lists j)) (λ _ _ _. omega arith) (λ _ _ _. tt) (λ _. tt));
      }

  -- ## One tick

  module _ (r : Record) (h : Good r) (e : ℕ) (room : r.tick < 16384) (may : candidate_or_idle g r e ≡ true) where
    abbrev next : Record
    next = advanced g r e

    sound_on : consistent g next ≡ true
    sound_on = advanced_consistent g r e room may h.sound

    tick_on : next.tick ≡ suc r.tick
    tick_on = tick_advanced g r e

    -- a job alive after the tick arrived after it, and has nothing done; or it was alive in it
    record New (j : ℕ) : Type 0 where
      now : arrival jobs j ≡ suc r.tick
      none : done_at next j ≡ 0

    new_or_old : (j : ℕ) → j < job_count jobs → alive next j ≡ true → New j ⊎ (alive r j ≡ true)
    new_or_old j l a = go (dec_le (arrival jobs j) r.tick)
      where
        go : Dec (arrival jobs j ≤ r.tick) → New j ⊎ (alive r j ≡ true)
        go (yes q) = inr (was_alive r e h.sound j l q a)
        go (no q) = let w = (lives next sound_on j l a).here in inl (record { now = omega (arith, w, tick_on); none = omega (arith, w, tick_on) })

    since_on : (s : ℕ) → s ≤ suc r.tick → Since r s → Since next s
    since_on s b w j two a = ⊎_elim (λ (x : New j). omega (arith, x.now)) (λ (x : alive r j ≡ true). w j two x) (new_or_old j two.job_of a)

    done_other : (j : ℕ) → j < job_count jobs → e ≢ j → done_at next j ≡ done_at r j
    done_other j l z = done_advanced g r e j (small j l) ∙ done_idle g r e j z

    done_own : (j : ℕ) → j < job_count jobs → e ≡ j → done_at next j ≡ suc (done_at r j)
    done_own j l z = done_advanced g r e j (small j l) ∙ done_ran g r e j z

    -- A depth job that arrived by s + 8 and ran at once so far runs on.
    depth_runs : (s : ℕ) → Stretch r s → (j : ℕ) → j < job_count jobs → task_of jobs j ≡ depth → alive r j ≡ true → arrival jobs j + done_at r j ≡ r.tick → arrival jobs j ≤ s + 8
        → e ≡ j
    unfolding job_criticality criticality job_priority priority zero_slack_instant offset overload period
    depth_runs s w j l its a now soon = only (some_runs r e may j l free)
      where
        young : (i : ℕ) → i < job_count jobs → task_of jobs i ≡ depth → alive r i ≡ true → Lives r i × (done_at r i < 4)
        young i li q b = let v = lives r h.sound i li b in (v, rw q at v.short)

        no_more : (i : ℕ) → i < job_count jobs → past_zero_slack g r i ≡ true → (k : ℕ) → task_of jobs i ≡ k → k < 3 → criticality table (task_of jobs i) ≤ criticality table (task_of jobs j)
        no_more i li past zero q b =
            let v = (past_exactly g r i).0 past in
            let z : arrival jobs i + 12 ≤ r.tick = rw q at v.1 in
            absurd (omega (arith, z, now, soon, (young j l its a).1, w.since i (record { job_of = li; its = omega (arith, q) }) v.0))
        no_more i li past (suc zero) q b = rw (q, its) (leb-true 2 2 refl)
        no_more i li past (suc (suc zero)) q b = rw (q, its) (leb-true 1 2 refl)
        no_more i li past (suc (suc (suc k))) q b = absurd (omega arith)

        free : eligible g r j ≡ true
        free = (eligible_exactly g r j).1 (a, λ i li past. no_more i li past (task_of jobs i) refl (known i li))

        only : Runs r e → e ≡ j
        only x =
            let more : 3 ≤ priority table (task_of jobs e) = rw its at (((candidate_exactly g r e).0 x.runs).1 j l free) in
            let same = task_cases (λ k. 3 ≤ priority table k → k ≡ depth) (λ b. absurd (omega arith)) (λ _. refl) (λ b. absurd (omega arith)) (task_of jobs e) (known e x.job_of) more in
            let mine = young j l its a in
            let other = young e x.job_of same x.lives_on in
            let before : ¬ (e < j) = λ b.
            let gap : arrival jobs e + 10 ≤ arrival jobs j = rw its at (apart table jobs ok e j b l (same ∙ sym its)) in
            ⊎_elim (λ (y : arrival jobs e + done_at r e ≡ r.tick). omega (arith, gap, mine.0.here, other.1))
            (λ (y : s + 8 < arrival jobs e). omega (arith, gap)) (w.at_once e x.job_of same x.lives_on) in
            let after : ¬ (j < e) = λ b.
            let gap : arrival jobs j + 10 ≤ arrival jobs e = rw same at (apart table jobs ok j e b x.job_of (its ∙ sym same)) in
            omega (arith, gap, now, mine.1, other.0.here) in
            omega arith

    -- The tick is one of the two's: the stretch goes on ..
    stretch_on : Two e → alive r e ≡ true → (s : ℕ) → Stretch r s → Stretch next s
    unfolding times
    stretch_on two a s w =
        let more = both_more r e s two (w.since e two a) in
        let most = bounded next sound_on s 1 2 (omega (arith, w.short, tick_on)) (omega (arith, w.short, tick_on)) in
        let all : next.tick ≡ s + both s next = omega (arith, more, w.filled, tick_on) in
        record {
          begun = omega (arith, w.begun, tick_on);
          since = since_on s (omega (arith, w.begun)) w.since;
          filled = all;
          short = omega (arith, all, most);
          at_once = λ j l its b.
              ⊎_elim (λ (x : New j). inl (omega (arith, x.now, x.none, tick_on)))
              (λ (x : alive r j ≡ true). ⊎_elim (λ (y : arrival jobs j + done_at r j ≡ r.tick). goes j l its x y (dec_le (arrival jobs j) (s + 8))) inr (w.at_once j l its x)) (new_or_old j l b);
        }
      where
        goes : (j : ℕ) → j < job_count jobs → task_of jobs j ≡ depth → alive r j ≡ true → arrival jobs j + done_at r j ≡ r.tick → Dec (arrival jobs j ≤ s + 8)
            → (arrival jobs j + done_at next j ≡ next.tick) ⊎ (s + 8 < arrival jobs j)
        goes j l its x y (yes q) = inl (omega (arith, y, tick_on, done_own j l (depth_runs s w j l its x y q)))
        goes j l its x y (no q) = inr (omega arith)

    -- .. or no job of the two is alive, and one may begin after it.
    stretch_new : ((j : ℕ) → Two j → alive r j ≡ true → ⊥) → Stretch next (suc r.tick)
    unfolding times
    stretch_new quiet =
        let none = bounded next sound_on (suc r.tick) 0 0 (omega (arith, tick_on)) (omega (arith, tick_on)) in
        record {
          begun = omega (arith, tick_on);
          since = λ j two a. ⊎_elim (λ (x : New j). omega (arith, x.now)) (λ (x : alive r j ≡ true). absurd (quiet j two x)) (new_or_old j two.job_of a);
          filled = omega (arith, none, tick_on);
          short = omega (arith, tick_on);
          at_once = λ j l its a.
              ⊎_elim (λ (x : New j). inl (omega (arith, x.now, x.none, tick_on))) (λ (x : alive r j ≡ true). absurd (quiet j (record { job_of = l; its = omega (arith, its) }) x)) (new_or_old j l a);
        }

    -- A log job that is alive runs where no job of the two is.
    log_runs : ((j : ℕ) → Two j → alive r j ≡ true → ⊥) → (j : ℕ) → j < job_count jobs → task_of jobs j ≡ log → alive r j ≡ true → e ≡ j
    unfolding job_criticality criticality period
    log_runs quiet j l its a = only (some_runs r e may j l ((eligible_exactly g r j).1 (a, λ i li past. no_more i li ((past_exactly g r i).0 past).0 (task_of jobs i) refl (known i li))))
      where
        two_or_log : (i : ℕ) → i < job_count jobs → alive r i ≡ true → task_of jobs i ≡ log
        two_or_log i li b =
            let big : ¬ (task_of jobs i < 2) = λ x. quiet i (record { job_of = li; its = x }) b in
            omega (arith, known i li)

        no_more : (i : ℕ) → i < job_count jobs → alive r i ≡ true → (k : ℕ) → task_of jobs i ≡ k → k < 3 → criticality table (task_of jobs i) ≤ criticality table (task_of jobs j)
        no_more i li b k q c = rw (two_or_log i li b, its) (leb-true 1 1 refl)

        only : Runs r e → e ≡ j
        only x =
            let same = two_or_log e x.job_of x.lives_on in
            let mine = (h.behind j l its a).1 in
            let other = (h.behind e x.job_of same x.lives_on).1 in
            let before : ¬ (e < j) = λ b.
            let gap : arrival jobs e + 40 ≤ arrival jobs j = rw its at (apart table jobs ok e j b l (same ∙ sym its)) in
            omega (arith, gap, (lives r h.sound j l a).here, other.begun, other.short) in
            let after : ¬ (j < e) = λ b.
            let gap : arrival jobs j + 40 ≤ arrival jobs e = rw same at (apart table jobs ok j e b x.job_of (its ∙ sym same)) in
            omega (arith, gap, (lives r h.sound e x.job_of x.lives_on).here, mine.begun, mine.short) in
            omega arith

    -- Either way the stretch is known after the tick, and so is where each log job alive stands in its own.
    behind_new : (s : ℕ) → Stretch next s → (j : ℕ) → New j → (t : ℕ) × Behind next j t
    behind_new s w j x =
        (s, record { begun = omega (arith, w.begun, x.now, tick_on); since = w.since; filled = omega (arith, w.filled, x.none); short = omega (arith, w.short) })

    -- what a log job has done, and the two since its stretch began, is at most 37 ticks
    behind_short : (j : ℕ) → j < job_count jobs → task_of jobs j ≡ log → alive next j ≡ true → (s : ℕ) → r.tick ≤ s + 37 → next.tick ≡ s + both s next + done_at next j → next.tick ≤ s + 37
    unfolding times overload
    behind_short j l its a s b all =
        let v : done_at next j < 6 = rw its at (lives next sound_on j l a).short in
        omega (arith, v, all, bounded next sound_on s 2 4 (omega (arith, tick_on)) (omega (arith, tick_on)))

    behind_on : (j : ℕ) → j < job_count jobs → task_of jobs j ≡ log → alive next j ≡ true → alive r j ≡ true
        → ((s : ℕ) → Behind r j s → next.tick ≡ s + both s next + done_at next j) → (t : ℕ) × Behind next j t
    behind_on j l its a b all =
        let s = (h.behind j l its b).0 in
        let w = (h.behind j l its b).1 in (
          s,
          record {
            begun = w.begun;
            since = since_on s (omega (arith, w.begun, (lives r h.sound j l b).here)) w.since;
            filled = all s w;
            short = behind_short j l its a s w.short (all s w);
          },
        )

    timely_on : (j : ℕ) → j < job_count jobs → InTime (deadline_instant g.lists j) (standing_at next j)
    unfolding standing_after deadline_instant alive
    timely_on j l = rw (standing_advanced g r e j (small j l)) (go (standing_at r j) refl (h.timely j l))
      where
        go : (x : Standing) → standing_at r j ≡ x → InTime (deadline_instant g.lists j) x → InTime (deadline_instant g.lists j) (standing_after g r e j x)
        go NotArrived q w = opening_cases jobs (suc r.tick) j (InTime (deadline_instant g.lists j)) (λ _ _ _. omega arith) (λ _ _ _. tt) (λ _. tt)
        go Unfinished q w = goes_on_cases g r e (InTime (deadline_instant g.lists j)) j (λ _ _. before_due r h j l (ap is_unfinished q)) (λ _ _. tt) (λ _ _. tt)
        go (Finished f) q w = w
        go (Ended t) q w = w

    good_on : Good next
    good_on = ⊎_elim both_on neither_on (two_or_not (runs_or_idle g r e may))
      where
        two_or_not : ((e < job_count jobs) × (candidate g r e ≡ true)) ⊎ ((e ≡ idle) × (some_job jobs (candidate g r) ≡ false)) → (Two e × (alive r e ≡ true)) ⊎ (Two e → ⊥)
        two_or_not (inl runs) = go (dec_lt (task_of jobs e) 2)
          where
            go : Dec (task_of jobs e < 2) → (Two e × (alive r e ≡ true)) ⊎ (Two e → ⊥)
            go (yes q) = inl (record { job_of = runs.0; its = q }, eligible_alive g r e (candidate_eligible g r e runs.1))
            go (no q) = inr (λ two. q two.its)
        two_or_not (inr none) = inr (λ two. omega (arith, none.0, small e two.job_of))

        both_on : Two e × (alive r e ≡ true) → Good next
        both_on two =
            let s = h.stretch.0 in
            let w = stretch_on two.0 two.1 s h.stretch.1 in
            record {
              sound = sound_on;
              stretch = (s, w);
              behind = λ j l its a.
                  ⊎_elim (λ (x : New j). behind_new s w j x)
                  (λ (x : alive r j ≡ true). behind_on j l its a x
                  (λ t v. omega (arith, tick_on, v.filled, both_more r e t two.0 (v.since e two.0 two.1), done_other j l (λ q. omega (arith, its, two.0.its, ap (task_of jobs) q)))))
                  (new_or_old j l a);
              timely = timely_on;
            }

        neither_on : (Two e → ⊥) → Good next
        neither_on other =
            let quiet : (j : ℕ) → Two j → alive r j ≡ true → ⊥ = λ j two a. other (two_runs r e may j two a) in
            let s = suc r.tick in
            let w = stretch_new quiet in
            record {
              sound = sound_on;
              stretch = (s, w);
              behind = λ j l its a.
                  ⊎_elim (λ (x : New j). behind_new s w j x)
                  (λ (x : alive r j ≡ true). behind_on j l its a x (λ t v. omega (arith, tick_on, v.filled, both_same r e t other, done_own j l (log_runs quiet j l its x))))
                  (new_or_old j l a);
              timely = timely_on;
            }

  -- At the end of a legal schedule: a job that has finished did so by its deadline, one that has not is not yet due, and only SE ends jobs.
  abbrev pub Timed : ℕ → ℕ → Standing → Type 0
  Timed t due NotArrived = t < due
  Timed t due Unfinished = t < due
  Timed t due (Finished f) = f ≤ due
  Timed t due (Ended e) = mode ≡ SE

  pub record EndsOnTime (r : Record) (horizon j : ℕ) : Type 0 where
    pub sound : consistent g r ≡ true
    pub time : r.tick ≡ horizon
    pub timed : Timed horizon (deadline_instant g.lists j) (standing_at r j)

  pub always_on_time : (es : List ℕ) → length es ≤ 16384 → AllLegal g (fresh jobs) idle es → (j : ℕ) → j < job_count jobs → EndsOnTime (replayed g es) (length es) j
  unfolding replayed record_at deadline_instant alive
  always_on_time es b c j l =
      let last = replay g (fresh jobs) es in
      record { sound = end.sound; time = at_end; timed = go (standing_at last j) refl (sound_at_law g last end.sound j (small j l)) (end.timely j l) }
    where
      end : Good (replay g (fresh jobs) es)
      end =
          rw take-length at
          (kept_at g 16384 Good (λ r p e u v w. good_on r w e u (legal_may g r p e v)) (fresh jobs) idle es (rw tick_fresh (omega arith)) c fresh_good (length es))

      at_end : (replay g (fresh jobs) es).tick ≡ length es
      at_end = omega (arith, tick_replay g (fresh jobs) es, tick_fresh jobs)

      go : (x : Standing) → standing_at (replay g (fresh jobs) es) j ≡ x → Sound g (replay g (fresh jobs) es).tick j (done_at (replay g (fresh jobs) es) j) x
          → InTime (deadline_instant g.lists j) x → Timed (length es) (deadline_instant g.lists j) x
      go NotArrived q w t = omega (arith, w.away l, at_end)
      go Unfinished q w t = omega (arith, before_due (replay g (fresh jobs) es) end j l (ap is_unfinished q), at_end)
      go (Finished f) q w t = t
      go (Ended e) q w t = w.se
