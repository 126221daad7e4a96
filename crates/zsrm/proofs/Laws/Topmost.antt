-- Demand 3, second part: a task that is strictly more critical than every other, with Z + Co ≤ D. Each of its jobs whose
-- arrival + Z + c lies within the horizon is finished by then, in every legal claim and either mode; and none of them is ever suspended.
use Prim.Native.Nat.{◌+◌, ◌<◌, suc, ℕ, ◌≤◌}
use mathlib.Core.Bool.{false, true}
use mathlib.Core.List.{List}
use mathlib.Core.Logic.{◌≢◌}
use mathlib.Core.Path.{ap, refl, subst, sym, ◌∙◌, ◌≡◌}
use native.Mathlib.Decide.{ℕ_discrete}
use native.Mathlib.Omega.{arith}
use lib.ListN.{length}
use lib.Seq.{take-length}
use Rattle.bits.proofs.Laws.Bools.{clash, never_true}
use Rattle.tables.specs.Outcomes.{Done}
use Rattle.zsrm.specs.declared.record.Record.{Record}
use Rattle.zsrm.specs.declared.record.Standing.{Standing}
use Rattle.zsrm.specs.declared.record.Standing.TheVariants.{Ended, Finished, NotArrived, Unfinished}
use Rattle.zsrm.specs.Record.{consistent, done_at, fresh, opening, standing_at, suspended_at}
use Rattle.tables.specs.Refusals.{check_jobs, check_tasks}
use Rattle.zsrm.specs.Run.{replay, replayed, record_at, record_before}
use Rattle.zsrm.specs.Given.{Given}
use Rattle.tables.specs.Tables.{arrival, criticality, deadline, deadline_instant, idle, job_count, job_criticality, overload, period, task_of, offset, zero_slack_instant}
use Rattle.zsrm.specs.Tick.{advanced, alive, candidate_or_idle, done_after, standing_after, suspended, is_unfinished}
use Rattle.zsrm.specs.Topmost.{Topmost, assured}
use Rattle.tables.proofs.Laws.Accepted.{apart, few_jobs, accepted_job, accepted_task}
use Rattle.zsrm.proofs.Laws.Consistent.{Sound, advanced_consistent, fresh_consistent, sound_at_law}
use Rattle.zsrm.proofs.Laws.Places.{done_advanced, done_fresh, standing_advanced, standing_fresh, suspended_advanced}
use Rattle.zsrm.proofs.Laws.Places.{suspended_fresh, tick_advanced, tick_fresh, alive_unfinished, opening_cases}
use Rattle.zsrm.proofs.Laws.Replay.{kept_at, legal_may, tick_replay, AllLegal}
use Rattle.zsrm.proofs.Laws.Tick.{dispatch_serves, done_idle, done_ran, ended_suspended, goes_on_cases, past_exactly, suspended_exactly, suspended_same}
use Rattle.zsrm.proofs.Readings.{Within}

-- on its way to that instant, by its standing at the tick t
module _ (g : Given) (t j done : ℕ) where
  abbrev pub OnTime : Standing → Type 0
  OnTime NotArrived = Unit {0}
  OnTime Unfinished = t ≤ zero_slack_instant g.lists j + done
  OnTime (Finished f) = f ≤ assured g j
  OnTime (Ended e) = ⊥

-- a job that has just arrived, or has yet to, is on time
opening_on_time : (g : Given) (t j done : ℕ) → t ≤ arrival g.lists.jobs j → OnTime g t j done (opening g.lists.jobs t j)
unfolding assured zero_slack_instant
opening_on_time g t j done h = opening_cases g.lists.jobs t j (OnTime g t j done) (λ l a c. omega arith) (λ l a c. omega arith) (λ w. tt)

-- what is assured lies within the deadline
pub assured_in_time : (g : Given) (k : ℕ) → check_jobs g.lists.tasks g.lists.jobs ≡ Done → Topmost g.lists.tasks k → (j : ℕ) → j < job_count g.lists.jobs → task_of g.lists.jobs j ≡ k
    → assured g j ≤ deadline_instant g.lists j
unfolding assured deadline_instant zero_slack_instant
assured_in_time g k ok_jobs top j l its =
    let c = (accepted_job g.lists.tasks g.lists.jobs ok_jobs j l).within in
    let fits = subst (λ (x : ℕ). offset g.lists.tasks x + overload g.lists.tasks x ≤ deadline g.lists.tasks x) (sym its) top.fits in
    omega arith

module _ (g : Given) (k : ℕ) (ok_tasks : check_tasks g.lists.tasks ≡ Done) (ok_jobs : check_jobs g.lists.tasks g.lists.jobs ≡ Done) (top : Topmost g.lists.tasks k) where
  -- a job of the task
  pub record Own (j : ℕ) : Type 0 where
    pub job : j < job_count g.lists.jobs
    pub its : task_of g.lists.jobs j ≡ k

  small : (j : ℕ) → Own j → j < 64
  small j o = omega (arith, o.job, few_jobs g.lists.tasks g.lists.jobs ok_jobs)

  -- a job no less critical than an own one is an own one, and no more critical
  own_again : (i j : ℕ) → i < job_count g.lists.jobs → Own j → job_criticality g.lists j ≤ job_criticality g.lists i
      → Own i × (job_criticality g.lists i ≡ job_criticality g.lists j)
  unfolding job_criticality
  own_again i j l o c = go (ℕ_discrete (task_of g.lists.jobs i) k)
    where
      go : Dec (task_of g.lists.jobs i ≡ k) → Own i × (job_criticality g.lists i ≡ job_criticality g.lists j)
      go (yes q) = (record { job = l; its = q }, ap (criticality g.lists.tasks) (q ∙ sym o.its))
      go (no q) =
          let less : job_criticality g.lists i < job_criticality g.lists j = rw o.its (top.above _ (accepted_job g.lists.tasks g.lists.jobs ok_jobs i l).known q) in
          absurd (omega arith)

  none_more : (i j : ℕ) → i < job_count g.lists.jobs → Own j → job_criticality g.lists j < job_criticality g.lists i → ⊥
  none_more i j l o c = omega (arith, c, (own_again i j l o (omega (arith, c))).1)

  -- so a witness against an own job is within the assumption
  pub topmost_within : (j : ℕ) → Own j → Within g j
  topmost_within j o i l c = absurd (none_more i j l o c)

  -- two own jobs lie T apart
  own_apart : (i j : ℕ) → Own i → Own j → i < j → arrival g.lists.jobs i + period g.lists.tasks k ≤ arrival g.lists.jobs j
  own_apart i j oi oj l = rw oj.its at (apart g.lists.tasks g.lists.jobs ok_jobs i j l oj.job (oi.its ∙ sym oj.its))

  -- an own job is never suspended, and so never ended
  never_suspended : (r : Record) (j : ℕ) → Own j → suspended g r j ≡ false
  never_suspended r j o =
      never_true _ (λ s. let w = ((suspended_exactly g r j).0 s).1 in none_more w.0 j w.1 o w.2.1)

  -- the invariant: consistent, and every own job on time
  pub record AllOnTime (r : Record) : Type 0 where
    pub sound : consistent g r ≡ true
    pub timely : (j : ℕ) → Own j → OnTime g r.tick j (done_at r j) (standing_at r j)

  module _ (r : Record) (good : AllOnTime r) where
    -- an own job that is alive: the tick lies before arrival + T
    record Current (j : ℕ) : Type 0 where
      own : Own j
      since : arrival g.lists.jobs j ≤ r.tick
      until : r.tick < arrival g.lists.jobs j + period g.lists.tasks k

    current : (j : ℕ) → Own j → alive r j ≡ true → Current j
    unfolding deadline_instant assured
    current j o a =
        let w = rw (alive_unfinished r j a) at (sound_at_law g r good.sound j (small j o)) in
        let t = rw (alive_unfinished r j a) at (good.timely j o) in
        let d = rw o.its at (assured_in_time g k ok_jobs top j o.job o.its) in
        let p = accepted_task g.lists.tasks ok_tasks k top.known in
        record { own = o; since = omega arith; until = omega arith }

    -- two own jobs that are alive are one
    one_alive : (i j : ℕ) → Current i → Current j → i ≡ j
    one_alive i j a b =
        let x : ¬ (i < j) = λ l. omega (arith, own_apart i j a.own b.own l) in
        let y : ¬ (j < i) = λ l. omega (arith, own_apart j i b.own a.own l) in
        omega arith

    -- from on time to on time
    module _ (e : ℕ) (may : candidate_or_idle g r e ≡ true) (j : ℕ) (o : Own j) where
      -- where the tick has come to zero slack plus what is done, it is the job's own
      runs_now : alive r j ≡ true → r.tick ≡ zero_slack_instant g.lists j + done_at r j → e ≡ j
      runs_now a z =
          let w = dispatch_serves g r e j may o.job ((past_exactly g r j).1 (a, omega arith)) in
          one_alive e j (current e (own_again e j w.job o w.no_less).0 w.lives) (current j o a)

      stays : (s : Standing) → standing_at r j ≡ s → Sound g r.tick j (done_at r j) s → OnTime g r.tick j (done_at r j) s
          → OnTime g (suc r.tick) j (done_after g r e j) (standing_after g r e j s)
      unfolding standing_after assured alive
      stays NotArrived q w t = opening_on_time g (suc r.tick) j (done_after g r e j) (w.away o.job)
      stays Unfinished q w t =
          goes_on_cases g r e (OnTime g (suc r.tick) j (done_after g r e j)) j (λ p f. omega (arith, done_ran g r e j p)) (λ x y. clash (ended_suspended g r e j y) (never_suspended r j o))
          (λ x y. go (ℕ_discrete e j))
        where
          go : Dec (e ≡ j) → suc r.tick ≤ zero_slack_instant g.lists j + done_after g r e j
          go (yes p) = omega (arith, t, done_ran g r e j p)
          go (no p) =
              let n : r.tick ≢ zero_slack_instant g.lists j + done_at r j = λ z. p (runs_now (ap is_unfinished q) z) in
              omega (arith, t, done_idle g r e j p)
      stays (Finished f) q w t = t
      stays (Ended x) q w t = t

  fresh_good : AllOnTime (fresh g.lists.jobs)
  fresh_good =
      record {
        sound = fresh_consistent g;
        timely = λ j o. let l = small j o in rw (done_fresh, standing_fresh, tick_fresh) (opening_on_time g 0 j 0 (omega arith));
      }

  advanced_good : (r : Record) (e : ℕ) → r.tick < 16384 → candidate_or_idle g r e ≡ true → AllOnTime r → AllOnTime (advanced g r e)
  advanced_good r e b may h =
      record {
        sound = advanced_consistent g r e b may h.sound;
        timely = λ j o.
            let l = small j o in
            rw (done_advanced, standing_advanced, tick_advanced) (stays r h e may j o (standing_at r j) refl (sound_at_law g r h.sound j l) (h.timely j o));
      }

  -- a good record whose tick has reached the instant: the job is finished by then
  finished_by : (r : Record) → AllOnTime r → (j : ℕ) → Own j → assured g j ≤ r.tick → (f : ℕ) × (standing_at r j ≡ Finished f) × (f ≤ assured g j)
  unfolding assured zero_slack_instant
  finished_by r h j o l = go (standing_at r j) refl (sound_at_law g r h.sound j (small j o)) (h.timely j o)
    where
      go : (s : Standing) → standing_at r j ≡ s → Sound g r.tick j (done_at r j) s → OnTime g r.tick j (done_at r j) s
          → (f : ℕ) × (standing_at r j ≡ Finished f) × (f ≤ assured g j)
      go NotArrived q w t = absurd (omega (arith, w.away o.job))
      go Unfinished q w t = absurd (omega arith)
      go (Finished f) q w t = (f, q, t)
      go (Ended x) q w t = absurd t

  -- (ii), of any legal schedule
  pub topmost_finished : (es : List ℕ) → length es ≤ 16384 → AllLegal g (fresh g.lists.jobs) idle es → (j : ℕ) → Own j → assured g j ≤ length es
      → (f : ℕ) × (standing_at (replayed g es) j ≡ Finished f) × (f ≤ assured g j)
  unfolding replayed record_at
  topmost_finished es b c j o l =
      let end : AllOnTime (replay g (fresh g.lists.jobs) es) =
      rw take-length at
      (kept_at g 16384 AllOnTime (λ r p e u v w. advanced_good r e u (legal_may g r p e v) w) (fresh g.lists.jobs) idle es
      (rw tick_fresh (omega arith)) c fresh_good (length es)) in
      finished_by (replay g (fresh g.lists.jobs) es) end j o (omega (arith, tick_replay g (fresh g.lists.jobs) es))

  -- none of them has a tick suspended, before any tick and at the end
  pub topmost_unsuspended : (es : List ℕ) → length es ≤ 16384 → AllLegal g (fresh g.lists.jobs) idle es → (t j : ℕ) → Own j → suspended_at (record_before g es t) j ≡ 0
  unfolding record_before
  topmost_unsuspended es b c t =
      kept_at g 16384 (λ r. (j : ℕ) → Own j → suspended_at r j ≡ 0)
      (λ r p e u v w j o. suspended_advanced g r e j (small j o) ∙ suspended_same g r e j (never_suspended r j o) ∙ w j o)
      (fresh g.lists.jobs) idle es (rw tick_fresh (omega arith)) c (λ j o. suspended_fresh g.lists.jobs j (small j o)) t
