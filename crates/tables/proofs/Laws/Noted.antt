-- The jobs looked at once: what is noted of the jobs above a job tells whether 6, 7 and 8 refuse it. The period that 8 adds is that of the
-- job's own task, and the preceding job is of that task, so that the sum can be noted with the earlier job.
use Prim.Native.Nat.{◌+◌, ◌<◌, suc, zero, ℕ, ◌≤◌, ◌-◌}
use mathlib.Core.Bool.{◌&&◌, Bool, cond, false, not, true, ◌||◌}
use mathlib.Core.List.{List}
use mathlib.Core.Path.{ap, refl, sym, ◌∙◌, ◌≡◌}
use native.Mathlib.Decide.{ℕ_discrete}
use native.Mathlib.Numerals.{add-one}
use native.Mathlib.Omega.{arith}
use lib.Dec.{eqb, ltb}
use lib.ListN.{get_or, get_or-replicate, length-set, replicate, set}
use lib.Seq.{get_or-set_other, get_or-set_same}
use borrow.Author.Tests.{eq-eqb, le-ltb, lt-ltb, ltb-true, ne_eqb}
use Rattle.bits.specs.Below.{greatest}
use Rattle.std.specs.Prelude.{Ok, ⊤}
use Rattle.tables.specs.Outcomes.{Outcome, Done}
use Rattle.tables.specs.declared.fields.Job.{Job}
use Rattle.tables.specs.declared.fields.Task.{Task}
use Rattle.tables.specs.Tables.{arrival, period, task_count, task_of}
use Rattle.tables.specs.Fields.{task_at, job_at}
use Rattle.tables.specs.Refusals.{ascending, before, check6, check7, check8, preceding, refuse}
use Rattle.tables.specs.Code.{Noted, Seen, last_arrival, soonest}
use Rattle.tables.proofs.Laws.Refusals.{ascending_none, before_same, fine, still_done}

-- 6, 7, 8 of one job
abbrev pub job_checked : List ℕ → List ℕ → ℕ → Outcome
job_checked tasks jobs j = before (check6 tasks jobs j) (before (check7 jobs j) (check8 tasks jobs j))

module _ (jobs : List ℕ) where
  last_none : last_arrival jobs 0 ≡ 0
  unfolding last_arrival
  last_none = refl

  last_more : (n : ℕ) → last_arrival jobs (n + 1) ≡ arrival jobs n
  unfolding last_arrival
  last_more n = rw (add-one, last_arrival)

  -- 7 by the arrival above: none is before 0
  seven_seen : (j : ℕ) → refuse (ltb (arrival jobs j) (last_arrival jobs j)) 7 j ≡ check7 jobs j
  unfolding check7 last_arrival
  seven_seen zero = ap (λ (b : Bool). refuse b 7 0) (le-ltb (arrival jobs 0) 0 (omega arith))
  seven_seen (suc j) =
      let one : suc j - 1 ≡ j = omega arith in
      rw (one, lt-ltb 0 (suc j) (omega arith))

module _ (tasks jobs : List ℕ) where
  pub soonest_none : (n k : ℕ) → n ≤ 0 → soonest tasks jobs n k ≡ 0
  unfolding soonest
  soonest_none zero k h = refl
  soonest_none (suc n) k h = absurd (omega arith)

  pub soonest_here : (n k : ℕ) → task_of jobs n ≡ k → soonest tasks jobs (suc n) k ≡ arrival jobs n + period tasks k
  unfolding soonest
  soonest_here n k e = rw (eq-eqb (task_of jobs n) k e)

  pub soonest_skip : (n k : ℕ) → (task_of jobs n ≡ k → ⊥) → soonest tasks jobs (suc n) k ≡ soonest tasks jobs n k
  unfolding soonest
  soonest_skip n k e = rw (ne_eqb (task_of jobs n) k e)

  -- the same of the job below a place, as a loop that looks back meets it
  pub soonest_stop : (n k : ℕ) → 0 < n → task_of jobs (n - 1) ≡ k → soonest tasks jobs n k ≡ arrival jobs (n - 1) + period tasks k
  soonest_stop n k l e = let up : n ≡ suc (n - 1) = omega arith in ap (λ (m : ℕ). soonest tasks jobs m k) up ∙ soonest_here (n - 1) k e

  pub soonest_down : (n k : ℕ) → 0 < n → (task_of jobs (n - 1) ≡ k → ⊥) → soonest tasks jobs n k ≡ soonest tasks jobs (n - 1) k
  soonest_down n k l e = let up : n ≡ suc (n - 1) = omega arith in ap (λ (m : ℕ). soonest tasks jobs m k) up ∙ soonest_skip (n - 1) k e

  -- 8 by what the job's task allows
  eight_seen : (j : ℕ) → refuse (ltb (arrival jobs j) (soonest tasks jobs j (task_of jobs j))) 8 j ≡ check8 tasks jobs j
  unfolding check8 preceding greatest soonest
  eight_seen j = ap (λ (b : Bool). refuse b 8 j) (sym (below j (omega arith)))
    where
      k : ℕ
      k = task_of jobs j

      same : ℕ → Bool
      same i = eqb (task_of jobs i) k

      soon : ℕ → Bool
      soon i = ltb i j && ltb (arrival jobs j) (arrival jobs i + period tasks k)

      below : (n : ℕ) → n ≤ j → soon (greatest n same j) ≡ ltb (arrival jobs j) (soonest tasks jobs n k)
      below zero h = rw (le-ltb j j (omega arith), le-ltb (arrival jobs j) 0 (omega arith))
      below (suc n) h = go (same n) refl (below n (omega arith))
        where
          go : (b : Bool) → same n ≡ b → soon (greatest n same j) ≡ ltb (arrival jobs j) (soonest tasks jobs n k)
              → soon (cond b n (greatest n same j)) ≡ ltb (arrival jobs j) (cond b (arrival jobs n + period tasks k) (soonest tasks jobs n k))
          go true e ih = rw (lt-ltb n j (omega arith))
          go false e ih = ih

  -- nothing is noted, and then each job
  noted_none : (noted : List ℕ) → noted ≡ replicate 16 0 → Noted tasks jobs 0 noted
  noted_none noted e = rw e (record { long = refl; each = λ k l. get_or-replicate 16 k 0 0 l ∙ sym (soonest_none 0 k (omega arith)) })

  noted_more : (n : ℕ) (noted : List ℕ) → Noted tasks jobs n noted
      → Noted tasks jobs (n + 1) (set noted (task_of jobs n) (arrival jobs n + period tasks (task_of jobs n)))
  noted_more n noted w = rw add-one (record { long = length-set noted _ _ ∙ w.long; each = λ k l. go k l (ℕ_discrete k (task_of jobs n)) })
    where
      go : (k : ℕ) → k < 16 → Dec (k ≡ task_of jobs n)
          → get_or (set noted (task_of jobs n) (arrival jobs n + period tasks (task_of jobs n))) k 0 ≡ soonest tasks jobs (suc n) k
      go k l (yes q) =
          rw (← q) (get_or-set_same noted k _ 0 (omega (arith, w.long)) ∙ sym (soonest_here n k (sym q)))
      go k l (no q) = get_or-set_other noted (task_of jobs n) k _ 0 q ∙ w.each k l ∙ sym (soonest_skip n k (λ e. q (sym e)))

  -- 6, 7 and 8 of what is seen; 8 counts only where 6 is done, and then the job's task is in the table
  pub job_seen : (j : ℕ) (job : Job) (task : Task) (count above from : ℕ) → Seen tasks jobs j job task count above from
      → before (refuse (not (ltb job.task count) || ltb 16384 job.arrival || ltb task.overload job.execution) 6 j)
      (before (refuse (ltb job.arrival above) 7 j) (refuse (ltb job.arrival from) 8 j))
      ≡ job_checked tasks jobs j
  unfolding check6
  job_seen j job task count above from w =
      rw (w.of_task_law, w.own, w.tasks_counted, w.last, seven_seen jobs j)
      (before_same (check6 tasks jobs j) (λ ok.
      let known = ltb-true (task_of jobs j) (task_count tasks) (search fine) in
      let allowed = rw w.own at w.allowed in
      ap (λ (x : ℕ). before (check7 jobs j) (refuse (ltb (arrival jobs j) x) 8 j)) (allowed known) ∙ ap (before (check7 jobs j)) (eight_seen j)))

-- the first j jobs are looked at, and none is refused
pub record Looked (tasks jobs : List ℕ) (j : ℕ) (noted : List ℕ) (above : ℕ) : Type 0 where
  pub all : ascending j (job_checked tasks jobs) ≡ Done
  pub last : above ≡ last_arrival jobs j
  pub each : Noted tasks jobs j noted

module _ (tasks jobs : List ℕ) where
  pub looked_none : (noted : List ℕ) → noted ≡ replicate 16 0 → Looked tasks jobs 0 noted 0
  looked_none noted e = record { all = ascending_none _; last = sym (last_none jobs); each = noted_none tasks jobs noted e }

  module _ (j : ℕ) (noted : List ℕ) (above : ℕ) (w : Looked tasks jobs j noted above) (job : Job) (task : Task) (count from : ℕ) (one : Outcome)
      (own : job ≡ job_at jobs j) (of_task_law : task ≡ task_at tasks job.task) (counted : count ≡ task_count tasks)
      (allowed : job.task < task_count tasks → from ≡ soonest tasks jobs j job.task)
      (checked : (ts js : List ℕ) → Seen ts js j job task count above from → one ≡ job_checked ts js j) where
    -- one more: its check ..
    pub looked_here : one ≡ job_checked tasks jobs j
    looked_here = checked tasks jobs (record { own = own; of_task_law = of_task_law; tasks_counted = counted; last = w.last; allowed = allowed })

    -- .. and where it is done, the list with it noted
    pub looked_more : {u : ⊤} (after : List ℕ) → one ≡ Ok u → after ≡ set noted job.task (job.arrival + task.period) → Looked tasks jobs (j + 1) after job.arrival
    looked_more after done put =
        record {
          all = still_done (job_checked tasks jobs) j w.all looked_here done;
          last = rw own (sym (last_more jobs j));
          each = rw (put, of_task_law, own) (noted_more tasks jobs j noted w.each);
        }
