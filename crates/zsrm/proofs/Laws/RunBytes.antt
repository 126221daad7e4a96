-- Our run for a call from C, turn by turn: what is carried stands for the record that the run has come to, the lowest candidate is its
-- entry, and a turn writes it as often as nothing happens. From the fresh record the lowest candidate is what Stay takes, too.
use Prim.Native.Nat.{◌%◌, ◌*◌, ◌+◌, ◌/◌, ◌<◌, ℕ, ◌≤◌}
use mathlib.Core.Bool.{Bool, false, true}
use mathlib.Core.List.{List}
use mathlib.Core.Path.{ap, ap₂, refl, sym, ◌∙◌, ◌≡◌}
use native.Mathlib.Omega.{arith}
use lib.Dec.{ltb}
use lib.ListN.{get_or, length, length-replicate, length-set, replicate, set, take}
use lib.Seq.{length-sets, sets}
use Rattle.bits.proofs.Laws.Bools.{by_cond}
use Rattle.tables.specs.Bytes.{bytes_of}
use Rattle.tables.specs.Tables.{job_count}
use Rattle.tables.proofs.Laws.Accepted.{lists_few}
use Rattle.zsrm.specs.declared.compact.Going.{Going}
use Rattle.zsrm.specs.declared.record.Record.{Record}
use Rattle.zsrm.specs.declared.tie.Tie.TheVariants.{Lowest, Stay}
use Rattle.zsrm.specs.Code.Calls.{alive_after, Call, done_by, eligible_of, reach_of, stretch_of}
use Rattle.zsrm.specs.Code.Compact.{Current, Holds, Onward, OnwardRun}
use Rattle.zsrm.specs.Code.Gathered.{arrival_in}
use Rattle.zsrm.specs.Code.Leap.{leapt, Quiet}
use Rattle.zsrm.specs.Code.Masks.{lowest_of}
use Rattle.zsrm.specs.Given.{Given}
use Rattle.zsrm.specs.Record.{consistent, done_at, fresh}
use Rattle.zsrm.specs.Run.{run_entries}
use Rattle.zsrm.specs.Tick.{candidate_or_idle, choice}
use Rattle.zsrm.proofs.Laws.Bytes.{Writing, writing_all, writing_none, writing_tick}
use Rattle.zsrm.proofs.Laws.Calls.{call_eligible, call_leaps, call_one, call_quiet, call_within, reach_within}
use Rattle.zsrm.proofs.Laws.Choice.{choice_lowest, choice_may}
use Rattle.zsrm.proofs.Laws.Compact.{carried_fresh, current_made}
use Rattle.zsrm.proofs.Laws.Consistent.{spent_tick}
use Rattle.zsrm.proofs.Laws.Leap.{tick_leapt}
use Rattle.zsrm.proofs.Laws.Leaps.{length_stored_bytes, stored_front, writing_leap}
use Rattle.zsrm.proofs.Laws.Masks.{lowest_entry, zeros_read}
use Rattle.zsrm.proofs.Laws.Ties.{runs_agree}

-- the run has written the entries of its first t ticks, and what it carries stands for the record that it has come to
pub record Running (x : Given) (size : ℕ) (bytes done : List ℕ) (s : Going) (t : ℕ) : Type 0 where
  pub at : Record
  pub written : Writing x Lowest size bytes at t
  pub places : length done ≡ 64
  pub holds : Holds x false at done s

-- before the first tick
pub running_none : (x : Given) (bytes done : List ℕ) (s : Going) → job_count x.lists.jobs ≤ 64 → done ≡ replicate 64 0
    → ◌≡◌ {A = Going} s (record { alive = 0; early = 0; came = 0; soon = 65535 }) → Running x (length bytes) bytes done s 0
running_none x bytes done s few d q =
    record {
      at = fresh x.lists.jobs;
      written = writing_none x Lowest bytes (fresh x.lists.jobs) refl;
      places = ap length d ∙ length-replicate {A = ℕ} 64 0;
      holds = rw q (carried_fresh x false done few (λ j _. ap (λ (l : List ℕ). get_or l j 0) d ∙ zeros_read 64 j));
    }

-- after the last
pub running_all : (x : Given) (g masks : List ℕ) (n : ℕ) (se : Bool) (size : ℕ) (bytes done : List ℕ) (s : Going) (t : ℕ) → Call x g masks n se → Running x size bytes done s t
    → size ≤ 32768 → size % 2 ≡ 0 → t ≡ size / 2 → bytes ≡ bytes_of 2 (run_entries x Stay (size / 2))
running_all x g masks n se size bytes done s t z w short even all =
    writing_all x Lowest bytes w.at size t w.written even all ∙ ap (bytes_of 2) (sym (runs_agree x z.ok (size / 2) (omega arith)).0)

-- one turn: at tick t the next jobs are counted and the lowest candidate runs as far as nothing happens
module _ (x : Given) (g masks : List ℕ) (n : ℕ) (se : Bool) (z : Call x g masks n se) (size : ℕ) (bytes done : List ℕ) (s : Going) (t : ℕ) (w : Running x size bytes done s t) (now : Going)
    (on : Onward g n t s now) (later : now.came < n → t < arrival_in g now.came) (ahead : t < now.soon) where
  abbrev r : Record
  r = w.at

  tick : r.tick ≡ t
  tick = writing_tick x Lowest bytes r size t w.written

  few : job_count x.lists.jobs ≤ 64
  few = lists_few x.lists z.ok

  sound : consistent x r ≡ true
  sound = w.written.going.sound

  cur : Current x false r now.alive now.early now.came now.soon done
  cur = current_made g n t s now x false r done z.ok z.times z.count (sym tick) on later ahead w.holds

  module _ (e : ℕ) (q : e ≡ lowest_of masks (eligible_of masks g now)) where
    chosen : e ≡ choice x Lowest r
    chosen = q ∙ ap (lowest_of masks) (call_eligible x g masks n se z false r done now sound cur) ∙ lowest_entry x r masks z.ok z.masked ∙ sym (choice_lowest x r)

    may : candidate_or_idle x r e ≡ true
    may = ap (candidate_or_idle x r) chosen ∙ choice_may x Lowest r

    module _ (ticks : ℕ) (b : t < ticks) (limit : ticks ≤ 16384) (reach : ℕ) (p : reach ≡ reach_of g n now t ticks) where
      -- the ticks done of the entry stay small
      pub running_room : e < n → get_or done e 0 + reach < 65536
      unfolding done_at
      running_room l =
          let had : get_or done e 0 ≡ done_at r e = cur.carried.dones e (omega (arith, z.count)) in
          omega (arith, had, spent_tick x r sound e (omega (arith, few, z.count)), tick, reach_within g n now t ticks reach p)

      module _ (k : ℕ) (h : k ≡ stretch_of g se done e n reach) where
        far : k ≡ stretch_of g se done e n (reach_of g n now r.tick ticks)
        far = h ∙ ap (stretch_of g se done e n) p ∙ ap (λ (y : ℕ). stretch_of g se done e n (reach_of g n now y ticks)) (sym tick)

        begun : r.tick < ticks
        begun = omega (arith, tick)

        pub running_one : 1 ≤ k
        running_one = call_one x g masks n se z false r done now sound cur e may ticks begun k far

        pub running_within : t + k ≤ ticks
        running_within = omega (arith, tick, call_within x g masks n se z false r done now sound cur e may ticks begun k far)

        quiet : Quiet x r e (r.tick + k)
        quiet = call_quiet x g masks n se z false r done now sound cur e may ticks begun k far

        pub running_more : (left s' : Going) (done' after : List ℕ) → left.alive ≡ alive_after g se done e n masks now k → left.early ≡ now.early → left.came ≡ now.came
            → left.soon ≡ now.soon → done' ≡ done_by done e n k → after ≡ sets bytes (t * 2) (bytes_of 2 (replicate k e)) → ticks * 2 ≤ size → OnwardRun g (t + k) left s'
            → Running x size after done' s' (t + k)
        running_more left s' done' after qa qe qc qs qd qf room kept =
            let vs = bytes_of 2 (replicate k e) in
            let two : (t + k) * 2 ≡ t * 2 + k * 2 = omega arith in
            record {
              at = leapt x r e k;
              written =
                  writing_leap x Lowest few size bytes after r (leapt x r e k) t k e w.written running_one (omega (arith, running_within)) chosen quiet refl
                  (ap length qf ∙ length-sets bytes (t * 2) vs ∙ w.written.long)
                  (ap₂ (λ (m : ℕ) (l : List ℕ). take m l) two qf
                  ∙ stored_front bytes vs (t * 2) (k * 2) (length_stored_bytes k e) (omega (arith, running_within, w.written.long)));
              places = ap length qd ∙ long ∙ w.places;
              holds =
                  kept x (leapt x r e k) done' z.times few (sym (tick_leapt x r e k ∙ ap (λ (y : ℕ). y + k) tick))
                  (call_leaps x g masks n se z false r done now sound cur e may k left done' w.places qa qe qc qs qd);
            }
          where
            long : length (done_by done e n k) ≡ length done
            long = unfold done_by in by_cond (λ (d : List ℕ). length d ≡ length done) (ltb e n) (set done e (get_or done e 0 + k)) done (λ _. length-set done e _) (λ _. refl)
