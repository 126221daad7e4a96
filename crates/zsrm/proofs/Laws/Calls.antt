-- One turn of a call from C, which carries no record. What is carried at a tick stands for a record, so who may run there is seen; as far
-- as the entry runs before the next instant carried, the next arrival and the end, the stretch is quiet, or silent where all that came are
-- carried; and who is left alive and the ticks done stand for the record leapt.
use Prim.Native.Nat.{◌+◌, ◌-◌, ◌<◌, ℕ, ◌≤◌}
use mathlib.Core.Bool.{Bool, cond, false, true}
use mathlib.Core.List.{List}
use mathlib.Core.Logic.{inl, inr, ◌⊎◌, ⊎_elim}
use mathlib.Core.Path.{ap, ap₂, refl, sym, ◌∙◌, ◌≡◌}
use native.Mathlib.Decide.{ℕ_discrete, dec_lt}
use native.Mathlib.Nat.{le_trans}
use native.Mathlib.Omega.{arith}
use lib.Dec.{eqb, ltb}
use lib.ListN.{get_or, length, length-set, set}
use lib.Seq.{get_or-set_other, get_or-set_same}
use borrow.Author.Tests.{eq-eqb, le-ltb, lt-ltb, ltb-false, ne_eqb}
use Rattle.bits.specs.Word.{without, with_bit}
use Rattle.bits.proofs.Laws.Bools.{by_cond}
use Rattle.tables.specs.Outcomes.{Done}
use Rattle.tables.specs.Refusals.{check_lists}
use Rattle.std.proofs.lemmas.Bool.{cases_lt}
use Rattle.tables.specs.Tables.{arrival, execution, idle, job_count, job_nominal, task_count, zero_slack_instant}
use Rattle.tables.proofs.Laws.Accepted.{few_tasks, lists_few, lists_tasks}
use Rattle.zsrm.specs.declared.compact.Going.{Going}
use Rattle.zsrm.specs.declared.record.Record.{Record}
use Rattle.zsrm.specs.Code.Calls.{alive_after, Call, done_by, eligible_of, left_of, most_of, past_of, reach_of, stretch_of}
use Rattle.zsrm.specs.Code.Compact.{Current, Holds, stays}
use Rattle.zsrm.specs.Code.Gathered.{arrival_gap, arrival_in, execution_in, nominal_in, run_gap, slack_in}
use Rattle.zsrm.specs.Code.Leap.{leapt, Quiet, Reaches, Silent}
use Rattle.zsrm.specs.Code.Masks.{criticality_at, ended_of, held_by, MasksTo, may_stand, priority_at}
use Rattle.zsrm.specs.Code.Reading.{Jobbed, Tasked}
use Rattle.zsrm.specs.Given.{Given, is_se}
use Rattle.zsrm.specs.Record.{consistent, done_at}
use Rattle.zsrm.specs.Tick.{alive, candidate_or_idle, eligible, ended_word, job_word, past_zero_slack}
use Rattle.zsrm.proofs.Laws.Compact.{carried_leap, current_came, living_alive, none_stays, past_carried, run_one, run_quiet, run_silent, run_within, stays_word}
use Rattle.zsrm.proofs.Laws.Consistent.{sound_at_law}
use Rattle.zsrm.proofs.Laws.Gap.{arrival_most, ArrivalStage, arrival_stage, RunStage, run_stage}
use Rattle.zsrm.proofs.Laws.Masks.{ended_left, held_eligible, masks_of, top_stands}
use Rattle.zsrm.proofs.Laws.Places.{alive_unfinished}
use Rattle.zsrm.proofs.Laws.Tick.{eligible_alive, runs_eligible, runs_or_idle}
use Rattle.zsrm.proofs.Laws.View.{none_ended}

-- what is read of lists that pass, and the masks that are made of it
pub call_made : (x : Given) (of words out masks : List ℕ) (m n : ℕ) (se : Bool) → check_lists x.lists ≡ Done → Tasked x.lists.tasks of → Jobbed x.lists out words
    → m ≡ task_count x.lists.tasks → MasksTo of words m m m masks → n ≡ job_count x.lists.jobs → se ≡ is_se x.mode → Call x out masks n se
unfolding criticality_at priority_at arrival_in execution_in slack_in nominal_in
call_made x of words out masks m n se ok t j q w count mode =
    record {
      ok = ok;
      times = record { arrivals = j.arrivals; executions = j.executions; slacks = j.slacks; nominals = j.nominals };
      tasks = record { size = j.size; nominals = j.nominals; tasks_of = j.tasks_of };
      masked = masks_of x.lists ok of words masks m q (record { criticalities = t.criticalities; priorities = t.priorities })
          (λ k l. j.jobs_of k (omega (arith, few_tasks x.lists.tasks (lists_tasks x.lists ok)))) w;
      count = count;
      mode = mode;
    }

module _ (x : Given) (g masks : List ℕ) (n : ℕ) (se : Bool) (z : Call x g masks n se) where
  few : job_count x.lists.jobs ≤ 64
  few = lists_few x.lists z.ok

  pub call_fits : n ≤ 64
  call_fits = omega (arith, few, z.count)

  module _ (all : Bool) (r : Record) (done : List ℕ) (s : Going) (sound : consistent x r ≡ true)
      (cur : Current x all r s.alive s.early s.came s.soon done) where
    living : s.alive ≡ job_word x.lists.jobs (alive r)
    living = living_alive x all r s.alive s.early s.came s.soon done few sound cur

    past : past_of s ≡ job_word x.lists.jobs (past_zero_slack x r)
    unfolding past_of
    past = past_carried x all r s.alive s.early s.came s.soon done few sound cur

    -- who may run
    pub call_eligible : eligible_of masks g s ≡ job_word x.lists.jobs (eligible x r)
    unfolding eligible_of
    call_eligible = ap₂ (λ (a p : ℕ). without a (held_by masks g p)) living past ∙ held_eligible x r masks g z.ok z.masked z.tasks

    pub call_stands : (e : ℕ) → may_stand masks (eligible_of masks g s) e ≡ candidate_or_idle x r e
    call_stands e = ap (λ (a : ℕ). may_stand masks a e) call_eligible ∙ top_stands x r masks z.ok z.masked e

    module _ (e : ℕ) (may : candidate_or_idle x r e ≡ true) where
      -- it has not finished
      short : e < job_count x.lists.jobs → done_at r e < execution x.lists.jobs e
      short l =
          let small : e < 64 = omega (arith, few) in
          let w = rw (alive_unfinished r e (eligible_alive x r e (runs_eligible x r e e may small refl))) at (sound_at_law x r sound e small) in
          w.short

      -- how far it goes
      module _ (ticks : ℕ) (b : r.tick < ticks) (k : ℕ) (q : k ≡ stretch_of g se done e n (reach_of g n s r.tick ticks)) where
        abbrev most : ℕ
        most = most_of s r.tick ticks

        most_is : ((most ≡ s.soon - r.tick) × (s.soon < ticks)) ⊎ ((most ≡ ticks - r.tick) × (ticks ≤ s.soon))
        unfolding most_of
        most_is = ⊎_elim (λ l. inl (omega arith, l)) (λ l. inr (omega arith, l)) (cases_lt s.soon ticks)

        most_one : 1 ≤ most
        most_one = ⊎_elim (λ h. omega (arith, h.0, cur.ahead)) (λ h. omega (arith, h.0)) most_is

        most_soon : r.tick + most ≤ s.soon
        most_soon = ⊎_elim (λ h. omega (arith, h.0, cur.ahead)) (λ h. omega (arith, h.0, h.1)) most_is

        most_ticks : r.tick + most ≤ ticks
        most_ticks = ⊎_elim (λ h. omega (arith, h.0, h.1, cur.ahead)) (λ h. omega (arith, h.0)) most_is

        abbrev reach : ℕ
        reach = arrival_gap g (job_count x.lists.jobs) s.came r.tick most

        far : k ≡ run_gap g (job_count x.lists.jobs) (is_se x.mode) e (done_at r e) reach
        unfolding stretch_of reach_of
        far = q ∙ ap₂ (λ (m : ℕ) (c : Bool). run_gap g m c e (get_or done e 0) (arrival_gap g m s.came r.tick most)) z.count z.mode ∙ had (dec_lt e (job_count x.lists.jobs))
          where
            had : Dec (e < job_count x.lists.jobs)
                → run_gap g (job_count x.lists.jobs) (is_se x.mode) e (get_or done e 0) reach ≡ run_gap g (job_count x.lists.jobs) (is_se x.mode) e (done_at r e) reach
            had (yes l) = ap (λ (d : ℕ). run_gap g (job_count x.lists.jobs) (is_se x.mode) e d reach) (cur.carried.dones e l)
            had (no l) = unfold run_gap in rw (le-ltb e (job_count x.lists.jobs) (omega (arith, l)))

        pub call_one : 1 ≤ k
        call_one = rw far (run_one x all r s.alive s.early s.came s.soon done few sound cur z.ok g z.times e most most_soon short most_one)

        pub call_within : r.tick + k ≤ ticks
        call_within = omega (arith, far, run_within x all r s.alive s.early s.came s.soon done few sound cur z.ok g z.times e most most_soon short, most_ticks)

        pub call_quiet : Quiet x r e (r.tick + k)
        call_quiet = rw far (run_quiet x all r s.alive s.early s.came s.soon done few sound cur z.ok g z.times e most most_soon short)

        pub call_silent : all ≡ true → Silent x r e (r.tick + k)
        call_silent = rw far (run_silent x all r s.alive s.early s.came s.soon done few sound cur z.ok g z.times e most most_soon short)

        arrives : ArrivalStage x.lists r.tick most reach
        arrives = arrival_stage x.lists g z.times z.ok r.tick s.came most (current_came x all r s.alive s.early s.came s.soon done few sound cur)

        runs : RunStage x.lists (is_se x.mode) e (done_at r e) reach k
        runs = rw far (run_stage x.lists g z.times (is_se x.mode) e (done_at r e) reach)

        -- where all are carried and it does not go to the end, something happens there
        pub call_reaches : all ≡ true → ticks ≤ 16384 → r.tick + k < ticks → Reaches x r e (r.tick + k)
        call_reaches t limit l = go runs.stage.met arrives.stage.met most_is (cur.carried.met t)
          where
            go : (k ≡ reach) ⊎ (((e < job_count x.lists.jobs) × (execution x.lists.jobs e ≡ done_at r e + k))
                ⊎ ((is_se x.mode ≡ true) × (e < job_count x.lists.jobs) × (job_nominal x.lists e ≡ done_at r e + k)))
                → (reach ≡ most) ⊎ ((j : ℕ) × (j < job_count x.lists.jobs) × (arrival x.lists.jobs j ≡ r.tick + reach))
                → ((most ≡ s.soon - r.tick) × (s.soon < ticks)) ⊎ ((most ≡ ticks - r.tick) × (ticks ≤ s.soon))
                → (s.soon ≡ 65535) ⊎ ((j : ℕ) × (j < job_count x.lists.jobs) × (zero_slack_instant x.lists j ≡ s.soon)) → Reaches x r e (r.tick + k)
            go (inr (inl p)) a m o = inr (p.0, inl (omega (arith, p.1)))
            go (inr (inr p)) a m o = inr (p.1, inr (p.0, omega (arith, p.2)))
            go (inl i) (inr p) m o = inl (p.0, p.1, inl (p.2 ∙ ap (λ (y : ℕ). r.tick + y) (sym i)))
            go (inl i) (inl p) (inr m) o = absurd (omega (arith, i, p, m.0))
            go (inl i) (inl p) (inl m) (inl o) = absurd (omega (arith, m.1))
            go (inl i) (inl p) (inl m) (inr o) = inl (o.0, o.1, inr (omega (arith, i, p, m.0, o.2, cur.ahead)))

      -- who is left
      left_stays : (k : ℕ) → e < job_count x.lists.jobs → left_of g se done e masks s (get_or done e 0 + k) ≡ job_word x.lists.jobs (stays x r e k)
      unfolding left_of
      left_stays k l =
          ap₂ (λ (a p : ℕ). without (without a (cond se (ended_of masks g done p e) 0)) its) living past
          ∙ ap (λ (w : ℕ). without w its)
          (by_cond (λ d. without (job_word x.lists.jobs (alive r)) d ≡ without (job_word x.lists.jobs (alive r)) (ended_word x r e)) se
          (ended_of masks g done (job_word x.lists.jobs (past_zero_slack x r)) e) 0
          (λ h. ended_left x r masks g z.ok z.masked z.tasks done e (sym z.mode ∙ h) cur.carried.dones)
          (λ h. ap (without (job_word x.lists.jobs (alive r))) (sym (none_ended x r e (sym z.mode ∙ h)))))
          ∙ stays_word x r e k its (ap₂ (λ (d c : ℕ). cond (eqb (d + k) c) (with_bit 0 e) 0) (cur.carried.dones e l) (z.times.executions e l))
        where
          its : ℕ
          its = cond (eqb (get_or done e 0 + k) (execution_in g e)) (with_bit 0 e) 0

      after_stays : (k : ℕ) → alive_after g se done e n masks s k ≡ job_word x.lists.jobs (stays x r e k)
      unfolding alive_after
      after_stays k =
          ap (λ (m : ℕ). cond (ltb e m) (left_of g se done e masks s (get_or done e 0 + k)) s.alive) z.count
          ∙ ⊎_elim (λ c. ap (λ (b : Bool). cond b (left_of g se done e masks s (get_or done e 0 + k)) s.alive) (lt-ltb e (job_count x.lists.jobs) c.0) ∙ left_stays k c.0)
          (λ c. ap (λ (b : Bool). cond b (left_of g se done e masks s (get_or done e 0 + k)) s.alive) (le-ltb e (job_count x.lists.jobs) (out c.0)) ∙ living ∙ none_stays x r e k c.1)
          (runs_or_idle x r e may)
        where
          out : e ≡ idle → job_count x.lists.jobs ≤ e
          out i = omega (arith, few, i)

      -- what is carried stands for the record leapt
      pub call_leaps : (k : ℕ) (s' : Going) (done' : List ℕ) → length done ≡ 64 → s'.alive ≡ alive_after g se done e n masks s k → s'.early ≡ s.early → s'.came ≡ s.came
          → s'.soon ≡ s.soon → done' ≡ done_by done e n k → Holds x all (leapt x r e k) done' s'
      unfolding done_by
      call_leaps k s' done' size qa qe qc qs qd =
          rw (qe, qc, qs) (carried_leap x all r s.alive s.early s.came s.soon done few sound cur e k s'.alive done' (qa ∙ after_stays k)
          (λ j l. ap (λ (d : List ℕ). get_or d j 0) qd ∙ each j l))
        where
          alike : (j : ℕ) → j < job_count x.lists.jobs → Dec (e ≡ j) → get_or (set done e (get_or done e 0 + k)) j 0 ≡ get_or done j 0 + cond (eqb e j) k 0
          alike j l (yes h) = rw (eq-eqb e j h, h) (get_or-set_same done j (get_or done j 0 + k) 0 (omega (arith, few, size)))
          alike j l (no h) = rw (ne_eqb e j h) (get_or-set_other done e j (get_or done e 0 + k) 0 (λ y. h (sym y)) ∙ omega arith)

          each : (j : ℕ) → j < job_count x.lists.jobs → get_or (cond (ltb e n) (set done e (get_or done e 0 + k)) done) j 0 ≡ get_or done j 0 + cond (eqb e j) k 0
          each j l =
              by_cond (λ (d : List ℕ). get_or d j 0 ≡ get_or done j 0 + cond (eqb e j) k 0) (ltb e n) (set done e (get_or done e 0 + k)) done (λ _. alike j l (ℕ_discrete e j))
              (λ h. rw (ne_eqb e j (λ y. omega (arith, y, ltb-false e n h, z.count))) (omega arith))

-- the code's steps to them
pub eligible_made : (masks g : List ℕ) (s : Going) (past held r : ℕ) → past ≡ without s.alive s.early → held ≡ held_by masks g past → r ≡ without s.alive held → r ≡ eligible_of masks g s
unfolding eligible_of past_of
eligible_made masks g s past held r p q h = h ∙ ap (without s.alive) (q ∙ ap (held_by masks g) p)

-- the ticks done stay as many
pub done_length : (done : List ℕ) (e n k : ℕ) → length (done_by done e n k) ≡ length done
unfolding done_by
done_length done e n k = by_cond (λ (d : List ℕ). length d ≡ length done) (ltb e n) (set done e (get_or done e 0 + k)) done (λ _. length-set done e _) (λ _. refl)

-- it is not beyond the end
pub reach_within : (g : List ℕ) (n : ℕ) (s : Going) (t ticks r : ℕ) → r ≡ reach_of g n s t ticks → r ≤ ticks
unfolding reach_of most_of
reach_within g n s t ticks r q =
    le_trans (arrival_most g n s.came t _ r q) (omega arith)

module _ (g : List ℕ) (se : Bool) (done : List ℕ) (e : ℕ) (masks : List ℕ) (s : Going) (ticks c r : ℕ) (qc : c ≡ execution_in g e) where
  pub left_made : se ≡ true → (past ended : ℕ) → past ≡ without s.alive s.early → ended ≡ ended_of masks g done past e
      → r ≡ without (without s.alive ended) (cond (eqb ticks c) (with_bit 0 e) 0) → r ≡ left_of g se done e masks s ticks
  unfolding left_of past_of
  left_made t past ended p q h =
      h ∙ ap (λ (y : ℕ). without (without s.alive ended) (cond (eqb ticks y) (with_bit 0 e) 0)) qc
      ∙ ap (λ (y : ℕ). without (without s.alive y) (cond (eqb ticks (execution_in g e)) (with_bit 0 e) 0)) (q ∙ ap (λ (y : ℕ). ended_of masks g done y e) p ∙ rw t)

  pub left_all_made : se ≡ false → r ≡ without (without s.alive 0) (cond (eqb ticks c) (with_bit 0 e) 0) → r ≡ left_of g se done e masks s ticks
  unfolding left_of
  left_all_made t h =
      h ∙ ap (λ (y : ℕ). without (without s.alive 0) (cond (eqb ticks y) (with_bit 0 e) 0)) qc
      ∙ ap (λ (b : Bool). without (without s.alive (cond b (ended_of masks g done (past_of s) e) 0)) (cond (eqb ticks (execution_in g e)) (with_bit 0 e) 0)) (sym t)

module _ (g : List ℕ) (se : Bool) (done : List ℕ) (e n : ℕ) (masks : List ℕ) (s : Going) (reach : ℕ) where
  -- what a stretch makes, of a job or none
  pub record Ran (k living : ℕ) (done' : List ℕ) : Type 0 where
    pub ticks : k ≡ stretch_of g se done e n reach
    pub alive : living ≡ alive_after g se done e n masks s k
    pub dones : done' ≡ done_by done e n k

  pub ran_job : (k living ticks : ℕ) → e < n → k ≡ run_gap g n se e (get_or done e 0) reach → ticks ≡ get_or done e 0 + k → living ≡ left_of g se done e masks s ticks
      → Ran k living (set done e ticks)
  unfolding stretch_of alive_after done_by
  ran_job k living ticks l q t h = let b = lt-ltb e n l in record { ticks = q; alive = rw b (h ∙ ap (left_of g se done e masks s) t); dones = rw b (ap (set done e) t) }

  pub ran_none : n ≤ e → Ran reach s.alive done
  unfolding stretch_of alive_after done_by
  ran_none l = let b = le-ltb e n l in record { ticks = unfold run_gap in rw b; alive = rw b; dones = rw b }
