-- The code's sets of jobs are those of "One tick": what a loop has collected, and what the words of the view say. So a step on accepted
-- lists is document 01's: what the code sees, chooses and advances to.
use Prim.Native.Nat.{◌+◌, ◌<◌, ℕ, ◌≤◌}
use mathlib.Core.Bool.{◌&&◌, Bool, cond, false, not, true, ◌||◌}
use mathlib.Core.List.{List}
use mathlib.Core.Logic.{inl, inr, ◌⊎◌}
use mathlib.Core.Path.{ap, ap₂, refl, sym, ◌∙◌, ◌≡◌}
use native.Mathlib.Omega.{arith}
use lib.Dec.{eqb, leb, ltb}
use borrow.Author.Tests.{lt-ltb, ltb-true}
use Rattle.bits.specs.Below.{bit, greatest, word, count}
use Rattle.bits.specs.Word.{without, with_bit}
use Rattle.bits.proofs.Laws.Below.{least_same, some_same}
use Rattle.bits.proofs.Laws.Bools.{and_false_right, by_cond, clash, either, eqb_swap, never_true}
use Rattle.bits.proofs.Laws.Word.{bit_above, bit_word, highest_word, up_to, without_word, word_none, word_same, count_bits}
use Rattle.bits.proofs.Laws.Most.{greatest_key_law}
use Rattle.zsrm.specs.declared.record.Record.{Record}
use Rattle.zsrm.specs.declared.next.Ticked.{Ticked}
use Rattle.zsrm.specs.declared.look.View.{View}
use Rattle.zsrm.specs.declared.tie.Tie.{Tie}
use Rattle.zsrm.specs.Given.{is_se, Given}
use Rattle.tables.specs.Tables.{idle, job_count, job_criticality, job_nominal, job_priority, zero_slack_instant, Lists}
use Rattle.zsrm.specs.Record.{done_at}
use Rattle.zsrm.specs.Tick.{alive, candidate, choice, done_after, eligible, ended_word, ends, is_stay, job_word, keeps, lowest}
use Rattle.zsrm.specs.Tick.{more_critical, over, past_zero_slack, ready_at, ready_word, some_job, suspended, waits, advanced, candidate_or_idle, ready_count}
use Rattle.zsrm.specs.Code.View.{less_critical_word, chosen, has_priority, is_past, keeps_by, less_critical_in, lowest_of}
use Rattle.zsrm.specs.Code.View.{overrun_word, overruns, past_word, priority_word, ticked, ticked_by, view, waiting_word, greatest_criticality}
use Rattle.zsrm.proofs.Laws.Ready.{candidate_top}
use Rattle.zsrm.proofs.Laws.Tick.{ends_by, se_reads, waiting}
use Rattle.tables.specs.Outcomes.{Done}
use Rattle.zsrm.specs.declared.answers.Stepped.{Stepped}
use Rattle.zsrm.specs.Answers.{stepped}
use Rattle.tables.specs.Refusals.{check_lists}
use Rattle.zsrm.proofs.Laws.Choice.{choice_may}
use Rattle.tables.proofs.Laws.Accepted.{bounded, lists_few}

-- the view, word by word
pub view_made : (l : Lists) (r : Record) (a p m s e y : ℕ) → a ≡ job_word l.jobs (alive r) → p ≡ past_word l a r.tick → m ≡ greatest_criticality l p → s ≡ less_critical_word l a m
    → e ≡ without a s → y ≡ priority_word l e → ◌≡◌ {A = View} (record { alive = a; past = p; suspended = s; eligible = e; ready = y }) (view l r)
unfolding view
view_made l r a p m s e y qa qp qm qs qe qy = rw (qy, qe, qs, qm, qp, qa)

-- a set of jobs and its word
pub job_word_same : (jobs : List ℕ) (f h : ℕ → Bool) → ((j : ℕ) → j < job_count jobs → f j ≡ h j) → job_word jobs f ≡ job_word jobs h
unfolding job_word
job_word_same jobs f h q = word_same (up_to f (job_count jobs)) (up_to h (job_count jobs)) 64 (λ j _. go j (either (ltb j (job_count jobs))))
  where
    go : (j : ℕ) → (ltb j (job_count jobs) ≡ true) ⊎ (ltb j (job_count jobs) ≡ false) → up_to f (job_count jobs) j ≡ up_to h (job_count jobs) j
    go j (inl l) = rw l (q j (ltb-true j (job_count jobs) l))
    go j (inr l) = rw l

pub job_word_bit : (jobs : List ℕ) (f : ℕ → Bool) (j : ℕ) → job_count jobs ≤ 64 → j < job_count jobs → bit (job_word jobs f) j ≡ f j
unfolding job_word
job_word_bit jobs f j few l = bit_word (up_to f (job_count jobs)) 64 j (omega arith) ∙ rw (lt-ltb j (job_count jobs) l)

-- each word of the view is the document's set
module _ (g : Given) (r : Record) (few : job_count g.lists.jobs ≤ 64) where
  alive_bit : (j : ℕ) → j < job_count g.lists.jobs → bit (job_word g.lists.jobs (alive r)) j ≡ alive r j
  alive_bit j l = job_word_bit g.lists.jobs (alive r) j few l

  pub past_view : past_word g.lists (job_word g.lists.jobs (alive r)) r.tick ≡ job_word g.lists.jobs (past_zero_slack g r)
  unfolding past_word is_past past_zero_slack
  past_view = job_word_same g.lists.jobs _ (past_zero_slack g r) (λ j l. ap (λ (b : Bool). b && leb (zero_slack_instant g.lists j) r.tick) (alive_bit j l))

  -- the jobs alive that are less critical than the greatest of a set are those than which some job of the set is more critical
  below_by : (f : ℕ → Bool)
      → less_critical_word g.lists (job_word g.lists.jobs (alive r)) (greatest_criticality g.lists (job_word g.lists.jobs f))
      ≡ job_word g.lists.jobs (λ j. alive r j && some_job g.lists.jobs (λ i. f i && more_critical g i j))
  unfolding less_critical_word less_critical_in greatest_criticality more_critical some_job
  below_by f =
      job_word_same g.lists.jobs _ (λ j. alive r j && some_job g.lists.jobs (λ i. f i && more_critical g i j))
      (λ j l. ap₂ (λ (a b : Bool). a && b) (alive_bit j l)
      (sym (greatest_key_law (bit (job_word g.lists.jobs f)) (job_criticality g.lists) (job_count g.lists.jobs) (job_criticality g.lists j))
      ∙ some_same _ (λ i. f i && ltb (job_criticality g.lists j) (job_criticality g.lists i)) (job_count g.lists.jobs)
      (λ i m. ap (λ (b : Bool). b && ltb (job_criticality g.lists j) (job_criticality g.lists i)) (job_word_bit g.lists.jobs f i few m))))

  pub suspended_view : less_critical_word g.lists (job_word g.lists.jobs (alive r))
      (greatest_criticality g.lists (job_word g.lists.jobs (past_zero_slack g r))) ≡ job_word g.lists.jobs (suspended g r)
  unfolding suspended
  suspended_view = below_by (past_zero_slack g r)

  pub eligible_view : without (job_word g.lists.jobs (alive r)) (job_word g.lists.jobs (suspended g r)) ≡ job_word g.lists.jobs (eligible g r)
  unfolding job_word eligible
  eligible_view =
      without_word (up_to (alive r) (job_count g.lists.jobs)) (up_to (suspended g r) (job_count g.lists.jobs))
      ∙ word_same _ (up_to (eligible g r) (job_count g.lists.jobs)) 64 (λ j _. go (ltb j (job_count g.lists.jobs)) (alive r j) (suspended g r j))
    where
      go : (l a s : Bool) → ((l && a) && not (l && s)) ≡ (l && (a && not s))
      go true a s = refl
      go false a s = refl

  pub ready_view : priority_word g.lists (job_word g.lists.jobs (eligible g r)) ≡ ready_word g r
  unfolding priority_word ready_word ready_at has_priority some_job
  ready_view =
      word_same _ (ready_at g r) 64
      (λ p _. some_same _ (λ j. eligible g r j && eqb (job_priority g.lists j) p) (job_count g.lists.jobs)
      (λ j l. ap (λ (b : Bool). b && eqb (job_priority g.lists j) p) (job_word_bit g.lists.jobs (eligible g r) j few l)))

  pub record Seen (v : View) : Type 0 where
    pub alive : v.alive ≡ job_word g.lists.jobs (alive r)
    pub past : v.past ≡ job_word g.lists.jobs (past_zero_slack g r)
    pub suspended : v.suspended ≡ job_word g.lists.jobs (suspended g r)
    pub eligible : v.eligible ≡ job_word g.lists.jobs (eligible g r)
    pub ready : v.ready ≡ ready_word g r

  pub seen : Seen (view g.lists r)
  unfolding view
  seen =
      let s : (view g.lists r).suspended ≡ job_word g.lists.jobs (suspended g r) = rw past_view suspended_view in
      let e : (view g.lists r).eligible ≡ job_word g.lists.jobs (eligible g r) = rw s eligible_view in
      record { alive = refl; past = past_view; suspended = s; eligible = e; ready = rw e ready_view }

  module _ (fit : (j : ℕ) → j < job_count g.lists.jobs → job_priority g.lists j < 64) where
    -- a candidate is an eligible job of the top priority that is ready
    pub candidate_view : (j : ℕ) → j < job_count g.lists.jobs
        → has_priority g.lists (view g.lists r).eligible (greatest 64 (bit (view g.lists r).ready) 64) j ≡ candidate g r j
    unfolding has_priority ready_word
    candidate_view j l =
        ap₂ (λ (b : Bool) (p : ℕ). b && eqb (job_priority g.lists j) p)
        (ap (λ (w : ℕ). bit w j) seen.eligible ∙ job_word_bit g.lists.jobs (eligible g r) j few l)
        (ap (λ (w : ℕ). greatest 64 (bit w) 64) seen.ready ∙ highest_word (ready_at g r) 64 64)
        ∙ sym (candidate_top g r fit j l)

    -- our choice is the previous one that is kept, or the lowest-numbered
    pub chosen_view : (tie : Tie) → chosen g.lists tie (view g.lists r) r.previous ≡ choice g tie r
    unfolding chosen keeps_by lowest_of choice keeps lowest
    chosen_view tie =
        ap₂ (λ (b : Bool) (e : ℕ). cond b r.previous e)
        (kept (is_stay tie) (ltb r.previous (job_count g.lists.jobs)) _ _ (λ q. candidate_view r.previous (ltb-true r.previous (job_count g.lists.jobs) q)))
        (least_same _ (candidate g r) (job_count g.lists.jobs) idle candidate_view)
      where
        kept : (s l x y : Bool) → (l ≡ true → x ≡ y) → (s && l && x) ≡ (s && l && y)
        kept true true x y h = h refl
        kept true false x y h = refl
        kept false l x y h = refl

  -- the jobs that are over, and those that are ended
  module _ (e : ℕ) where
    pub ended_view : is_se g.mode ≡ true
        → less_critical_word g.lists (view g.lists r).alive (greatest_criticality g.lists (overrun_word g.lists r (view g.lists r).past e)) ≡ ended_word g r e
    unfolding overrun_word overruns ended_word ends
    ended_view se =
        let overs : overrun_word g.lists r (view g.lists r).past e ≡ job_word g.lists.jobs (over g r e) =
        unfold over done_after in
        job_word_same g.lists.jobs _ (over g r e) (λ j l. rw se (ap (λ (b : Bool). b && ltb (job_nominal g.lists j) (done_at r j + cond (eqb e j) 1 0))
        (ap (λ (w : ℕ). bit w j) seen.past ∙ job_word_bit g.lists.jobs (past_zero_slack g r) j few l))) in
        rw (seen.alive, overs) (below_by (over g r e))

    -- those that wait
    pub waiting_view : waiting_word g.lists.jobs (job_word g.lists.jobs (eligible g r)) e ≡ job_word g.lists.jobs (waits g r e)
    unfolding waiting_word job_word with_bit waits
    waiting_view = by_cond (λ x. x ≡ word 64 (up_to (waits g r e) n)) (ltb e n) _ _ others none
      where
        n : ℕ
        n = job_count g.lists.jobs

        others : ltb e n ≡ true → without (word 64 (up_to (eligible g r) n)) (word 64 (λ q. bit 0 q || eqb q e)) ≡ word 64 (up_to (waits g r e) n)
        others h =
            without_word (up_to (eligible g r) n) (λ q. bit 0 q || eqb q e)
            ∙ word_same _ (up_to (waits g r e) n) 64 (λ j _. rw (bit_above 0 0 j (omega arith) (omega arith), eqb_swap j e, h) (go (ltb j n) (eligible g r j) (eqb e j)))
          where
            go : (l a b : Bool) → ((l && a) && not b) ≡ (l && ((a && true) && not b))
            go false a b = refl
            go true false b = refl
            go true true b = refl

        none : ltb e n ≡ false → 0 ≡ word 64 (up_to (waits g r e) n)
        none h = sym (word_none _ 64 (λ j _. and_false_right (ltb j n) (never_true _ (λ w. clash (lt-ltb e n ((waiting g r e j).0 w).1) h))))

-- in mode S no job is ended
pub none_ended : (g : Given) (r : Record) (e : ℕ) → is_se g.mode ≡ false → ended_word g r e ≡ 0
unfolding ended_word job_word
none_ended g r e s = word_none _ 64 (λ j _. and_false_right (ltb j (job_count g.lists.jobs)) (never_true (ends g r e j) (λ h. clash ((se_reads g.mode).1 (ends_by g r e j h).1.se) s)))

-- what the code ends, in either mode, is what the tick ends
module _ (g : Given) (r : Record) (v : View) (e : ℕ) (few : job_count g.lists.jobs ≤ 64) (q : v ≡ view g.lists r) where
  pub ended_se : (over m w : ℕ) → is_se g.mode ≡ true → over ≡ overrun_word g.lists r v.past e → m ≡ greatest_criticality g.lists over
      → w ≡ less_critical_word g.lists v.alive m → w ≡ ended_word g r e
  ended_se over m w se p k h = h ∙ rw (k, p, q) (ended_view g r few e se)

  pub ended_s : is_se g.mode ≡ false → 0 ≡ ended_word g r e
  ended_s s = sym (none_ended g r e s)

  -- and what it makes of that and of what it sees is what the tick does
  pub ticked_made : (ended : ℕ) (w : Ticked) → ended ≡ ended_word g r e → w ≡ ticked_by g.lists.jobs v e ended → w ≡ ticked g r e
  unfolding ticked_by
  ticked_made ended w p h = h ∙ rw (p, q, (seen g r few).suspended, (seen g r few).eligible, waiting_view g r few e)

module _ (g : Given) (ok : check_lists g.lists ≡ Done) (tie : Tie) where
  -- what is chosen from the view is our choice
  pub our_choice : (r : Record) (v : View) (e : ℕ) → v ≡ view g.lists r → e ≡ chosen g.lists tie v r.previous → e ≡ choice g tie r
  our_choice r v e p q =
      q ∙ ap (λ (x : View). chosen g.lists tie x r.previous) p
      ∙ chosen_view g r (lists_few g.lists ok) (λ j l. let w = bounded g.lists ok j l in omega arith) tie

  pub our_choice_runs : (r : Record) (e : ℕ) → e ≡ choice g tie r → candidate_or_idle g r e ≡ true
  our_choice_runs r e q = ap (candidate_or_idle g r) q ∙ choice_may g tie r

  pub stepped_made : (r : Record) (v : View) (next : Record) (e ended ones : ℕ) → v ≡ view g.lists r → e ≡ choice g tie r
      → next ≡ advanced g r e → ended ≡ ended_word g r e → ones ≡ count 64 (bit v.ready)
      → ◌≡◌ {A = Stepped} (record { outcome = Done; «record» = next; ready = v.ready; ones = ones; entry = e; ended = ended }) (stepped g tie r)
  unfolding stepped ready_count
  stepped_made r v next e ended ones p q n d o =
      let ready : v.ready ≡ ready_word g r = ap (λ (x : View). x.ready) p ∙ (seen g r (lists_few g.lists ok)).ready in
      let counted : ones ≡ count 64 (ready_at g r) =
      o ∙ ap (λ (w : ℕ). count 64 (bit w)) ready ∙ unfold ready_word in count_bits (ready_at g r) 64 in
      rw (n, d, counted, ready, q)
