-- How far nothing happens: each stage makes the number of ticks no greater than what it guards allows, and where it makes it less, ends at
-- such an instant. Of the arrivals the next alone counts, as jobs stand by arrival; of the zero-slack instants those of the early jobs,
-- for any other has passed, or lies behind an arrival that is ahead.
use Prim.Native.Nat.{◌+◌, ◌-◌, ◌<◌, ◌^◌, ℕ, ◌≤◌, suc, zero}
use mathlib.Core.Bool.{◌&&◌, Bool, cond, false, or-false, true, ◌||◌}
use mathlib.Core.List.{List}
use mathlib.Core.Logic.{inl, inr, ◌⊎◌, ⊎_elim}
use mathlib.Core.Path.{ap, ap₂, refl, sym, ◌∙◌, ◌≡◌}
use native.Mathlib.Decide.{ℕ_discrete, dec_le}
use native.Mathlib.Nat.{not-suc-le-zero, le_trans, lt_of_lt_of_le}
use native.Mathlib.Numerals.{add-one}
use native.Mathlib.Omega.{arith}
use lib.Dec.{eqb, leb, ltb}
use borrow.Author.Tests.{eq-eqb, le-leb, le-ltb, leb-true, lt-leb, lt-ltb, ltb-false, ltb-true, ne_eqb}
use Rattle.bits.specs.Below.{bit, least, some, word}
use Rattle.bits.specs.Word.{with_bit, without_lowest}
use Rattle.bits.proofs.Laws.Below.{last_or_below, least_found, least_is, least_none, none_passes, scan_end, scan_on, some_false}
use Rattle.bits.proofs.Laws.Bools.{and_false, and_false_right, and_left, and_right, and_true, by_cond, clash, either, never_true, or_left, or_right, same_test}
use Rattle.bits.proofs.Laws.Sweep.{Swept, swept_all, swept_here, swept_next, swept_none, swept_set, word_below}
use Rattle.bits.proofs.Laws.Word.{bit_above, bit_word, with_bit_word, word_bits, word_same}
use Rattle.bits.proofs.Readings.{least_reads}
use Rattle.tables.specs.Outcomes.{Done}
use Rattle.tables.specs.Refusals.{before, check5, check6, check7, check8, check_jobs, check_lists}
use Rattle.tables.specs.Tables.{arrival, execution, job_count, job_nominal, Lists, zero_slack_instant}
use Rattle.tables.proofs.Laws.Accepted.{lists_jobs}
use Rattle.tables.proofs.Laws.Refusals.{ascending_at, before_first, before_second, refuse_fine}
use Rattle.zsrm.specs.Code.Gathered.{ahead_in, arrival_gap, arrival_in, Came, came_in, Early, execution_in, Gap, gap_in, Gathers, nominal_in, run_gap, slack_gap, slack_in, until, with_span}
use Rattle.zsrm.specs.Code.Compact.{Times}
use Rattle.zsrm.proofs.Laws.Gathered.{in_list}

-- jobs stand by arrival
module _ (l : Lists) (ok : check_lists l ≡ Done) where
  next_later : (j : ℕ) → suc j < job_count l.jobs → arrival l.jobs j ≤ arrival l.jobs (suc j)
  unfolding check_jobs check7
  next_later j b =
      let each = ascending_at (λ i. before (check6 l.tasks l.jobs i) (before (check7 l.jobs i) (check8 l.tasks l.jobs i))) (job_count l.jobs) (suc j) b
      (before_second (check5 l.jobs) _ (lists_jobs l ok)) in
      let seven = refuse_fine _ _ _ (before_first (check7 l.jobs (suc j)) _ (before_second (check6 l.tasks l.jobs (suc j)) _ each)) in
      let e : suc j - 1 ≡ j = omega arith in
      rw e at (ltb-false (arrival l.jobs (suc j)) (arrival l.jobs (suc j - 1)) (and_false (lt-ltb 0 (suc j) (omega arith)) seven))

  pub arrivals_ascend : (i j : ℕ) → i ≤ j → j < job_count l.jobs → arrival l.jobs i ≤ arrival l.jobs j
  arrivals_ascend i zero a b = let e : i ≡ 0 = omega arith in rw e (omega arith)
  arrivals_ascend i (suc j) a b = go (ℕ_discrete i (suc j)) (λ m. arrivals_ascend i j m (omega arith))
    where
      go : Dec (i ≡ suc j) → (i ≤ j → arrival l.jobs i ≤ arrival l.jobs j) → arrival l.jobs i ≤ arrival l.jobs (suc j)
      go (yes e) ih = rw e (omega arith)
      go (no q) ih = le_trans (ih (omega (arith, q))) (next_later j b)

-- a zero-slack instant is not before the arrival
pub after_arrival : (l : Lists) (j : ℕ) → arrival l.jobs j ≤ zero_slack_instant l j
unfolding zero_slack_instant
after_arrival l j = omega arith

-- a stage leaves some of the ticks, and all of them unless it ends at what it guards
pub record Stage (k r : ℕ) (Hit : Type 0) : Type 0 where
  pub most : r ≤ k
  pub one : 1 ≤ k → 1 ≤ r
  pub met : (r ≡ k) ⊎ Hit

record Until (k t x r : ℕ) : Type 0 where
  pub stage : Stage k r (x ≡ t + r)
  pub ahead : t < x → t + r ≤ x

until_is : (k t x : ℕ) → Until k t x (until k t x)
unfolding until
until_is k t x = by_cond (Until k t x) (ltb t x) (cond (ltb (x - t) k) (x - t) k) k nearer behind
  where
    behind : ltb t x ≡ false → Until k t x k
    behind f =
        let b = ltb-false t x f in
        record { stage = record { most = omega arith; one = λ h. h; met = inl refl }; ahead = λ h. absurd (omega arith) }

    nearer : ltb t x ≡ true → Until k t x (cond (ltb (x - t) k) (x - t) k)
    nearer p = by_cond (Until k t x) (ltb (x - t) k) (x - t) k less all
      where
        a : t < x
        a = ltb-true t x p

        less : ltb (x - t) k ≡ true → Until k t x (x - t)
        less q =
            let b = ltb-true (x - t) k q in
            record { stage = record { most = omega (arith, a); one = λ h. omega (arith, a); met = inr (omega (arith, a)) }; ahead = λ h. omega arith }

        all : ltb (x - t) k ≡ false → Until k t x k
        all q =
            let b = ltb-false (x - t) k q in
            record { stage = record { most = omega arith; one = λ h. h; met = inl refl }; ahead = λ h. omega (arith, a) }

-- what is gathered has the times
pub gathers_times : (l : Lists) (g : List ℕ) → Gathers l g → Times l g
gathers_times l g w = record { arrivals = w.arrivals; executions = w.executions; slacks = w.slacks; nominals = w.nominals }

-- to the next arrival
pub record ArrivalStage (l : Lists) (t most r : ℕ) : Type 0 where
  pub stage : Stage most r ((j : ℕ) × (j < job_count l.jobs) × (arrival l.jobs j ≡ t + r))
  pub all : (j : ℕ) → j < job_count l.jobs → t < arrival l.jobs j → t + r ≤ arrival l.jobs j

-- to where the job that runs finishes, or in SE reaches C
pub record RunStage (l : Lists) (se : Bool) (e done most r : ℕ) : Type 0 where
  pub stage : Stage most r (((e < job_count l.jobs) × (execution l.jobs e ≡ done + r)) ⊎ ((se ≡ true) × (e < job_count l.jobs) × (job_nominal l e ≡ done + r)))
  pub finish : e < job_count l.jobs → done < execution l.jobs e → done + r ≤ execution l.jobs e
  pub nominal : se ≡ true → e < job_count l.jobs → done < job_nominal l e → done + r ≤ job_nominal l e

-- neither the next arrival nor the entry leaves more ticks than there are
pub arrival_most : (g : List ℕ) (n came t most r : ℕ) → r ≡ arrival_gap g n came t most → r ≤ most
unfolding arrival_gap
arrival_most g n came t most r q =
    rw q (by_cond (λ y. y ≤ most) (ltb came n) (until most t (arrival_in g came)) most (λ _. (until_is most t (arrival_in g came)).stage.most) (λ _. omega arith))

pub run_most : (g : List ℕ) (n : ℕ) (se : Bool) (e done most r : ℕ) → r ≡ run_gap g n se e done most → r ≤ most
unfolding run_gap
run_most g n se e done most r q =
    rw q (by_cond (λ y. y ≤ most) (ltb e n) _ most
    (λ _. by_cond (λ y. y ≤ most) se (until k done (nominal_in g e)) k (λ _. le_trans (until_is k done (nominal_in g e)).stage.most first) (λ _. first)) (λ _. omega arith))
  where
    k : ℕ
    k = until most done (execution_in g e)

    first : k ≤ most
    first = (until_is most done (execution_in g e)).stage.most

module _ (l : Lists) (g : List ℕ) (w : Times l g) where
  pub arrival_stage : (ok : check_lists l ≡ Done) (t came most : ℕ) → Came l t came → ArrivalStage l t most (arrival_gap g (job_count l.jobs) came t most)
  unfolding arrival_gap
  arrival_stage ok t came most c =
      by_cond (ArrivalStage l t most) (ltb came (job_count l.jobs)) (until most t (arrival_in g came)) most
      (λ p. some (ltb-true came (job_count l.jobs) p)) (λ p. none (ltb-false came (job_count l.jobs) p))
    where
      -- a job that is ahead has not come
      not_come : (j : ℕ) → t < arrival l.jobs j → Dec (came ≤ j) → came ≤ j
      not_come j a (yes b) = b
      not_come j a (no b) = absurd (omega (arith, c.come j (omega (arith, b))))

      none : job_count l.jobs ≤ came → ArrivalStage l t most most
      none p =
          record {
            stage = record { most = omega arith; one = λ h. h; met = inl refl };
            all = λ j b a. absurd (omega (arith, not_come j a (dec_le came j)));
          }

      some : came < job_count l.jobs → ArrivalStage l t most (until most t (arrival_in g came))
      some p =
          let u = until_is most t (arrival_in g came) in
          let e = w.arrivals came p in
          record {
            stage = record { most = u.stage.most; one = u.stage.one; met = ⊎_elim (λ h. inl h) (λ h. inr (came, p, sym e ∙ h)) u.stage.met };
            all = λ j b a. le_trans (u.ahead (rw e (c.later came (omega arith) p))) (rw e (arrivals_ascend l ok came j (not_come j a (dec_le came j)) b));
          }

  pub run_stage : (se : Bool) (e done most : ℕ) → RunStage l se e done most (run_gap g (job_count l.jobs) se e done most)
  unfolding run_gap
  run_stage se e done most =
      by_cond (RunStage l se e done most) (ltb e (job_count l.jobs)) _ most (λ p. job (ltb-true e (job_count l.jobs) p)) (λ p. none (ltb-false e (job_count l.jobs) p))
    where
      none : job_count l.jobs ≤ e → RunStage l se e done most most
      none p =
          record {
            stage = record { most = omega arith; one = λ h. h; met = inl refl };
            finish = λ b _. absurd (omega arith);
            nominal = λ _ b _. absurd (omega arith);
          }

      job : e < job_count l.jobs → RunStage l se e done most (cond se (until (until most done (execution_in g e)) done (nominal_in g e)) (until most done (execution_in g e)))
      job p = by_cond (RunStage l se e done most) se (until k done (nominal_in g e)) k both single
        where
          k : ℕ
          k = until most done (execution_in g e)

          u : Until most done (execution_in g e) k
          u = until_is most done (execution_in g e)

          v : Until k done (nominal_in g e) (until k done (nominal_in g e))
          v = until_is k done (nominal_in g e)

          first : (r : ℕ) → r ≤ k → done < execution l.jobs e → done + r ≤ execution l.jobs e
          first r m a = rw (← (w.executions e p)) (omega (arith, u.ahead (rw (w.executions e p) a)))

          single : se ≡ false → RunStage l se e done most k
          single q =
              record {
                stage = record { most = u.stage.most; one = u.stage.one; met = ⊎_elim (λ h. inl h) (λ h. inr (inl (p, sym (w.executions e p) ∙ h))) u.stage.met };
                finish = λ _. first k (omega arith);
                nominal = λ s. clash s q;
              }

          both : se ≡ true → RunStage l se e done most (until k done (nominal_in g e))
          both s =
              record {
                stage = record {
                  most = le_trans v.stage.most u.stage.most;
                  one = λ h. v.stage.one (u.stage.one h);
                  met = ⊎_elim
                      (λ h. ⊎_elim (λ i. inl (h ∙ i)) (λ i. inr (inl (p, sym (w.executions e p) ∙ i ∙ ap (λ (x : ℕ). done + x) (sym h)))) u.stage.met)
                      (λ h. inr (inr (s, p, sym (w.nominals e p) ∙ h))) v.stage.met;
                };
                finish = λ _. first (until k done (nominal_in g e)) v.stage.most;
                nominal = λ _ _ a. rw (← (w.nominals e p)) (v.ahead (rw (w.nominals e p) a));
              }

-- to the next zero-slack instant of the jobs of a set below the bound
pub record SlackStage (g : List ℕ) (early t most m r : ℕ) : Type 0 where
  pub stage : Stage most r ((j : ℕ) × (bit early j ≡ true) × (slack_in g j ≡ t + r))
  pub all : (j : ℕ) → j < m → bit early j ≡ true → t < slack_in g j → t + r ≤ slack_in g j

pub slack_stage : (g : List ℕ) (early t most m : ℕ) → SlackStage g early t most m (slack_gap g early t most m)
unfolding slack_gap
slack_stage g early t most zero =
    record { stage = record { most = omega arith; one = λ h. h; met = inl refl }; all = λ j b. absurd (not-suc-le-zero b) }
slack_stage g early t most (suc m) = go (slack_stage g early t most m)
  where
    k : ℕ
    k = slack_gap g early t most m

    go : SlackStage g early t most m k → SlackStage g early t most (suc m) (cond (bit early m) (until k t (slack_in g m)) k)
    go s = by_cond (SlackStage g early t most (suc m)) (bit early m) (until k t (slack_in g m)) k set clear
      where
        clear : bit early m ≡ false → SlackStage g early t most (suc m) k
        clear f = record { stage = s.stage; all = λ j b i a. pick j i a (last_or_below m j b) }
          where
            pick : (j : ℕ) → bit early j ≡ true → t < slack_in g j → (j ≡ m) ⊎ (j < m) → t + k ≤ slack_in g j
            pick j i a (inl e) = clash i (ap (bit early) e ∙ f)
            pick j i a (inr b) = s.all j b i a

        set : bit early m ≡ true → SlackStage g early t most (suc m) (until k t (slack_in g m))
        set p =
            record {
              stage = record {
                most = le_trans u.stage.most s.stage.most;
                one = λ h. u.stage.one (s.stage.one h);
                met = ⊎_elim
                    (λ h. ⊎_elim (λ i. inl (h ∙ i)) (λ i. inr (i.0, i.1, i.2 ∙ ap (λ (x : ℕ). t + x) (sym h))) s.stage.met)
                    (λ h. inr (m, p, h)) u.stage.met;
              };
              all = λ j b i a. pick j i a (last_or_below m j b);
            }
          where
            u : Until k t (slack_in g m) (until k t (slack_in g m))
            u = until_is k t (slack_in g m)

            pick : (j : ℕ) → bit early j ≡ true → t < slack_in g j → (j ≡ m) ⊎ (j < m) → t + until k t (slack_in g m) ≤ slack_in g j
            pick j i a (inl e) = rw e (u.ahead (rw e at a))
            pick j i a (inr b) = omega (arith, s.all j b i a, u.stage.most)

-- nothing happens for as many ticks as `gap_in` says
module _ (l : Lists) (g : List ℕ) (ok : check_lists l ≡ Done) (few : job_count l.jobs ≤ 64) (w : Gathers l g) where
  pub gap_is : (se : Bool) (t e done came early most : ℕ) → Came l t came → Early l t early → 1 ≤ most
      → Gap l se t e done most (gap_in g (job_count l.jobs) se t e done came early most)
  unfolding gap_in
  gap_is se t e done came early most c y one =
      record {
        one = z.stage.one (x.stage.one (a.stage.one one));
        within = omega (arith, z.stage.most, x.stage.most, a.stage.most);
        arrivals = come;
        slacks = λ j b h. slacks j b h (dec_le (arrival l.jobs j) t);
        finish = λ b h. omega (arith, x.finish b h, z.stage.most);
        nominal = λ s b h. omega (arith, x.nominal s b h, z.stage.most);
        reached = λ h. reached h z.stage.met x.stage.met a.stage.met;
      }
    where
      k₁ : ℕ
      k₁ = arrival_gap g (job_count l.jobs) came t most

      a : ArrivalStage l t most k₁
      a = arrival_stage l g (gathers_times l g w) ok t came most c

      k₂ : ℕ
      k₂ = run_gap g (job_count l.jobs) se e done k₁

      x : RunStage l se e done k₁ k₂
      x = run_stage l g (gathers_times l g w) se e done k₁

      k : ℕ
      k = slack_gap g early t k₂ 64

      z : SlackStage g early t k₂ 64 k
      z = slack_stage g early t k₂ 64

      listed : (j : ℕ) → bit early j ≡ true → j < job_count l.jobs
      listed = in_list l g w few early y.listed

      come : (j : ℕ) → j < job_count l.jobs → t < arrival l.jobs j → t + k ≤ arrival l.jobs j
      come j b h = omega (arith, a.all j b h, x.stage.most, z.stage.most)

      slacks : (j : ℕ) → j < job_count l.jobs → t < zero_slack_instant l j → Dec (arrival l.jobs j ≤ t) → t + k ≤ zero_slack_instant l j
      slacks j b h (yes i) = rw (← (w.slacks j b)) (z.all j (omega (arith, few)) (y.all j b i h) (rw (w.slacks j b) h))
      slacks j b h (no i) = le_trans (come j b (omega (arith, i))) (after_arrival l j)

      Hits : Type 0
      Hits =
          ((j : ℕ) × (j < job_count l.jobs) × (arrival l.jobs j ≡ t + k))
          ⊎ ((j : ℕ) × (j < job_count l.jobs) × (zero_slack_instant l j ≡ t + k))
          ⊎ ((e < job_count l.jobs) × (execution l.jobs e ≡ done + k))
          ⊎ ((se ≡ true) × (e < job_count l.jobs) × (job_nominal l e ≡ done + k))

      reached : k < most → (k ≡ k₂) ⊎ ((j : ℕ) × (bit early j ≡ true) × (slack_in g j ≡ t + k))
          → (k₂ ≡ k₁) ⊎ ((e < job_count l.jobs) × (execution l.jobs e ≡ done + k₂)) ⊎ ((se ≡ true) × (e < job_count l.jobs) × (job_nominal l e ≡ done + k₂))
          → (k₁ ≡ most) ⊎ ((j : ℕ) × (j < job_count l.jobs) × (arrival l.jobs j ≡ t + k₁)) → Hits
      reached h (inr i) p q = inr (inl (i.0, listed i.0 i.1, sym (w.slacks i.0 (listed i.0 i.1)) ∙ i.2))
      reached h (inl i) (inr (inl p)) q = inr (inr (inl (p.0, p.1 ∙ ap (λ (x : ℕ). done + x) (sym i))))
      reached h (inl i) (inr (inr p)) q = inr (inr (inr (p.0, p.1, p.2 ∙ ap (λ (x : ℕ). done + x) (sym i))))
      reached h (inl i) (inl p) (inr q) = inl (q.0, q.1, q.2 ∙ ap (λ (x : ℕ). t + x) (sym (i ∙ p)))
      reached h (inl i) (inl p) (inl q) = absurd (omega (arith, i ∙ p ∙ q))

  -- how many have come by a later tick
  pub came_next : (t first : ℕ) → first ≤ job_count l.jobs → ((j : ℕ) → j < first → arrival l.jobs j ≤ t) → Came l t (came_in g (job_count l.jobs) first t)
  unfolding came_in
  came_next t first b before = go (either (some (job_count l.jobs) f))
    where
      f : ℕ → Bool
      f j = leb first j && ltb t (arrival_in g j)

      -- a job that does not stop the search has come
      comes : (j : ℕ) → j < job_count l.jobs → f j ≡ false → Dec (first ≤ j) → arrival l.jobs j ≤ t
      comes j i e (yes a) = rw (← (w.arrivals j i)) (ltb-false t (arrival_in g j) (and_false (le-leb first j a) e))
      comes j i e (no a) = before j (omega (arith, a))

      go : (some (job_count l.jobs) f ≡ true) ⊎ (some (job_count l.jobs) f ≡ false) → Came l t (least (job_count l.jobs) f (job_count l.jobs))
      go (inr s) =
          rw (least_none f (job_count l.jobs) (job_count l.jobs) s)
          (record {
            within = omega arith;
            come = λ j i. comes j i (some_false f (job_count l.jobs) j i s) (dec_le first j);
            later = λ j i m. absurd (omega arith);
          })
      go (inl s) =
          let x = least_found f (job_count l.jobs) (job_count l.jobs) s in
          let m = least (job_count l.jobs) f (job_count l.jobs) in
          let y = (least_reads f (job_count l.jobs) (job_count l.jobs) m x.0 (omega arith)).0 refl in
          record {
            within = omega (arith, x.0);
            come = λ j i. comes j (omega (arith, x.0)) (y.1 j i) (dec_le first j);
            later = λ j i b. lt_of_lt_of_le (rw (w.arrivals m x.0) at (ltb-true t (arrival_in g m) (and_right (leb first m) (ltb t (arrival_in g m)) x.1)))
                (arrivals_ascend l ok m j i b);
          }

  -- those that are early by a later tick
  pub early_next : (t u early came then : ℕ) → Early l t early → Came l t came → Came l u then → t ≤ u
      → Early l u (with_span (word 64 (ahead_in g early t)) came then)
  unfolding with_span
  early_next t u early came then y c d le =
      record {
        listed = word_below _ (job_count l.jobs) few (λ p b. neither (past p b) (beyond p b));
        all = λ j b a h. bit_word _ 64 j (omega (arith, few)) ∙ all j b a h (dec_le (arrival l.jobs j) t);
      }
    where
      neither : {x y : Bool} → x ≡ false → y ≡ false → (x || y) ≡ false
      neither {x} {y} p q = ap (λ (b : Bool). b || y) p ∙ q

      past : (p : ℕ) → job_count l.jobs ≤ p → bit (word 64 (ahead_in g early t)) p ≡ false
      past p b =
          bit_above _ (job_count l.jobs) p
          (word_below (ahead_in g early t) (job_count l.jobs) few
          (λ k i. unfold ahead_in in ap (λ (x : Bool). x && ltb t (slack_in g k)) (bit_above early (job_count l.jobs) k y.listed i))) b

      beyond : (p : ℕ) → job_count l.jobs ≤ p → (leb came p && ltb p then) ≡ false
      beyond p b = and_false_right (leb came p) (le-ltb p then (omega (arith, d.within)))

      all : (j : ℕ) → j < job_count l.jobs → arrival l.jobs j ≤ u → u < zero_slack_instant l j → Dec (arrival l.jobs j ≤ t)
          → (bit (word 64 (ahead_in g early t)) j || (leb came j && ltb j then)) ≡ true
      all j b a h (yes i) =
          or_left (leb came j && ltb j then)
          (bit_word (ahead_in g early t) 64 j (omega (arith, few)) ∙ (unfold ahead_in in and_true (y.all j b i (omega arith)) (lt-ltb t (slack_in g j) (rw (w.slacks j b) (omega arith)))))
      all j b a h (no i) = or_right (bit (word 64 (ahead_in g early t)) j) (and_true (le-leb came j (stood j i (dec_le came j))) (lt-ltb j then (come j b a (dec_le then j))))
        where
          stood : (j : ℕ) → (arrival l.jobs j ≤ t → ⊥) → Dec (came ≤ j) → came ≤ j
          stood j i (yes q) = q
          stood j i (no q) = absurd (i (c.come j (omega (arith, q))))

          come : (j : ℕ) → j < job_count l.jobs → arrival l.jobs j ≤ u → Dec (then ≤ j) → j < then
          come j b a (no q) = omega (arith, q)
          come j b a (yes q) = absurd (omega (arith, d.later j q b))

-- the jobs that have come, whatever their zero-slack instants: the early ones are among them
pub early_first : (l : Lists) (t m : ℕ) → job_count l.jobs ≤ 64 → Came l t m → Early l t (with_span 0 0 m)
unfolding with_span
early_first l t m few c =
    record {
      listed = word_below _ (job_count l.jobs) few
          (λ p b. ap (λ (x : Bool). x || (leb 0 p && ltb p m)) (bit_above 0 0 p (omega arith) (omega arith)) ∙ and_false_right (leb 0 p) (le-ltb p m (omega (arith, c.within))));
      all = λ j b a _. bit_word _ 64 j (omega (arith, few)) ∙ or_right (bit 0 j) (and_true (le-leb 0 j (omega arith)) (lt-ltb j m (come j b a (dec_le m j))));
    }
  where
    come : (j : ℕ) → j < job_count l.jobs → arrival l.jobs j ≤ t → Dec (m ≤ j) → j < m
    come j b a (no q) = omega (arith, q)
    come j b a (yes q) = absurd (omega (arith, c.later j q b))

-- The loops: over the early jobs,
module _ (g : List ℕ) (early t most : ℕ) where
  stays_clear : (k : ℕ) → bit early k ≡ false → slack_gap g early t most (suc k) ≡ slack_gap g early t most k
  unfolding slack_gap
  stays_clear k e = ap (λ (b : Bool). cond b (until (slack_gap g early t most k) t (slack_in g k)) (slack_gap g early t most k)) e

  next_set : (j : ℕ) → bit early j ≡ true → slack_gap g early t most (j + 1) ≡ until (slack_gap g early t most j) t (slack_in g j)
  unfolding slack_gap
  next_set j e = rw add-one (ap (λ (b : Bool). cond b (until (slack_gap g early t most j) t (slack_in g j)) (slack_gap g early t most j)) e)

  pub slack_start : early < 2 ^ 64 → Swept (slack_gap g early t most) early early most
  unfolding slack_gap
  slack_start h = swept_none (slack_gap g early t most) early most h refl

  pub slack_on : (rest j acc rest' v x : ℕ) → Swept (slack_gap g early t most) early rest acc → 0 < rest → j ≡ least 64 (bit rest) 64 → rest' ≡ without_lowest rest
      → x ≡ slack_in g j → v ≡ until acc t x → Swept (slack_gap g early t most) early rest' v
  slack_on rest j acc rest' v x at l q e p r =
      swept_next (slack_gap g early t most) early rest j acc at l q rest' v e
      (r ∙ ap₂ (λ (a y : ℕ). until a t y) (swept_here (slack_gap g early t most) early rest j acc at l q stays_clear) p
      ∙ sym (next_set j (swept_set (slack_gap g early t most) early rest j acc at l q)))

  pub slack_end : (rest acc : ℕ) → Swept (slack_gap g early t most) early rest acc → rest ≤ 0 → acc ≡ slack_gap g early t most 64
  slack_end rest acc at z = swept_all (slack_gap g early t most) early rest acc at z stays_clear

-- over the jobs that come,
module _ (g : List ℕ) (n first t : ℕ) where
  abbrev stops : ℕ → Bool
  stops j = leb first j && ltb t (arrival_in g j)

  pub came_start : some first stops ≡ false
  came_start = none_passes stops first (λ k l. ap (λ (b : Bool). b && ltb t (arrival_in g k)) (lt-leb first k l))

  pub came_on : (j a : ℕ) → first ≤ j → some j stops ≡ false → a ≡ arrival_in g j → a ≤ t → some (j + 1) stops ≡ false
  came_on j a b p q e = scan_on stops j (stops j) p refl (and_false_right (leb first j) (le-ltb t (arrival_in g j) (omega (arith, q))))

  pub came_met : (j a : ℕ) → first ≤ j → j < n → some j stops ≡ false → a ≡ arrival_in g j → t < a → j ≡ came_in g n first t
  unfolding came_in
  came_met j a b l p q e = sym (least_is stops n n j l p (and_true (le-leb first j b) (lt-ltb t (arrival_in g j) (omega (arith, q)))))

  pub came_end : (j : ℕ) → j ≤ n → n ≤ j → some j stops ≡ false → n ≡ came_in g n first t
  unfolding came_in
  came_end j a b p = sym (least_none stops n n (scan_end stops n j a b p))

-- and over the bits of a stretch
module _ (w a : ℕ) where
  pub span_none : w < 2 ^ 64 → w ≡ with_span w a a
  unfolding with_span
  span_none h =
      sym (word_same (λ p. bit w p || (leb a p && ltb p a)) (bit w) 64
      (λ p _. ap (λ (b : Bool). bit w p || b)
      (never_true (leb a p && ltb p a) (λ t. omega (arith, leb-true a p (and_left (leb a p) (ltb p a) t), ltb-true p a (and_right (leb a p) (ltb p a) t)))) ∙ or-false (bit w p))
      ∙ word_bits w 64 h)

  pub span_on : (j x v : ℕ) → a ≤ j → x ≡ with_span w a j → v ≡ with_bit x j → v ≡ with_span w a (j + 1)
  unfolding with_span
  span_on j x v l p r =
      r ∙ ap (λ (y : ℕ). with_bit y j) p ∙ with_bit_word (λ q. bit w q || (leb a q && ltb q j)) j
      ∙ word_same _ (λ q. bit w q || (leb a q && ltb q (j + 1))) 64 (λ q _. go q (ℕ_discrete q j))
    where
      near : (q : ℕ) → (q ≡ j → ⊥) → ltb q j ≡ ltb q (j + 1)
      near q n =
          same_test (ltb q j) (ltb q (j + 1)) (λ e. lt-ltb q (j + 1) (omega (arith, ltb-true q j e)))
          (λ e. lt-ltb q j (omega (arith, ltb-true q (j + 1) e, n)))

      go : (q : ℕ) → Dec (q ≡ j) → ((bit w q || (leb a q && ltb q j)) || eqb q j) ≡ (bit w q || (leb a q && ltb q (j + 1)))
      go q (yes e) =
          or_right (bit w q || (leb a q && ltb q j)) (eq-eqb q j e)
          ∙ sym (or_right (bit w q) (and_true (le-leb a q (omega arith)) (lt-ltb q (j + 1) (omega arith))))
      go q (no n) =
          ap (λ (b : Bool). (bit w q || (leb a q && ltb q j)) || b) (ne_eqb q j n) ∙ or-false (bit w q || (leb a q && ltb q j))
          ∙ ap (λ (b : Bool). bit w q || (leb a q && b)) (near q n)
