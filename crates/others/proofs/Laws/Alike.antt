-- Two job lists of one table, in each of which the same jobs are uppermost, in the same order. Our run treats them alike: the invariant is
-- the tick, and each such job's place. Who among them is past zero slack, suspended, eligible, a candidate, taken, over or ended is decided
-- by them alone, for only they are more critical, or of as high a priority. Lowest is enough: from the fresh record Stay makes the same run.
use Prim.Native.Nat.{ℕ, zero, suc, ◌+◌, ◌<◌}
use mathlib.Core.Bool.{Bool, ◌&&◌, cond, not, true}
use mathlib.Core.List.{List}
use mathlib.Core.Path.{ap, ap₂, refl, sym, ◌∙◌, ◌≡◌}
use native.Mathlib.Nat.{le_of_lt, not-suc-le-zero}
use native.Mathlib.Omega.{arith}
use lib.Dec.{eqb, ltb}
use lib.ListN.{get_or}
use borrow.Author.Tests.{lt-ltb, ltb-true}
use Rattle.bits.specs.Below.{some}
use Rattle.bits.proofs.Laws.Below.{some_found, some_same, some_true}
use Rattle.bits.proofs.Laws.Bools.{and_right, same_test}
use Rattle.tables.specs.declared.fields.Job.{Job}
use Rattle.tables.specs.Fields.{job_at}
use Rattle.tables.specs.Tables.{Lists, arrival, criticality, deadline, deadline_instant, execution, idle, job_count}
use Rattle.tables.specs.Tables.{job_criticality, job_nominal, job_priority, lists, nominal, offset, priority, task_of, zero_slack_instant}
use Rattle.zsrm.specs.declared.mode.Mode.{Mode}
use Rattle.zsrm.specs.declared.record.Place.{Place}
use Rattle.zsrm.specs.declared.record.Record.{Record}
use Rattle.zsrm.specs.declared.record.Standing.{Standing}
use Rattle.zsrm.specs.declared.record.Standing.TheVariants.{Ended, Finished, NotArrived, Unfinished}
use Rattle.zsrm.specs.declared.tie.Tie.TheVariants.{Lowest}
use Rattle.zsrm.specs.Given.{Given, given}
use Rattle.zsrm.specs.Record.{arrived, arriving, done_at, fresh, fresh_place, opening, place_at, standing_at, suspended_at, waited_at}
use Rattle.zsrm.specs.Run.{entries_by, final_by, replay, run_entries, run_record}
use Rattle.zsrm.specs.Tick.{advanced, alive, candidate, choice, done_after, eligible, ends, finishes, goes_on, higher_priority}
use Rattle.zsrm.specs.Tick.{more_critical, over, past_zero_slack, place_after, some_job, standing_after, suspended, suspended_after, is_unfinished, waited_after, waits}
use Rattle.zsrm.specs.Verdict.{verdict}
use Rattle.zsrm.proofs.Laws.Choice.{choice_lowest}
use Rattle.zsrm.proofs.Laws.Places.{place_advanced, place_fresh, tick_advanced, tick_fresh}
use Rattle.others.proofs.Laws.Uppermost.{OneOf, Uppermost, takes_exactly, waits_is}

-- where only the jobs of x pass a test, some of those of y pass one that agrees
some_there : (m n k : ℕ) (x y : ℕ → ℕ) (f h : ℕ → Bool) → ((j : ℕ) → j < n → f j ≡ true → OneOf m x j) → ((i : ℕ) → i < m → y i < k)
    → ((i : ℕ) → i < m → f (x i) ≡ h (y i)) → some n f ≡ true → some k h ≡ true
some_there m n k x y f h only known agree t =
    let w = some_found f n t in
    let v = only w.0 w.1 w.2 in
    some_true h k (y v.0) (known v.0 v.1) (sym (agree v.0 v.1) ∙ ap f v.2 ∙ w.2)

-- uppermost jobs of the one list, by x, and of the other, by y: the same jobs
pub record Matched (tasks a b : List ℕ) (m : ℕ) (x y : ℕ → ℕ) : Type 0 where
  pub one : Uppermost (lists tasks a) m x
  pub other : Uppermost (lists tasks b) m y
  pub jobs : (i : ℕ) → i < m → job_at a (x i) ≡ job_at b (y i)

-- a record of either run
pub record SameForMembers (m : ℕ) (x y : ℕ → ℕ) (r s : Record) : Type 0 where
  pub tick : r.tick ≡ s.tick
  pub place : (i : ℕ) → i < m → place_at r (x i) ≡ place_at s (y i)

module _ {tasks a b : List ℕ} {m : ℕ} {x y : ℕ → ℕ} (w : Matched tasks a b m x y) (mode : Mode) where
  abbrev g : Given
  g = given mode tasks a

  abbrev h : Given
  h = given mode tasks b

  -- what the list and the table say of them
  module _ (i : ℕ) (l : i < m) where
    task_same : task_of a (x i) ≡ task_of b (y i)
    task_same = ap (λ (j : Job). j.task) (w.jobs i l)

    arrival_same : arrival a (x i) ≡ arrival b (y i)
    arrival_same = ap (λ (j : Job). j.arrival) (w.jobs i l)

    execution_same : execution a (x i) ≡ execution b (y i)
    execution_same = ap (λ (j : Job). j.execution) (w.jobs i l)

    criticality_same : job_criticality (lists tasks a) (x i) ≡ job_criticality (lists tasks b) (y i)
    unfolding job_criticality
    criticality_same = ap (criticality tasks) task_same

    priority_same : job_priority (lists tasks a) (x i) ≡ job_priority (lists tasks b) (y i)
    unfolding job_priority
    priority_same = ap (priority tasks) task_same

    nominal_same : job_nominal (lists tasks a) (x i) ≡ job_nominal (lists tasks b) (y i)
    unfolding job_nominal
    nominal_same = ap (nominal tasks) task_same

    slack_same : zero_slack_instant (lists tasks a) (x i) ≡ zero_slack_instant (lists tasks b) (y i)
    unfolding zero_slack_instant
    slack_same = ap₂ ◌+◌ arrival_same (ap (offset tasks) task_same)

    due_same : deadline_instant (lists tasks a) (x i) ≡ deadline_instant (lists tasks b) (y i)
    unfolding deadline_instant
    due_same = ap₂ ◌+◌ arrival_same (ap (deadline tasks) task_same)

    opening_same : (t : ℕ) → opening a t (x i) ≡ opening b t (y i)
    unfolding opening arrived arriving
    opening_same t = rw (lt-ltb _ _ (w.one.known i l), lt-ltb _ _ (w.other.known i l), arrival_same, execution_same)

  -- some job that passes is more critical than one of them, or of higher priority: the same in either list
  module _ (f k : ℕ → Bool) (agree : (i : ℕ) → i < m → f (x i) ≡ k (y i)) (i : ℕ) (l : i < m) where
    some_above : (key : Lists → ℕ → ℕ) → ((i : ℕ) → i < m → key (lists tasks a) (x i) ≡ key (lists tasks b) (y i))
        → ((j : ℕ) → j < job_count a → key (lists tasks a) (x i) < key (lists tasks a) j → OneOf m x j)
        → ((j : ℕ) → j < job_count b → key (lists tasks b) (y i) < key (lists tasks b) j → OneOf m y j)
        → some (job_count a) (λ j. f j && ltb (key (lists tasks a) (x i)) (key (lists tasks a) j))
        ≡ some (job_count b) (λ j. k j && ltb (key (lists tasks b) (y i)) (key (lists tasks b) j))
    some_above key keys one another =
        same_test _ _
        (some_there m (job_count a) (job_count b) x y here there (λ j n t. one j n (ltb-true _ _ (and_right (f j) _ t))) w.other.known both)
        (some_there m (job_count b) (job_count a) y x there here (λ j n t. another j n (ltb-true _ _ (and_right (k j) _ t))) w.one.known (λ j n. sym (both j n)))
      where
        here : ℕ → Bool
        here j = f j && ltb (key (lists tasks a) (x i)) (key (lists tasks a) j)

        there : ℕ → Bool
        there j = k j && ltb (key (lists tasks b) (y i)) (key (lists tasks b) j)

        both : (j : ℕ) → j < m → here (x j) ≡ there (y j)
        both j n = ap₂ ◌&&◌ (agree j n) (ap₂ ltb (keys i l) (keys j n))

    some_critical : some_job a (λ j. f j && more_critical g j (x i)) ≡ some_job b (λ j. k j && more_critical h j (y i))
    unfolding some_job more_critical
    some_critical = some_above job_criticality criticality_same (λ j n. w.one.more_critical_law j i n l) (λ j n. w.other.more_critical_law j i n l)

    some_higher : some_job a (λ j. f j && higher_priority g j (x i)) ≡ some_job b (λ j. k j && higher_priority h j (y i))
    unfolding some_job higher_priority
    some_higher = some_above job_priority priority_same (λ j n p. w.one.as_high j i n l (le_of_lt p)) (λ j n p. w.other.as_high j i n l (le_of_lt p))

  fresh_same : SameForMembers m x y (fresh a) (fresh b)
  unfolding fresh_place
  fresh_same =
      record {
        tick = tick_fresh a ∙ sym (tick_fresh b);
        place = λ i l.
            place_fresh a (x i) (omega (arith, w.one.known i l, w.one.few)) ∙ rw (opening_same i l 0)
            (sym (place_fresh b (y i) (omega (arith, w.other.known i l, w.other.few))));
      }

  module _ (r s : Record) (like : SameForMembers m x y r s) where
    done_same : (i : ℕ) → i < m → done_at r (x i) ≡ done_at s (y i)
    unfolding done_at
    done_same i l = ap (λ (p : Place). p.done) (like.place i l)

    standing_same : (i : ℕ) → i < m → standing_at r (x i) ≡ standing_at s (y i)
    unfolding standing_at
    standing_same i l = ap (λ (p : Place). p.standing) (like.place i l)

    alive_same : (i : ℕ) → i < m → alive r (x i) ≡ alive s (y i)
    unfolding alive
    alive_same i l = ap is_unfinished (standing_same i l)

    past_same : (i : ℕ) → i < m → past_zero_slack g r (x i) ≡ past_zero_slack h s (y i)
    unfolding past_zero_slack
    past_same i l = rw (alive_same i l, slack_same i l, like.tick)

    suspended_same : (i : ℕ) → i < m → suspended g r (x i) ≡ suspended h s (y i)
    unfolding suspended
    suspended_same i l = ap₂ ◌&&◌ (alive_same i l) (some_critical (past_zero_slack g r) (past_zero_slack h s) past_same i l)

    eligible_same : (i : ℕ) → i < m → eligible g r (x i) ≡ eligible h s (y i)
    unfolding eligible
    eligible_same i l = rw (alive_same i l, suspended_same i l)

    candidate_same : (i : ℕ) → i < m → candidate g r (x i) ≡ candidate h s (y i)
    unfolding candidate
    candidate_same i l = ap₂ (λ (p q : Bool). p && not q) (eligible_same i l) (some_higher (eligible g r) (eligible h s) eligible_same i l)

    -- the tick of our run
    abbrev e : ℕ
    e = choice g Lowest r

    abbrev c : ℕ
    c = choice h Lowest s

    runs_same : (i : ℕ) → i < m → eqb e (x i) ≡ eqb c (y i)
    runs_same i l =
        rw (choice_lowest g r, choice_lowest h s)
        (takes_exactly g m x w.one r i l
        ∙ ap₂ (λ (p q : Bool). p && not q) (candidate_same i l)
        (some_same (λ k. candidate g r (x k)) (λ k. candidate h s (y k)) i (λ k n. candidate_same k (omega arith)))
        ∙ sym (takes_exactly h m y w.other s i l))

    done_after_law : (i : ℕ) → i < m → done_after g r e (x i) ≡ done_after h s c (y i)
    unfolding done_after
    done_after_law i l = rw (done_same i l, runs_same i l)

    suspended_after_law : (i : ℕ) → i < m → suspended_after g r e (x i) ≡ suspended_after h s c (y i)
    unfolding suspended_after suspended_at
    suspended_after_law i l = ap₂ (λ (p : Place) (b : Bool). p.suspended + cond b 1 0) (like.place i l) (suspended_same i l)

    waits_same : (i : ℕ) → i < m → waits g r e (x i) ≡ waits h s c (y i)
    waits_same i l =
        waits_is g Lowest r (x i) (w.one.known i l) ∙ ap₂ (λ (p q : Bool). p && not q) (eligible_same i l) (runs_same i l)
        ∙ sym (waits_is h Lowest s (y i) (w.other.known i l))

    waited_after_law : (i : ℕ) → i < m → waited_after g r e (x i) ≡ waited_after h s c (y i)
    unfolding waited_after waited_at
    waited_after_law i l = ap₂ (λ (p : Place) (b : Bool). p.waited + cond b 1 0) (like.place i l) (waits_same i l)

    over_same : (i : ℕ) → i < m → over g r e (x i) ≡ over h s c (y i)
    unfolding over
    over_same i l = rw (past_same i l, nominal_same i l, done_after_law i l)

    ends_same : (i : ℕ) → i < m → ends g r e (x i) ≡ ends h s c (y i)
    unfolding ends
    ends_same i l = ap₂ ◌&&◌ (alive_same i l) (some_critical (over g r e) (over h s c) over_same i l)

    finishes_same : (i : ℕ) → i < m → finishes g r e (x i) ≡ finishes h s c (y i)
    unfolding finishes
    finishes_same i l = rw (runs_same i l, done_after_law i l, execution_same i l)

    standing_after_law : (i : ℕ) → i < m → (z : Standing) → standing_after g r e (x i) z ≡ standing_after h s c (y i) z
    unfolding standing_after goes_on
    standing_after_law i l NotArrived = rw like.tick (opening_same i l (suc s.tick))
    standing_after_law i l Unfinished = rw (finishes_same i l, ends_same i l, like.tick)
    standing_after_law i l (Finished f) = refl
    standing_after_law i l (Ended t) = refl

    place_after_law : (i : ℕ) → i < m → place_after g r e (x i) ≡ place_after h s c (y i)
    unfolding place_after
    place_after_law i l = rw (done_after_law i l, suspended_after_law i l, waited_after_law i l, standing_same i l, standing_after_law i l (standing_at s (y i)))

    advanced_same : SameForMembers m x y (advanced g r e) (advanced h s c)
    advanced_same =
        record {
          tick = tick_advanced g r e ∙ ap suc like.tick ∙ sym (tick_advanced h s c);
          place = λ i l.
              place_advanced g r e (x i) (omega (arith, w.one.known i l, w.one.few)) ∙ place_after_law i l
              ∙ sym (place_advanced h s c (y i) (omega (arith, w.other.known i l, w.other.few)));
        }

    pub verdict_alike : (i : ℕ) → i < m → verdict (lists tasks a) r (x i) ≡ verdict (lists tasks b) s (y i)
    unfolding verdict
    verdict_alike i l = rw (standing_same i l, due_same i l, like.tick)

  final_same : (n : ℕ) (r s : Record) → SameForMembers m x y r s → SameForMembers m x y (final_by g (choice g Lowest) r n) (final_by h (choice h Lowest) s n)
  unfolding final_by replay entries_by
  final_same zero r s like = like
  final_same (suc n) r s like = final_same n _ _ (advanced_same r s like)

  entry_same : (n : ℕ) (r s : Record) → SameForMembers m x y r s → (t : ℕ) → t < n → (i : ℕ) → i < m
      → eqb (get_or (entries_by g (choice g Lowest) r n) t idle) (x i) ≡ eqb (get_or (entries_by h (choice h Lowest) s n) t idle) (y i)
  unfolding entries_by
  entry_same zero r s like t b i l = absurd (not-suc-le-zero b)
  entry_same (suc n) r s like zero b i l = runs_same r s like i l
  entry_same (suc n) r s like (suc t) b i l = entry_same n _ _ (advanced_same r s like) t (omega arith) i l

  -- our run of n ticks: its record, and who runs in each tick
  pub run_alike : (n : ℕ) → SameForMembers m x y (run_record g Lowest n) (run_record h Lowest n)
  unfolding run_record
  run_alike n = final_same n (fresh a) (fresh b) fresh_same

  pub entries_alike : (n i : ℕ) → i < m → (t : ℕ) → t < n → eqb (get_or (run_entries g Lowest n) t idle) (x i) ≡ eqb (get_or (run_entries h Lowest n) t idle) (y i)
  unfolding run_entries
  entries_alike n i l t o = entry_same n (fresh a) (fresh b) fresh_same t o i l
