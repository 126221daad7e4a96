-- Laws of reports: what 18 leaves, the rows of a joined report, and that joining reports is commutative and associative.
use Prim.Native.Nat.{ℕ, ◌+◌, ◌<◌, ◌≤◌}
use mathlib.Core.Bool.{Bool, cond, false, not, true, ◌||◌}
use mathlib.Core.List.{List}
use mathlib.Core.Logic.{inl, inr, ◌⊎◌}
use mathlib.Core.Path.{ap, ap₂, refl, sym, ◌∙◌, ◌≡◌}
use native.Mathlib.Omega.{arith}
use lib.Dec.{eqb, ltb}
use lib.ListN.{get_or, get_or-replicate, replicate, set}
use borrow.Author.Tests.{eq-eqb, eqb-true, le-ltb, lt-ltb, ltb-true, not-false}
use Rattle.bits.proofs.Laws.Arrays.{Written, written_all, written_more}
use Rattle.bits.proofs.Laws.Below.{every_at, every_true, get_or_list, list_same}
use Rattle.bits.proofs.Laws.Bools.{or_left_false, or_right_false}
use Rattle.tables.specs.Outcomes.{Outcome, Done, Refused}
use Rattle.tables.specs.Refusals.{check_tasks, refuse, unless}
use Rattle.tables.specs.Tables.{task_count}
use Rattle.tables.proofs.Laws.Refusals.{refuse_fine}
use Rattle.season.specs.declared.answers.Report.{Report}
use Rattle.season.specs.declared.answers.Reported.{Reported}
use Rattle.season.specs.declared.answers.Row.{Row}
use Rattle.season.specs.Code.{Joinable}
use Rattle.season.specs.Reports.{all_fit, check18, empty_report, joined, joined_row, row_at, row_below, task_rows, rows_of}
use Rattle.season.specs.Answers.{empty_answer, join_answer, reported}
use Rattle.season.specs.Rows.{fits, join_row, empty_row}
use Rattle.season.proofs.Laws.Rows.{fits_left, fits_right, join_assoc, join_comm, joinable}

-- an answer, by what the checks found
module _ (was made : Report) where
  pub reported_done : (o : Outcome) → o ≡ Done → reported o was made ≡ record { outcome = Done; report = made }
  unfolding reported unless
  reported_done o e = rw e

  pub reported_refused : (o : Outcome) (number place : ℕ) → o ≡ Refused number place → reported o was made ≡ record { outcome = Refused number place; report = was }
  unfolding reported unless
  reported_refused o n p e = rw e

-- the rows of a report that was made
module _ (n : ℕ) (f : ℕ → Row) where
  pub row_below_law : (k : ℕ) → k < n → row_below n f k ≡ f k
  unfolding row_below
  row_below_law k l = rw (lt-ltb k n l)

  pub row_past : (k : ℕ) → n ≤ k → row_below n f k ≡ empty_row
  unfolding row_below
  row_past k l = rw (le-ltb k n l)

  pub row_of : (tasks k : ℕ) → k < 16 → row_at (record { tasks = tasks; rows = rows_of n f }) k ≡ row_below n f k
  unfolding row_at rows_of
  row_of tasks k l = get_or_list 16 (row_below n f) k empty_row l

pub rows_same : (n : ℕ) (f h : ℕ → Row) → ((k : ℕ) → k < n → f k ≡ h k) → rows_of n f ≡ rows_of n h
unfolding rows_of row_below
rows_same n f h each =
    list_same 16 (row_below n f) (row_below n h)
    (λ k l. by_test k (ltb k n) refl)
  where
    by_test : (k : ℕ) (b : Bool) → ltb k n ≡ b → cond b (f k) empty_row ≡ cond b (h k) empty_row
    by_test k true e = each k (ltb-true k n e)
    by_test k false e = refl

pub report_same : {t u : ℕ} {rows others : List Row} → t ≡ u → rows ≡ others → ◌≡◌ {A = Report} (record { tasks = t; rows = rows }) (record { tasks = u; rows = others })
report_same p q = ap₂ (λ (x : ℕ) (l : List Row). record { tasks = x; rows = l }) p q

module _ (a b : Report) where
  -- what 18 leaves
  pub record Joins : Type 0 where
    pub same_tasks : a.tasks ≡ b.tasks
    pub fit : (k : ℕ) → k < task_rows a.tasks → fits (join_row (row_at a k) (row_at b k)) ≡ true

  pub joins : check18 a b ≡ Done → Joins
  unfolding check18 all_fit joined_row
  joins ok =
      let tests = refuse_fine _ 18 0 ok in
      record {
        same_tasks = eqb-true a.tasks b.tasks (not-false _ (or_left_false _ _ tests));
        fit = λ k l. every_at (λ i. fits (joined_row a b i)) (task_rows a.tasks) k l (not-false _ (or_right_false (not (eqb a.tasks b.tasks)) _ tests));
      }

  pub joins_done : Joins → check18 a b ≡ Done
  unfolding check18 all_fit joined_row refuse
  joins_done w = rw (eq-eqb a.tasks b.tasks w.same_tasks, every_true (λ i. fits (joined_row a b i)) (task_rows a.tasks) w.fit)

  pub eighteen_or_done : (check18 a b ≡ Done) ⊎ (check18 a b ≡ Refused 18 0)
  unfolding check18 refuse
  eighteen_or_done = go (not (eqb a.tasks b.tasks) || not (all_fit a b))
    where
      go : (test : Bool) → (refuse test 18 0 ≡ Done) ⊎ (refuse test 18 0 ≡ Refused 18 0)
      go true = inr refl
      go false = inl refl

  pub joins_room : Joins → (k : ℕ) → k < task_rows a.tasks → Joinable (row_at a k) (row_at b k)
  joins_room w k l = joinable (row_at a k) (row_at b k) (w.fit k l)

  -- the rows of the joined report
  pub joined_row_law : (k : ℕ) → k < task_rows a.tasks → row_at (joined a b) k ≡ join_row (row_at a k) (row_at b k)
  unfolding joined joined_row
  joined_row_law k l = row_of (task_rows a.tasks) (joined_row a b) a.tasks k (omega arith) ∙ row_below_law (task_rows a.tasks) (joined_row a b) k l

  pub joined_past : (k : ℕ) → task_rows a.tasks ≤ k → k < 16 → row_at (joined a b) k ≡ empty_row
  unfolding joined
  joined_past k l m = row_of (task_rows a.tasks) (joined_row a b) a.tasks k m ∙ row_past (task_rows a.tasks) (joined_row a b) k l

  -- as the code answers
  pub join_done : check18 a b ≡ Done → (made : Report) → made ≡ joined a b → record { outcome = Done; report = made } ≡ join_answer a b
  unfolding join_answer
  join_done ok made e =
      ap (λ (x : Report). let y : Reported = record { outcome = Done; report = x } in y) e ∙ sym (reported_done a (joined a b) (check18 a b) ok)

  pub join_refused : (number place : ℕ) → check18 a b ≡ Refused number place → record { outcome = Refused number place; report = a } ≡ join_answer a b
  unfolding join_answer
  join_refused n p e = sym (reported_refused a (joined a b) (check18 a b) n p e)

-- the joined rows as a loop writes them
module _ (a b : Report) (held l : List Row) (k : ℕ) (w : Written empty_row (row_below (task_rows a.tasks) (joined_row a b)) held l 16 k) where
  pub joined_more : (v : Row) → k < task_rows a.tasks → v ≡ join_row (row_at a k) (row_at b k)
      → Written empty_row (row_below (task_rows a.tasks) (joined_row a b)) held (set l k v) 16 (k + 1)
  unfolding joined_row
  joined_more v m e =
      written_more empty_row (row_below (task_rows a.tasks) (joined_row a b)) held l 16 k v w (omega arith) (e ∙ sym (row_below_law (task_rows a.tasks) (joined_row a b) k m))

  pub joined_made : (tasks : ℕ) → tasks ≡ a.tasks → task_rows a.tasks ≤ k → held ≡ replicate 16 empty_row → ◌≡◌ {A = Report} (record { tasks = tasks; rows = l }) (joined a b)
  unfolding joined rows_of
  joined_made tasks t m h =
      report_same t
      (written_all empty_row (row_below (task_rows a.tasks) (joined_row a b)) held l 16 k w
      (λ i x y. ap (λ (r : List Row). get_or r i empty_row) h ∙ get_or-replicate 16 i empty_row empty_row y ∙ sym (row_past (task_rows a.tasks) (joined_row a b) i (omega arith))))

-- ## Either way round

module _ (a b : Report) (same : a.tasks ≡ b.tasks) where
  pub joined_comm : joined a b ≡ joined b a
  unfolding joined joined_row
  joined_comm =
      report_same same
      (rows_same (task_rows a.tasks) (joined_row a b) (joined_row b a) (λ k l. join_comm (row_at a k) (row_at b k))
      ∙ ap (λ (t : ℕ). rows_of (task_rows t) (joined_row b a)) same)

pub joins_comm : (a b : Report) → Joins a b → Joins b a
joins_comm a b w =
    record {
      same_tasks = sym w.same_tasks;
      fit = λ k l. ap fits (join_comm (row_at b k) (row_at a k)) ∙ w.fit k (rw w.same_tasks l);
    }

-- ## Either two first

module _ (a b c : Report) where
  pub joined_assoc : a.tasks ≡ b.tasks → joined (joined a b) c ≡ joined a (joined b c)
  unfolding joined joined_row
  joined_assoc same =
      report_same refl
      (rows_same (task_rows a.tasks) (joined_row (joined a b) c) (joined_row a (joined b c))
      (λ k l. ap (λ (r : Row). join_row r (row_at c k)) (joined_row_law a b k l) ∙ join_assoc (row_at a k) (row_at b k) (row_at c k)
      ∙ ap (join_row (row_at a k)) (sym (joined_row_law b c k (rw (← same) l)))))

  -- three reports that join, the first two first
  pub assoc_right : Joins a b → Joins (joined a b) c → Joins b c × Joins a (joined b c)
  unfolding joined
  assoc_right v w =
      let t = v.same_tasks in
      let all : (k : ℕ) → k < task_rows a.tasks → fits (join_row (row_at a k) (join_row (row_at b k) (row_at c k))) ≡ true
      = λ k l. ap fits (sym (join_assoc (row_at a k) (row_at b k) (row_at c k)) ∙ ap (λ (r : Row). join_row r (row_at c k)) (sym (joined_row_law a b k l))) ∙ w.fit k l in (
        record {
          same_tasks = sym t ∙ w.same_tasks;
          fit = λ k l. fits_right (row_at a k) (join_row (row_at b k) (row_at c k)) (all k (rw t l));
        },
        record {
          same_tasks = t;
          fit = λ k l. ap (λ (r : Row). fits (join_row (row_at a k) r)) (joined_row_law b c k (rw (← t) l)) ∙ all k l;
        },
      )

  pub assoc_left : Joins b c → Joins a (joined b c) → Joins a b × Joins (joined a b) c
  unfolding joined
  assoc_left v w =
      let t : a.tasks ≡ b.tasks = w.same_tasks in
      let all : (k : ℕ) → k < task_rows a.tasks → fits (join_row (join_row (row_at a k) (row_at b k)) (row_at c k)) ≡ true
      = λ k l. ap fits (join_assoc (row_at a k) (row_at b k) (row_at c k) ∙ ap (join_row (row_at a k)) (sym (joined_row_law b c k (rw (← t) l)))) ∙ w.fit k l in (
        record {
          same_tasks = t;
          fit = λ k l. fits_left (join_row (row_at a k) (row_at b k)) (row_at c k) (all k l);
        },
        record {
          same_tasks = t ∙ v.same_tasks;
          fit = λ k l. ap (λ (r : Row). fits (join_row r (row_at c k))) (joined_row_law a b k l) ∙ all k l;
        },
      )

-- ## The empty report

module _ (tasks : List ℕ) where
  pub empty_done : check_tasks tasks ≡ Done → (made : Report) → made ≡ empty_report (task_count tasks) → record { outcome = Done; report = made } ≡ empty_answer tasks
  unfolding empty_answer
  empty_done ok made e =
      ap (λ (x : Report). let y : Reported = record { outcome = Done; report = x } in y) e ∙ sym (reported_done (empty_report 0) (empty_report (task_count tasks)) (check_tasks tasks) ok)

  pub empty_refused : (number place : ℕ) → check_tasks tasks ≡ Refused number place → (made : Report)
      → made ≡ empty_report 0 → record { outcome = Refused number place; report = made } ≡ empty_answer tasks
  unfolding empty_answer
  empty_refused n p refuses made e =
      ap (λ (x : Report). let y : Reported = record { outcome = Refused n p; report = x } in y) e
      ∙ sym (reported_refused (empty_report 0) (empty_report (task_count tasks)) (check_tasks tasks) n p refuses)
