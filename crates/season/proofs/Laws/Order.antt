-- Laws of joining in any order: one order meets a refusal exactly when another does, and else the reports are equal; what is not looked at
-- changes nothing; and the empty report is neutral for a report that a call made.
use Prim.Native.Nat.{ℕ, zero, suc, ◌<◌}
use mathlib.Core.Bool.{true}
use mathlib.Core.List.{List, ◌++◌}
use mathlib.Core.Logic.{inl, inr, ◌⊎◌}
use mathlib.Core.Path.{ap, ap₂, refl, subst, sym, ◌∙◌, ◌≡◌}
use native.Mathlib.Omega.{arith}
use lib.Dec.{ltb}
use lib.ListN.{get_or-replicate, replicate}
use Rattle.bits.specs.Below.{list_from}
use Rattle.bits.proofs.Laws.Below.{list_same}
use Rattle.bits.proofs.Laws.Bools.{by_cond, apart}
use Rattle.std.specs.Prelude.{Err}
use Rattle.tables.specs.Outcomes.{Outcome, Done, Refused}
use Rattle.tables.specs.Refusals.{unless}
use Rattle.tables.proofs.Laws.Refusals.{before_stops}
use Rattle.tables.proofs.Laws.Said.{said_done}
use Rattle.zsrm.specs.declared.record.Record.{Record}
use Rattle.zsrm.specs.Answers.{check_verdicts}
use Rattle.zsrm.specs.Given.{Given}
use Rattle.season.specs.declared.answers.Report.{Report}
use Rattle.season.specs.declared.answers.Reported.{Reported}
use Rattle.season.specs.declared.answers.Row.{Row}
use Rattle.season.specs.Own.{own_report}
use Rattle.season.specs.Answers.{add_answer, join_answer, reported}
use Rattle.season.specs.Reports.{check18, empty_report, joined, joined_row, row_at, row_below, task_rows, rows_of}
use Rattle.season.specs.Rows.{fits, join_row, empty_row}
use Rattle.season.specs.Season.{Alike, Same, and_then}
use Rattle.season.specs.Show.{row_line, row_lines, showing}
use Rattle.season.proofs.Laws.Own.{add_done}
use Rattle.season.proofs.Laws.Reports.{Joins, assoc_left, assoc_right, eighteen_or_done, join_done, join_refused, joined_assoc}
use Rattle.season.proofs.Laws.Reports.{joined_comm, joined_row_law, joins, joins_comm, joins_done, report_same, rows_same}
use Rattle.season.proofs.Laws.Rows.{Tidy, join_none, join_tidy}
use Rattle.season.proofs.Laws.Season.{then_next}

-- done and refused are never equal
never : {A : Type 0} {o : Outcome} {number place : ℕ} → o ≡ Done → o ≡ Refused number place → A
never p q = apart (cc)

rows_alike : (a c : Report) (n : ℕ) → ((k : ℕ) → k < n → row_at a k ≡ row_at c k) → row_lines a n ≡ row_lines c n
unfolding row_lines
rows_alike a c zero each = refl
rows_alike a c (suc n) each = ap₂ (λ (xs ys : List ℕ). xs ++ ys) (rows_alike a c n (λ k l. each k (omega arith))) (ap (row_line n) (each n (omega arith)))

module _ (a b : Report) where
  pub answer_done : Joins a b → join_answer a b ≡ record { outcome = Done; report = joined a b }
  answer_done w = sym (join_done a b (joins_done a b w) (joined a b) refl)

  pub answer_refused : (Joins a b → ⊥) → join_answer a b ≡ record { outcome = Refused 18 0; report = a }
  answer_refused no_join = go (eighteen_or_done a b)
    where
      go : (check18 a b ≡ Done) ⊎ (check18 a b ≡ Refused 18 0) → join_answer a b ≡ record { outcome = Refused 18 0; report = a }
      go (inl ok) = absurd (no_join (joins a b ok))
      go (inr e) = sym (join_refused a b 18 0 e)

  pub join_or_not : Joins a b ⊎ (Joins a b → ⊥)
  join_or_not = go (eighteen_or_done a b)
    where
      go : (check18 a b ≡ Done) ⊎ (check18 a b ≡ Refused 18 0) → Joins a b ⊎ (Joins a b → ⊥)
      go (inl ok) = inl (joins a b ok)
      go (inr e) = inr (λ w. never (joins_done a b w) e)

both_done : (x y : Reported) (r s : Report) → x ≡ record { outcome = Done; report = r } → y ≡ record { outcome = Done; report = s } → r ≡ s → Alike x y
both_done x y r s p q e = (
  ap (λ (z : Reported). z.outcome) p ∙ ap (λ (z : Reported). z.outcome) (sym q),
  λ _. ap (λ (z : Reported). z.report) p ∙ e ∙ ap (λ (z : Reported). z.report) (sym q),
)

both_refused : (x y : Reported) (number place : ℕ) → x.outcome ≡ Refused number place → y.outcome ≡ Refused number place → Alike x y
both_refused x y n p e f = (e ∙ sym f, λ ok. never ((said_done x.outcome).0 ok) e)

-- ## Either way round

pub join_swaps : (a b : Report) → Alike (join_answer a b) (join_answer b a)
join_swaps a b = go (join_or_not a b)
  where
    go : Joins a b ⊎ (Joins a b → ⊥) → Alike (join_answer a b) (join_answer b a)
    go (inl w) =
        both_done (join_answer a b) (join_answer b a) (joined a b) (joined b a) (answer_done a b w) (answer_done b a (joins_comm a b w)) (joined_comm a b w.same_tasks)
    go (inr no_join) =
        both_refused (join_answer a b) (join_answer b a) 18 0 (ap (λ (z : Reported). z.outcome) (answer_refused a b no_join))
        (ap (λ (z : Reported). z.outcome) (answer_refused b a (λ w. no_join (joins_comm b a w))))

-- ## Either two first

then_stops : (x : Reported) (next : Report → Reported) (number place : ℕ) → x.outcome ≡ Refused number place → (and_then x next).outcome ≡ Refused number place
unfolding and_then unless
then_stops x next n p e = rw e

-- refused where the first two do not go together, or what is made of them is refused
then_refused : (x y : Report) (next : Report → Reported) → (Joins x y → (next (joined x y)).outcome ≡ Refused 18 0) → (and_then (join_answer x y) next).outcome ≡ Refused 18 0
then_refused x y next refused = go (join_or_not x y)
  where
    go : Joins x y ⊎ (Joins x y → ⊥) → (and_then (join_answer x y) next).outcome ≡ Refused 18 0
    go (inl w) = ap (λ (z : Reported). z.outcome) (then_next (join_answer x y) next (joined x y) (answer_done x y w)) ∙ refused w
    go (inr no_join) = then_stops (join_answer x y) next 18 0 (ap (λ (z : Reported). z.outcome) (answer_refused x y no_join))

module _ (a b c : Report) where
  abbrev first_two : Reported
  first_two = and_then (join_answer a b) (λ x. join_answer x c)

  abbrev last_two : Reported
  last_two = and_then (join_answer b c) (λ x. join_answer a x)

  all_join : (Joins a b × Joins (joined a b) c) ⊎ (Joins a b × Joins (joined a b) c → ⊥)
  all_join = go (join_or_not a b)
    where
      second : Joins a b → Joins (joined a b) c ⊎ (Joins (joined a b) c → ⊥) → (Joins a b × Joins (joined a b) c) ⊎ (Joins a b × Joins (joined a b) c → ⊥)
      second w (inl v) = inl (w, v)
      second w (inr no_join) = inr (λ u. no_join u.1)

      go : Joins a b ⊎ (Joins a b → ⊥) → (Joins a b × Joins (joined a b) c) ⊎ (Joins a b × Joins (joined a b) c → ⊥)
      go (inl w) = second w (join_or_not (joined a b) c)
      go (inr no_join) = inr (λ u. no_join u.0)

  pub join_regroups : Alike first_two last_two
  join_regroups = go all_join
    where
      go : (Joins a b × Joins (joined a b) c) ⊎ (Joins a b × Joins (joined a b) c → ⊥) → Alike first_two last_two
      go (inl w) =
          let v = assoc_right a b c w.0 w.1 in
          both_done first_two last_two (joined (joined a b) c) (joined a (joined b c))
          (then_next (join_answer a b) (λ x. join_answer x c) (joined a b) (answer_done a b w.0) ∙ answer_done (joined a b) c w.1)
          (then_next (join_answer b c) (λ x. join_answer a x) (joined b c) (answer_done b c v.0) ∙ answer_done a (joined b c) v.1)
          (joined_assoc a b c w.0.same_tasks)
      go (inr no_joins) =
          both_refused first_two last_two 18 0
          (then_refused a b (λ x. join_answer x c) (λ w. ap (λ (z : Reported). z.outcome) (answer_refused (joined a b) c (λ v. no_joins (w, v)))))
          (then_refused b c (λ x. join_answer a x) (λ w. ap (λ (z : Reported). z.outcome) (answer_refused a (joined b c) (λ v. no_joins (assoc_left a b c w v)))))

-- ## What is not looked at

module _ (a b c d : Report) (v : Same a c) (w : Same b d) where
  same_joins : Joins a b → Joins c d
  same_joins j =
      record {
        same_tasks = sym v.tasks_are ∙ j.same_tasks ∙ w.tasks_are;
        fit = λ k l. let m : k < task_rows a.tasks = omega (arith, v.tasks_are) in
            ap₂ (λ (x y : Row). fits (join_row x y)) (sym (v.rows_are k m)) (sym (w.rows_are k (omega (arith, j.same_tasks)))) ∙ j.fit k m;
      }

  same_joined : Joins a b → joined a b ≡ joined c d
  unfolding joined joined_row
  same_joined j =
      report_same v.tasks_are
      (rows_same (task_rows a.tasks) (joined_row a b) (joined_row c d) (λ k l. ap₂ join_row (v.rows_are k l) (w.rows_are k (omega (arith, j.same_tasks))))
      ∙ ap (λ (t : ℕ). rows_of (task_rows t) (joined_row c d)) v.tasks_are)

same_back : (a c : Report) → Same a c → Same c a
same_back a c v = record { tasks_are = sym v.tasks_are; rows_are = λ k l. sym (v.rows_are k (omega (arith, v.tasks_are))) }

pub join_same : (a b c d : Report) → Same a c → Same b d → Alike (join_answer a b) (join_answer c d)
join_same a b c d v w = go (join_or_not a b)
  where
    go : Joins a b ⊎ (Joins a b → ⊥) → Alike (join_answer a b) (join_answer c d)
    go (inl j) = both_done (join_answer a b) (join_answer c d) (joined a b) (joined c d) (answer_done a b j) (answer_done c d (same_joins a b c d v w j)) (same_joined a b c d v w j)
    go (inr no_join) =
        both_refused (join_answer a b) (join_answer c d) 18 0 (ap (λ (z : Reported). z.outcome) (answer_refused a b no_join))
        (ap (λ (z : Reported). z.outcome) (answer_refused c d (λ j. no_join (same_joins c d a b (same_back a c v) (same_back b d w) j))))

-- a run is added alike, and the lines are the same
pub add_same : (a c : Report) (g : Given) (run : Record) → Same a c → Alike (add_answer a g run) (add_answer c g run)
unfolding add_answer reported
add_same a c g run v = go (check_verdicts g run) refl
  where
    own : Report
    own = own_report g.lists run

    go : (o : Outcome) → check_verdicts g run ≡ o → Alike (add_answer a g run) (add_answer c g run)
    go Done ok =
        subst (λ (x : Reported). Alike x (add_answer c g run)) (add_done g run a (join_answer a own) ok refl)
        (subst (Alike (join_answer a own)) (add_done g run c (join_answer c own) ok refl) (join_same a own c own v (record { tasks_are = refl; rows_are = λ k l. refl })))
    go (Err w) e =
        both_refused (add_answer a g run) (add_answer c g run) w.number w.place (before_stops (check_verdicts g run) (check18 a own) w.number w.place e)
        (before_stops (check_verdicts g run) (check18 c own) w.number w.place e)

pub lines_same : (a c : Report) → Same a c → showing a ≡ showing c
unfolding showing
lines_same a c v = rows_alike a c (task_rows a.tasks) v.rows_are ∙ ap (λ (t : ℕ). row_lines c (task_rows t)) v.tasks_are

-- ## The empty report

-- as a call makes reports: what is not looked at is 0, and so are least and greatest where no job has finished; every number fits
pub record Neat (r : Report) : Type 0 where
  pub rows_are : r.rows ≡ rows_of (task_rows r.tasks) (row_at r)
  pub tidy : (k : ℕ) → k < task_rows r.tasks → Tidy (row_at r k)
  pub fit : (k : ℕ) → k < task_rows r.tasks → fits (row_at r k) ≡ true

pub joined_neat : (a b : Report) → Joins a b → Neat (joined a b)
unfolding joined joined_row
joined_neat a b w =
    record {
      rows_are = rows_same (task_rows a.tasks) (joined_row a b) (row_at (joined a b)) (λ k l. sym (joined_row_law a b k l));
      tidy = λ k l. rw (joined_row_law a b k l) (join_tidy (row_at a k) (row_at b k));
      fit = λ k l. ap fits (joined_row_law a b k l) ∙ w.fit k l;
    }

empty_row_law : (n k : ℕ) → k < 16 → row_at (empty_report n) k ≡ empty_row
unfolding row_at empty_report
empty_row_law n k l = get_or-replicate 16 k empty_row empty_row l

-- sixteen rows without jobs
none_below : (n : ℕ) (f : ℕ → Row) → ((k : ℕ) → k < 16 → f k ≡ empty_row) → replicate 16 empty_row ≡ rows_of n f
unfolding rows_of row_below list_from
none_below n f none =
    list_same 16 (λ _. empty_row) (row_below n f) (λ k l. by_cond (λ x. empty_row ≡ x) (ltb k n) (f k) empty_row (λ _. sym (none k l)) (λ _. refl))

pub empty_neat : (n : ℕ) → Neat (empty_report n)
unfolding empty_report fits
empty_neat n =
    record {
      rows_are = none_below (task_rows n) (row_at (empty_report n)) (empty_row_law n);
      tidy = λ k l. rw (empty_row_law n k (omega arith)) (λ h. (refl, refl));
      fit = λ k l. ap fits (empty_row_law n k (omega arith));
    }

module _ (r : Report) (w : Neat r) where
  with_none : (k : ℕ) → k < task_rows r.tasks → join_row (row_at r k) (row_at (empty_report r.tasks) k) ≡ row_at r k
  with_none k l = ap (join_row (row_at r k)) (empty_row_law r.tasks k (omega arith)) ∙ join_none (row_at r k) (w.tidy k l)

  joins_empty : Joins r (empty_report r.tasks)
  unfolding empty_report
  joins_empty = record { same_tasks = refl; fit = λ k l. ap fits (with_none k l) ∙ w.fit k l }

  joined_empty : joined r (empty_report r.tasks) ≡ r
  unfolding joined joined_row
  joined_empty = report_same refl (rows_same (task_rows r.tasks) (joined_row r (empty_report r.tasks)) (row_at r) with_none ∙ sym w.rows_are)

  pub empty_right : join_answer r (empty_report r.tasks) ≡ record { outcome = Done; report = r }
  empty_right =
      answer_done r (empty_report r.tasks) joins_empty ∙ ap (λ (x : Report). let y : Reported = record { outcome = Done; report = x } in y) joined_empty

  pub empty_left : join_answer (empty_report r.tasks) r ≡ record { outcome = Done; report = r }
  unfolding empty_report
  empty_left =
      answer_done (empty_report r.tasks) r (joins_comm r (empty_report r.tasks) joins_empty)
      ∙ ap (λ (x : Report). let y : Reported = record { outcome = Done; report = x } in y) (joined_comm (empty_report r.tasks) r refl ∙ joined_empty)
