-- Laws of a season: a report that was made by these calls is the one report over its runs, and the calls are done exactly where the totals fit.
use Prim.Native.Nat.{ℕ, zero, suc, ◌<◌, ◌≤◌}
use mathlib.Core.Bool.{true}
use mathlib.Core.List.{List, [], ◌∷◌, ◌++◌, append_assoc, append-nil, Memᴰ, Permᴰ}
use mathlib.Core.Path.{ap, ap₂, refl, subst, sym, ◌∙◌, ◌≡◌}
use native.Mathlib.Omega.{arith}
use lib.Dec.{eqb, ltb}
use Rattle.bits.specs.Below.{list_from}
use Rattle.bits.proofs.Laws.Below.{get_or_list, list_same}
use Rattle.bits.proofs.Laws.Bools.{by_cond}
use Rattle.std.specs.Prelude.{Err}
use Rattle.tables.specs.Outcomes.{Outcome, Done}
use Rattle.tables.specs.Refusals.{before, check_tasks, unless}
use Rattle.tables.specs.Tables.{Lists, job_count, lists, task_count, task_of}
use Rattle.tables.proofs.Laws.Refusals.{before_first, before_second}
use Rattle.tables.proofs.Laws.Said.{said_done}
use Rattle.tables.proofs.Laws.Accepted.{few_tasks}
use Rattle.zsrm.specs.declared.record.Record.{Record}
use Rattle.season.specs.declared.answers.Report.{Report}
use Rattle.season.specs.declared.answers.Reported.{Reported}
use Rattle.season.specs.declared.answers.Row.{Row}
use Rattle.zsrm.specs.Answers.{check_verdicts}
use Rattle.season.specs.Own.{job_row_at, own_report, own_row, own_up_to}
use Rattle.season.specs.Answers.{add_answer, empty_answer, join_answer, reported}
use Rattle.season.specs.Reports.{check18, empty_report, joined, joined_row, row_at, row_below, task_rows, rows_of}
use Rattle.season.specs.Rows.{fits, join_row, empty_row}
use Rattle.season.specs.Season.{Accepted, AllAccepted, Fitting, Run, Season, add_all, added, and_then, begun, run_given, merged, report_over, row_in, runs_of, season_answer, total_row}
use Rattle.season.proofs.Laws.Own.{add_done}
use Rattle.season.proofs.Laws.Reports.{Joins, join_done, joins, joins_done, report_same, reported_done, row_below_law, row_of, rows_same}
use Rattle.season.proofs.Laws.Rows.{Tidy, fits_left, fits_right, join_assoc, join_comm, join_none, join_tidy, none_join}

-- ## Rows

pub own_tidy : (l : Lists) (r : Record) (k n : ℕ) → Tidy (own_row l r k n)
unfolding own_row
own_tidy l r k zero = λ h. (refl, refl)
own_tidy l r k (suc n) =
    by_cond Tidy (eqb (task_of l.jobs n) k) (join_row (own_row l r k n) (job_row_at l r n)) (own_row l r k n) (λ _. join_tidy (own_row l r k n) (job_row_at l r n)) (λ _. own_tidy l r k n)

module _ (tasks : List ℕ) (k : ℕ) where
  row_tidy : (run : Run) → Tidy (row_in tasks k run)
  row_tidy run = own_tidy (lists tasks run.jobs) run.returned k (job_count run.jobs)

  total_tidy : (runs : List Run) → Tidy (total_row tasks k runs)
  unfolding total_row
  total_tidy [] = λ h. (refl, refl)
  total_tidy (run ∷ runs) = join_tidy (row_in tasks k run) (total_row tasks k runs)

  total_append : (xs ys : List Run) → total_row tasks k (xs ++ ys) ≡ join_row (total_row tasks k xs) (total_row tasks k ys)
  unfolding total_row
  total_append [] ys = sym (none_join (total_row tasks k ys) (total_tidy ys))
  total_append (x ∷ xs) ys =
      ap (join_row (row_in tasks k x)) (total_append xs ys) ∙ sym (join_assoc (row_in tasks k x) (total_row tasks k xs) (total_row tasks k ys))

  total_one : (run : Run) → total_row tasks k (run ∷ []) ≡ row_in tasks k run
  unfolding total_row
  total_one run = join_none (row_in tasks k run) (row_tidy run)

  -- in any order
  pub total_order : {xs ys : List Run} → Permᴰ xs ys → total_row tasks k xs ≡ total_row tasks k ys
  unfolding total_row
  total_order Permᴰ.nil = refl
  total_order (Permᴰ.cons e d) = ap₂ (λ (x : Run) (r : Row). join_row (row_in tasks k x) r) e (total_order d)
  total_order (Permᴰ.swap {a = a} {b = b} {l = l} e f) =
      let x = row_in tasks k a in
      let y = row_in tasks k b in
      let z = total_row tasks k l in
      sym (join_assoc x y z) ∙ ap (λ (r : Row). join_row r z) (join_comm x y) ∙ join_assoc y x z
      ∙ ap₂ (λ (u v : Run). join_row (row_in tasks k u) (join_row (row_in tasks k v) z)) f e
  total_order (Permᴰ.trans d e) = total_order d ∙ total_order e

-- ## Runs

module _ (tasks : List ℕ) where
  all_append : (xs ys : List Run) → AllAccepted tasks xs → AllAccepted tasks ys → AllAccepted tasks (xs ++ ys)
  all_append [] ys v w = w
  all_append (x ∷ xs) ys v w = (v.0, all_append xs ys v.1 w)

  all_left : (xs ys : List Run) → AllAccepted tasks (xs ++ ys) → AllAccepted tasks xs
  all_left [] ys w = tt
  all_left (x ∷ xs) ys w = (w.0, all_left xs ys w.1)

  all_right : (xs ys : List Run) → AllAccepted tasks (xs ++ ys) → AllAccepted tasks ys
  all_right [] ys w = w
  all_right (x ∷ xs) ys w = all_right xs ys w.1

  all_order : {xs ys : List Run} → Permᴰ xs ys → AllAccepted tasks xs → AllAccepted tasks ys
  all_order Permᴰ.nil w = tt
  all_order (Permᴰ.cons e d) w = (subst (Accepted tasks) e w.0, all_order d w.1)
  all_order (Permᴰ.swap e f) w = (
    subst (Accepted tasks) f w.1.0,
    (subst (Accepted tasks) e w.0, w.1.1),
  )
  all_order (Permᴰ.trans d e) w = all_order e (all_order d w)

  pub each_accepted : {run : Run} {runs : List Run} → Memᴰ run runs → AllAccepted tasks runs → Accepted tasks run
  each_accepted (Memᴰ.head e) w = subst (Accepted tasks) (sym e) w.0
  each_accepted (Memᴰ.tail m) w = each_accepted m w.1

  pub fitting_few : (runs : List Run) → Fitting tasks runs → task_count tasks ≤ 16
  fitting_few runs w = few_tasks tasks ((said_done (check_tasks tasks)).0 w.table)

  pub fitting_order : {xs ys : List Run} → Permᴰ xs ys → Fitting tasks xs → Fitting tasks ys
  fitting_order d w =
      record { table = w.table; each = all_order d w.each; totals = λ k l. ap fits (sym (total_order tasks k d)) ∙ w.totals k l }

  pub fitting_left : (xs ys : List Run) → Fitting tasks (xs ++ ys) → Fitting tasks xs
  fitting_left xs ys w =
      record {
        table = w.table;
        each = all_left xs ys w.each;
        totals = λ k l. fits_left (total_row tasks k xs) (total_row tasks k ys) (ap fits (sym (total_append tasks k xs ys)) ∙ w.totals k l);
      }

  pub fitting_right : (xs ys : List Run) → Fitting tasks (xs ++ ys) → Fitting tasks ys
  fitting_right xs ys w =
      record {
        table = w.table;
        each = all_right xs ys w.each;
        totals = λ k l. fits_right (total_row tasks k xs) (total_row tasks k ys) (ap fits (sym (total_append tasks k xs ys)) ∙ w.totals k l);
      }

-- one report over the same runs in another order is the same
pub over_order : (tasks : List ℕ) {xs ys : List Run} → Permᴰ xs ys → report_over tasks xs ≡ report_over tasks ys
unfolding report_over
over_order tasks {xs} {ys} d =
    report_same refl (rows_same (task_count tasks) (λ k. total_row tasks k xs) (λ k. total_row tasks k ys) (λ k l. total_order tasks k d))

-- ## Reports with the rows that they have below n

record Holds (n : ℕ) (f : ℕ → Row) (r : Report) : Type 0 where
  count : r.tasks ≡ n
  row : (k : ℕ) → k < n → row_at r k ≡ f k

module _ (n : ℕ) (few : n ≤ 16) (f h : ℕ → Row) (a b : Report) (v : Holds n f a) (w : Holds n h b) where
  joins_of : ((k : ℕ) → k < n → fits (join_row (f k) (h k)) ≡ true) → Joins a b
  joins_of fit =
      record {
        same_tasks = v.count ∙ sym w.count;
        fit = λ k l. let m : k < n = omega (arith, v.count) in ap₂ (λ (x y : Row). fits (join_row x y)) (v.row k m) (w.row k m) ∙ fit k m;
      }

  fits_of : Joins a b → (k : ℕ) → k < n → fits (join_row (f k) (h k)) ≡ true
  fits_of j k l = ap₂ (λ (x y : Row). fits (join_row x y)) (sym (v.row k l)) (sym (w.row k l)) ∙ j.fit k (omega (arith, v.count, few))

  joined_of : joined a b ≡ record { tasks = n; rows = rows_of n (λ k. join_row (f k) (h k)) }
  unfolding joined joined_row
  joined_of =
      let same : task_rows a.tasks ≡ n = omega (arith, v.count, few) in
      report_same v.count
      (ap (λ (m : ℕ). rows_of m (joined_row a b)) same ∙ rows_same n (joined_row a b) (λ k. join_row (f k) (h k)) (λ k l. ap₂ join_row (v.row k l) (w.row k l)))

module _ (tasks : List ℕ) (few : task_count tasks ≤ 16) where
  over_holds : (runs : List Run) → Holds (task_count tasks) (λ k. total_row tasks k runs) (report_over tasks runs)
  unfolding report_over
  over_holds runs =
      record {
        count = refl;
        row = λ k l. row_of (task_count tasks) (λ i. total_row tasks i runs) (task_count tasks) k (omega arith) ∙ row_below_law (task_count tasks) (λ i. total_row tasks i runs) k l;
      }

  pub over_row : (runs : List Run) (k : ℕ) → k < task_count tasks → row_at (report_over tasks runs) k ≡ total_row tasks k runs
  over_row runs = (over_holds runs).row

  own_holds : (run : Run) → Holds (task_count tasks) (λ k. total_row tasks k (run ∷ [])) (own_report (lists tasks run.jobs) run.returned)
  unfolding own_report own_up_to row_at
  own_holds run =
      record {
        count = refl;
        row = λ k l. get_or_list 16 (λ i. row_in tasks i run) k empty_row (omega arith) ∙ sym (total_one tasks k run);
      }

  -- two reports over runs, joined
  module _ (xs ys : List Run) (a b : Report) (v : Holds (task_count tasks) (λ k. total_row tasks k xs) a) (w : Holds (task_count tasks) (λ k. total_row tasks k ys) b) where
    over_joined : Fitting tasks (xs ++ ys) → join_answer a b ≡ record { outcome = Done; report = report_over tasks (xs ++ ys) }
    unfolding report_over
    over_joined fit =
        let ok = joins_done a b (joins_of (task_count tasks) few (λ k. total_row tasks k xs) (λ k. total_row tasks k ys) a b v w (λ k l. ap fits (sym (total_append tasks k xs ys)) ∙ fit.totals k l)) in
        sym (join_done a b ok (joined a b) refl)
        ∙ ap (λ (r : Report). let y : Reported = record { outcome = Done; report = r } in y)
        (joined_of (task_count tasks) few (λ k. total_row tasks k xs) (λ k. total_row tasks k ys) a b v w
        ∙ report_same refl (rows_same (task_count tasks) (λ k. join_row (total_row tasks k xs) (total_row tasks k ys)) (λ k. total_row tasks k (xs ++ ys)) (λ k l. sym (total_append tasks k xs ys))))

    over_fits : check18 a b ≡ Done → (k : ℕ) → k < task_count tasks → fits (total_row tasks k (xs ++ ys)) ≡ true
    over_fits ok k l = ap fits (total_append tasks k xs ys) ∙ fits_of (task_count tasks) few (λ i. total_row tasks i xs) (λ i. total_row tasks i ys) a b v w (joins a b ok) k l

-- ## Calls one after another

then_first : (x : Reported) (next : Report → Reported) → (and_then x next).outcome ≡ Done → x.outcome ≡ Done
unfolding and_then unless
then_first x next = go x.outcome refl
  where
    go : (o : Outcome) → x.outcome ≡ o → (unless o (λ (number place : ℕ). x) (next x.report)).outcome ≡ Done → x.outcome ≡ Done
    go Done e h = e
    go (Err w) e h = h

pub then_next : (x : Reported) (next : Report → Reported) (r : Report) → x ≡ record { outcome = Done; report = r } → and_then x next ≡ next r
unfolding and_then unless
then_next x next r e = ap (λ (y : Reported). and_then y next) e

-- the empty report is the one over no runs
empty_over : (tasks : List ℕ) → empty_report (task_count tasks) ≡ report_over tasks []
unfolding empty_report report_over total_row rows_of row_below list_from
empty_over tasks =
    report_same refl
    (list_same 16 (λ _. empty_row) (row_below (task_count tasks) (λ _. empty_row)) (λ k l. by_cond (λ r. empty_row ≡ r) (ltb k (task_count tasks)) empty_row empty_row (λ _. refl) (λ _. refl)))

module _ (tasks : List ℕ) where
  pub season_made : (s : Season) → Fitting tasks (runs_of s) → season_answer tasks s ≡ record { outcome = Done; report = report_over tasks (runs_of s) }
  unfolding season_answer runs_of empty_answer
  season_made begun w =
      reported_done (empty_report 0) (empty_report (task_count tasks)) (check_tasks tasks) ((said_done (check_tasks tasks)).0 w.table)
      ∙ ap (λ (r : Report). let y : Reported = record { outcome = Done; report = r } in y) (empty_over tasks)
  season_made (added s run) w =
      let few = fitting_few tasks (runs_of s ++ (run ∷ [])) w in
      let before = report_over tasks (runs_of s) in
      let own = own_report (lists tasks run.jobs) run.returned in
      then_next (season_answer tasks s) (λ r. add_answer r (run_given tasks run) run.returned) before (season_made s (fitting_left tasks (runs_of s) (run ∷ []) w))
      ∙ sym (add_done (run_given tasks run) run.returned before (join_answer before own) ((said_done _).0 (all_right tasks (runs_of s) (run ∷ []) w.each).0) refl)
      ∙ over_joined tasks few (runs_of s) (run ∷ []) before own (over_holds tasks few (runs_of s)) (own_holds tasks few run) w
  season_made (merged s t) w =
      let few = fitting_few tasks (runs_of s ++ runs_of t) w in
      let a = report_over tasks (runs_of s) in
      let b = report_over tasks (runs_of t) in
      then_next (season_answer tasks s) (λ x. and_then (season_answer tasks t) (λ y. join_answer x y)) a (season_made s (fitting_left tasks (runs_of s) (runs_of t) w))
      ∙ then_next (season_answer tasks t) (λ y. join_answer a y) b (season_made t (fitting_right tasks (runs_of s) (runs_of t) w))
      ∙ over_joined tasks few (runs_of s) (runs_of t) a b (over_holds tasks few (runs_of s)) (over_holds tasks few (runs_of t)) w

  pub season_fitting : (s : Season) → (season_answer tasks s).outcome ≡ Done → Fitting tasks (runs_of s)
  unfolding season_answer runs_of empty_answer reported add_answer join_answer total_row fits
  season_fitting begun ok = record { table = (said_done (check_tasks tasks)).1 ok; each = tt; totals = λ k l. refl }
  season_fitting (added s run) ok =
      let next : Report → Reported = λ r. add_answer r (run_given tasks run) run.returned in
      let w = season_fitting s (then_first (season_answer tasks s) next ok) in
      let few = fitting_few tasks (runs_of s) w in
      let a = report_over tasks (runs_of s) in
      let own = own_report (lists tasks run.jobs) run.returned in
      let last : before (check_verdicts (run_given tasks run) run.returned) (check18 a own) ≡ Done
      = ap (λ (x : Reported). x.outcome) (sym (then_next (season_answer tasks s) next a (season_made s w))) ∙ ok in
      record {
        table = w.table;
        each = all_append tasks (runs_of s) (run ∷ []) w.each ((said_done _).1 (before_first (check_verdicts (run_given tasks run) run.returned) _ last), tt);
        totals = over_fits tasks few (runs_of s) (run ∷ []) a own (over_holds tasks few (runs_of s)) (own_holds tasks few run)
            (before_second (check_verdicts (run_given tasks run) run.returned) _ last);
      }
  season_fitting (merged s t) ok =
      let first : Report → Reported = λ x. and_then (season_answer tasks t) (λ y. join_answer x y) in
      let v = season_fitting s (then_first (season_answer tasks s) first ok) in
      let a = report_over tasks (runs_of s) in
      let rest : (and_then (season_answer tasks t) (λ y. join_answer a y)).outcome ≡ Done
      = ap (λ (x : Reported). x.outcome) (sym (then_next (season_answer tasks s) first a (season_made s v))) ∙ ok in
      let w = season_fitting t (then_first (season_answer tasks t) (λ y. join_answer a y) rest) in
      let few = fitting_few tasks (runs_of s) v in
      let b = report_over tasks (runs_of t) in
      let last : check18 a b ≡ Done = ap (λ (x : Reported). x.outcome) (sym (then_next (season_answer tasks t) (λ y. join_answer a y) b (season_made t w))) ∙ rest in
      record {
        table = v.table;
        each = all_append tasks (runs_of s) (runs_of t) v.each w.each;
        totals = over_fits tasks few (runs_of s) (runs_of t) a b (over_holds tasks few (runs_of s)) (over_holds tasks few (runs_of t)) last;
      }

-- runs added one by one are its runs, in this order
pub runs_added : (s : Season) (runs : List Run) → runs_of (add_all s runs) ≡ runs_of s ++ runs
unfolding runs_of add_all
runs_added s [] = sym (append-nil (runs_of s))
runs_added s (run ∷ runs) = runs_added (added s run) runs ∙ append_assoc (runs_of s) (run ∷ []) runs
