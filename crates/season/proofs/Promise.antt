-- The promises of a season's report, for every input. Read this file first.
--
-- `empty_answer tasks`, `add_answer report g run`, `join_answer a b`, `mean_of row` and `extremes_of row` are the whole contracts of
-- `Report::empty`, `add`, `join`, `mean` and `extremes`; `showing report` is what `show` writes. A report may hold anything, and so may
-- what it is joined with. `task_rows n` is min(n, 16): that many rows of a report of n tasks are looked at, and `row_at r k` is row k.
-- `join_row` adds the counts and sums of two rows, in numbers of any size, and takes least and greatest among the sides with a finished job;
-- `Held` says that no count and no sum of a row passes 4,294,967,295. `own_report l run` is a run's own report, `own_row l run k n` its row
-- of task k over its first n jobs. `Season` says how a report was made by these calls: `begun`, a run `added`, two `merged`; `runs_of` are
-- its runs and `season_answer tasks` what its last call answers, or the first refusal on the way. `report_over tasks runs` is one report over
-- all those runs, and `Fitting tasks runs` that table and runs are accepted and the totals fit. `Alike x y`: both answers are the same
-- refusal, or both are done with the same report. `List.Permᴰ xs ys`: ys is xs in another order. What the numbers of a row are is said by
-- the jobs, in specs/Jobs: `Counted tasks k runs row` has its counts and its sum, and `Response k runs v` says that v is the response of a
-- finished job of task k in one of the runs. A job counts as met, late, ended or open exactly where its verdict is that, in numbers
-- (`is_met_reads`, `is_late_reads`, `is_ended_reads` and `is_open_reads` in zsrm's Readings).
use Prim.Native.Nat.{ℕ, ◌+◌, ◌*◌, ◌-◌, ◌/◌, ◌%◌, ◌<◌, ◌≤◌}
use mathlib.Core.Bool.{Bool, cond, false, true}
use mathlib.Core.List.Permᴰ
use mathlib.Core.List.{List, [], ◌∷◌, ◌++◌, Permᴰ}
use mathlib.Core.Logic.{inl, inr, ◌↔◌, ◌⊎◌}
use mathlib.Core.Path.{ap, refl, subst, sym, ◌∙◌, ◌≡◌}
use native.Mathlib.Nat.{div-add-mod', mod-lt}
use native.Mathlib.Omega.{arith}
use lib.Dec.{ltb}
use lib.ListN.{length}
use borrow.Author.Tests.{le-ltb, lt-ltb, ltb-false, ltb-true}
use Rattle.std.specs.Prelude.{Some, None}
use Rattle.bits.proofs.Laws.Below.{get_or_list}
use Rattle.bits.proofs.Laws.Bools.{apart}
use Rattle.tables.specs.Outcomes.{Done, Refused}
use Rattle.tables.specs.Refusals.{before, check_tasks}
use Rattle.tables.specs.Said.{done, outcome_said, refused}
use Rattle.tables.specs.Tables.{Lists, arrival, job_count, task_count}
use Rattle.tables.proofs.Laws.Refusals.{before_first}
use Rattle.tables.proofs.Laws.Said.{outcome_said_law}
use Rattle.tables.proofs.Laws.Accepted.{accepted}
use Rattle.zsrm.specs.declared.record.Record.{Record}
use Rattle.zsrm.specs.declared.record.Standing.{Standing}
use Rattle.zsrm.specs.declared.record.Standing.TheVariants.{NotArrived, Unfinished, Finished, Ended}
use Rattle.zsrm.specs.declared.tie.Tie.{Tie}
use Rattle.zsrm.specs.Answers.{check_verdicts, run_answer}
use Rattle.zsrm.specs.Given.{Given}
use Rattle.zsrm.specs.Said.{finished_at, standing_said}
use Rattle.zsrm.proofs.Laws.Answers.{run_outcome}
use Rattle.zsrm.proofs.Laws.GoOn.{ran_consistent}
use Rattle.zsrm.proofs.Laws.Said.{standing_said_law}
use Rattle.season.specs.declared.answers.Report.{Report}
use Rattle.season.specs.declared.answers.Reported.{Reported}
use Rattle.season.specs.declared.answers.Row.{Row}
use Rattle.season.specs.Extremes.{extremes_of}
use Rattle.season.specs.Said.{extremes_said, mean_said}
use Rattle.season.specs.Jobs.{Counted, Response, is_finished, response_of}
use Rattle.season.specs.Mean.{mean_of}
use Rattle.season.specs.Own.{own_report, own_row, own_up_to}
use Rattle.season.specs.Answers.{add_answer, empty_answer, join_answer, reported}
use Rattle.season.specs.Reports.{check18, empty_report, joined, row_at, task_rows}
use Rattle.season.specs.Rows.{Held, join_row, empty_row}
use Rattle.season.specs.Season.{Alike, Fitting, Run, Same, Season, add_all, and_then, begun, merged, report_over, runs_of, season_answer, total_row}
use Rattle.season.specs.Show.{showing}
use Rattle.season.proofs.Laws.Order.{Neat, add_same, answer_done, answer_refused, empty_left, empty_neat}
use Rattle.season.proofs.Laws.Order.{empty_right, join_or_not, join_regroups, join_same, join_swaps, joined_neat, lines_same}
use Rattle.season.proofs.Laws.Own.{add_done, run_accepted}
use Rattle.season.proofs.Laws.Reports.{Joins, joined_past, joined_row_law, joins, reported_done, reported_refused}
use Rattle.season.proofs.Laws.Rows.{fits_held, held_fits}
use Rattle.season.proofs.Laws.Season.{each_accepted, fitting_few, fitting_order, over_order, over_row, runs_added, season_fitting, season_made}
use Rattle.season.proofs.Readings.{finished_since, total_counted, total_greatest, total_least, total_within}

-- ## The words

-- A job has finished exactly where its standing is that, with an instant, from which its response is counted.
pub finished_exactly : (a : ℕ) (s : Standing) → is_finished s ≡ true ↔ ((f : ℕ) × (standing_said s ≡ finished_at f) × (response_of a s ≡ f - a))
unfolding standing_said
finished_exactly a NotArrived = (λ e. apart (cc), λ w. let e = w.1 in apart (cc))
finished_exactly a Unfinished = (λ e. apart (cc), λ w. let e = w.1 in apart (cc))
finished_exactly a (Finished f) = (λ e. (f, refl, refl), λ w. refl)
finished_exactly a (Ended e) = (λ q. apart (cc), λ w. let q = w.1 in apart (cc))

-- ## Joining two reports

-- They have the same number of tasks, and every row that they come to fits.
pub record Together (a b : Report) : Type 0 where
  pub same_tasks : a.tasks ≡ b.tasks
  pub fit : (k : ℕ) → k < task_rows a.tasks → Held (join_row (row_at a k) (row_at b k))

module _ (a b : Report) where
  together : Joins a b → Together a b
  together w = record { same_tasks = w.same_tasks; fit = λ k l. fits_held (join_row (row_at a k) (row_at b k)) (w.fit k l) }

  from_together : Together a b → Joins a b
  from_together w = record { same_tasks = w.same_tasks; fit = λ k l. held_fits (join_row (row_at a k) (row_at b k)) (w.fit k l) }

  says : (join_answer a b).outcome ≡ check18 a b
  unfolding join_answer reported
  says = refl

  -- It is done exactly where they go together ..
  pub join_done_exactly : outcome_said (join_answer a b).outcome ≡ done ↔ Together a b
  unfolding outcome_said
  join_done_exactly = (
    λ ok. together (joins a b (sym says ∙ outcome_said_law (join_answer a b).outcome Done ok)),
    λ w. ap (λ (x : Reported). outcome_said x.outcome) (answer_done a b (from_together w)),
  )

  -- .. and else refused with 18, place 0, the report being as it was.
  pub join_refused_else : (Together a b → ⊥) → (outcome_said (join_answer a b).outcome ≡ refused 18 0) × ((join_answer a b).report ≡ a)
  unfolding outcome_said
  join_refused_else apart =
      let e = answer_refused a b (λ w. apart (together w)) in
      (ap (λ (x : Reported). outcome_said x.outcome) e, ap (λ (x : Reported). x.report) e)

  -- Any refusal is that one.
  pub join_refused_with : (number place : ℕ) → outcome_said (join_answer a b).outcome ≡ refused number place → (number ≡ 18) × (place ≡ 0) × ((join_answer a b).report ≡ a)
  unfolding outcome_said
  join_refused_with number place s = go (join_or_not a b)
    where
      go : Joins a b ⊎ (Joins a b → ⊥) → (number ≡ 18) × (place ≡ 0) × ((join_answer a b).report ≡ a)
      go (inl w) =
          let e = sym s ∙ ap (λ (x : Reported). outcome_said x.outcome) (answer_done a b w) in
          apart (cc)
      go (inr no_join) =
          let e = answer_refused a b no_join in
          let q = sym s ∙ ap (λ (x : Reported). outcome_said x.outcome) e in
          (cc, cc, ap (λ (x : Reported). x.report) e)

  -- Where it is done, every row that is looked at is joined, and every other one is 0.
  pub record Joined (r : Report) : Type 0 where
    pub tasks_kept : r.tasks ≡ a.tasks
    pub rows_joined : (k : ℕ) → k < task_rows a.tasks → row_at r k ≡ join_row (row_at a k) (row_at b k)
    pub rest_zero : (k : ℕ) → task_rows a.tasks ≤ k → k < 16 → row_at r k ≡ empty_row

  pub join_joins : outcome_said (join_answer a b).outcome ≡ done → Joined (join_answer a b).report
  unfolding joined
  join_joins ok =
      let e = ap (λ (x : Reported). x.report) (answer_done a b (from_together (join_done_exactly.0 ok))) in
      rw e (record { tasks_kept = refl; rows_joined = joined_row_law a b; rest_zero = joined_past a b })

  -- In either order, it is refused both times, or done both times with the same report.
  pub join_commutes : Alike (join_answer a b) (join_answer b a)
  join_commutes = join_swaps a b

-- Of three reports, the first two joined first or the last two: refused both times, or done both times with the same report.
pub join_associates : (a b c : Report) → Alike (and_then (join_answer a b) (λ x. join_answer x c)) (and_then (join_answer b c) (λ x. join_answer a x))
join_associates a b c = join_regroups a b c

-- Rows from min(tasks, 16) on change nothing: reports with the same number of tasks and the same rows of them are joined alike, are added to
-- alike, and are shown by the same text.
pub join_looks : (a b c d : Report) → Same a c → Same b d → Alike (join_answer a b) (join_answer c d)
join_looks a b c d v w = join_same a b c d v w

pub add_looks : (a c : Report) (g : Given) (run : Record) → Same a c → Alike (add_answer a g run) (add_answer c g run)
add_looks a c g run v = add_same a c g run v

pub show_looks : (a c : Report) → Same a c → showing a ≡ showing c
show_looks a c v = lines_same a c v

-- ## Adding a run

module _ (report : Report) (g : Given) (run : Record) where
  -- The run's own refusals, 2 to 8 and 11, go before 18.
  pub add_checked : (add_answer report g run).outcome ≡ before (check_verdicts g run) (check18 report (own_report g.lists run))
  unfolding add_answer reported
  add_checked = refl

  -- A run that is accepted is added by joining its own report.
  pub add_joins : outcome_said (check_verdicts g run) ≡ done → add_answer report g run ≡ join_answer report (own_report g.lists run)
  unfolding outcome_said
  add_joins ok = sym (add_done g run report (join_answer report (own_report g.lists run)) (outcome_said_law (check_verdicts g run) Done ok) refl)

  -- Where adding is refused, the report is as it was.
  pub add_refused_keeps : (number place : ℕ) → outcome_said (add_answer report g run).outcome ≡ refused number place → (add_answer report g run).report ≡ report
  unfolding outcome_said add_answer
  add_refused_keeps number place s =
      let o = before (check_verdicts g run) (check18 report (own_report g.lists run)) in
      ap (λ (x : Reported). x.report)
      (reported_refused report (joined report (own_report g.lists run)) o number place (outcome_said_law o (Refused number place) (ap outcome_said (sym add_checked) ∙ s)))

-- The record that the library's run returns is accepted, in either tie choice.
pub run_returns_accepted : (g : Given) (tie : Tie) (horizon : ℕ) (lent : List ℕ) → outcome_said (run_answer g tie horizon lent).outcome ≡ done
    → outcome_said (check_verdicts g (run_answer g tie horizon lent).«record») ≡ done
unfolding outcome_said
run_returns_accepted g tie horizon lent says-done =
    let ok = sym (run_outcome g tie horizon lent) ∙ outcome_said_law (run_answer g tie horizon lent).outcome Done says-done in
    ap outcome_said (run_accepted g (run_answer g tie horizon lent).«record» (accepted g.lists horizon (length lent) ok).lists (ran_consistent g tie horizon lent ok))

-- A run's own report has the number of tasks of its table, and for each of its tasks the row over all its jobs.
pub own_rows : (l : Lists) (run : Record) → ((own_report l run).tasks ≡ task_count l.tasks) × ((k : ℕ) → k < 16 → row_at (own_report l run) k ≡ own_row l run k (job_count l.jobs))
unfolding own_report own_up_to row_at
own_rows l run = (refl, λ k l₁. get_or_list 16 (λ i. own_row l run i (job_count l.jobs)) k empty_row l₁)

-- ## The empty report

-- It is given exactly where the table is accepted, with no job in any row; a refused call gives 0 for everything.
pub empty_checked : (tasks : List ℕ) → (empty_answer tasks).outcome ≡ check_tasks tasks
unfolding empty_answer reported
empty_checked tasks = refl

pub empty_is : (tasks : List ℕ) → outcome_said (empty_answer tasks).outcome ≡ done → (empty_answer tasks).report ≡ empty_report (task_count tasks)
unfolding empty_answer outcome_said
empty_is tasks ok =
    ap (λ (x : Reported). x.report)
    (reported_done (empty_report 0) (empty_report (task_count tasks)) (check_tasks tasks) (outcome_said_law (check_tasks tasks) Done (ap outcome_said (sym (empty_checked tasks)) ∙ ok)))

pub empty_refused : (tasks : List ℕ) (number place : ℕ) → outcome_said (empty_answer tasks).outcome ≡ refused number place → (empty_answer tasks).report ≡ empty_report 0
unfolding empty_answer outcome_said
empty_refused tasks number place s =
    ap (λ (x : Reported). x.report) (reported_refused (empty_report 0) (empty_report (task_count tasks)) (check_tasks tasks)
    number place (outcome_said_law (check_tasks tasks) (Refused number place) (ap outcome_said (sym (empty_checked tasks)) ∙ s)))

-- A report that was made by these calls, from whatever reports.
pub data Made : Report → Type 0 where
  by_empty : (tasks : List ℕ) → outcome_said (empty_answer tasks).outcome ≡ done → Made (empty_answer tasks).report
  by_add : (report : Report) (g : Given) (run : Record) → outcome_said (add_answer report g run).outcome ≡ done → Made (add_answer report g run).report
  by_join : (a b : Report) → outcome_said (join_answer a b).outcome ≡ done → Made (join_answer a b).report

join_made_neat : (a b : Report) → outcome_said (join_answer a b).outcome ≡ done → Neat (join_answer a b).report
join_made_neat a b ok =
    let w = from_together a b ((join_done_exactly a b).0 ok) in
    rw (ap (λ (x : Reported). x.report) (answer_done a b w)) (joined_neat a b w)

add_made_neat : (report : Report) (g : Given) (run : Record) → outcome_said (add_answer report g run).outcome ≡ done → Neat (add_answer report g run).report
unfolding outcome_said
add_made_neat report g run ok =
    let first = before_first (check_verdicts g run) _ (sym (add_checked report g run) ∙ outcome_said_law (add_answer report g run).outcome Done ok) in
    let e = add_joins report g run (ap outcome_said first) in
    rw e (join_made_neat report (own_report g.lists run) (ap (λ (x : Reported). outcome_said x.outcome) (sym e) ∙ ok))

made_neat : (r : Report) → Made r → Neat r
made_neat r (by_empty tasks ok) = rw (empty_is tasks ok) (empty_neat (task_count tasks))
made_neat r (by_add report g run ok) = add_made_neat report g run ok
made_neat r (by_join a b ok) = join_made_neat a b ok

-- For such a report the empty report of as many tasks is neutral, on either side. (One that was not made so may hold a least without a
-- finished job; joining makes it 0.)
pub empty_neutral : (r : Report) → Made r
    → (join_answer r (empty_report r.tasks) ≡ record { outcome = Done; report = r }) × (join_answer (empty_report r.tasks) r ≡ record { outcome = Done; report = r })
empty_neutral r made = (empty_right r (made_neat r made), empty_left r (made_neat r made))

-- ## A whole season, over one table

module _ (tasks : List ℕ) where
  -- No call on the way is refused exactly where the table and all runs are accepted and the totals over all runs fit: so where the totals
  -- fit, nothing is refused in any order.
  pub season_done_exactly : (s : Season) → outcome_said (season_answer tasks s).outcome ≡ done ↔ Fitting tasks (runs_of s)
  unfolding outcome_said
  season_done_exactly s = (
    λ ok. season_fitting tasks s (outcome_said_law (season_answer tasks s).outcome Done ok),
    λ w. ap (λ (x : Reported). outcome_said x.outcome) (season_made tasks s w),
  )

  -- However it was made, the report is the one over all its runs.
  pub season_is : (s : Season) → outcome_said (season_answer tasks s).outcome ≡ done → (season_answer tasks s).report ≡ report_over tasks (runs_of s)
  season_is s ok = ap (λ (x : Reported). x.report) (season_made tasks s ((season_done_exactly s).0 ok))

  -- Two seasons with the same runs, in any order and joined in any tree: where the one is done, the other answers the same.
  pub any_order : (s t : Season) → Permᴰ (runs_of s) (runs_of t) → outcome_said (season_answer tasks s).outcome ≡ done → season_answer tasks t ≡ season_answer tasks s
  any_order s t order ok =
      let w = (season_done_exactly s).0 ok in
      season_made tasks t (fitting_order tasks order w)
      ∙ ap (λ (r : Report). let y : Reported = record { outcome = Done; report = r } in y) (sym (over_order tasks order)) ∙ sym (season_made tasks s w)

  -- Runs added one by one: no addition is refused exactly where table and runs are accepted and the totals fit ..
  pub adding_done_exactly : (runs : List Run) → outcome_said (season_answer tasks (add_all begun runs)).outcome ≡ done ↔ Fitting tasks runs
  unfolding runs_of
  adding_done_exactly runs =
      subst (λ (xs : List Run). outcome_said (season_answer tasks (add_all begun runs)).outcome ≡ done ↔ Fitting tasks xs) (runs_added begun runs)
      (season_done_exactly (add_all begun runs))

  -- .. and two orders give the same.
  pub one_by_one : (xs ys : List Run) → Permᴰ xs ys → outcome_said (season_answer tasks (add_all begun xs)).outcome ≡ done
      → season_answer tasks (add_all begun ys) ≡ season_answer tasks (add_all begun xs)
  unfolding runs_of
  one_by_one xs ys order ok =
      any_order (add_all begun xs) (add_all begun ys) (rw (runs_added begun xs, runs_added begun ys) order) ok

  -- Two reports joined equal one over all runs of both: where the joined one is done, so is the other, with the same answer ..
  pub two_joined : (s t : Season) → outcome_said (season_answer tasks (merged s t)).outcome ≡ done
      → season_answer tasks (add_all begun (runs_of s ++ runs_of t)) ≡ season_answer tasks (merged s t)
  unfolding runs_of
  two_joined s t ok =
      any_order (merged s t) (add_all begun (runs_of s ++ runs_of t)) (rw (runs_added begun (runs_of s ++ runs_of t)) (Permᴰ.refl (runs_of s ++ runs_of t))) ok

  -- .. and the other way about.
  pub one_joined : (s t : Season) → outcome_said (season_answer tasks (add_all begun (runs_of s ++ runs_of t))).outcome ≡ done
      → season_answer tasks (merged s t) ≡ season_answer tasks (add_all begun (runs_of s ++ runs_of t))
  unfolding runs_of
  one_joined s t ok =
      any_order (add_all begun (runs_of s ++ runs_of t)) (merged s t) (rw (runs_added begun (runs_of s ++ runs_of t)) (Permᴰ.refl (runs_of s ++ runs_of t))) ok

  -- ## What the numbers of a season are

  -- row k of a season's report
  abbrev pub season_row : Season → ℕ → Row
  season_row s k = row_at (season_answer tasks s).report k

  module _ (s : Season) (ok : outcome_said (season_answer tasks s).outcome ≡ done) (k : ℕ) (below : k < task_count tasks) where
    fitting : Fitting tasks (runs_of s)
    fitting = (season_done_exactly s).0 ok

    row_is : season_row s k ≡ total_row tasks k (runs_of s)
    row_is =
        ap (λ (r : Report). row_at r k) (season_is s ok) ∙ over_row tasks (fitting_few tasks (runs_of s) fitting) (runs_of s) k below

    -- Of each task, the counts are the numbers of its jobs, in all runs, that the library's `verdict` calls met, late, ended and open, and that
    -- have finished; and the sum is that of all their responses.
    pub season_counts : Counted tasks k (runs_of s) (season_row s k)
    season_counts = rw row_is (total_counted tasks k (runs_of s) fitting.each)

    -- Where there is a response, a job is counted as finished, and the response lies from the least to the greatest ..
    pub season_within : (v : ℕ) → Response k (runs_of s) v → (0 < (season_row s k).finished) × ((season_row s k).least ≤ v) × (v ≤ (season_row s k).greatest)
    season_within v w = let reach = total_within tasks k (runs_of s) v w in rw row_is (ltb-true 0 _ reach.some, reach.low, reach.high)

    -- .. and where one is counted, each of the two is a response.
    pub season_least : 0 < (season_row s k).finished → Response k (runs_of s) (season_row s k).least
    season_least some = rw row_is (total_least tasks k (runs_of s) (rw row_is at (lt-ltb 0 (season_row s k).finished some)))

    pub season_greatest : 0 < (season_row s k).finished → Response k (runs_of s) (season_row s k).greatest
    season_greatest some = rw row_is (total_greatest tasks k (runs_of s) (rw row_is at (lt-ltb 0 (season_row s k).finished some)))

    -- A response cuts nothing off: no job finishes before its arrival.
    pub season_since : (v : ℕ) (w : Response k (runs_of s) v) → arrival w.run.jobs w.job ≤ w.instant
    unfolding standing_said
    season_since v w =
        finished_since tasks w.run (each_accepted tasks w.its_run fitting.each) w.job w.instant w.listed (standing_said_law _ (Finished w.instant) w.its_standing)

-- ## The mean

-- There is none without a finished job. Else it is a quotient, a remainder and the count, of which the sum is quotient times count plus
-- remainder, with the remainder below the count.
pub mean_none : (r : Row) → r.finished ≡ 0 → mean_said (mean_of r) ≡ 0 ∷ []
unfolding mean_of mean_said
mean_none r e = rw (le-ltb 0 r.finished (omega arith))

pub record Divided (r : Row) (quotient remainder : ℕ) : Type 0 where
  pub said : mean_said (mean_of r) ≡ quotient ∷ remainder ∷ r.finished ∷ []
  pub whole : quotient * r.finished + remainder ≡ r.sum
  pub below : remainder < r.finished

pub mean_divides : (r : Row) → 0 < r.finished → Divided r (r.sum / r.finished) (r.sum % r.finished)
unfolding mean_of mean_said
mean_divides r some =
    record { said = rw (lt-ltb 0 r.finished some); whole = div-add-mod' r.sum r.finished; below = mod-lt r.sum some }

-- ## Least and greatest

-- There are none exactly where no job of the row finished; else they are the row's two numbers.
pub extremes_none : (r : Row) → extremes_said (extremes_of r) ≡ 0 ∷ [] ↔ r.finished ≡ 0
unfolding extremes_of extremes_said
extremes_none r = (λ e. by_finished (ltb 0 r.finished) refl e, λ e. rw (le-ltb 0 r.finished (omega arith)))
  where
    by_finished : (b : Bool) → ltb 0 r.finished ≡ b → extremes_said (cond b (Some (record { least = r.least; greatest = r.greatest })) None) ≡ 0 ∷ [] → r.finished ≡ 0
    by_finished true h e = apart (cc)
    by_finished false h e = omega (arith, ltb-false 0 r.finished h)

pub extremes_are : (r : Row) → 0 < r.finished → extremes_said (extremes_of r) ≡ r.least ∷ r.greatest ∷ []
unfolding extremes_of extremes_said
extremes_are r some = rw (lt-ltb 0 r.finished some)
