-- Laws of the three answers: what the checks found decides them, and what they leave where nothing is refused.
use Prim.Native.Nat.{ℕ, ◌+◌, ◌-◌, ◌*◌, ◌/◌, ◌<◌, ◌≤◌}
use mathlib.Core.Bool.{Bool, cond, false, not, true, ◌||◌}
use mathlib.Core.List.{List}
use mathlib.Core.Path.{ap, refl, sym, ◌∙◌, ◌≡◌}
use mathlib.Core.Logic.{◌↔◌}
use native.Mathlib.Omega.{arith}
use lib.Dec.{ltb}
use lib.ListN.{get_or, length, set}
use borrow.Author.Tests.{eq-eqb, le-ltb, lt-ltb, ltb-false, ltb-true, not-false}
use Rattle.std.specs.Prelude.{Some, None, Result, Ok, Err, IsErrAnd}
use Rattle.bits.proofs.Laws.Bools.{clash, failed}
use Rattle.tables.specs.declared.answers.Refusal.{Refusal}
use Rattle.tables.specs.Outcomes.{Outcome, Done, Refused}
use Rattle.tables.specs.Refusals.{before, refuse, unless}
use Rattle.tables.specs.Tables.{task_count}
use Rattle.tables.proofs.Laws.Refusals.{before_first, before_second, refuse_fine, unless_done, unless_refused}
use Rattle.tables.proofs.Laws.Refusals.{before_passes, before_stops, only_before, only_done, only_exactly, only_refuse, given_by, stops_answer}
use Rattle.tables.proofs.Readings.{refuse_done}
use Rattle.index.specs.Answers.{between_answer, build_answer, build_index, check_asked, check_between, check_change, check_placed, moved, replace_answer, replace_index, replace_schedule}
use Rattle.index.specs.Code.{Checked, Sized, difference, tally_from}
use Rattle.index.specs.Counts.{Plan, all_jobs_or_idle, column, job_or_idle}
use Rattle.index.specs.Refusals.{built_from, check_built, check_ends, check_entries, check_given, check_length, check_range, check_task, check_tick, count_at, since, strays}
use Rattle.index.specs.Rows.{index_of, index_number, row_count, row_by_row, row_width}
use Rattle.index.proofs.Laws.Changes.{Stays, strays_fine, strays_never}
use Rattle.index.proofs.Laws.Refusals.{given_checked, given_short, given_whole, length_fine, sized}
use Rattle.index.proofs.Laws.Rows.{place_within}

-- ## build

module _ (g : Plan) (schedule index : List ℕ) where
  module _ (ok : build_answer g schedule index ≡ Done) where
    pub build_given : check_given g (length schedule) ≡ Done
    unfolding build_answer
    build_given = before_first (check_given g (length schedule)) _ ok

    pub build_length : check_length g.lists.tasks g.horizon (length index) ≡ Done
    unfolding build_answer
    build_length = before_first (check_length g.lists.tasks g.horizon (length index)) _ (before_second (check_given g (length schedule)) _ ok)

    pub build_long : length index ≡ row_count g.horizon * row_width g.lists.tasks
    build_long = length_fine g.lists.tasks g.horizon (length index) build_length

    pub build_jobs_or_idle : all_jobs_or_idle g.lists.jobs (built_from g.horizon schedule) ≡ true
    unfolding build_answer check_built
    build_jobs_or_idle =
        not-false _ (refuse_fine _ 16 0 (before_second (check_length g.lists.tasks g.horizon (length index)) _ (before_second (check_given g (length schedule)) _ ok)))

    pub build_writes : build_index g schedule index ≡ index_of g schedule
    unfolding build_index
    build_writes = unless_done _ _ (build_answer g schedule index) ok

  pub build_done : check_given g (length schedule) ≡ Done → length index ≡ row_count g.horizon * row_width g.lists.tasks
      → all_jobs_or_idle g.lists.jobs (built_from g.horizon schedule) ≡ true
      → build_answer g schedule index ≡ Done
  unfolding build_answer check_length check_built refuse before
  build_done ok long known = rw (ok, eq-eqb (length index) (row_count g.horizon * row_width g.lists.tasks) long, known)

  pub build_sixteen : check_given g (length schedule) ≡ Done
      → (length index ≡ row_count g.horizon * row_width g.lists.tasks → all_jobs_or_idle g.lists.jobs (built_from g.horizon schedule) ≡ true → ⊥)
      → build_answer g schedule index ≡ Refused 16 0
  unfolding build_answer check_length check_built
  build_sixteen ok never =
      only_before 16 0 (check_given g (length schedule)) _ (only_done 16 0 _ ok) (only_before 16 0 _ _ (only_refuse _ 16 0) (only_refuse _ 16 0))
      (λ fine. never (build_long fine) (build_jobs_or_idle fine))

  pub build_keeps : (number place : ℕ) → build_answer g schedule index ≡ Refused number place → build_index g schedule index ≡ index
  unfolding build_index
  build_keeps number place e = unless_refused _ _ (build_answer g schedule index) number place e

-- what is refused of the lists, the horizon and the schedule is refused first
module _ (g : Plan) (schedule index : List ℕ) (number place : ℕ) (e : check_given g (length schedule) ≡ Refused number place) where
  pub build_first : build_answer g schedule index ≡ Refused number place
  unfolding build_answer
  build_first = before_stops _ _ number place e

  pub asked_first : (task a b : ℕ) → check_asked g (length schedule) (length index) task a b ≡ Refused number place
  unfolding check_asked
  asked_first task a b = before_stops _ _ number place e

  pub placed_first : (tick : ℕ) → check_placed g (length schedule) (length index) tick ≡ Refused number place
  unfolding check_placed
  placed_first tick = before_stops _ _ number place e

-- ## between

range_exactly : (horizon a b : ℕ) → check_range horizon a b ≡ Done ↔ (a ≤ b) × (b ≤ horizon)
unfolding check_range refuse
range_exactly horizon a b = (
  λ ok. let tests = refuse_fine (ltb b a || ltb horizon b) 15 0 ok in (ltb-false b a (search failed), ltb-false horizon b (search failed)),
  λ w. rw (le-ltb b a w.0, le-ltb horizon b w.1),
)

module _ (g : Plan) (entries numbers task a b : ℕ) (ok : check_asked g entries numbers task a b ≡ Done) where
  pub asked_given : check_given g entries ≡ Done
  unfolding check_asked
  asked_given = before_first (check_given g entries) _ ok

  later : before (check_range g.horizon a b) (before (check_length g.lists.tasks g.horizon numbers) (check_task g.lists.tasks task)) ≡ Done
  unfolding check_asked
  later = before_second (check_given g entries) _ ok

  pub asked_range : (a ≤ b) × (b ≤ g.horizon)
  asked_range = (range_exactly g.horizon a b).0 (before_first (check_range g.horizon a b) _ later)

  pub asked_length : numbers ≡ row_count g.horizon * row_width g.lists.tasks
  asked_length =
      length_fine g.lists.tasks g.horizon numbers
      (before_first (check_length g.lists.tasks g.horizon numbers) _ (before_second (check_range g.horizon a b) _ later))

  pub asked_task : task ≤ task_count g.lists.tasks
  unfolding check_task
  asked_task =
      ltb-false (task_count g.lists.tasks) task
      (refuse_fine _ 16 0 (before_second (check_length g.lists.tasks g.horizon numbers) _ (before_second (check_range g.horizon a b) _ later)))

-- and the other way round
module _ (g : Plan) (entries numbers task a b : ℕ) (ok : check_given g entries ≡ Done) where
  pub asked_done : a ≤ b → b ≤ g.horizon → numbers ≡ row_count g.horizon * row_width g.lists.tasks → task ≤ task_count g.lists.tasks → check_asked g entries numbers task a b ≡ Done
  unfolding check_asked check_range check_length check_task refuse before
  asked_done l m long few =
      rw (ok, le-ltb b a l, le-ltb g.horizon b m, eq-eqb numbers (row_count g.horizon * row_width g.lists.tasks) long, le-ltb (task_count g.lists.tasks) task few)

  pub asked_fifteen : (a ≤ b → b ≤ g.horizon → ⊥) → check_asked g entries numbers task a b ≡ Refused 15 0
  unfolding check_asked check_range
  asked_fifteen never =
      before_passes _ _ ok ∙ before_stops _ _ 15 0 ((only_exactly 15 0 _ (only_refuse _ 15 0) (range_exactly g.horizon a b)).1 (λ w. never w.0 w.1))

-- an end is within the schedule and the index
pub asked_end : (g : Plan) (schedule index : List ℕ) (task a b : ℕ) → check_asked g (length schedule) (length index) task a b ≡ Done → (t : ℕ) → t ≤ b
    → ((task_count g.lists.tasks ≤ 16) × (t / 64 ≤ 257))
    × (((t / 64 * 64 ≤ t) × (t ≤ length schedule) × (length schedule ≤ 16384)) × (t / 64 * row_width g.lists.tasks + task < length index))
asked_end g schedule index task a b ok t m =
    let given = asked_given g (length schedule) (length index) task a b ok in
    let range = asked_range g (length schedule) (length index) task a b ok in
    let whole = given_whole g (length schedule) given in
    let short = given_short g (length schedule) given in
    let known = asked_task g (length schedule) (length index) task a b ok in
    let long = asked_length g (length schedule) (length index) task a b ok in
    let place = place_within (row_width g.lists.tasks) (row_count g.horizon) (t / 64) task (omega arith) (omega arith) in
    (((given_checked g (length schedule) given).few, omega arith), ((omega arith, omega arith, omega arith), omega arith))

or_true : (b : Bool) {c : Bool} → c ≡ true → (b || c) ≡ true
or_true true e = refl
or_true false e = e

-- a second count above the horizon, or below the first
module _ (horizon first second : ℕ) where
  either : (a b c : Bool) → (b || c) ≡ true → unless (refuse (a || b || c) 16 0) Refused (Ok (second - first)) ≡ Refused 16 0
  unfolding refuse unless
  either true b c e = refl
  either false true c e = refl
  either false false true e = refl
  either false false false e = clash e refl

  pub above_refused : horizon < second → Refused 16 0 ≡ difference horizon (Some first) (Some second)
  unfolding difference
  above_refused l = sym (either (ltb horizon first) (ltb horizon second) (ltb second first) (rw (lt-ltb horizon second l)))

  pub below_refused : second < first → Refused 16 0 ≡ difference horizon (Some first) (Some second)
  unfolding difference
  below_refused l = sym (either (ltb horizon first) (ltb horizon second) (ltb second first) (or_true (ltb horizon second) (lt-ltb second first l)))

-- the first two tests, where nothing is read that is neither job nor idle
pub difference_of : (horizon first second : ℕ) → (known also : Bool)
    → difference horizon (cond known (Some first) None) (cond also (Some second) None)
    ≡ unless (refuse (not known || not also || ltb horizon first || ltb horizon second || ltb second first) 16 0) Refused (Ok (second - first))
unfolding difference refuse unless
difference_of horizon first second true true = refl
difference_of horizon first second true false = refl
difference_of horizon first second false also = refl

module _ (g : Plan) (schedule index : List ℕ) (task a b : ℕ) where
  -- The entries read for both ends are jobs or idle, and each count formed lies from 0 to the horizon.
  pub record Formed : Type 0 where
    pub first_known : all_jobs_or_idle g.lists.jobs (since schedule a) ≡ true
    pub second_known : all_jobs_or_idle g.lists.jobs (since schedule b) ≡ true
    pub first_most : count_at g schedule index task a ≤ g.horizon
    pub second_most : count_at g schedule index task b ≤ g.horizon
    pub in_order : count_at g schedule index task a ≤ count_at g schedule index task b

  pub ends_done : Formed → check_ends g schedule index task a b ≡ Done
  unfolding check_ends refuse
  ends_done w =
      rw (
        w.first_known,
        w.second_known,
        le-ltb g.horizon (count_at g schedule index task a) w.first_most,
        le-ltb g.horizon (count_at g schedule index task b) w.second_most,
        le-ltb (count_at g schedule index task b) (count_at g schedule index task a) w.in_order,
      )

  pub ends_formed : check_ends g schedule index task a b ≡ Done → Formed
  unfolding check_ends
  ends_formed ok =
      let tests = refuse_fine _ 16 0 ok in
      record {
        first_known = not-false _ (search failed depth 7);
        second_known = not-false _ (search failed depth 7);
        first_most = ltb-false g.horizon (count_at g schedule index task a) (search failed depth 7);
        second_most = ltb-false g.horizon (count_at g schedule index task b) (search failed depth 7);
        in_order = ltb-false (count_at g schedule index task b) (count_at g schedule index task a) (search failed depth 7);
      }

  -- the code's tests of both ends are those of the definition
  pub between_ends : check_asked g (length schedule) (length index) task a b ≡ Done
      → difference g.horizon (tally_from g.lists schedule index task (a / 64) a) (tally_from g.lists schedule index task (b / 64) b) ≡ between_answer g schedule index task a b
  unfolding between_answer check_between check_ends count_at since tally_from
  between_ends ok =
      difference_of g.horizon (count_at g schedule index task a) (count_at g schedule index task b) (all_jobs_or_idle g.lists.jobs (since schedule a)) (all_jobs_or_idle g.lists.jobs (since schedule b))
      ∙ sym (ap (λ (o : Outcome). unless o Refused (Ok (count_at g schedule index task b - count_at g schedule index task a))) (before_passes _ _ ok))

  -- what an answered count says
  pub between_counted : (n : ℕ) → between_answer g schedule index task a b ≡ Ok n
      → (check_between g schedule index task a b ≡ Done) × (n ≡ count_at g schedule index task b - count_at g schedule index task a)
  unfolding between_answer
  between_counted n says =
      let w = (given_by (count_at g schedule index task b - count_at g schedule index task a) (check_between g schedule index task a b) n).0 says in
      (w.0, sym w.1)

  pub between_done : check_asked g (length schedule) (length index) task a b ≡ Done → Formed
      → between_answer g schedule index task a b ≡ Ok (count_at g schedule index task b - count_at g schedule index task a)
  unfolding between_answer check_between
  between_done ok w = unless_done _ _ _ (before_passes _ _ ok ∙ ends_done w)

  pub between_asked : check_between g schedule index task a b ≡ Done → check_asked g (length schedule) (length index) task a b ≡ Done
  unfolding check_between
  between_asked ok = before_first (check_asked g (length schedule) (length index) task a b) _ ok

  pub between_formed : check_between g schedule index task a b ≡ Done → Formed
  unfolding check_between
  between_formed ok = ends_formed (before_second (check_asked g (length schedule) (length index) task a b) _ ok)

  pub between_sixteen : check_given g (length schedule) ≡ Done → a ≤ b → b ≤ g.horizon
      → (length index ≡ row_count g.horizon * row_width g.lists.tasks → task ≤ task_count g.lists.tasks → Formed → ⊥) → between_answer g schedule index task a b ≡ Refused 16 0
  unfolding between_answer check_between check_asked check_length check_task check_ends
  between_sixteen ok l m never =
      unless_refused _ _ _ 16 0
      (only_before 16 0 _ _
      (only_before 16 0 _ _ (only_done 16 0 _ ok)
      (only_before 16 0 _ _ (only_done 16 0 _ ((range_exactly g.horizon a b).1 (l, m))) (only_before 16 0 _ _ (only_refuse _ 16 0) (only_refuse _ 16 0))))
      (only_refuse _ 16 0)
      (λ fine. let asked = between_asked fine in
      never (asked_length g _ _ task a b asked) (asked_task g _ _ task a b asked) (between_formed fine)))

  pub between_refused : (number place : ℕ) → check_asked g (length schedule) (length index) task a b ≡ Refused number place → between_answer g schedule index task a b ≡ Refused number place
  unfolding between_answer check_between
  between_refused number place e = unless_refused _ _ _ number place (before_stops _ _ number place e)

  -- by `?`, what is handed back is that refusal itself
  pub between_stops : {o : Outcome} {r : Result ℕ Refusal} {w : Refusal} → o ≡ check_asked g (length schedule) (length index) task a b → o ≡ Err w → IsErrAnd r (λ x. x ≡ w)
      → r ≡ between_answer g schedule index task a b
  unfolding between_answer check_between
  between_stops {w = w} e q h = stops_answer _ (check_between g schedule index task a b) (sym (before_stops _ _ w.number w.place (sym e ∙ q))) refl h

-- ## replace

module _ (g : Plan) (entries numbers tick : ℕ) (ok : check_placed g entries numbers tick ≡ Done) where
  pub placed_given : check_given g entries ≡ Done
  unfolding check_placed
  placed_given = before_first (check_given g entries) _ ok

  pub placed_tick : tick < g.horizon
  unfolding check_placed check_tick
  placed_tick =
      ltb-true tick g.horizon
      (not-false _ (refuse_fine _ 15 0 (before_first (check_tick g.horizon tick) _ (before_second (check_given g entries) _ ok))))

  pub placed_length : check_length g.lists.tasks g.horizon numbers ≡ Done
  unfolding check_placed
  placed_length = before_second (check_tick g.horizon tick) _ (before_second (check_given g entries) _ ok)

module _ (g : Plan) (entries numbers tick : ℕ) (ok : check_given g entries ≡ Done) where
  pub placed_done : tick < g.horizon → numbers ≡ row_count g.horizon * row_width g.lists.tasks → check_placed g entries numbers tick ≡ Done
  unfolding check_placed check_tick check_length refuse before
  placed_done l long = rw (ok, lt-ltb tick g.horizon l, eq-eqb numbers (row_count g.horizon * row_width g.lists.tasks) long)

  pub placed_fifteen : g.horizon ≤ tick → check_placed g entries numbers tick ≡ Refused 15 0
  unfolding check_placed check_tick refuse before
  placed_fifteen l = rw (ok, le-ltb tick g.horizon l)

-- Both entries are jobs or idle, and where their columns differ, each changed number of a row past the tick stays within 0 to the horizon.
pub record Replaceable (g : Plan) (index : List ℕ) (tick old entry : ℕ) : Type 0 where
  pub old_known : job_or_idle g.lists.jobs old ≡ true
  pub new_known : job_or_idle g.lists.jobs entry ≡ true
  pub each : (column g.lists old ≡ column g.lists entry → ⊥) → (r : ℕ) → r < row_count g.horizon → tick < r * 64
      → Stays g.horizon (index_number g.lists.tasks index r (column g.lists old)) (index_number g.lists.tasks index r (column g.lists entry))

module _ (g : Plan) (index : List ℕ) (tick old entry : ℕ) where
  pub change_done : Replaceable g index tick old entry → check_change g index tick old entry ≡ Done
  unfolding check_change check_entries refuse before
  change_done w = rw (w.old_known, w.new_known, strays_never g.lists.tasks g.horizon index tick (column g.lists old) (column g.lists entry) w.each)

  pub change_stays : check_change g index tick old entry ≡ Done → strays g.lists.tasks g.horizon index tick (column g.lists old) (column g.lists entry) ≡ false
  unfolding check_change
  change_stays ok = refuse_fine _ 16 0 (before_second (check_entries g.lists.jobs old entry) _ ok)

  pub change_fits : check_change g index tick old entry ≡ Done → Replaceable g index tick old entry
  unfolding check_change check_entries
  change_fits ok =
      let tests = refuse_fine _ 16 0 (before_first (check_entries g.lists.jobs old entry) _ ok) in
      record {
        old_known = not-false _ (search failed);
        new_known = not-false _ (search failed);
        each = λ apart r there past. strays_fine g.lists.tasks g.horizon index tick
            (column g.lists old) (column g.lists entry) apart r there past (change_stays ok);
      }

module _ (g : Plan) (schedule index : List ℕ) (tick entry : ℕ) where
  pub replace_done : check_placed g (length schedule) (length index) tick ≡ Done
      → Replaceable g index tick (get_or schedule tick 0) entry → replace_answer g schedule index tick entry ≡ Done
  unfolding replace_answer
  replace_done ok w = before_passes _ _ ok ∙ change_done g index tick (get_or schedule tick 0) entry w

  pub replace_unplaced : (number place : ℕ) → check_placed g (length schedule) (length index) tick ≡ Refused number place
      → replace_answer g schedule index tick entry ≡ Refused number place
  unfolding replace_answer
  replace_unplaced number place e = before_stops _ _ number place e

  module _ (ok : replace_answer g schedule index tick entry ≡ Done) where
    pub replace_placed : check_placed g (length schedule) (length index) tick ≡ Done
    unfolding replace_answer
    replace_placed = before_first (check_placed g (length schedule) (length index) tick) _ ok

    pub replace_change : check_change g index tick (get_or schedule tick 0) entry ≡ Done
    unfolding replace_answer
    replace_change = before_second (check_placed g (length schedule) (length index) tick) _ ok

    -- the tick is within the schedule
    pub replace_tick : tick < length schedule
    replace_tick =
        let placed = replace_placed in
        omega (arith, placed_tick g (length schedule) (length index) tick placed, given_whole g (length schedule) (placed_given g (length schedule) (length index) tick placed))

    pub replace_checked : Checked g.lists
    replace_checked = given_checked g (length schedule) (placed_given g _ _ tick replace_placed)

    pub replace_sized : Sized g.lists.tasks g.horizon index
    replace_sized = sized g (length schedule) index (placed_given g _ _ tick replace_placed) (placed_length g _ _ tick replace_placed)

    pub replace_schedules : replace_schedule g schedule index tick entry ≡ set schedule tick entry
    unfolding replace_schedule
    replace_schedules = unless_done _ _ (replace_answer g schedule index tick entry) ok

    pub replace_indexes : replace_index g schedule index tick entry
        ≡ row_by_row (row_width g.lists.tasks) (row_count g.horizon) (moved g.lists.tasks index tick (column g.lists (get_or schedule tick 0)) (column g.lists entry))
    unfolding replace_index
    replace_indexes = unless_done _ _ (replace_answer g schedule index tick entry) ok

  pub replace_sixteen : check_given g (length schedule) ≡ Done → tick < g.horizon
      → (length index ≡ row_count g.horizon * row_width g.lists.tasks → Replaceable g index tick (get_or schedule tick 0) entry → ⊥)
      → replace_answer g schedule index tick entry ≡ Refused 16 0
  unfolding replace_answer check_placed check_tick check_length check_change check_entries
  replace_sixteen ok l never =
      only_before 16 0 _ _
      (only_before 16 0 _ _ (only_done 16 0 _ ok) (only_before 16 0 _ _ (only_done 16 0 _ ((refuse_done _ 15 0).1 (ap not (lt-ltb tick g.horizon l)))) (only_refuse _ 16 0)))
      (only_before 16 0 _ _ (only_refuse _ 16 0) (only_refuse _ 16 0))
      (λ fine. never (replace_sized fine).indexed (change_fits g index tick (get_or schedule tick 0) entry (replace_change fine)))

  module _ (number place : ℕ) (e : replace_answer g schedule index tick entry ≡ Refused number place) where
    pub replace_keeps_schedule : replace_schedule g schedule index tick entry ≡ schedule
    unfolding replace_schedule
    replace_keeps_schedule = unless_refused _ _ (replace_answer g schedule index tick entry) number place e

    pub replace_keeps_index : replace_index g schedule index tick entry ≡ index
    unfolding replace_index
    replace_keeps_index = unless_refused _ _ (replace_answer g schedule index tick entry) number place e
