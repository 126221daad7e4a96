-- The promises of the index, for every input. Read this file first.
--
-- `g` is what all calls are given beside the schedule: the task table, the job list, the horizon. `build_answer`, `between_answer` and
-- `replace_answer` are what the calls answer, `build_index`, `replace_schedule` and `replace_index` what the lent lists hold afterwards:
-- together they are the whole contracts. `check_given` is what every call checks first, refusals 2 to 10. `entries_between a b schedule` are
-- the entries from tick a up to tick b, and `ticks g.lists c entries` counts afresh how many of them are given to task c, or to idle where c is the task count.
-- `Indexes g schedule index` says that the index is the schedule's: in each row the ticks before its multiple of 64, so counted. What 16 asks
-- for beside lengths and numbers of tasks is `Formed` of a question and `Replaceable`, with `Stays`, of a replacement (proofs/Laws/Answers,
-- Changes).
use Prim.Native.Nat.{ℕ, ◌+◌, ◌-◌, ◌*◌, ◌/◌, ◌<◌, ◌≤◌}
use mathlib.Core.Bool.{false, true}
use mathlib.Core.List.{List, [], ◌∷◌}
use mathlib.Core.Logic.{◌↔◌, inl, inr, ◌⊎◌, ⊎_elim}
use mathlib.Core.Path.{ap, refl, sym, ◌∙◌, ◌≡◌}
use native.Mathlib.Omega.{arith}
use lib.Dec.{eqb, ltb}
use lib.ListN.{get_or, length, length-set, set, take}
use borrow.Author.Tests.{eq-eqb, eqb-true, lt-ltb, ltb-true}
use Rattle.bits.proofs.Laws.Bools.{clash, or_cases, or_left, or_right}
use Rattle.std.specs.Prelude.{Result, Ok, Err}
use Rattle.tables.specs.declared.answers.Refusal.{Refusal}
use Rattle.tables.specs.Outcomes.{Outcome, Done, Refused}
use Rattle.tables.specs.Said.{done, outcome_said, refused}
use Rattle.tables.specs.Tables.{idle, job_count, task_count}
use Rattle.tables.proofs.Laws.Said.{said_done, said_refused}
use Rattle.index.specs.Answers.{Beside, Replacement, after, between_answer, build_answer, build_index, check_asked, moved, replace_answer, replace_index, replace_one, replace_schedule}
use Rattle.index.specs.Counts.{Plan, all_jobs_or_idle, column, job_or_idle, entries_between, ticks}
use Rattle.index.specs.Refusals.{built_from, check_given, count_at, since}
use Rattle.index.specs.Rows.{Indexes, index_number, row_count, row_width}
use Rattle.index.specs.Said.{counted, count_said}
use Rattle.index.proofs.Laws.Answers as answers
use Rattle.index.proofs.Laws.Answers.{Replaceable, Formed}
use Rattle.index.proofs.Laws.Changes.{moved_before, moved_new, moved_old, moved_other, moving_same}
use Rattle.index.proofs.Laws.Counts.{jobs_or_idle_each, jobs_or_idle_between, jobs_or_idle_set, length_between}
use Rattle.index.proofs.Laws.Indexes.{count_between, indexes_at, indexes_length, replaced, replaced_fits}
use Rattle.index.proofs.Laws.Refusals.{given_checked, given_whole}
use Rattle.index.proofs.Laws.Rows.{row_by_row_at}
use Rattle.index.proofs.Laws.Said.{count_said_law}

-- the lists, the horizon and the schedule's length are accepted
abbrev pub Accepted : Plan → List ℕ → Type 0
Accepted g schedule = outcome_said (check_given g (length schedule)) ≡ done

-- an index has a row for each multiple of 64 from 0 to the horizon, and in it a number for each task and one for idle
abbrev pub Long : Plan → List ℕ → Type 0
Long g index = length index ≡ row_count g.horizon * row_width g.lists.tasks

counts : (o : Result ℕ Refusal) (n : ℕ) → o ≡ Ok n → count_said o ≡ counted n
unfolding count_said
counts o n e = ap count_said e

counts_refused : (o : Result ℕ Refusal) (number place : ℕ) → o ≡ Refused number place → count_said o ≡ refused number place
unfolding count_said
counts_refused o number place e = ap count_said e

is_counted : (o : Result ℕ Refusal) (n : ℕ) → count_said o ≡ counted n → o ≡ Ok n
unfolding count_said
is_counted o n e = count_said_law o (Ok n) e

-- ## What an entry is

-- An entry is known exactly where it is a job of the list or idle.
pub job_or_idle_exactly : (jobs : List ℕ) (entry : ℕ) → job_or_idle jobs entry ≡ true ↔ (entry < job_count jobs) ⊎ (entry ≡ idle)
unfolding job_or_idle
job_or_idle_exactly jobs entry = (
  λ is. ⊎_elim (λ e. inl (ltb-true entry (job_count jobs) e)) (λ e. inr (eqb-true entry idle e)) (or_cases (ltb entry (job_count jobs)) (eqb entry idle) is),
  ⊎_elim (λ l. or_left (eqb entry idle) (lt-ltb entry (job_count jobs) l)) (λ e. or_right (ltb entry (job_count jobs)) (eq-eqb entry idle e)),
)

module _ (g : Plan) (schedule index : List ℕ) where
  -- ## What all calls refuse first

  -- Refusals 2 to 10 of the lists, the horizon and the schedule come first, in all three calls.
  pub given_first : (number place : ℕ) → outcome_said (check_given g (length schedule)) ≡ refused number place
      → (outcome_said (build_answer g schedule index) ≡ refused number place)
      × ((task a b : ℕ) → count_said (between_answer g schedule index task a b) ≡ refused number place)
      × ((tick entry : ℕ) → outcome_said (replace_answer g schedule index tick entry) ≡ refused number place)
  given_first number place says =
      let e = (said_refused (check_given g (length schedule)) number place).0 says in (
        (said_refused _ number place).1 (answers.build_first g schedule index number place e),
        λ task a b. counts_refused _ number place (answers.between_refused g schedule index task a b number place (answers.asked_first g schedule index number place e task a b)),
        λ tick entry. (said_refused _ number place).1 (answers.replace_unplaced g schedule index tick entry number place (answers.placed_first g schedule index number place e tick)),
      )

  -- ## build

  -- It is done exactly where the index is as long as its rows, and every entry before the last row's multiple is a job or idle ..
  pub build_done : outcome_said (build_answer g schedule index) ≡ done ↔ Accepted g schedule × Long g index × (all_jobs_or_idle g.lists.jobs (built_from g.horizon schedule) ≡ true)
  build_done = (
    λ says. let ok = (said_done (build_answer g schedule index)).0 says in
        ((said_done _).1 (answers.build_given g schedule index ok), answers.build_long g schedule index ok, answers.build_jobs_or_idle g schedule index ok),
    λ w. (said_done _).1 (answers.build_done g schedule index ((said_done _).0 w.0) w.1 w.2),
  )

  -- .. else it is refused with 16, place 0.
  pub build_sixteen : Accepted g schedule → (Long g index → all_jobs_or_idle g.lists.jobs (built_from g.horizon schedule) ≡ true → ⊥) → outcome_said (build_answer g schedule index) ≡ refused 16 0
  build_sixteen ok never = (said_refused _ 16 0).1 (answers.build_sixteen g schedule index ((said_done _).0 ok) never)

  -- Done, the index is the schedule's.
  pub built : outcome_said (build_answer g schedule index) ≡ done → Indexes g schedule (build_index g schedule index)
  unfolding Indexes
  built says = answers.build_writes g schedule index ((said_done _).0 says)

  -- Refused, it holds what it held.
  pub build_keeps : (number place : ℕ) → outcome_said (build_answer g schedule index) ≡ refused number place → build_index g schedule index ≡ index
  build_keeps number place says = answers.build_keeps g schedule index number place ((said_refused _ number place).0 says)

  -- In a schedule's index each number is the ticks before its row's multiple given to that task or, last, idle.
  pub row_says : Indexes g schedule index → (r c : ℕ) → r < row_count g.horizon → c ≤ task_count g.lists.tasks
      → index_number g.lists.tasks index r c ≡ ticks g.lists c (take (r * 64) schedule)
  row_says is r c l m = indexes_at g schedule index is r c l m

  -- ## between, for any index

  module _ (task a b : ℕ) where
    -- what is asked for is in range
    pub record Asked : Type 0 where
      pub accepted : Accepted g schedule
      pub in_order : a ≤ b
      pub within : b ≤ g.horizon
      pub long : Long g index
      pub named : task ≤ task_count g.lists.tasks

    asked : Asked → check_asked g (length schedule) (length index) task a b ≡ Done
    asked w = answers.asked_done g (length schedule) (length index) task a b ((said_done _).0 w.accepted) w.in_order w.within w.long w.named

    -- A count is answered exactly where what is asked for is in range, and what is formed of the index and the entries read is (`Formed`); it
    -- is each end's count, the first taken from the second, each the number of the last row at or before it plus the entries since.
    pub between_done : (n : ℕ) → count_said (between_answer g schedule index task a b) ≡ counted n
        ↔ Asked × Formed g schedule index task a b × (n ≡ count_at g schedule index task b - count_at g schedule index task a)
    between_done n = (there, λ w. counts _ n (answers.between_done g schedule index task a b (asked w.0) w.1 ∙ ap (λ (n : ℕ). Ok n) (sym w.2)))
      where
        there : count_said (between_answer g schedule index task a b) ≡ counted n → Asked × Formed g schedule index task a b × (n ≡ count_at g schedule index task b - count_at g schedule index task a)
        there says =
            let w = answers.between_counted g schedule index task a b n (is_counted _ n says) in
            let ok = answers.between_asked g schedule index task a b w.0 in
            let range = answers.asked_range g (length schedule) (length index) task a b ok in (
              record {
                accepted = (said_done _).1 (answers.asked_given g (length schedule) (length index) task a b ok);
                in_order = range.0;
                within = range.1;
                long = answers.asked_length g (length schedule) (length index) task a b ok;
                named = answers.asked_task g (length schedule) (length index) task a b ok;
              },
              answers.between_formed g schedule index task a b w.0,
              w.1,
            )

    -- No answer is above the horizon.
    pub between_most : (n : ℕ) → count_said (between_answer g schedule index task a b) ≡ counted n → n ≤ g.horizon
    between_most n says = let w = (between_done n).0 says in omega (arith, w.1.second_most, w.2)

    -- 15, place 0, for a > b or b beyond the horizon; it goes before 16 ..
    pub between_fifteen : Accepted g schedule → (a ≤ b → b ≤ g.horizon → ⊥) → count_said (between_answer g schedule index task a b) ≡ refused 15 0
    between_fifteen ok never =
        counts_refused _ 15 0 (answers.between_refused g schedule index task a b 15 0 (answers.asked_fifteen g (length schedule) (length index) task a b ((said_done _).0 ok) never))

    -- .. which is given, with place 0, in every other case.
    pub between_sixteen : Accepted g schedule → a ≤ b → b ≤ g.horizon → (Long g index → task ≤ task_count g.lists.tasks → Formed g schedule index task a b → ⊥)
        → count_said (between_answer g schedule index task a b) ≡ refused 16 0
    between_sixteen ok l m never = counts_refused _ 16 0 (answers.between_sixteen g schedule index task a b ((said_done _).0 ok) l m never)

    -- ## between, for the schedule's own index

    module _ (ok : Accepted g schedule) (l : a ≤ b) (m : b ≤ g.horizon) (named : task ≤ task_count g.lists.tasks) (is : Indexes g schedule index) where
      -- The answer is a fresh count of the entries from a up to b, where those that it reads are jobs or idle: from each end's last multiple
      -- of 64 up to it ..
      pub between_fresh : all_jobs_or_idle g.lists.jobs (since schedule a) ≡ true → all_jobs_or_idle g.lists.jobs (since schedule b) ≡ true
          → count_said (between_answer g schedule index task a b) ≡ counted (ticks g.lists task (entries_between a b schedule))
      between_fresh first second =
          let w = count_between g schedule index is task a b l m named in
          (between_done (ticks g.lists task (entries_between a b schedule))).1 (
            record { accepted = ok; in_order = l; within = m; long = indexes_length g schedule index is; named = named },
            record { first_known = first; second_known = second; first_most = omega arith; second_most = w.2; in_order = w.1 },
            sym w.0,
          )

      -- .. and it is refused with 16 where one of them is neither.
      pub between_unknown : (all_jobs_or_idle g.lists.jobs (since schedule a) ≡ false) ⊎ (all_jobs_or_idle g.lists.jobs (since schedule b) ≡ false)
          → count_said (between_answer g schedule index task a b) ≡ refused 16 0
      between_unknown strange = between_sixteen ok l m (λ _ _ w. ⊎_elim (λ e. clash w.first_known e) (λ e. clash w.second_known e) strange)

  -- ## replace, for any index

  module _ (tick entry : ℕ) where
    -- the columns of the entry that stands there and of the one given
    abbrev pub old : ℕ
    old = column g.lists (get_or schedule tick 0)

    abbrev pub new : ℕ
    new = column g.lists entry

    -- It is done exactly where the tick lies below the horizon, the index is as long as its rows, both entries are jobs or idle and, where
    -- their columns differ, in each row past the tick the old one's number less 1 and the new one's plus 1 lie from 0 to the horizon.
    pub replace_done : outcome_said (replace_answer g schedule index tick entry) ≡ done ↔ Accepted g schedule × (tick < g.horizon) × Long g index × Replaceable g index tick (get_or schedule tick 0) entry
    replace_done = (
      λ says. let ok = (said_done _).0 says in
          let placed = answers.replace_placed g schedule index tick entry ok in (
            (said_done _).1 (answers.placed_given g (length schedule) (length index) tick placed),
            answers.placed_tick g (length schedule) (length index) tick placed,
            (answers.replace_sized g schedule index tick entry ok).indexed,
            answers.change_fits g index tick (get_or schedule tick 0) entry (answers.replace_change g schedule index tick entry ok),
          ),
      λ w. (said_done _).1 (answers.replace_done g schedule index tick entry (answers.placed_done g (length schedule) (length index) tick ((said_done _).0 w.0) w.1 w.2) w.3),
    )

    -- 15, place 0, for a tick not below the horizon; it goes before 16 ..
    pub replace_fifteen : Accepted g schedule → g.horizon ≤ tick → outcome_said (replace_answer g schedule index tick entry) ≡ refused 15 0
    replace_fifteen ok l =
        (said_refused _ 15 0).1 (answers.replace_unplaced g schedule index tick entry 15 0 (answers.placed_fifteen g (length schedule) (length index) tick ((said_done _).0 ok) l))

    -- .. which is given, with place 0, in every other case.
    pub replace_sixteen : Accepted g schedule → tick < g.horizon → (Long g index → Replaceable g index tick (get_or schedule tick 0) entry → ⊥)
        → outcome_said (replace_answer g schedule index tick entry) ≡ refused 16 0
    replace_sixteen ok l never = (said_refused _ 16 0).1 (answers.replace_sixteen g schedule index tick entry ((said_done _).0 ok) l never)

    -- Refused, both lists hold what they held.
    pub replace_keeps : (number place : ℕ) → outcome_said (replace_answer g schedule index tick entry) ≡ refused number place
        → (replace_schedule g schedule index tick entry ≡ schedule) × (replace_index g schedule index tick entry ≡ index)
    replace_keeps number place says =
        let e = (said_refused _ number place).0 says in
        (answers.replace_keeps_schedule g schedule index tick entry number place e, answers.replace_keeps_index g schedule index tick entry number place e)

    module _ (says : outcome_said (replace_answer g schedule index tick entry) ≡ done) where
      ok : replace_answer g schedule index tick entry ≡ Done
      ok = (said_done _).0 says

      -- Done, the schedule has the entry, and is else as it was.
      pub replace_writes : replace_schedule g schedule index tick entry ≡ set schedule tick entry
      replace_writes = answers.replace_schedules g schedule index tick entry ok

      module _ (r c : ℕ) (l : r < row_count g.horizon) (m : c ≤ task_count g.lists.tasks) where
        number : index_number g.lists.tasks (replace_index g schedule index tick entry) r c ≡ moved g.lists.tasks index tick old new r c
        unfolding index_number
        number =
            ap (λ (x : List ℕ). get_or x (r * row_width g.lists.tasks + c) 0) (answers.replace_indexes g schedule index tick entry ok)
            ∙ row_by_row_at (row_width g.lists.tasks) (moved g.lists.tasks index tick old new) (row_count g.horizon) r c l (omega arith)

        -- Rows at or before the tick keep their numbers, and so do other columns.
        pub rows_kept : r * 64 ≤ tick → index_number g.lists.tasks (replace_index g schedule index tick entry) r c ≡ index_number g.lists.tasks index r c
        rows_kept before = number ∙ moved_before g.lists.tasks index tick old new r c before

        pub columns_kept : (c ≡ old → ⊥) → (c ≡ new → ⊥) → index_number g.lists.tasks (replace_index g schedule index tick entry) r c ≡ index_number g.lists.tasks index r c
        columns_kept other another = number ∙ moved_other g.lists.tasks index tick old new r c other another

      -- In each row past the tick the old column loses 1 and the new gains 1 ..
      module _ (apart : old ≡ new → ⊥) (r : ℕ) (l : r < row_count g.horizon) (past : tick < r * 64) where
        within_old : old ≤ task_count g.lists.tasks
        within_old = (answers.replace_checked g schedule index tick entry ok).within (get_or schedule tick 0) (replace_done.0 says).3.old_known

        within_new : new ≤ task_count g.lists.tasks
        within_new = (answers.replace_checked g schedule index tick entry ok).within entry (replace_done.0 says).3.new_known

        pub old_loses : index_number g.lists.tasks (replace_index g schedule index tick entry) r old ≡ index_number g.lists.tasks index r old - 1
        old_loses = number r old l within_old ∙ moved_old g.lists.tasks index tick old new apart r past

        pub new_gains : index_number g.lists.tasks (replace_index g schedule index tick entry) r new ≡ index_number g.lists.tasks index r new + 1
        new_gains = number r new l within_new ∙ moved_new g.lists.tasks index tick old new apart r past

      -- .. and where both are the same column, no row is touched.
      pub same_column : old ≡ new → replace_index g schedule index tick entry ≡ index
      same_column e =
          answers.replace_indexes g schedule index tick entry ok
          ∙ sym (moving_same g.lists.tasks index tick old new (row_count g.horizon) (replace_done.0 says).2 e)

      -- ## replace, for the schedule's own index

      -- It stays the schedule's ..
      pub replace_indexes : Indexes g schedule index → Indexes g (replace_schedule g schedule index tick entry) (replace_index g schedule index tick entry)
      replace_indexes is =
          let w = replace_done.0 says in
          rw (answers.replace_schedules g schedule index tick entry ok, answers.replace_indexes g schedule index tick entry ok)
          (replaced g schedule index tick entry is (answers.replace_tick g schedule index tick entry ok)
          (given_whole g (length schedule) ((said_done _).0 w.0)) (answers.replace_checked g schedule index tick entry ok) w.3.old_known w.3.new_known)

    -- .. and no count stands in the way: a replacement at a tick below the horizon is done where both entries are jobs or idle.
    pub replace_always : Accepted g schedule → Indexes g schedule index → tick < g.horizon → job_or_idle g.lists.jobs (get_or schedule tick 0) ≡ true → job_or_idle g.lists.jobs entry ≡ true
        → outcome_said (replace_answer g schedule index tick entry) ≡ done
    replace_always fine is l stands given =
        let whole = given_whole g (length schedule) ((said_done _).0 fine) in
        replace_done.1
        (fine, l, indexes_length g schedule index is, replaced_fits g schedule index tick entry is (omega arith) whole (given_checked g (length schedule) ((said_done _).0 fine)) stands given)

    -- as long as it was, done or refused
    pub replace_length : length (replace_schedule g schedule index tick entry) ≡ length schedule
    replace_length = go (replace_answer g schedule index tick entry) refl
      where
        go : (o : Outcome) → replace_answer g schedule index tick entry ≡ o → length (replace_schedule g schedule index tick entry) ≡ length schedule
        go Done e = ap length (answers.replace_schedules g schedule index tick entry e) ∙ length-set schedule tick entry
        go (Err w) e = ap length (answers.replace_keeps_schedule g schedule index tick entry w.number w.place e)

-- ## What it costs

-- For an end the definition looks at 63 entries at most, beside one row's number ..
pub few_read : (schedule : List ℕ) (t : ℕ) → length (since schedule t) ≤ 63
unfolding since
few_read schedule t = omega (arith, length_between schedule (t / 64 * 64) t)

-- .. and the rows past a tick, those that a replacement may change, are at most the 64ths of what is left to the horizon, and one more.
pub few_rows : (horizon tick : ℕ) → tick < horizon → row_count horizon - (tick / 64 + 1) ≤ (horizon - tick) / 64 + 1
few_rows horizon tick l = omega arith

-- ## After any replacements, done or refused, one after another

module _ (g : Plan) where
  step_indexes : (s : Beside) (r : Replacement) → Indexes g s.schedule s.index → Indexes g (replace_one g s r).schedule (replace_one g s r).index
  step_indexes s r is = go (replace_answer g s.schedule s.index r.tick r.entry) refl
    where
      go : (o : Outcome) → replace_answer g s.schedule s.index r.tick r.entry ≡ o → Indexes g (replace_one g s r).schedule (replace_one g s r).index
      go Done e = replace_indexes g s.schedule s.index r.tick r.entry ((said_done _).1 e) is
      go (Err w) e =
          let same = replace_keeps g s.schedule s.index r.tick r.entry w.number w.place ((said_refused _ w.number w.place).1 e) in
          rw (same.0, same.1) is

  -- The index is still the schedule's, which is as long as it was.
  pub after_indexes : (s : Beside) (rs : List Replacement) → Indexes g s.schedule s.index → Indexes g (after g s rs).schedule (after g s rs).index
  unfolding after
  after_indexes s [] is = is
  after_indexes s (r ∷ rs) is = after_indexes (replace_one g s r) rs (step_indexes s r is)

  pub after_length : (s : Beside) (rs : List Replacement) → length (after g s rs).schedule ≡ length s.schedule
  unfolding after
  after_length s [] = refl
  after_length s (r ∷ rs) = after_length (replace_one g s r) rs ∙ replace_length g s.schedule s.index r.tick r.entry

  -- Where every entry was a job or idle, every entry is.
  pub after_jobs_or_idle : (s : Beside) (rs : List Replacement) → all_jobs_or_idle g.lists.jobs s.schedule ≡ true → all_jobs_or_idle g.lists.jobs (after g s rs).schedule ≡ true
  unfolding after
  after_jobs_or_idle s [] all = all
  after_jobs_or_idle s (r ∷ rs) all = after_jobs_or_idle (replace_one g s r) rs (go (replace_answer g s.schedule s.index r.tick r.entry) refl)
    where
      go : (o : Outcome) → replace_answer g s.schedule s.index r.tick r.entry ≡ o → all_jobs_or_idle g.lists.jobs (replace_schedule g s.schedule s.index r.tick r.entry) ≡ true
      go Done e =
          let w = (replace_done g s.schedule s.index r.tick r.entry).0 ((said_done _).1 e) in
          rw (replace_writes g s.schedule s.index r.tick r.entry ((said_done _).1 e)) (jobs_or_idle_set g.lists.jobs s.schedule r.tick r.entry all w.3.new_known)
      go (Err w) e = rw (replace_keeps g s.schedule s.index r.tick r.entry w.number w.place ((said_refused _ w.number w.place).1 e)).0 all

  accepted_after : (s : Beside) (rs : List Replacement) → Accepted g s.schedule → Accepted g (after g s rs).schedule
  accepted_after s rs ok = ap (λ (n : ℕ). outcome_said (check_given g n)) (after_length s rs) ∙ ok

  module _ (s : Beside) (rs : List Replacement) (ok : Accepted g s.schedule) (is : Indexes g s.schedule s.index) (task a b : ℕ)
      (l : a ≤ b) (m : b ≤ g.horizon) (named : task ≤ task_count g.lists.tasks) where
    -- The answer equals a fresh count of the schedule as it then is, where the entries that it reads are jobs or idle ..
    pub after_fresh : all_jobs_or_idle g.lists.jobs (since (after g s rs).schedule a) ≡ true → all_jobs_or_idle g.lists.jobs (since (after g s rs).schedule b) ≡ true
        → count_said (between_answer g (after g s rs).schedule (after g s rs).index task a b) ≡ counted (ticks g.lists task (entries_between a b (after g s rs).schedule))
    after_fresh first second =
        between_fresh g (after g s rs).schedule (after g s rs).index task a b (accepted_after s rs ok) l m named (after_indexes s rs is) first second

    -- .. and so, for every range and task, where every entry of the schedule was so at first.
    pub after_always : all_jobs_or_idle g.lists.jobs s.schedule ≡ true
        → count_said (between_answer g (after g s rs).schedule (after g s rs).index task a b) ≡ counted (ticks g.lists task (entries_between a b (after g s rs).schedule))
    unfolding since
    after_always all =
        let now = after_jobs_or_idle s rs all in
        after_fresh (jobs_or_idle_between g.lists.jobs (after g s rs).schedule _ a now) (jobs_or_idle_between g.lists.jobs (after g s rs).schedule _ b now)

  -- the entries simply put in, one after another
  unfoldable pub written : List ℕ → List Replacement → List ℕ
  written schedule [] = schedule
  written schedule (r ∷ rs) = written (set schedule r.tick r.entry) rs

  -- every tick lies below the horizon, and every entry is a job or idle
  abbrev pub InRange : List Replacement → Type 0
  InRange [] = Unit {0}
  InRange (r ∷ rs) = ((r.tick < g.horizon) × (job_or_idle g.lists.jobs r.entry ≡ true)) × InRange rs

  -- Of such replacements in a schedule all of whose entries are jobs or idle none is refused: the schedule is then the one with the entries
  -- simply put in.
  pub after_written : (s : Beside) (rs : List Replacement) → Accepted g s.schedule → Indexes g s.schedule s.index → all_jobs_or_idle g.lists.jobs s.schedule ≡ true → InRange rs
      → (after g s rs).schedule ≡ written s.schedule rs
  unfolding after written
  after_written s [] ok is all w = refl
  after_written s (r ∷ rs) ok is all w =
      let tick = r.tick in
      let whole = given_whole g (length s.schedule) ((said_done _).0 ok) in
      let below = w.0.0 in
      let says = replace_always g s.schedule s.index tick r.entry ok is below (jobs_or_idle_each g.lists.jobs s.schedule tick all (omega arith)) w.0.1 in
      let puts = replace_writes g s.schedule s.index tick r.entry says in
      after_written (replace_one g s r) rs
      (ap (λ (n : ℕ). outcome_said (check_given g n)) (replace_length g s.schedule s.index tick r.entry) ∙ ok)
      (step_indexes s r is)
      (rw puts (jobs_or_idle_set g.lists.jobs s.schedule tick r.entry all w.0.1))
      w.1
      ∙ ap (λ (x : List ℕ). written x rs) puts

  -- From building on: whatever was replaced since, the answer is a fresh count.
  pub built_then_replaced : (schedule index : List ℕ) (rs : List Replacement) → outcome_said (build_answer g schedule index) ≡ done → all_jobs_or_idle g.lists.jobs schedule ≡ true
      → (task a b : ℕ) → a ≤ b → b ≤ g.horizon → task ≤ task_count g.lists.tasks
      → let now = after g (record { schedule = schedule; index = build_index g schedule index }) rs in
      count_said (between_answer g now.schedule now.index task a b) ≡ counted (ticks g.lists task (entries_between a b now.schedule))
  built_then_replaced schedule index rs says all task a b l m named =
      after_always (record { schedule = schedule; index = build_index g schedule index }) rs ((build_done g schedule index).0 says).0 (built g schedule index says) task a b l m named all
