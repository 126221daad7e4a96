-- What the three calls answer, refusals first, in the order of their numbers, and what the caller's lists hold afterwards: where a call is
-- refused, what they held.
use Rattle.std.specs.Prelude.{ℕ, ◌+◌, ◌-◌, ◌*◌, cond, not, ◌&&◌, List, [], ◌∷◌, eqb, ltb, get_or, length, set, Result, Ok}
use Rattle.tables.specs.declared.answers.Refusal.{Refusal}
use Rattle.tables.specs.Outcomes.{Outcome, Refused}
use Rattle.tables.specs.Refusals.{before, refuse, unless}
use Rattle.index.specs.Counts.{Plan, column}
use Rattle.index.specs.Refusals.{check_built, check_ends, check_entries, check_given, check_length, check_range, check_task, check_tick, count_at, strays}
use Rattle.index.specs.Rows.{index_of, index_number, row_count, row_by_row, row_width}

-- ## build

module _ (g : Plan) (schedule index : List ℕ) where
  unfoldable pub build_answer : Outcome
  build_answer =
      before (check_given g (length schedule))
      (before (check_length g.lists.tasks g.horizon (length index)) (check_built g schedule))

  -- The index is written whole.
  unfoldable pub build_index : List ℕ
  build_index = unless build_answer (λ number place. index) (index_of g schedule)

-- ## between

-- what is checked before anything is read of the schedule and the index
unfoldable pub check_asked : Plan → ℕ → ℕ → ℕ → ℕ → ℕ → Outcome
check_asked g entries numbers task a b =
    before (check_given g entries)
    (before (check_range g.horizon a b) (before (check_length g.lists.tasks g.horizon numbers) (check_task g.lists.tasks task)))

module _ (g : Plan) (schedule index : List ℕ) (task a b : ℕ) where
  unfoldable pub check_between : Outcome
  check_between = before (check_asked g (length schedule) (length index) task a b) (check_ends g schedule index task a b)

  -- each end's count, the first taken from the second
  unfoldable pub between_answer : Result ℕ Refusal
  between_answer = unless check_between Refused (Ok (count_at g schedule index task b - count_at g schedule index task a))

-- ## replace

-- In each row past the tick the old column loses 1 and the new gains 1; other columns, and rows at or before the tick, keep their numbers.
-- Where both are the same column no row is touched.
unfoldable pub moved : List ℕ → List ℕ → ℕ → ℕ → ℕ → ℕ → ℕ → ℕ
moved tasks index tick old new r c =
    cond (not (eqb old new) && ltb tick (r * 64))
    (cond (eqb c old) (index_number tasks index r c - 1) (cond (eqb c new) (index_number tasks index r c + 1) (index_number tasks index r c)))
    (index_number tasks index r c)

-- what is checked before anything is read of the schedule and the index
unfoldable pub check_placed : Plan → ℕ → ℕ → ℕ → Outcome
check_placed g entries numbers tick =
    before (check_given g entries) (before (check_tick g.horizon tick) (check_length g.lists.tasks g.horizon numbers))

-- the entries, and then every count before any is written
unfoldable pub check_change : Plan → List ℕ → ℕ → ℕ → ℕ → Outcome
check_change g index tick stands entry =
    before (check_entries g.lists.jobs stands entry)
    (refuse (strays g.lists.tasks g.horizon index tick (column g.lists stands) (column g.lists entry)) 16 0)

module _ (g : Plan) (schedule index : List ℕ) (tick entry : ℕ) where
  -- the entry that stands there
  abbrev pub stands : ℕ
  stands = get_or schedule tick 0

  unfoldable pub replace_answer : Outcome
  replace_answer = before (check_placed g (length schedule) (length index) tick) (check_change g index tick stands entry)

  unfoldable pub replace_schedule : List ℕ
  replace_schedule = unless replace_answer (λ number place. schedule) (set schedule tick entry)

  unfoldable pub replace_index : List ℕ
  replace_index =
      unless replace_answer (λ number place. index)
      (row_by_row (row_width g.lists.tasks) (row_count g.horizon) (moved g.lists.tasks index tick (column g.lists stands) (column g.lists entry)))

-- ## any replacements

pub record Replacement : Type 0 where
  pub tick : ℕ
  pub entry : ℕ

-- a schedule and the index beside it
pub record Beside : Type 0 where
  pub schedule : List ℕ
  pub index : List ℕ

module _ (g : Plan) where
  -- one replacement, done or refused
  abbrev pub replace_one : Beside → Replacement → Beside
  replace_one s r =
      record {
        schedule = replace_schedule g s.schedule s.index r.tick r.entry;
        index = replace_index g s.schedule s.index r.tick r.entry;
      }

  -- one after another
  unfoldable pub after : Beside → List Replacement → Beside
  after s [] = s
  after s (r ∷ rs) = after (replace_one s r) rs
