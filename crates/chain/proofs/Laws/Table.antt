-- Laws of a table's numbers: how a loop lays them in room for more, what they are in the file and without labels, and 2 as the code gives it.
use Prim.Native.Nat.{ℕ, ◌+◌, ◌*◌, ◌/◌, ◌%◌, ◌<◌, ◌≤◌}
use mathlib.Core.Bool.{Bool, false, not, true, ◌||◌}
use mathlib.Core.List.{List}
use mathlib.Core.Path.{ap, refl, sym, ◌∙◌, ◌≡◌}
use native.Mathlib.Omega.{arith}
use lib.Dec.{eqb, ltb}
use lib.ListN.{get_or, get_or-replicate, length, length-replicate, replicate, set, take, get_or-eq_default}
use lib.Seq.{ext_get_or, get_or-take, length-take-le}
use borrow.Author.Tests.{eq-eqb, eqb-true, lt-ltb, ltb-false, ltb-true, not-false}
use Rattle.bits.specs.Below.{list_from}
use Rattle.bits.proofs.Laws.Arrays.{Written, written_all, written_more, written_none}
use Rattle.bits.proofs.Laws.Below.{get_or_list, length_list_from}
use Rattle.bits.proofs.Laws.Bools.{or_left, or_left_false, or_right, or_right_false}
use Rattle.tables.specs.Outcomes.{Done, Refused}
use Rattle.tables.specs.Bytes.{number_at}
use Rattle.tables.specs.Refusals.{before, check2, check_tasks, outside, refuse}
use Rattle.tables.specs.Tables.{task_count}
use Rattle.tables.proofs.Laws.Refusals.{before_first, refuse_fine}
use Rattle.chain.specs.declared.layout.Layout.{Layout}
use Rattle.chain.specs.declared.layout.Layout.TheVariants.{One, Two}
use Rattle.chain.specs.Layout.{width}
use Rattle.chain.specs.Table.{check_table, numbers_from, padded, unlabelled}

-- ## In room for more

module _ (room : ℕ) (list : List ℕ) where
  -- the first i numbers of the list are laid
  pub record Laid (out : List ℕ) (i : ℕ) : Type 0 where
    pub within : i ≤ length list
    pub written : Written 0 (λ k. get_or list k 0) (replicate room 0) out room i

  pub laid_none : Laid (replicate room 0) 0
  laid_none = record { within = omega arith; written = written_none 0 (λ k. get_or list k 0) (replicate room 0) room (length-replicate room 0) }

  pub laid_more : (out : List ℕ) (i v : ℕ) → length list ≤ room → Laid out i → i < length list → v ≡ get_or list i 0 → Laid (set out i v) (i + 1)
  laid_more out i v few w l e =
      record { within = omega arith; written = written_more 0 (λ k. get_or list k 0) (replicate room 0) out room i v w.written (omega arith) e }

  pub laid_all : (out : List ℕ) (i : ℕ) → Laid out i → length list ≤ i → out ≡ padded room list
  unfolding padded
  laid_all out i w all =
      written_all 0 (λ k. get_or list k 0) (replicate room 0) out room i w.written
      (λ k a b. get_or-replicate room k 0 0 b ∙ sym (get_or-eq_default list 0 {n = k} (omega arith)))

  pub length_padded : length (padded room list) ≡ room
  unfolding padded
  length_padded = length_list_from 0 room (λ i. get_or list i 0)

  -- what is laid is the beginning
  pub take_padded : length list ≤ room → take (length list) (padded room list) ≡ list
  unfolding padded
  take_padded few =
      let f : ℕ → ℕ = λ i. get_or list i 0 in
      let size : length (take (length list) (list_from 0 room f)) ≡ length list = length-take-le (length list) (list_from 0 room f) (omega (arith, length_list_from 0 room f)) in
      ext_get_or 0 (take (length list) (list_from 0 room f)) list size
      (λ i l. get_or-take (length list) (list_from 0 room f) i 0 (omega arith) ∙ get_or_list room f i 0 (omega arith))

-- ## In the file, and without labels

pub length_numbers : (file : List ℕ) (start n : ℕ) → length (numbers_from file start n) ≡ n
unfolding numbers_from
length_numbers file start n = length_list_from 0 n (λ i. number_at 4 file (start + i * 4))

pub numbers_at : (file : List ℕ) (start n i : ℕ) → i < n → get_or (numbers_from file start n) i 0 ≡ number_at 4 file (start + i * 4)
unfolding numbers_from
numbers_at file start n i h = get_or_list n (λ k. number_at 4 file (start + k * 4)) i 0 h

pub length_unlabelled : (table : List ℕ) → length (unlabelled table) ≡ length table / 8 * 7
unfolding unlabelled
length_unlabelled table = length_list_from 0 (length table / 8 * 7) (λ i. get_or table (i / 7 * 8 + i % 7) 0)

pub unlabelled_at : (table : List ℕ) (i : ℕ) → i < length table / 8 * 7 → get_or (unlabelled table) i 0 ≡ get_or table (i / 7 * 8 + i % 7) 0
unfolding unlabelled
unlabelled_at table i h = get_or_list (length table / 8 * 7) (λ k. get_or table (k / 7 * 8 + k % 7) 0) i 0 h

-- ## 2 to 4

-- over 16 tasks are 2, whatever their fields
many_tasks : (tasks : List ℕ) → 16 < length tasks / 7 → check_tasks tasks ≡ Refused 2 0
unfolding check_tasks check2 outside task_count refuse before
many_tasks tasks h = rw (or_right (not (eqb (length tasks % 7) 0)) (or_right (ltb (length tasks / 7) 1) (lt-ltb 16 (length tasks / 7) h)))

-- and so is none
no_tasks_law : (tasks : List ℕ) → length tasks ≡ 0 → check_tasks tasks ≡ Refused 2 0
unfolding check_tasks check2 outside task_count refuse before
no_tasks_law tasks e = rw (or_right (not (eqb (length tasks % 7) 0)) (or_left (ltb 16 (length tasks / 7)) (lt-ltb (length tasks / 7) 1 (omega arith))))

many_unlabelled : (table : List ℕ) → 16 < length table / 8 → check_tasks (unlabelled table) ≡ Refused 2 0
many_unlabelled table h = many_tasks (unlabelled table) (omega (arith, length_unlabelled table))

-- as the code has it: over 16 tasks are 2 before a number of them is looked at
pub labelled_code : (table : List ℕ) → before (refuse (not (eqb (length table % 8) 0) || ltb 16 (length table / 8)) 2 0) (check_tasks (unlabelled table)) ≡ check_table Two table
unfolding check_table refuse before
labelled_code table = go (not (eqb (length table % 8) 0)) (ltb 16 (length table / 8)) refl
  where
    go : (b many : Bool) → ltb 16 (length table / 8) ≡ many → before (refuse (b || many) 2 0) (check_tasks (unlabelled table)) ≡ before (refuse b 2 0) (check_tasks (unlabelled table))
    go true many e = refl
    go false true e = sym (many_unlabelled table (ltb-true 16 (length table / 8) e))
    go false false e = refl

labelled_passes : (table : List ℕ) → not (eqb (length table % 8) 0) ≡ false → check_tasks (unlabelled table) ≡ check_table Two table
unfolding check_table refuse before
labelled_passes table whole = rw whole

-- a length that is not refused so: whole tasks, few enough to be laid without their labels
module _ (table : List ℕ) (ok : refuse (not (eqb (length table % 8) 0) || ltb 16 (length table / 8)) 2 0 ≡ Done) where
  pub labelled_few : length table / 8 ≤ 16
  labelled_few = ltb-false 16 (length table / 8) (or_right_false (not (eqb (length table % 8) 0)) (ltb 16 (length table / 8)) (refuse_fine _ 2 0 ok))

  pub labelled_checked : (sevens : List ℕ) → sevens ≡ padded 112 (unlabelled table) → check_tasks (take (length table / 8 * 7) sevens) ≡ check_tasks (unlabelled table)
  labelled_checked sevens is =
      let list = unlabelled table in
      ap (λ (l : List ℕ). check_tasks (take (length table / 8 * 7) l)) is
      ∙ ap (λ (n : ℕ). check_tasks (take n (padded 112 list))) (sym (length_unlabelled table))
      ∙ ap check_tasks (take_padded 112 list (omega (arith, length_unlabelled table, labelled_few)))

pub many_refused : (layout : Layout) (table : List ℕ) (count : ℕ) → length table ≡ count * width layout → 16 < count → check_table layout table ≡ Refused 2 0
unfolding check_table
many_refused One table count size many = many_tasks table (omega arith)
many_refused Two table count size many =
    let whole : length table % 8 ≡ 0 = omega arith in
    sym (labelled_passes table (rw (eq-eqb (length table % 8) 0 whole))) ∙ many_unlabelled table (omega arith)

pub none_refused : (layout : Layout) (table : List ℕ) → length table ≡ 0 → check_table layout table ≡ Refused 2 0
unfolding check_table
none_refused One table none = no_tasks_law table none
none_refused Two table none =
    let whole : length table % 8 ≡ 0 = omega arith in
    sym (labelled_passes table (rw (eq-eqb (length table % 8) 0 whole))) ∙ no_tasks_law (unlabelled table) (omega (arith, length_unlabelled table))

-- an accepted table has whole tasks, at most 16
pub whole_tasks : (layout : Layout) (table : List ℕ) → check_table layout table ≡ Done → length table / width layout * width layout ≡ length table
unfolding check_table check_tasks check2
whole_tasks One table ok =
    let test = refuse_fine _ 2 0 (before_first (check2 table) _ ok) in
    let whole = eqb-true (length table % 7) 0 (not-false _ (or_left_false (not (eqb (length table % 7) 0)) _ test)) in
    omega arith
whole_tasks Two table ok =
    let test = refuse_fine (not (eqb (length table % 8) 0)) 2 0 (before_first (refuse (not (eqb (length table % 8) 0)) 2 0) _ ok) in
    let whole = eqb-true (length table % 8) 0 (not-false _ test) in
    omega arith
