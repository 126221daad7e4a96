-- Laws of a file after an append: its table and its trailer are read back, and every other byte is as it was.
use Prim.Native.Nat.{ℕ, ◌+◌, ◌*◌, ◌/◌, ◌<◌, ◌≤◌}
use mathlib.Core.Bool.{false}
use mathlib.Core.List.{List}
use mathlib.Core.Logic.{inl, inr, ◌⊎◌}
use mathlib.Core.Path.{ap, refl, sym, ◌∙◌, ◌≡◌}
use native.Mathlib.Decide.{ℕ_discrete}
use native.Mathlib.Omega.{arith}
use lib.ListN.{get_or, length, length-append, get_or-append}
use lib.Seq.{get_or-append-add, length-sets, sets}
use borrow.Author.Tests.{eq-eqb}
use Rattle.std.specs.Prelude.{Option, Some, None}
use Rattle.bits.proofs.Laws.Below.{list_same}
use Rattle.bits.proofs.Laws.Lists.{list_of, sets_above, sets_below}
use Rattle.tables.specs.Outcomes.{Done}
use Rattle.tables.specs.Bytes.{bytes_of, number_at}
use Rattle.tables.specs.Refusals.{before}
use Rattle.tables.proofs.Laws.Bytes.{length_bytes, read_back}
use Rattle.tables.proofs.Laws.Refusals.{unless_done}
use Rattle.chain.specs.declared.layout.Layout.{Layout}
use Rattle.chain.specs.declared.layout.Layout.TheVariants.{One, Two}
use Rattle.chain.specs.declared.trailer.Trailer.{Trailer}
use Rattle.chain.specs.Answers.{new_trailer, passed_by, read_answer, read_table, read_trailer, shown}
use Rattle.chain.specs.Layout.{known, number_of, width}
use Rattle.chain.specs.Refusals.{check_shown, check_trailer, end_after}
use Rattle.chain.specs.Table.{check_table, numbers_from, table_of}
use Rattle.chain.specs.Trailer.{end_of, last_place, misfits, none, trailer_numbers, trailer_at}
use Rattle.chain.proofs.Laws.Appending.{Accepted, last_checked, last_none, appended_numbers}
use Rattle.chain.proofs.Laws.Reading.{read_there, read_trailer_law, trailer_unknown}
use Rattle.chain.proofs.Laws.Refusals.{Kept, end_of_none, end_of_place, kept_passes, trailer_whole, wholly}
use Rattle.chain.proofs.Laws.Table.{whole_tasks}

-- every number of the list is one of 32 bits
abbrev pub Within32 : List ℕ → Type 0
Within32 list = (i : ℕ) → get_or list i 0 < 4294967296

-- a reader knows a layout of ours, or does not
pub own_known : (reader layout : Layout) → (known reader (number_of layout) ≡ Some layout) ⊎ (known reader (number_of layout) ≡ None)
unfolding known
own_known One One = inl refl
own_known One Two = inr refl
own_known Two One = inl refl
own_known Two Two = inl refl

module _ (layout : Layout) (file : List ℕ) (used : ℕ) (table : List ℕ) (w : Accepted layout file used table) where
  abbrev trailer : Trailer
  trailer = new_trailer layout used (length table)

  abbrev after : List ℕ
  after = sets file used (bytes_of 4 (appended_numbers layout file used table))

  abbrev at : ℕ
  at = used + length table * 4

  abbrev end : ℕ
  end = end_after used (length table)

  length_trailer : length (trailer_numbers trailer) ≡ 4
  unfolding trailer_numbers
  length_trailer = refl

  length_written : length (appended_numbers layout file used table) ≡ length table + 4
  length_written = length-append table (trailer_numbers trailer) ∙ ap (λ (n : ℕ). length table + n) length_trailer

  pub length_after : length after ≡ length file
  length_after = length-sets file used (bytes_of 4 (appended_numbers layout file used table))

  -- ## As they were

  pub below_after : (i : ℕ) → i < used → get_or after i 0 ≡ get_or file i 0
  below_after i h = sets_below (bytes_of 4 (appended_numbers layout file used table)) file used i h

  pub above_after : (i : ℕ) → end ≤ i → get_or after i 0 ≡ get_or file i 0
  above_after i h =
      sets_above (bytes_of 4 (appended_numbers layout file used table)) file used i (omega (arith, length_bytes 4 (appended_numbers layout file used table), length_written))

  -- ## Read back

  number_back : (i : ℕ) → i < length table + 4 → number_at 4 after (used + i * 4) ≡ get_or (appended_numbers layout file used table) i 0
  number_back i l =
      read_back 4 file (appended_numbers layout file used table) used i (omega arith) (omega (arith, length_written)) (omega (arith, length_written, w.space.listed))

  trailer_number : (place k x : ℕ) → place ≡ used + (length table + k) * 4 → k < 4 → get_or (trailer_numbers trailer) k 0 ≡ x → number_at 4 after place ≡ x
  trailer_number place k x e l q =
      let is : get_or (appended_numbers layout file used table) (length table + k) 0 ≡ x = get_or-append-add table (trailer_numbers trailer) k 0 ∙ q in
      ap (number_at 4 after) e ∙ number_back (length table + k) (omega arith) ∙ is

  trailer_back : trailer_at after at ≡ trailer
  unfolding trailer_at trailer_numbers new_trailer
  trailer_back =
      rw (
        trailer_number at 0 used (omega arith) (omega arith) refl,
        trailer_number (at + 4) 1 (last_place used) (omega arith) (omega arith) refl,
        trailer_number (at + 8) 2 (number_of layout) (omega arith) (omega arith) refl,
        trailer_number (at + 12) 3 (length table / width layout) (omega arith) (omega arith) refl,
      )

  table_back : numbers_from after used (length table) ≡ table
  unfolding numbers_from
  table_back =
      list_same (length table) (λ i. number_at 4 after (used + i * 4)) (λ i. get_or table i 0)
      (λ k l. number_back k (omega arith) ∙ get_or-append table (trailer_numbers trailer) 0 k l)
      ∙ list_of table

  -- ## The places keep the rules

  last_ends : end_of (last_place used) ≤ used
  last_ends = go (ℕ_discrete used 0)
    where
      go : Dec (used ≡ 0) → end_of (last_place used) ≤ used
      go (yes e) = omega (arith, end_of_none (last_place used) (last_none used e))
      go (no some) =
          let whole = trailer_whole Two file used (last_place used) (sym (last_checked file used some) ∙ w.last) in
          let placed : last_place used ≡ none → ⊥ = λ e. omega (arith, w.space.placed, whole.ends) in
          omega (arith, end_of_place (last_place used) placed, whole.ends)

  fills : (k : Option Layout) → (k ≡ Some layout) ⊎ (k ≡ None) → misfits k trailer at ≡ false
  unfolding misfits new_trailer
  fills k (inl e) =
      let whole = whole_tasks layout table w.numbers in
      rw e (rw (eq-eqb (used + length table / width layout * width layout * 4) at (omega arith)))
  fills k (inr e) = rw e

  pub places_kept : (reader : Layout) → check_trailer reader after end at ≡ Done
  unfolding check_trailer before new_trailer
  places_kept reader =
      let space = w.space in
      let kept : Kept reader trailer at = record { behind = last_ends; within = omega arith; fills = fills (known reader (number_of layout)) (own_known reader layout) } in
      rw (wholly (length after) end at (record { fits = omega (arith, length_after, space.listed); ends = omega arith }), trailer_back)
      (kept_passes reader trailer at kept)

  read_new : (reader : Layout) → read_answer reader after end at ≡ read_trailer reader after trailer
  read_new reader =
      read_there reader after end at (λ e. omega (arith, w.space.placed))
      ∙ read_trailer_law reader after end at Done (sym (places_kept reader)) refl
      ∙ ap (read_trailer reader after) trailer_back

  -- a reader that knows the layout is shown the table
  pub read_known : (reader : Layout) → known reader (number_of layout) ≡ Some layout → Within32 table → read_answer reader after end at ≡ shown trailer table
  unfolding read_trailer read_table check_shown table_of new_trailer
  read_known reader knows small =
      let whole = whole_tasks layout table w.numbers in
      let same : numbers_from after used (length table / width layout * width layout) ≡ table = ap (numbers_from after used) whole ∙ table_back in
      read_new reader
      ∙ ap (λ (k : Option Layout). read_table k after trailer) knows
      ∙ unless_done (passed_by trailer) (shown trailer (numbers_from after used (length table / width layout * width layout)))
      (check_table layout (numbers_from after used (length table / width layout * width layout)))
      (ap (check_table layout) same ∙ w.numbers)
      ∙ ap (shown trailer) same

  -- and one that does not, 23
  pub read_unknown : (reader : Layout) → known reader (number_of layout) ≡ None → read_answer reader after end at ≡ passed_by trailer 23 (number_of layout)
  unfolding new_trailer
  read_unknown reader not_known =
      read_new reader ∙ sym (trailer_unknown reader after trailer None (sym not_known) refl)
