-- What is read at a place depends on the bytes up to the trailer's end and on nothing else; and it leads back: the preceding trailer lies at
-- least 16 bytes before.
use Prim.Native.Nat.{ℕ, ◌+◌, ◌*◌, ◌<◌, ◌≤◌}
use mathlib.Core.Bool.{false}
use mathlib.Core.List.{List}
use mathlib.Core.Logic.{inl, inr, ◌⊎◌}
use mathlib.Core.Path.{ap, ap₂, refl, sym, ◌∙◌, ◌≡◌}
use native.Mathlib.Decide.{ℕ_discrete}
use native.Mathlib.Omega.{arith}
use lib.ListN.{get_or, length}
use borrow.Author.Tests.{eqb-true, not-false}
use Rattle.std.specs.Prelude.{Option, Some, None, Err}
use Rattle.bits.proofs.Laws.Below.{list_same}
use Rattle.tables.specs.Outcomes.{Outcome, Done}
use Rattle.tables.specs.Bytes.{number_at}
use Rattle.tables.specs.Refusals.{before, unless}
use Rattle.tables.proofs.Laws.Bytes.{number_same}
use Rattle.chain.specs.declared.answers.Read.{Read}
use Rattle.chain.specs.declared.layout.Layout.{Layout}
use Rattle.chain.specs.declared.trailer.Trailer.{Trailer}
use Rattle.chain.specs.Answers.{nothing, passed_by, read_answer, read_at, read_table, read_trailer, shown}
use Rattle.chain.specs.Layout.{known, width}
use Rattle.chain.specs.Refusals.{check22, check_shown, check_trailer}
use Rattle.chain.specs.Table.{check_table, numbers_from, table_of}
use Rattle.chain.specs.Trailer.{misfits, none, trailer_at}
use Rattle.chain.proofs.Laws.Reading.{of_read, read_none, read_nothing, read_there, read_trailer_law}
use Rattle.chain.proofs.Laws.Refusals.{end_of_place, trailer_kept, wholly}

-- ## By the bytes up to the trailer's end

module _ (f g : List ℕ) (at : ℕ) (same : (i : ℕ) → i < at + 16 → get_or f i 0 ≡ get_or g i 0) where
  pub trailer_same : trailer_at f at ≡ trailer_at g at
  unfolding trailer_at
  trailer_same =
      rw (
        number_same 4 f g (at + 16) at same (omega arith),
        number_same 4 f g (at + 16) (at + 4) same (omega arith),
        number_same 4 f g (at + 16) (at + 8) same (omega arith),
        number_same 4 f g (at + 16) (at + 12) same (omega arith),
      )

  numbers_same : (start n : ℕ) → start + n * 4 ≤ at → numbers_from f start n ≡ numbers_from g start n
  unfolding numbers_from
  numbers_same start n h =
      list_same n (λ i. number_at 4 f (start + i * 4)) (λ i. number_at 4 g (start + i * 4)) (λ k l. number_same 4 f g (at + 16) (start + k * 4) same (omega arith))

  -- a table in a layout that the reader knows ends at the trailer
  table_same : (k : Option Layout) (t : Trailer) → misfits k t at ≡ false → read_table k f t ≡ read_table k g t
  unfolding misfits read_table check_shown table_of
  table_same (Some layout) t fills =
      let ends = eqb-true (t.start + t.count * width layout * 4) at (not-false _ fills) in
      ap (λ (l : List ℕ). unless (check_table layout l) (passed_by t) (shown t l)) (numbers_same t.start (t.count * width layout) (omega arith))
  table_same None t fills = refl

  module _ (reader : Layout) (used end : ℕ) (there : at + 16 ≤ used) (fits : used ≤ length f) (still : at + 16 ≤ end) (room : end ≤ length g) where
    checks_same : check_trailer reader f used at ≡ check_trailer reader g end at
    unfolding check_trailer
    checks_same =
        ap₂ before (wholly (length f) used at (record { fits = fits; ends = there }) ∙ sym (wholly (length g) end at (record { fits = room; ends = still })))
        (ap (λ (t : Trailer). check22 reader t at) trailer_same)

    there_same : read_at reader f used at ≡ read_at reader g end at
    unfolding read_trailer
    there_same = go (check_trailer reader f used at) refl
      where
        go : (o : Outcome) → check_trailer reader f used at ≡ o → read_at reader f used at ≡ read_at reader g end at
        go Done e =
            let t = trailer_at f at in
            read_trailer_law reader f used at Done (sym e) refl
            ∙ table_same (known reader t.layout) t (trailer_kept reader f used at e).fills
            ∙ ap (read_trailer reader g) trailer_same
            ∙ sym (read_trailer_law reader g end at Done (sym e ∙ checks_same) refl)
        go (Err w) e =
            read_nothing reader f used at (Err w) (sym e) w.number w.place refl
            ∙ sym (read_nothing reader g end at (Err w) (sym e ∙ checks_same) w.number w.place refl)

    pub read_same : read_answer reader f used at ≡ read_answer reader g end at
    read_same = go (ℕ_discrete at none)
      where
        go : Dec (at ≡ none) → read_answer reader f used at ≡ read_answer reader g end at
        go (yes e) = read_none reader f used at e ∙ sym (read_none reader g end at e)
        go (no some) = read_there reader f used at some ∙ there_same ∙ sym (read_there reader g end at some)

-- ## Back

-- whatever is found of its table, the trailer's layout and the preceding trailer are told
pub table_contents : (k : Option Layout) (file : List ℕ) (t : Trailer) → ((read_table k file t).layout ≡ t.layout) × ((read_table k file t).before ≡ t.before)
unfolding read_table passed_by shown unless
table_contents k file t = go (check_shown k file t)
  where
    go : (o : Outcome) → ((unless o (passed_by t) (shown t (table_of k file t))).layout ≡ t.layout) × ((unless o (passed_by t) (shown t (table_of k file t))).before ≡ t.before)
    go Done = (refl, refl)
    go (Err w) = (refl, refl)

module _ (reader : Layout) (file : List ℕ) (used at : ℕ) where
  pub read_contents : check_trailer reader file used at ≡ Done
      → ((read_at reader file used at).layout ≡ (trailer_at file at).layout) × ((read_at reader file used at).before ≡ (trailer_at file at).before)
  unfolding read_trailer
  read_contents ok =
      let t = trailer_at file at in
      let is = read_trailer_law reader file used at Done (sym ok) refl in
      let told = table_contents (known reader t.layout) file t in
      (ap (λ (r : Read). r.layout) is ∙ told.0, ap (λ (r : Read). r.before) is ∙ told.1)

  pub there_back : ((read_at reader file used at).before ≡ none) ⊎ ((read_at reader file used at).before + 16 ≤ at)
  unfolding nothing
  there_back = go (check_trailer reader file used at) refl
    where
      go : (o : Outcome) → check_trailer reader file used at ≡ o → ((read_at reader file used at).before ≡ none) ⊎ ((read_at reader file used at).before + 16 ≤ at)
      go (Err w) e = inl (ap (λ (r : Read). r.before) (read_nothing reader file used at (Err w) (sym e) w.number w.place refl))
      go Done e = which (ℕ_discrete (trailer_at file at).before none)
        where
          which : Dec ((trailer_at file at).before ≡ none) → ((read_at reader file used at).before ≡ none) ⊎ ((read_at reader file used at).before + 16 ≤ at)
          which (yes first) = inl ((read_contents e).1 ∙ first)
          which (no later) =
              let w = trailer_kept reader file used at e in
              inr (omega (arith, (read_contents e).1, end_of_place (trailer_at file at).before later, w.behind, w.within))

  pub goes_back : ((read_answer reader file used at).before ≡ none) ⊎ ((read_answer reader file used at).before + 16 ≤ at)
  unfolding nothing
  goes_back = of_read reader file used (λ r. (r.before ≡ none) ⊎ (r.before + 16 ≤ at)) (inl refl) at there_back
