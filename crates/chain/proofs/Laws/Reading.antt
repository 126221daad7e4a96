-- Laws of what is read, by what the checks find.
use Prim.Native.Nat.{ℕ, ◌-◌, ◌*◌, ◌<◌, ◌≤◌}
use mathlib.Core.List.{List}
use mathlib.Core.Logic.{◌⊎◌, ⊎_elim}
use mathlib.Core.Path.{ap, refl, subst, sym, ◌∙◌, ◌≡◌}
use native.Mathlib.Decide.{ℕ_discrete}
use native.Mathlib.Omega.{arith}
use lib.ListN.{take}
use borrow.Author.Tests.{eq-eqb, ne_eqb}
use Rattle.std.specs.Prelude.{Option, Some, None}
use Rattle.tables.specs.Outcomes.{Outcome, Done, Refused}
use Rattle.tables.specs.Refusals.{unless}
use Rattle.tables.proofs.Laws.Refusals.{unless_done, unless_refused}
use Rattle.chain.specs.declared.answers.Read.{Read}
use Rattle.chain.specs.declared.layout.Layout.{Layout}
use Rattle.chain.specs.declared.trailer.Trailer.{Trailer}
use Rattle.chain.specs.Answers.{last_answer, nothing, passed_by, read_answer, read_at, read_table, read_trailer, shown}
use Rattle.chain.specs.Layout.{known, width}
use Rattle.chain.specs.Refusals.{check_shown, check_trailer}
use Rattle.chain.specs.Table.{check_table, numbers_from, padded, table_of}
use Rattle.chain.specs.Trailer.{none, trailer_at}
use Rattle.chain.proofs.Laws.Refusals.{trailer_short}
use Rattle.chain.proofs.Laws.Table.{length_numbers, many_refused, take_padded}

-- ## A trailer whose places keep the rules

module _ (layout : Layout) (file : List ℕ) (t : Trailer) where
  abbrev table : List ℕ
  table = numbers_from file t.start (t.count * width layout)

  table_checked : check_shown (Some layout) file t ≡ check_table layout table
  unfolding check_shown table_of
  table_checked = refl

  -- over 16 tasks, whatever their numbers
  pub table_many : 16 < t.count → passed_by t 2 0 ≡ read_table (Some layout) file t
  unfolding read_table
  table_many many =
      sym (unless_refused (passed_by t) (shown t (table_of (Some layout) file t)) (check_shown (Some layout) file t) 2 0
      (table_checked ∙ many_refused layout table t.count (length_numbers file t.start (t.count * width layout)) many))

  -- the table was read to room for 128 numbers, and that part of it checked
  module _ (n : ℕ) (fields : List ℕ) (size : n ≡ t.count * width layout) (few : n ≤ 128) (is : fields ≡ padded 128 (numbers_from file t.start n)) where
    checked_is : (found : Outcome) → found ≡ check_table layout (take n fields) → check_shown (Some layout) file t ≡ found
    checked_is found e =
        let list = numbers_from file t.start n in
        let part : take n fields ≡ list = ap (take n) is ∙ ap (λ (k : ℕ). take k (padded 128 list)) (sym (length_numbers file t.start n))
        ∙ take_padded 128 list (omega (arith, length_numbers file t.start n)) in
        table_checked ∙ ap (λ (k : ℕ). check_table layout (numbers_from file t.start k)) (sym size) ∙ ap (check_table layout) (sym part) ∙ sym e

    pub fields_shown : (found : Outcome) → found ≡ check_table layout (take n fields) → found ≡ Done
        → ◌≡◌ {A = Read} (record { outcome = Done; layout = t.layout; before = t.before; count = t.count; fields = fields }) (read_table (Some layout) file t)
    unfolding read_table shown table_of
    fields_shown found e ok =
        ap (λ (fs : List ℕ). record { outcome = Done; layout = t.layout; before = t.before; count = t.count; fields = fs })
        (is ∙ ap (λ (k : ℕ). padded 128 (numbers_from file t.start k)) size)
        ∙ sym (unless_done (passed_by t) (shown t (table_of (Some layout) file t)) (check_shown (Some layout) file t) (checked_is found e ∙ ok))

    pub table_passed : (found : Outcome) (number place : ℕ) → found ≡ check_table layout (take n fields) → found ≡ Refused number place
        → passed_by t number place ≡ read_table (Some layout) file t
    unfolding read_table
    table_passed found number place e refuses =
        sym (unless_refused (passed_by t) (shown t (table_of (Some layout) file t)) (check_shown (Some layout) file t) number place (checked_is found e ∙ refuses))

module _ (reader : Layout) (file : List ℕ) (t : Trailer) (k : Option Layout) (is : k ≡ known reader t.layout) where
  pub trailer_known : (own : Layout) → k ≡ Some own → read_table (Some own) file t ≡ read_trailer reader file t
  unfolding read_trailer
  trailer_known own e = ap (λ (x : Option Layout). read_table x file t) (sym e ∙ is)

  pub trailer_unknown : k ≡ None → passed_by t 23 t.layout ≡ read_trailer reader file t
  unfolding read_trailer read_table check_shown unless
  trailer_unknown e = ap (λ (x : Option Layout). read_table x file t) (sym e ∙ is)

-- ## At a place

module _ (reader : Layout) (file : List ℕ) (used at : ℕ) (found : Outcome) (is : found ≡ check_trailer reader file used at) where
  pub read_trailer_law : found ≡ Done → read_at reader file used at ≡ read_trailer reader file (trailer_at file at)
  unfolding read_at
  read_trailer_law ok = unless_done nothing (read_trailer reader file (trailer_at file at)) (check_trailer reader file used at) (sym is ∙ ok)

  pub read_nothing : (number place : ℕ) → found ≡ Refused number place → read_at reader file used at ≡ nothing number place
  unfolding read_at
  read_nothing number place e = unless_refused nothing (read_trailer reader file (trailer_at file at)) (check_trailer reader file used at) number place (sym is ∙ e)

-- ## By its number, and at the end

module _ (reader : Layout) (file : List ℕ) (used at : ℕ) where
  pub read_none : at ≡ none → read_answer reader file used at ≡ nothing 21 0
  unfolding read_answer
  read_none e = rw (eq-eqb at none e)

  pub read_there : (at ≡ none → ⊥) → read_answer reader file used at ≡ read_at reader file used at
  unfolding read_answer
  read_there some = rw (ne_eqb at none some)

module _ (reader : Layout) (file : List ℕ) (used : ℕ) where
  pub last_there : last_answer reader file used ≡ read_at reader file used (used - 16)
  unfolding last_answer
  last_there = refl

  pub last_short : used < 16 → last_answer reader file used ≡ nothing 21 0
  last_short h =
      last_there ∙ read_nothing reader file used (used - 16) (check_trailer reader file used (used - 16)) refl 21 0 (trailer_short reader file used (used - 16) h)

  -- what holds of nothing and of what is read of a trailer holds of what `read` and `last` answer
  module _ (P : Read → Type 0) (of-nothing : P (nothing 21 0)) where
    pub of_read : (at : ℕ) → P (read_at reader file used at) → P (read_answer reader file used at)
    of_read at of-trailer = go (ℕ_discrete at none)
      where
        go : Dec (at ≡ none) → P (read_answer reader file used at)
        go (yes e) = subst P (sym (read_none reader file used at e)) of-nothing
        go (no some) = subst P (sym (read_there reader file used at some)) of-trailer

    pub of_either : ((at : ℕ) → P (read_at reader file used at)) → (at : ℕ) (r : Read)
        → (r ≡ read_answer reader file used at) ⊎ (r ≡ last_answer reader file used) → P r
    of_either of-trailer at r either =
        ⊎_elim (λ e. subst P (sym e) (of_read at (of-trailer at))) (λ e. subst P (sym (e ∙ last_there)) (of-trailer (used - 16))) either

-- a trailer in a layout that the reader knows: what is checked of its table decides
module _ (reader : Layout) (file : List ℕ) (t : Trailer) (layout : Layout) (knows : known reader t.layout ≡ Some layout) where
  pub by_refusal : (number place : ℕ) → check_table layout (table_of (Some layout) file t) ≡ Refused number place → read_trailer reader file t ≡ passed_by t number place
  unfolding read_table check_shown
  by_refusal number place e =
      sym (trailer_known reader file t (Some layout) (sym knows) layout refl)
      ∙ unless_refused (passed_by t) (shown t (table_of (Some layout) file t)) (check_table layout (table_of (Some layout) file t)) number place e

  pub by_acceptance : check_table layout (table_of (Some layout) file t) ≡ Done → read_trailer reader file t ≡ shown t (table_of (Some layout) file t)
  unfolding read_table check_shown
  by_acceptance e =
      sym (trailer_known reader file t (Some layout) (sym knows) layout refl)
      ∙ unless_done (passed_by t) (shown t (table_of (Some layout) file t)) (check_table layout (table_of (Some layout) file t)) e
