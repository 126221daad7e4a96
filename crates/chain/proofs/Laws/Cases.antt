-- Laws that say which check decides: of what is read, and of an append.
use Prim.Native.Nat.{ℕ, ◌+◌, ◌-◌, ◌*◌, ◌<◌, ◌≤◌}
use mathlib.Core.Bool.{false, not, ◌||◌}
use mathlib.Core.List.{List, [], ◌∷◌}
use mathlib.Core.Logic.Iff
use mathlib.Core.Logic.{inl, inr, ◌↔◌, ◌⊎◌, ⊎_elim}
use mathlib.Core.Path.{ap, refl, subst, sym, ◌∙◌, ◌≡◌}
use native.Mathlib.Decide.{dec_lt, ℕ_discrete}
use native.Mathlib.Omega.{arith}
use lib.Dec.{lit≤, ltb}
use lib.ListN.{get_or, length, replicate, get_or-eq_default}
use borrow.Author.Tests.{eq-eqb, eqb-true, le-ltb, not-false}
use Rattle.std.specs.Prelude.{Option, Some, None, Result, Ok, Err}
use Rattle.bits.specs.Below.{list_from}
use Rattle.bits.proofs.Laws.Below.{get_or_list, length_list_from}
use Rattle.bits.proofs.Laws.Bools.{apart}
use Rattle.bits.proofs.Readings.{lt_reads, or_reads}
use Rattle.tables.specs.declared.answers.Refusal.{Refusal}
use Rattle.tables.specs.Outcomes.{Outcome, Done, Refused}
use Rattle.tables.specs.Bytes.{number_at}
use Rattle.tables.specs.Refusals.{before, check_tasks, refuse, unless}
use Rattle.tables.proofs.Laws.Bytes.{number4}
use Rattle.tables.proofs.Laws.Refusals.{Numbered, numbered_before, numbered_refuse, only_refuse, refused_number, refused_same, tasks_numbered, Other, first_of, other_none, own_refused}
use Rattle.tables.proofs.Readings.{before_refused, refuse_reads}
use Rattle.chain.specs.declared.answers.Read.{Read}
use Rattle.chain.specs.declared.layout.Layout.{Layout}
use Rattle.chain.specs.declared.layout.Layout.TheVariants.{One, Two}
use Rattle.chain.specs.declared.trailer.Trailer.{Trailer}
use Rattle.chain.specs.Answers.{append_answer, last_answer, nothing, passed_by, read_answer, read_at, read_table, read_trailer, shown}
use Rattle.chain.specs.Layout.{known, width}
use Rattle.chain.specs.Refusals.{check21, check22, check24, check_append, check_last, check_shown, check_trailer, end_after}
use Rattle.chain.specs.Table.{check_table, padded, table_of, unlabelled}
use Rattle.chain.specs.Trailer.{last_place, misfits, trailer_at}
use Rattle.chain.proofs.Laws.Appending.{Accepted, Room, last_checked, last_is, new_checked}
use Rattle.chain.proofs.Laws.Reading.{of_either, read_nothing, read_trailer_law}
use Rattle.chain.proofs.Laws.Refusals.{Kept, WholeTrailer, kept_passes, places_kept, whole_trailer, wholly}
use Rattle.chain.proofs.Laws.Season.{refused_by, took}
use Rattle.chain.proofs.Laws.Table.{length_numbers}

-- ## 21 and 22

unwhole : (bytes used at : ℕ) → (WholeTrailer bytes used at → ⊥) → check21 bytes used at ≡ Refused 21 0
unfolding check21
unwhole bytes used at never = only_refuse _ 21 0 (λ ok. never (whole_trailer bytes used at ok))

unkept : (reader : Layout) (t : Trailer) (at : ℕ) → (Kept reader t at → ⊥) → check22 reader t at ≡ Refused 22 0
unfolding check22
unkept reader t at never = only_refuse _ 22 0 (λ ok. never (places_kept reader t at ok))

module _ (reader : Layout) (file : List ℕ) (used at : ℕ) where
  pub trailer_21 : (WholeTrailer (length file) used at → ⊥) → check_trailer reader file used at ≡ Refused 21 0
  unfolding check_trailer before
  trailer_21 never = rw (unwhole (length file) used at never)

  pub trailer_22 : WholeTrailer (length file) used at → (Kept reader (trailer_at file at) at → ⊥) → check_trailer reader file used at ≡ Refused 22 0
  unfolding check_trailer before
  trailer_22 w never = rw (wholly (length file) used at w) (unkept reader (trailer_at file at) at never)

  pub trailer_done : WholeTrailer (length file) used at → Kept reader (trailer_at file at) at → check_trailer reader file used at ≡ Done
  unfolding check_trailer before
  trailer_done w k = rw (wholly (length file) used at w) (kept_passes reader (trailer_at file at) at k)

  -- no other number is given by them
  pub trailer_numbers_law : (number place : ℕ) → check_trailer reader file used at ≡ Refused number place → ((number ≡ 21) ⊎ (number ≡ 22)) × (place ≡ 0)
  unfolding check_trailer check21 check22
  trailer_numbers_law number place e =
      ⊎_elim (λ q. let w = refused_number _ 21 0 number place q in (inl w.1, w.2)) (λ q. let w = refused_number _ 22 0 number place q.1 in (inr w.1, w.2))
      ((before_refused (check21 (length file) used at) (check22 reader (trailer_at file at) at) number place).0 e)

-- a trailer is whole, or the used length passes the list or ends before the trailer does
module _ (bytes used at : ℕ) where
  pub whole_or : WholeTrailer bytes used at ⊎ ((bytes < used) ⊎ (used < at + 16))
  whole_or = go (dec_lt bytes used) (dec_lt used (at + 16))
    where
      go : Dec (bytes < used) → Dec (used < at + 16) → WholeTrailer bytes used at ⊎ ((bytes < used) ⊎ (used < at + 16))
      go (yes past) short = inr (inl past)
      go (no within) (yes short) = inr (inr short)
      go (no within) (no there) = inl (record { fits = omega arith; ends = omega arith })

  pub not_whole : (bytes < used) ⊎ (used < at + 16) → WholeTrailer bytes used at → ⊥
  not_whole h w = ⊎_elim (λ past. omega (arith, w.fits)) (λ short. omega (arith, w.ends)) h

-- at the last 16 bytes: there are fewer
pub last_few : (bytes used : ℕ) → (bytes < used) ⊎ (used < used - 16 + 16) ↔ (bytes < used) ⊎ (used < 16)
last_few bytes used = (
  λ h. ⊎_elim (λ past. inl past) (λ short. inr (omega arith)) h,
  λ h. ⊎_elim (λ past. inl past) (λ few. inr (omega arith)) h,
)

-- where the trailer is whole, 22 alone
pub whole_22 : (reader : Layout) (file : List ℕ) (used at : ℕ) → WholeTrailer (length file) used at
    → (number place : ℕ) → check_trailer reader file used at ≡ Refused number place → number ≡ 22
unfolding check_trailer check22
whole_22 reader file used at w number place e =
    ⊎_elim (λ q. let ok = wholly (length file) used at w in apart (cc)) (λ q. (refused_number _ 22 0 number place q.1).1)
    ((before_refused (check21 (length file) used at) (check22 reader (trailer_at file at) at) number place).0 e)

-- the numbers of a table fill the bytes
pub fills_known : (layout : Layout) (t : Trailer) (at : ℕ) → misfits (Some layout) t at ≡ false ↔ t.start + t.count * width layout * 4 ≡ at
unfolding misfits
fills_known layout t at = (
  λ e. eqb-true (t.start + t.count * width layout * 4) at (not-false _ e),
  λ e. ap not (eq-eqb (t.start + t.count * width layout * 4) at e),
)

-- four bytes are a number of 32 bits
pub number_most : (file : List ℕ) → ((i : ℕ) → get_or file i 0 < 256) → (at : ℕ) → number_at 4 file at < 4294967296
number_most file bytes at = rw number4 (omega (arith, bytes at, bytes (at + 1), bytes (at + 2), bytes (at + 3)))

-- ## 2 to 4

abbrev pub TwoToFour : ℕ → Type 0
TwoToFour number = (2 ≤ number) × (number ≤ 4)

table_numbered : (layout : Layout) (table : List ℕ) → Numbered TwoToFour (check_table layout table)
unfolding check_table
table_numbered One table = tasks_numbered TwoToFour (λ number least most. (least, most)) table
table_numbered Two table =
    numbered_before TwoToFour (refuse _ 2 0) (check_tasks (unlabelled table)) (numbered_refuse TwoToFour _ 2 0 (lit≤ tt, lit≤ tt))
    (tasks_numbered TwoToFour (λ number least most. (least, most)) (unlabelled table))

-- ## What is read

table_empty : (k : Option Layout) (file : List ℕ) (t : Trailer) (number place : ℕ) → (read_table k file t).outcome ≡ Refused number place
    → ((read_table k file t).count ≡ 0) × ((read_table k file t).fields ≡ replicate 128 0)
unfolding read_table passed_by shown unless
table_empty k file t number place = go (check_shown k file t)
  where
    go : (o : Outcome) → (unless o (passed_by t) (shown t (table_of k file t))).outcome ≡ Refused number place
        → ((unless o (passed_by t) (shown t (table_of k file t))).count ≡ 0) × ((unless o (passed_by t) (shown t (table_of k file t))).fields ≡ replicate 128 0)
    go Done e = apart (cc)
    go (Err w) e = (refl, refl)

-- a trailer that shows its table is of a layout the reader knows, and its table passes
table_done : (k : Option Layout) (file : List ℕ) (t : Trailer) → (read_table k file t).outcome ≡ Done
    → (layout : Layout) × (k ≡ Some layout) × (check_table layout (table_of (Some layout) file t) ≡ Done) × (read_table k file t ≡ shown t (table_of (Some layout) file t))
unfolding read_table check_shown passed_by shown unless
table_done None file t e = apart (cc)
table_done (Some layout) file t e = go (check_table layout (table_of (Some layout) file t)) refl e
  where
    go : (o : Outcome) → check_table layout (table_of (Some layout) file t) ≡ o → (unless o (passed_by t) (shown t (table_of (Some layout) file t))).outcome ≡ Done
        → (own : Layout) × (Some layout ≡ Some own) × (check_table own (table_of (Some own) file t) ≡ Done) × (unless o (passed_by t) (shown t (table_of (Some layout) file t)) ≡ shown t (table_of (Some own) file t))
    go Done q e = (layout, refl, q, refl)
    go (Err w) q e = apart (cc)

-- what a table is refused with
table_numbers : (k : Option Layout) (file : List ℕ) (t : Trailer) (number place : ℕ) → (read_table k file t).outcome ≡ Refused number place → (number ≡ 23) ⊎ TwoToFour number
unfolding read_table check_shown passed_by shown unless
table_numbers None file t number place e = inl (sym (refused_same 23 t.layout number place e).0)
table_numbers (Some layout) file t number place e = inr (go (check_table layout (table_of (Some layout) file t)) (table_numbered layout (table_of (Some layout) file t)) e)
  where
    go : (o : Outcome) → Numbered TwoToFour o → (unless o (passed_by t) (shown t (table_of (Some layout) file t))).outcome ≡ Refused number place → TwoToFour number
    go Done w e = apart (cc)
    go (Err r) w e = let same : r.number ≡ number = cc in subst TwoToFour same w

-- numbers that are not used are 0
pub padded_zero : (room : ℕ) (list : List ℕ) (i : ℕ) → length list ≤ i → get_or (padded room list) i 0 ≡ 0
unfolding padded
padded_zero room list i past = go (dec_lt i room)
  where
    go : Dec (i < room) → get_or (list_from 0 room (λ k. get_or list k 0)) i 0 ≡ 0
    go (yes l) = get_or_list room (λ k. get_or list k 0) i 0 l ∙ get_or-eq_default list 0 {n = i} past
    go (no l) = get_or-eq_default (list_from 0 room (λ k. get_or list k 0)) 0 {n = i} (omega (arith, length_list_from 0 room (λ (k : ℕ). get_or list k 0)))

module _ (reader : Layout) (file : List ℕ) (used at : ℕ) where
  pub read_empty : (number place : ℕ) → (read_at reader file used at).outcome ≡ Refused number place
      → ((read_at reader file used at).count ≡ 0) × ((read_at reader file used at).fields ≡ replicate 128 0)
  unfolding read_trailer nothing
  read_empty number place e = go (check_trailer reader file used at) refl
    where
      go : (o : Outcome) → check_trailer reader file used at ≡ o → ((read_at reader file used at).count ≡ 0) × ((read_at reader file used at).fields ≡ replicate 128 0)
      go Done q =
          let t = trailer_at file at in
          let is = read_trailer_law reader file used at Done (sym q) refl in
          let w = table_empty (known reader t.layout) file t number place (ap (λ (r : Read). r.outcome) (sym is) ∙ e) in
          (ap (λ (r : Read). r.count) is ∙ w.0, ap (λ (r : Read). r.fields) is ∙ w.1)
      go (Err r) q =
          let is = read_nothing reader file used at (Err r) (sym q) r.number r.place refl in
          (ap (λ (r : Read). r.count) is, ap (λ (r : Read). r.fields) is)

  -- where the trailer is whole, every other refusal
  pub whole_numbers : WholeTrailer (length file) used at → (number place : ℕ) → (read_at reader file used at).outcome ≡ Refused number place
      → (number ≡ 22) ⊎ (number ≡ 23) ⊎ TwoToFour number
  unfolding read_trailer nothing
  whole_numbers w number place e = go (check_trailer reader file used at) refl
    where
      go : (o : Outcome) → check_trailer reader file used at ≡ o → (number ≡ 22) ⊎ (number ≡ 23) ⊎ TwoToFour number
      go Done q =
          let t = trailer_at file at in
          let is = read_trailer_law reader file used at Done (sym q) refl in
          inr (table_numbers (known reader t.layout) file t number place (ap (λ (r : Read). r.outcome) (sym is) ∙ e))
      go (Err refusal) q =
          let is = ap (λ (r : Read). r.outcome) (sym (read_nothing reader file used at (Err refusal) (sym q) refusal.number refusal.place refl)) ∙ e in
          let same : refusal.number ≡ number = cc in
          inl (sym same ∙ whole_22 reader file used at w refusal.number refusal.place q)

  pub whole_not_21 : WholeTrailer (length file) used at → (place : ℕ) → (read_at reader file used at).outcome ≡ Refused 21 place → ⊥
  whole_not_21 w place e = other 21 refl (whole_numbers w 21 place e)
    where
      other : (n : ℕ) → n ≡ 21 → (n ≡ 22) ⊎ (n ≡ 23) ⊎ TwoToFour n → ⊥
      other n q (inl e) = omega arith
      other n q (inr (inl e)) = omega arith
      other n q (inr (inr few)) = omega (arith, few.1)

  -- what was read with nothing refused
  pub record TableRead : Type 0 where
    pub checks : check_trailer reader file used at ≡ Done
    pub layout : Layout
    pub knows : known reader (trailer_at file at).layout ≡ Some layout
    pub accepted : check_table layout (table_of (Some layout) file (trailer_at file at)) ≡ Done
    pub is : read_at reader file used at ≡ shown (trailer_at file at) (table_of (Some layout) file (trailer_at file at))

  pub table_read : (read_at reader file used at).outcome ≡ Done → TableRead
  unfolding read_trailer nothing
  table_read e = go (check_trailer reader file used at) refl
    where
      go : (o : Outcome) → check_trailer reader file used at ≡ o → TableRead
      go Done q =
          let t = trailer_at file at in
          let is = read_trailer_law reader file used at Done (sym q) refl in
          let w = table_done (known reader t.layout) file t (ap (λ (r : Read). r.outcome) (sym is) ∙ e) in
          record { checks = q; layout = w.0; knows = w.1; accepted = w.2; is = is ∙ w.3 }
      go (Err refusal) q =
          let is = ap (λ (r : Read). r.outcome) (sym (read_nothing reader file used at (Err refusal) (sym q) refusal.number refusal.place refl)) in
          apart (cc)

  -- the fields behind the table's are 0
  unused : (read_at reader file used at).outcome ≡ Done
      → (layout : Layout) × (known reader (read_at reader file used at).layout ≡ Some layout)
      × ((i : ℕ) → (read_at reader file used at).count * width layout ≤ i → get_or (read_at reader file used at).fields i 0 ≡ 0)
  unfolding shown table_of
  unused e =
      let w = table_read e in
      let t = trailer_at file at in
      let table = table_of (Some w.layout) file t in (
        w.layout,
        ap (λ (r : Read). known reader r.layout) w.is ∙ w.knows,
        λ i l. ap (λ (r : Read). get_or r.fields i 0) w.is
            ∙ padded_zero 128 table i (omega (arith, l, ap (λ (r : Read). r.count * width w.layout) w.is, length_numbers file t.start (t.count * width w.layout))),
      )

-- of what `read` or `last` answers
module _ (reader : Layout) (file : List ℕ) (used at : ℕ) (r : Read) (either : (r ≡ read_answer reader file used at) ⊎ (r ≡ last_answer reader file used)) where
  pub either_empty : (number place : ℕ) → r.outcome ≡ Refused number place → (r.count ≡ 0) × (r.fields ≡ replicate 128 0)
  unfolding nothing
  either_empty number place =
      of_either reader file used (λ a. a.outcome ≡ Refused number place → (a.count ≡ 0) × (a.fields ≡ replicate 128 0)) (λ e. (refl, refl))
      (λ p. read_empty reader file used p number place) at r either

  pub either_unused : r.outcome ≡ Done
      → (layout : Layout) × (known reader r.layout ≡ Some layout) × ((i : ℕ) → r.count * width layout ≤ i → get_or r.fields i 0 ≡ 0)
  unfolding nothing
  either_unused =
      of_either reader file used
      (λ a. a.outcome ≡ Done → (layout : Layout) × (known reader a.layout ≡ Some layout) × ((i : ℕ) → a.count * width layout ≤ i → get_or a.fields i 0 ≡ 0))
      (λ e. apart (cc)) (λ p. unused reader file used p) at r either

-- ## An append

pub last_numbers : (file : List ℕ) (used number place : ℕ) → check_last file used ≡ Refused number place → ((number ≡ 21) ⊎ (number ≡ 22)) × (place ≡ 0)
last_numbers file used number place e = go (ℕ_discrete used 0)
  where
    go : Dec (used ≡ 0) → ((number ≡ 21) ⊎ (number ≡ 22)) × (place ≡ 0)
    go (yes q) = let new = new_checked file used q in apart (cc)
    go (no some) = trailer_numbers_law Two file used (last_place used) number place (sym (last_checked file used some) ∙ e)

pub roomy : (bytes used numbers : ℕ) → Room bytes used numbers → check24 bytes used numbers ≡ Done
unfolding check24 refuse
roomy bytes used numbers w = rw (le-ltb bytes (end_after used numbers) w.listed, le-ltb 4294967295 (end_after used numbers) w.placed)

module _ (layout : Layout) (file : List ℕ) (used : ℕ) (table : List ℕ) where
  abbrev end : ℕ
  end = end_after used (length table)

  pub append_passes : Accepted layout file used table → check_append layout file used table ≡ Done
  unfolding check_append before
  append_passes w = rw (w.last, w.numbers) (roomy (length file) used (length table) w.space)

  pub full : check_append layout file used table ≡ Refused 24 0
      ↔ (check_last file used ≡ Done) × (check_table layout table ≡ Done) × ((length file < end_after used (length table)) ⊎ (4294967295 < end_after used (length table)))
  unfolding check_append check24 first_of
  full =
      Iff.trans (own_refused (check_last file used ∷ check_table layout table ∷ []) (refuse (ltb (length file) end || ltb 4294967295 end) 24 0) [] 24 0 (other_last, (other_table, tt)) tt)
      (λ w. (w.0.0, w.0.1.0, test.0 w.1), λ w. ((w.0, (w.1, tt)), test.1 w.2))
    where
      other_last : Other 24 (check_last file used)
      other_last = other_none 24 (check_last file used) (λ place q. ⊎_elim (λ (z : 24 ≡ 21). omega arith) (λ (z : 24 ≡ 22). omega arith) (last_numbers file used 24 place q).0)

      other_table : Other 24 (check_table layout table)
      other_table = other_none 24 (check_table layout table) (λ place q. let w : TwoToFour 24 = subst (Numbered TwoToFour) q (table_numbered layout table) in omega (arith, w.1))

      test : refuse (ltb (length file) end || ltb 4294967295 end) 24 0 ≡ Refused 24 0 ↔ (length file < end) ⊎ (4294967295 < end)
      test = Iff.trans (refuse_reads _ 24 0) (or_reads (lt_reads (length file) end) (lt_reads 4294967295 end))

  -- where the last trailer, if any, is whole: every other refusal
  append_numbers : ((used ≡ 0 → ⊥) → WholeTrailer (length file) used (used - 16)) → (number place : ℕ) → check_append layout file used table ≡ Refused number place
      → (number ≡ 22) ⊎ TwoToFour number ⊎ (number ≡ 24)
  unfolding check_append check24
  append_numbers w number place e =
      ⊎_elim (λ q. inl (by_last q)) (λ q. inr (by_rest q.1))
      ((before_refused (check_last file used) (before (check_table layout table) room) number place).0 e)
    where
      room : Outcome
      room = refuse (ltb (length file) end || ltb 4294967295 end) 24 0

      by_last : check_last file used ≡ Refused number place → number ≡ 22
      by_last q = go (ℕ_discrete used 0)
        where
          go : Dec (used ≡ 0) → number ≡ 22
          go (yes e) = let new = new_checked file used e in apart (cc)
          go (no some) = whole_22 Two file used (used - 16) (w some) number place (ap (check_trailer Two file used) (sym (last_is used some)) ∙ sym (last_checked file used some) ∙ q)

      by_rest : before (check_table layout table) room ≡ Refused number place → TwoToFour number ⊎ (number ≡ 24)
      by_rest q =
          ⊎_elim (λ p. inl (subst (Numbered TwoToFour) p (table_numbered layout table))) (λ p. inr (refused_number _ 24 0 number place p.1).1)
          ((before_refused (check_table layout table) room number place).0 q)

  -- 21 is the last trailer's
  pub unread_last : (place : ℕ) → check_append layout file used table ≡ Refused 21 place → (used ≡ 0 → ⊥) × ((length file < used) ⊎ (used < 16))
  unread_last place e = (
    λ new. other 21 refl (append_numbers (λ some. absurd (some new)) 21 place e),
    ⊎_elim (λ w. absurd (other 21 refl (append_numbers (λ some. w) 21 place e))) (λ h. (last_few (length file) used).0 h) (whole_or (length file) used (used - 16)),
  )
    where
      other : (n : ℕ) → n ≡ 21 → (n ≡ 22) ⊎ TwoToFour n ⊎ (n ≡ 24) → ⊥
      other n q (inl e) = omega arith
      other n q (inr (inl few)) = omega (arith, few.1)
      other n q (inr (inr e)) = omega arith

  -- past the last place that an end may have, no table is taken
  pub past_numbers : 4294967295 < used → used ≤ length file
      → (number : ℕ) × (place : ℕ) × (append_answer layout file used table ≡ Refused number place) × ((number ≡ 22) ⊎ TwoToFour number ⊎ (number ≡ 24))
  past_numbers past fits = go (append_answer layout file used table) refl
    where
      go : (a : Result ℕ Refusal) → append_answer layout file used table ≡ a
          → (number : ℕ) × (place : ℕ) × (append_answer layout file used table ≡ Refused number place) × ((number ≡ 22) ⊎ TwoToFour number ⊎ (number ≡ 24))
      go (Ok e) says = absurd (let space = (took layout file used table e says).checks.space.placed in omega arith)
      go (Err w) says =
          (w.number, w.place, says, append_numbers (λ some. record { fits = fits; ends = omega arith }) w.number w.place (refused_by layout file used table w.number w.place says))
