-- The promises of task tables in one file, for every list of bytes, used length and place. Read this file first.
--
-- `read_answer reader file used at` and `last_answer reader file used` are the whole contracts of `read` and `last`; `append_answer layout file
-- used table` is what `append` answers and `append_file layout file used table` what the lent list holds afterwards, together its whole
-- contract. `trailer_at file at` is what the 16 bytes at a place say, and `read_at reader file used at` what is read of them: what `last` answers
-- at the last 16 bytes, and `read` at every place but `none`, which is 4,294,967,295. `last_place used` is the place of the last trailer, none
-- where no byte is used, and `end_after used n` where a table of n numbers and its trailer end. An answer with nothing told is `nothing`,
-- one that is refused but told of `passed_by`, one that shows its table `shown`. `WholeTrailer` and `Kept` are what 21 and 22 ask for, `Within32` that
-- numbers are of 32 bits, and `Each` that those of every table are, as those of a lent table always are; so are bytes below 256, as `far_place`
-- asks. `..Said` says an answer in numbers.
use Prim.Native.Nat.{ℕ, ◌+◌, ◌-◌, ◌*◌, ◌/◌, ◌<◌, ◌≤◌}
use mathlib.Core.Bool.{false}
use mathlib.Core.List.{List, [], ◌∷◌, map}
use mathlib.Core.Logic.Iff
use mathlib.Core.Logic.{◌↔◌, ◌⊎◌, ⊎_elim}
use mathlib.Core.Path.{ap, ap₂, refl, sym, ◌∙◌, ◌≡◌}
use native.Mathlib.Nat.{zero-mul}
use native.Mathlib.Omega.{arith}
use lib.ListN.{get_or, length, replicate}
use lib.Seq.{sets}
use Rattle.std.specs.Prelude.{Some, None, Ok, Err}
use Rattle.bits.proofs.Laws.Bools.{apart}
use Rattle.tables.specs.Outcomes.{Outcome, Done, Refused}
use Rattle.tables.specs.Refusals.{before}
use Rattle.tables.specs.Said.{done, outcome_said, refused}
use Rattle.tables.proofs.Laws.Said.{outcome_said_law}
use Rattle.chain.specs.declared.answers.Read.{Read}
use Rattle.chain.specs.declared.layout.Layout.{Layout}
use Rattle.chain.specs.declared.layout.Layout.TheVariants.{One, Two}
use Rattle.chain.specs.Answers.{append_answer, append_file, last_answer, new_trailer, nothing, passed_by, read_answer, read_at, shown}
use Rattle.tables.specs.Bytes.{bytes_of}
use Rattle.chain.specs.Layout.{known, number_of, width}
use Rattle.chain.specs.Refusals.{check_append, check_last, check_trailer, end_after}
use Rattle.chain.specs.Said.{appended_said, used_length}
use Rattle.chain.specs.Table.{check_table, padded, table_of}
use Rattle.chain.specs.Trailer.{last_place, misfits, none, trailer_at}
use Rattle.chain.specs.Walk.{Table, ahead, opened, append_all, contents, contents_of, walk}
use Rattle.chain.proofs.Laws.Appended.{Within32, above_after, below_after, length_after, read_known, read_unknown}
use Rattle.chain.proofs.Laws.Appending.{answers_refused, answers_used, last_checked, last_is, last_none, new_checked, appended_numbers}
use Rattle.chain.proofs.Laws.Cases.{either_empty, either_unused, fills_known, full, last_few, last_numbers, not_whole, number_most}
use Rattle.chain.proofs.Laws.Cases.{append_passes, past_numbers, trailer_21, trailer_22, trailer_done, unread_last, whole_not_21, whole_numbers, whole_or}
use Rattle.chain.proofs.Laws.Reading.{by_acceptance, by_refusal, last_short, last_there, read_none, read_nothing, read_there, read_trailer_law, trailer_unknown}
use Rattle.chain.proofs.Laws.Refusals.{Kept, WholeTrailer, end_of_place}
use Rattle.chain.proofs.Laws.Said.{appended_said_law}
use Rattle.chain.proofs.Laws.Same.{goes_back, read_same, read_contents, there_back}
use Rattle.chain.proofs.Laws.Season.{Each, Took, next_checked, opened_good, refused_by, refused_keeps, season_good, took}
use Rattle.chain.proofs.Laws.Table.{length_numbers, many_refused, none_refused}
use Rattle.chain.proofs.Laws.Walk.{ahead_less, length_walk, walk_none, walk_on}

-- ## Reading

module _ (reader : Layout) (file : List ℕ) (used : ℕ) where
  -- `last` answers what is read of the trailer in the last 16 bytes, wherever it lies ..
  pub last_is_there : last_answer reader file used ≡ read_at reader file used (used - 16)
  last_is_there = last_there reader file used

  -- .. which is what `read` answers at its place, where that is not none ..
  pub last_is_read : (used - 16 ≡ none → ⊥) → last_answer reader file used ≡ read_answer reader file used (used - 16)
  last_is_read some = last_there reader file used ∙ sym (read_there reader file used (used - 16) some)

  -- .. and where there are fewer bytes, 21.
  pub too_few : used < 16 → last_answer reader file used ≡ nothing 21 0
  too_few few = last_short reader file used few

  -- `read` at none answers 21, as there the number means that there is no trailer ..
  pub none_is_21 : read_answer reader file used none ≡ nothing 21 0
  none_is_21 = read_none reader file used none refl

  -- .. and at every other place what is read of the trailer there.
  pub read_is_there : (at : ℕ) → (at ≡ none → ⊥) → read_answer reader file used at ≡ read_at reader file used at
  read_is_there at some = read_there reader file used at some

-- What is read of the trailer at a place, by `last` and by `read`.
module _ (reader : Layout) (file : List ℕ) (used at : ℕ) where
  -- 21, exactly where the used length passes the list, or no whole trailer lies at the place. Nothing is told, and there is no trailer to go
  -- on to.
  pub no_trailer : (WholeTrailer (length file) used at → ⊥) → read_at reader file used at ≡ nothing 21 0
  no_trailer never = read_nothing reader file used at (Refused 21 0) (sym (trailer_21 reader file used at never)) 21 0 refl

  pub no_trailer_exactly : outcome_said (read_at reader file used at).outcome ≡ refused 21 0 ↔ (length file < used) ⊎ (used < at + 16)
  unfolding outcome_said nothing
  no_trailer_exactly = (
    λ says. ⊎_elim (λ w. absurd (whole_not_21 reader file used at w 0 (outcome_said_law _ (Refused 21 0) says))) (λ h. h) (whole_or (length file) used at),
    λ h. ap (λ (r : Read). outcome_said r.outcome) (no_trailer (not_whole (length file) used at h)),
  )

  -- Where a whole trailer lies at the place ..
  module _ (whole : WholeTrailer (length file) used at) where
    -- .. 21 is not given: a refusal is 22, 23 or 2 to 4.
    pub whole_refusals : (number place : ℕ) → outcome_said (read_at reader file used at).outcome ≡ refused number place
        → (number ≡ 22) ⊎ (number ≡ 23) ⊎ ((2 ≤ number) × (number ≤ 4))
    unfolding outcome_said
    whole_refusals number place says = whole_numbers reader file used at whole number place (outcome_said_law _ (Refused number place) says)

    -- Where its table starts before the preceding trailer's end, or after its own trailer, or, in a layout that the reader knows, does not end
    -- there, it is 22.
    pub broken : (Kept reader (trailer_at file at) at → ⊥) → read_at reader file used at ≡ nothing 22 0
    broken never = read_nothing reader file used at (Refused 22 0) (sym (trailer_22 reader file used at whole never)) 22 0 refl

    -- So a preceding trailer that does not end before this one, itself or a later one among them, is 22 ..
    pub never_forward : ((trailer_at file at).before ≡ none → ⊥) → at < (trailer_at file at).before + 16 → read_at reader file used at ≡ nothing 22 0
    never_forward some ahead = broken (λ k. omega (arith, k.behind, k.within, end_of_place (trailer_at file at).before some))

    -- .. and so is a place from 4,294,967,280 on that is not none, as no table starts behind its end.
    pub far_place : ((i : ℕ) → get_or file i 0 < 256) → ((trailer_at file at).before ≡ none → ⊥) → 4294967280 ≤ (trailer_at file at).before
        → read_at reader file used at ≡ nothing 22 0
    unfolding trailer_at
    far_place bytes some far =
        broken (λ k. omega (arith, k.behind, end_of_place (trailer_at file at).before some, number_most file bytes at))

    -- Where its places keep the rules ..
    module _ (kept : Kept reader (trailer_at file at) at) where
      passes : check_trailer reader file used at ≡ Done
      passes = trailer_done reader file used at whole kept

      -- .. its layout and the preceding trailer are told, whatever is found of its table.
      pub contents_of_law : ((read_at reader file used at).layout ≡ (trailer_at file at).layout) × ((read_at reader file used at).before ≡ (trailer_at file at).before)
      contents_of_law = read_contents reader file used at passes

      -- A layout that the reader does not know is 23, with the layout as the place, and no fields.
      pub other_layout : known reader (trailer_at file at).layout ≡ None → read_at reader file used at ≡ passed_by (trailer_at file at) 23 (trailer_at file at).layout
      other_layout not_known =
          read_trailer_law reader file used at Done (sym passes) refl ∙ sym (trailer_unknown reader file (trailer_at file at) None (sym not_known) refl)

      -- In one that it knows, the table is refused with 2, 3 or 4, as document 01 has them for its seven numbers per task ..
      module _ (layout : Layout) (knows : known reader (trailer_at file at).layout ≡ Some layout) where
        pub table_refused : (number place : ℕ) → outcome_said (check_table layout (table_of (Some layout) file (trailer_at file at))) ≡ refused number place
            → read_at reader file used at ≡ passed_by (trailer_at file at) number place
        unfolding outcome_said
        table_refused number place says =
            read_trailer_law reader file used at Done (sym passes) refl
            ∙ by_refusal reader file (trailer_at file at) layout knows number place (outcome_said_law _ (Refused number place) says)

        -- .. 2 where the count is 0 or over 16 ..
        pub count_refused : ((trailer_at file at).count ≡ 0) ⊎ (16 < (trailer_at file at).count) → read_at reader file used at ≡ passed_by (trailer_at file at) 2 0
        unfolding outcome_said table_of
        count_refused few-or-many =
            let t = trailer_at file at in
            let size = length_numbers file t.start (t.count * width layout) in
            table_refused 2 0
            (ap outcome_said (⊎_elim (λ e. none_refused layout (table_of (Some layout) file t) (size ∙ ap (λ (n : ℕ). n * width layout) e ∙ zero-mul (width layout)))
            (λ h. many_refused layout (table_of (Some layout) file t) t.count size h) few-or-many))

        -- .. or shown.
        pub table_shown : outcome_said (check_table layout (table_of (Some layout) file (trailer_at file at))) ≡ done
            → read_at reader file used at ≡ shown (trailer_at file at) (table_of (Some layout) file (trailer_at file at))
        unfolding outcome_said
        table_shown says =
            read_trailer_law reader file used at Done (sym passes) refl
            ∙ by_acceptance reader file (trailer_at file at) layout knows (outcome_said_law _ Done says)

  -- "Its fields fill exactly the bytes up to that trailer", in numbers.
  pub fills_exactly : (layout : Layout) → known reader (trailer_at file at).layout ≡ Some layout
      → misfits (known reader (trailer_at file at).layout) (trailer_at file at) at ≡ false
      ↔ (trailer_at file at).start + (trailer_at file at).count * width layout * 4 ≡ at
  fills_exactly layout knows = rw knows (fills_known layout (trailer_at file at) at)

  -- Whatever `read` or `last` answers ..
  module _ (r : Read) (either : (r ≡ read_answer reader file used at) ⊎ (r ≡ last_answer reader file used)) where
    -- .. after every refusal the count and all fields are 0 ..
    pub refused_empty : (number place : ℕ) → outcome_said r.outcome ≡ refused number place → (r.count ≡ 0) × (r.fields ≡ replicate 128 0)
    unfolding outcome_said
    refused_empty number place says = either_empty reader file used at r either number place (outcome_said_law _ (Refused number place) says)

    -- .. and where nothing is refused, the fields behind those of the tasks counted.
    pub unused_zero : outcome_said r.outcome ≡ done
        → (layout : Layout) × (known reader r.layout ≡ Some layout) × ((i : ℕ) → r.count * width layout ≤ i → get_or r.fields i 0 ≡ 0)
    unfolding outcome_said
    unused_zero says = either_unused reader file used at r either (outcome_said_law _ Done says)

-- `last` gives 21 exactly where the used length passes the list or is below 16 ..
pub last_21_exactly : (reader : Layout) (file : List ℕ) (used : ℕ) → outcome_said (last_answer reader file used).outcome ≡ refused 21 0 ↔ (length file < used) ⊎ (used < 16)
unfolding last_answer
last_21_exactly reader file used = Iff.trans (no_trailer_exactly reader file used (used - 16)) (last_few (length file) used)

-- .. so that with 4,294,967,311 used bytes it answers by the trailer at byte 4,294,967,295 ..
pub last_at_none : (reader : Layout) (file : List ℕ) → last_answer reader file 4294967311 ≡ read_at reader file 4294967311 none
last_at_none reader file = last_is_there reader file 4294967311

-- .. and in a list at least as long, where that trailer is whole, a refusal is 22, 23 or 2 to 4.
pub last_at_none_refusals : (reader : Layout) (file : List ℕ) → 4294967311 ≤ length file
    → (number place : ℕ) → outcome_said (last_answer reader file 4294967311).outcome ≡ refused number place
    → (number ≡ 22) ⊎ (number ≡ 23) ⊎ ((2 ≤ number) × (number ≤ 4))
unfolding last_answer
last_at_none_refusals reader file long number place says =
    whole_refusals reader file 4294967311 none (record { fits = long; ends = omega arith }) number place says

-- ## The walk ends, for any bytes

-- What `last` answers leads to none, or at least 16 bytes back from the last trailer.
pub last_leads_back : (reader : Layout) (file : List ℕ) (used : ℕ) → ((last_answer reader file used).before ≡ none) ⊎ ((last_answer reader file used).before + 16 ≤ used - 16)
unfolding last_answer
last_leads_back reader file used = there_back reader file used (used - 16)

module _ (reader : Layout) (file : List ℕ) (used at : ℕ) where
  -- What `read` answers leads to none, or at least 16 bytes back ..
  pub leads_back : ((read_answer reader file used at).before ≡ none) ⊎ ((read_answer reader file used at).before + 16 ≤ at)
  leads_back = goes_back reader file used at

  -- .. so that the loop "while the place is not none: read there, and go on to `before`" has an end: what it reads from a place is what it
  -- reads there, and then what it reads from `before` ..
  pub walk_goes_on : (at ≡ none → ⊥) → walk reader file used at ≡ read_answer reader file used at ∷ walk reader file used (read_answer reader file used at).before
  walk_goes_on some = walk_on reader file used at some

  -- .. with fewer bytes ahead after each turn, which a caller's own proof of such a loop may cite ..
  pub ahead_falls : (at ≡ none → ⊥) → ahead (read_answer reader file used at).before < ahead at
  ahead_falls some = ahead_less reader file used at some

  -- .. and at most one answer for each 16 bytes up to the place, and one more.
  pub walk_ends : length (walk reader file used at) ≤ at / 16 + 1
  walk_ends = length_walk reader file used at

-- From none nothing is read.
pub walk_stops : (reader : Layout) (file : List ℕ) (used : ℕ) → walk reader file used none ≡ []
walk_stops reader file used = walk_none reader file used

-- ## Appending

-- The place of the preceding trailer that an append writes: none in a new file, else that of the former last trailer.
pub former_last : (used : ℕ) → (used ≡ 0 → last_place used ≡ none) × ((used ≡ 0 → ⊥) → last_place used ≡ used - 16)
former_last used = (last_none used, last_is used)

module _ (layout : Layout) (file : List ℕ) (used : ℕ) (table : List ℕ) where
  -- A table is taken exactly where the last trailer and the table pass their checks, and the end passes neither the lent list nor
  -- 4,294,967,295; the answer is that end.
  pub taken_exactly : (end : ℕ) → appended_said (append_answer layout file used table) ≡ used_length end
      ↔ (outcome_said (check_last file used) ≡ done) × (outcome_said (check_table layout table) ≡ done) × (end ≡ end_after used (length table)) × (end ≤ length file) × (end ≤ 4294967295)
  unfolding appended_said outcome_said
  taken_exactly end = (
    λ says. let w = took layout file used table end (appended_said_law _ (Ok end) says) in
        (ap outcome_said w.checks.last, ap outcome_said w.checks.numbers, w.ends, omega (arith, w.ends, w.checks.space.listed), omega (arith, w.ends, w.checks.space.placed)),
    λ w. ap appended_said (sym (answers_used layout file used table Done
        (sym (append_passes layout file used table
        (record { last = outcome_said_law _ Done w.0; numbers = outcome_said_law _ Done w.1; space = record { listed = omega (arith, w.2, w.3); placed = omega (arith, w.2, w.4) } })))
        end refl w.2)),
  )

  -- What the last trailer is refused with goes first: 21, then 22, both layouts known ..
  last_refused : (number place : ℕ) → check_last file used ≡ Refused number place → appended_said (append_answer layout file used table) ≡ refused number place
  unfolding appended_said check_append before
  last_refused number place e =
      ap appended_said (sym (answers_refused layout file used table (Refused number place) (sym (rw e)) number place refl))

  pub last_21 : (used ≡ 0 → ⊥) → (WholeTrailer (length file) used (used - 16) → ⊥) → appended_said (append_answer layout file used table) ≡ refused 21 0
  last_21 some never =
      last_refused 21 0 (last_checked file used some ∙ ap (check_trailer Two file used) (last_is used some) ∙ trailer_21 Two file used (used - 16) never)

  pub last_22 : (used ≡ 0 → ⊥) → WholeTrailer (length file) used (used - 16) → (Kept Two (trailer_at file (used - 16)) (used - 16) → ⊥)
      → appended_said (append_answer layout file used table) ≡ refused 22 0
  last_22 some whole never =
      last_refused 22 0 (last_checked file used some ∙ ap (check_trailer Two file used) (last_is used some) ∙ trailer_22 Two file used (used - 16) whole never)

  -- .. then what the table is refused with.
  pub table_next : (number place : ℕ) → outcome_said (check_last file used) ≡ done → outcome_said (check_table layout table) ≡ refused number place
      → appended_said (append_answer layout file used table) ≡ refused number place
  unfolding appended_said outcome_said check_append before
  table_next number place last says =
      ap appended_said (sym (answers_refused layout file used table (Refused number place)
      (sym (rw (outcome_said_law (check_last file used) Done last, outcome_said_law (check_table layout table) (Refused number place) says))) number place refl))

  -- 24 is given exactly where both pass, and the end would pass the lent list or 4,294,967,295.
  pub full_exactly : appended_said (append_answer layout file used table) ≡ refused 24 0
      ↔ (outcome_said (check_last file used) ≡ done) × (outcome_said (check_table layout table) ≡ done)
      × ((length file < end_after used (length table)) ⊎ (4294967295 < end_after used (length table)))
  unfolding appended_said outcome_said
  full_exactly =
      let w = full layout file used table in (
        λ says. let p = w.0 (refused_by layout file used table 24 0 (appended_said_law _ (Refused 24 0) says)) in (ap outcome_said p.0, ap outcome_said p.1, p.2),
        λ p. ap appended_said (sym (answers_refused layout file used table (Refused 24 0) (sym (w.1 (outcome_said_law _ Done p.0, outcome_said_law _ Done p.1, p.2))) 24 0 refl)),
      )

  -- 21 is given exactly where the used length is not 0, and passes the list or is below 16 ..
  pub append_21_exactly : appended_said (append_answer layout file used table) ≡ refused 21 0 ↔ (used ≡ 0 → ⊥) × ((length file < used) ⊎ (used < 16))
  unfolding appended_said
  append_21_exactly = (
    λ says. unread_last layout file used table 0 (refused_by layout file used table 21 0 (appended_said_law _ (Refused 21 0) says)),
    λ w. last_21 w.0 (not_whole (length file) used (used - 16) ((last_few (length file) used).1 w.1)),
  )

  -- .. so that past 4,294,967,295 used bytes of a list, with 4,294,967,311 too, where the last trailer lies at byte 4,294,967,295, an append is
  -- refused with 22, 2 to 4 or 24, and never taken.
  pub past_all_places : 4294967295 < used → used ≤ length file
      → (number : ℕ) × (place : ℕ) × (appended_said (append_answer layout file used table) ≡ refused number place)
      × ((number ≡ 22) ⊎ ((2 ≤ number) × (number ≤ 4)) ⊎ (number ≡ 24))
  unfolding appended_said
  past_all_places past fits = let w = past_numbers layout file used table past fits in (w.0, w.1, ap appended_said w.2, w.3)

  -- The last trailer is checked by 21 and 22 alone, both layouts known: what a reader of layout 2 reads there with any other outcome, 23 for a
  -- layout that nobody knows among them, stops no append; nor does a used length of 0.
  pub last_passes : (outcome_said (last_answer Two file used).outcome ≡ refused 21 0 → ⊥) → (outcome_said (last_answer Two file used).outcome ≡ refused 22 0 → ⊥)
      → outcome_said (check_last file used) ≡ done
  unfolding outcome_said last_answer nothing
  last_passes not-21 not-22 = go (check_last file used) refl
    where
      go : (o : Outcome) → check_last file used ≡ o → outcome_said o ≡ done
      go Done e = refl
      go (Err r) e =
          let some : used ≡ 0 → ⊥ = λ z. let new = new_checked file used z in apart (cc) in
          let check : check_trailer Two file used (used - 16) ≡ Err r = ap (check_trailer Two file used) (sym (last_is used some)) ∙ sym (last_checked file used some) ∙ e in
          let says = ap (λ (r : Read). outcome_said r.outcome) (read_nothing Two file used (used - 16) (Err r) (sym check) r.number r.place refl) in
          let w = last_numbers file used r.number r.place e in
          absurd (⊎_elim (λ n. not-21 (says ∙ ap₂ (λ (x y : ℕ). x ∷ y ∷ []) n w.1)) (λ n. not-22 (says ∙ ap₂ (λ (x y : ℕ). x ∷ y ∷ []) n w.1)) w.0)

  pub new_passes : used ≡ 0 → outcome_said (check_last file used) ≡ done
  unfolding outcome_said
  new_passes e = ap outcome_said (new_checked file used e)

  -- A refusal writes nothing.
  pub refused_writes_nothing : (number place : ℕ) → appended_said (append_answer layout file used table) ≡ refused number place → append_file layout file used table ≡ file
  unfolding appended_said
  refused_writes_nothing number place says = refused_keeps layout file used table number place (appended_said_law _ (Refused number place) says)

  -- Where the table is taken, up to byte `end` ..
  module _ (end : ℕ) (says : appended_said (append_answer layout file used table) ≡ used_length end) where
    is : Took layout file used table end
    unfolding appended_said
    is = took layout file used table end (appended_said_law _ (Ok end) says)

    -- .. the list is as long as it was, and every byte before the former used length and behind the new one is as it was ..
    pub same_length : length (append_file layout file used table) ≡ length file
    same_length = ap length is.wrote ∙ length_after layout file used table is.checks

    pub bytes_before : (i : ℕ) → i < used → get_or (append_file layout file used table) i 0 ≡ get_or file i 0
    bytes_before i l = ap (λ (f : List ℕ). get_or f i 0) is.wrote ∙ below_after layout file used table is.checks i l

    pub bytes_behind : (i : ℕ) → end ≤ i → get_or (append_file layout file used table) i 0 ≡ get_or file i 0
    bytes_behind i l = ap (λ (f : List ℕ). get_or f i 0) is.wrote ∙ above_after layout file used table is.checks i (omega (arith, is.ends))

    -- .. every trailer that was whole within the former used length is answered as before, by either reader ..
    pub earlier_same : (reader : Layout) (at : ℕ) → at + 16 ≤ used → read_answer reader (append_file layout file used table) end at ≡ read_answer reader file used at
    earlier_same reader at there =
        let space = is.checks.space in
        sym (read_same file (append_file layout file used table) at (λ i l. sym (bytes_before i (omega arith))) reader used
        end there (omega (arith, space.listed)) (omega (arith, is.ends)) (omega (arith, is.ends, space.listed, same_length)))

    at_the_end : (reader : Layout) → last_answer reader (append_file layout file used table) end
        ≡ read_answer reader (sets file used (bytes_of 4 (appended_numbers layout file used table))) (end_after used (length table)) (used + length table * 4)
    at_the_end reader =
        last_is_read reader (append_file layout file used table) end (λ e. omega (arith, is.ends, is.checks.space.placed))
        ∙ ap₂ (λ (f : List ℕ) (e : ℕ). read_answer reader f e (e - 16)) is.wrote is.ends
        ∙ ap (read_answer reader (sets file used (bytes_of 4 (appended_numbers layout file used table))) (end_after used (length table)))
        (let e : end_after used (length table) - 16 ≡ used + length table * 4 = omega arith in e)

    -- .. a reader that knows the layout reads at the new end the table, its count, and the former last trailer ..
    pub reads_back : (reader : Layout) → known reader (number_of layout) ≡ Some layout → Within32 table
        → last_answer reader (append_file layout file used table) end
        ≡ record { outcome = Done; layout = number_of layout; before = last_place used; count = length table / width layout; fields = padded 128 table }
    unfolding shown new_trailer
    reads_back reader knows small = at_the_end reader ∙ read_known layout file used table is.checks reader knows small

    -- .. one that does not, 23 and the former last trailer ..
    pub reads_past : (reader : Layout) → known reader (number_of layout) ≡ None
        → last_answer reader (append_file layout file used table) end
        ≡ record { outcome = Refused 23 (number_of layout); layout = number_of layout; before = last_place used; count = 0; fields = replicate 128 0 }
    unfolding passed_by new_trailer
    reads_past reader not_known = at_the_end reader ∙ read_unknown layout file used table is.checks reader not_known

    -- .. and the next append is refused by its table or its room alone.
    pub next_passes : outcome_said (check_last (append_file layout file used table) end) ≡ done
    unfolding outcome_said
    next_passes = ap outcome_said (next_checked layout file used table end is)

-- A reader of layout 2 knows both layouts, a reader of layout 1 its own.
pub two_knows : (layout : Layout) → known Two (number_of layout) ≡ Some layout
unfolding known
two_knows One = refl
two_knows Two = refl

pub one_knows : (known One (number_of One) ≡ Some One) × (known One (number_of Two) ≡ None)
unfolding known
one_knows = (refl, refl)

-- ## Any sequence of appends

-- After any appends to a new file in any lent list, refused ones among them, the walk from its end tells either reader of the tables that were
-- taken, the last first, and then ends: each table with its count, or 23 for one of layout 2 to a reader of layout 1.
pub all_read_back : (lent : List ℕ) (tables : List Table) → Each tables → (reader : Layout)
    → map contents (walk reader (append_all (opened lent) tables).bytes (append_all (opened lent) tables).used (last_place (append_all (opened lent) tables).used))
    ≡ map (contents_of reader) (append_all (opened lent) tables).tables_taken
all_read_back lent tables small reader = (season_good (opened lent) tables small (opened_good lent)).walks reader

-- And an append to such a file is refused by its table or its room alone.
pub appends_go_on : (lent : List ℕ) (tables : List Table) → Each tables → outcome_said (check_last (append_all (opened lent) tables).bytes (append_all (opened lent) tables).used) ≡ done
unfolding outcome_said
appends_go_on lent tables small = ap outcome_said (season_good (opened lent) tables small (opened_good lent)).last
