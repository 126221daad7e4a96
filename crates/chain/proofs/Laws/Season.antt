-- Laws of an append's answer, and of a season file: after any appends the walk from its end tells of the tables taken, the last first.
use Prim.Native.Nat.{ℕ, ◌+◌, ◌-◌, ◌*◌, ◌≤◌}
use mathlib.Core.List.{List, [], ◌∷◌, map}
use mathlib.Core.Logic.{inl, inr, ◌⊎◌, ⊎_elim}
use mathlib.Core.Path.{ap, ap₂, refl, sym, ◌∙◌, ◌≡◌}
use native.Mathlib.Decide.{ℕ_discrete}
use native.Mathlib.Omega.{arith}
use lib.ListN.{length}
use lib.Seq.{sets}
use Rattle.std.specs.Prelude.{Option, Some, None, Result, Ok, Err}
use Rattle.tables.specs.declared.answers.Refusal.{Refusal}
use Rattle.tables.specs.Outcomes.{Done, Refused}
use Rattle.tables.proofs.Laws.Refusals as refusals
use Rattle.chain.specs.declared.answers.Read.{Read}
use Rattle.chain.specs.declared.layout.Layout.{Layout}
use Rattle.chain.specs.declared.layout.Layout.TheVariants.{Two}
use Rattle.chain.specs.Answers.{append_answer, append_file, new_trailer, passed_by, read_answer, shown}
use Rattle.tables.specs.Bytes.{bytes_of}
use Rattle.chain.specs.Layout.{known, number_of}
use Rattle.chain.specs.Refusals.{check_append, check_last, check_trailer, end_after}
use Rattle.chain.specs.Trailer.{last_place, none}
use Rattle.chain.specs.Walk.{SeasonFile, Table, Contents, grows, grows_by, opened, append_all, contents_to, contents, contents_of, walk}
use Rattle.chain.proofs.Laws.Appended.{Within32, below_after, length_after, own_known, places_kept, read_known, read_unknown}
use Rattle.chain.proofs.Laws.Appending.{Accepted, last_checked, last_is, last_none, new_checked, accepted, writes_both, writes_nothing, appended_numbers}
use Rattle.chain.proofs.Laws.Refusals.{trailer_whole}
use Rattle.chain.proofs.Laws.Walk.{walk_none, walk_on, walk_same}

-- ## What an answer says

module _ (layout : Layout) (file : List ℕ) (used : ℕ) (table : List ℕ) where
  -- the table was taken, up to byte e
  pub record Took (e : ℕ) : Type 0 where
    pub checks : Accepted layout file used table
    pub ends : e ≡ end_after used (length table)
    pub wrote : append_file layout file used table ≡ sets file used (bytes_of 4 (appended_numbers layout file used table))

  pub took : (e : ℕ) → append_answer layout file used table ≡ Ok e → Took e
  unfolding append_answer
  took e says =
      let w = (refusals.given_by (end_after used (length table)) (check_append layout file used table) e).0 says in
      record {
        checks = accepted layout file used table w.0;
        ends = sym w.1;
        wrote = sym (writes_both layout file used table Done (sym w.0) (sets file used (bytes_of 4 (appended_numbers layout file used table))) refl refl);
      }

  pub refused_by : (number place : ℕ) → append_answer layout file used table ≡ Refused number place → check_append layout file used table ≡ Refused number place
  unfolding append_answer
  refused_by number place says =
      (refusals.refused_by (end_after used (length table)) (check_append layout file used table) number place).0 says

  pub refused_keeps : (number place : ℕ) → append_answer layout file used table ≡ Refused number place → append_file layout file used table ≡ file
  refused_keeps number place says = sym (writes_nothing layout file used table (Refused number place) (sym (refused_by number place says)) number place refl)

  -- the trailer that it wrote keeps the rules
  pub next_checked : (e : ℕ) → Took e → check_last (append_file layout file used table) e ≡ Done
  next_checked e k =
      let some : e ≡ 0 → ⊥ = λ z. omega (arith, k.ends) in
      let at = used + length table * 4 in
      let place : last_place e ≡ at = last_is e some ∙ (let q : e - 16 ≡ at = omega (arith, k.ends) in q) in
      last_checked (append_file layout file used table) e some ∙ ap (check_trailer Two (append_file layout file used table) e) place
      ∙ ap₂ (λ (f : List ℕ) (n : ℕ). check_trailer Two f n at) k.wrote k.ends ∙ places_kept layout file used table k.checks Two

-- the preceding trailer of a table that was taken is whole, if there is one
pub last_within : (file : List ℕ) (used : ℕ) → check_last file used ≡ Done → (last_place used ≡ none) ⊎ (last_place used + 16 ≤ used)
last_within file used ok = go (ℕ_discrete used 0)
  where
    go : Dec (used ≡ 0) → (last_place used ≡ none) ⊎ (last_place used + 16 ≤ used)
    go (yes e) = inl (last_none used e)
    go (no some) = inr (trailer_whole Two file used (last_place used) (sym (last_checked file used some) ∙ ok)).ends

-- ## What a reader is told of a table that was taken

module _ (layout : Layout) (file : List ℕ) (used : ℕ) (table : List ℕ) (w : Accepted layout file used table) (small : Within32 table) (reader : Layout) where
  abbrev after : List ℕ
  after = sets file used (bytes_of 4 (appended_numbers layout file used table))

  abbrev at : ℕ
  at = used + length table * 4

  abbrev end : ℕ
  end = end_after used (length table)

  new_contents : (contents (read_answer reader after end at) ≡ contents_of reader (record { layout = layout; numbers = table })) × ((read_answer reader after end at).before ≡ last_place used)
  unfolding contents contents_of contents_to shown passed_by new_trailer
  new_contents =
      ⊎_elim (λ e. told (Some layout) e (read_known layout file used table w reader e small) refl refl)
      (λ e. told None e (read_unknown layout file used table w reader e) refl refl) (own_known reader layout)
    where
      t : Table
      t = record { layout = layout; numbers = table }

      told : (k : Option Layout) {r : Read} → known reader (number_of layout) ≡ k → read_answer reader after end at ≡ r → contents r ≡ contents_to k t → r.before ≡ last_place used
          → (contents (read_answer reader after end at) ≡ contents_to (known reader (number_of layout)) t) × ((read_answer reader after end at).before ≡ last_place used)
      told k e is here back = (ap contents is ∙ here ∙ ap (λ (x : Option Layout). contents_to x t) (sym e), ap (λ (x : Read). x.before) is ∙ back)

  -- the walk from the new end: the table, then the walk from the former end
  pub walk_longer : (used ≤ length file) → walk reader after end (last_place end) ≡ read_answer reader after end at ∷ walk reader file used (last_place used)
  walk_longer fits =
      let from : last_place end ≡ at = last_is end (λ e. omega arith) ∙ (let e : end - 16 ≡ at = omega arith in e) in
      ap (walk reader after end) from
      ∙ walk_on reader after end at (λ e. omega (arith, w.space.placed))
      ∙ ap (λ (p : ℕ). read_answer reader after end at ∷ walk reader after end p) new_contents.1
      ∙ ap (λ (rs : List Read). read_answer reader after end at ∷ rs)
      (sym (walk_same reader file after used end (λ i l. sym (below_after layout file used table w i l)) fits (omega arith)
      (omega (arith, length_after layout file used table w, w.space.listed)) (last_place used) (last_within file used w.last)))

  pub contents_longer : (used ≤ length file) → (ts : List Contents) → map contents (walk reader file used (last_place used)) ≡ ts
      → map contents (walk reader after end (last_place end)) ≡ contents_of reader (record { layout = layout; numbers = table }) ∷ ts
  contents_longer fits ts e = ap (map contents) (walk_longer fits) ∙ ap₂ (λ (x : Contents) (xs : List Contents). x ∷ xs) new_contents.0 e

-- ## Any sequence of appends

pub record Walkable (s : SeasonFile) : Type 0 where
  pub fits : s.used ≤ length s.bytes
  pub last : check_last s.bytes s.used ≡ Done
  pub walks : (reader : Layout) → map contents (walk reader s.bytes s.used (last_place s.used)) ≡ map (contents_of reader) s.tables_taken

pub opened_good : (lent : List ℕ) → Walkable (opened lent)
unfolding opened
opened_good lent =
    record {
      fits = omega arith;
      last = new_checked lent 0 refl;
      walks = λ reader. ap (λ (p : ℕ). map contents (walk reader lent 0 p)) (last_none 0 refl) ∙ ap (map contents) (walk_none reader lent 0);
    }

pub grows_good : (s : SeasonFile) (t : Table) → Within32 t.numbers → Walkable s → Walkable (grows s t)
unfolding grows grows_by
grows_good s t small w = go (append_answer t.layout s.bytes s.used t.numbers) refl
  where
    go : (a : Result ℕ Refusal) → append_answer t.layout s.bytes s.used t.numbers ≡ a → Walkable (grows_by a s t)
    go (Ok e) says =
        let k = took t.layout s.bytes s.used t.numbers e says in
        record {
          fits = omega (arith, ap length k.wrote, length_after t.layout s.bytes s.used t.numbers k.checks, k.ends, k.checks.space.listed);
          last = next_checked t.layout s.bytes s.used t.numbers e k;
          walks = λ reader.
              ap₂ (λ (f : List ℕ) (n : ℕ). map contents (walk reader f n (last_place n))) k.wrote k.ends
              ∙ contents_longer t.layout s.bytes s.used t.numbers k.checks small reader w.fits (map (contents_of reader) s.tables_taken) (w.walks reader);
        }
    go (Err r) says =
        let kept = refused_keeps t.layout s.bytes s.used t.numbers r.number r.place says in
        record {
          fits = omega (arith, ap length kept, w.fits);
          last = ap (λ (f : List ℕ). check_last f s.used) kept ∙ w.last;
          walks = λ reader. ap (λ (f : List ℕ). map contents (walk reader f s.used (last_place s.used))) kept ∙ w.walks reader;
        }

-- every number of every table is one of 32 bits
abbrev pub Each : List Table → Type 0
Each [] = Unit {0}
Each (t ∷ ts) = Within32 t.numbers × Each ts

pub season_good : (s : SeasonFile) (ts : List Table) → Each ts → Walkable s → Walkable (append_all s ts)
unfolding append_all
season_good s [] small w = w
season_good s (t ∷ ts) small w = season_good (grows s t) ts small.1 (grows_good s t small.0 w)
