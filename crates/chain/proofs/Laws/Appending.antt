-- Laws of an append as the code makes it: its checks, its bytes, its answer.
use Prim.Native.Nat.{ℕ, ◌+◌, ◌-◌, ◌*◌, ◌/◌, ◌<◌, ◌≤◌}
use mathlib.Core.Bool.{true, ◌||◌}
use mathlib.Core.List.{List, ◌++◌, [], ◌∷◌}
use mathlib.Core.Path.{ap, sym, ◌∙◌, ◌≡◌}
use native.Mathlib.Omega.{arith}
use lib.Dec.{eqb, ltb}
use lib.ListN.{length}
use lib.Seq.{sets}
use borrow.Author.Tests.{eq-eqb, lt-ltb, ltb-false, ltb-true, ne_eqb}
use Rattle.bits.proofs.Laws.Bools.{by_cond, or_left_false, or_right_false, same_test}
use Rattle.std.specs.Prelude.{Ok}
use Rattle.tables.specs.Outcomes.{Outcome, Done, Refused}
use Rattle.tables.proofs.Laws.Bytes.{put_behind}
use Rattle.tables.proofs.Laws.Refusals.{refuse_fine, unless_done, unless_refused, all_done, first_of}
use Rattle.chain.specs.declared.layout.Layout.{Layout}
use Rattle.chain.specs.declared.layout.Layout.TheVariants.{Two}
use Rattle.chain.specs.Answers.{append_answer, append_file, new_trailer}
use Rattle.tables.specs.Bytes.{bytes_of}
use Rattle.chain.specs.Refusals.{check24, check_append, check_last, check_trailer, end_after}
use Rattle.chain.specs.Table.{check_table}
use Rattle.chain.specs.Trailer.{last_place, none, trailer_numbers}

-- ## The last trailer

pub last_none : (used : ℕ) → used ≡ 0 → last_place used ≡ none
unfolding last_place
last_none used e = rw (eq-eqb used 0 e)

pub last_is : (used : ℕ) → (used ≡ 0 → ⊥) → last_place used ≡ used - 16
unfolding last_place
last_is used some = rw (ne_eqb used 0 some)

pub last_small : (used : ℕ) → used ≤ 4294967295 → last_place used ≤ 4294967295
unfolding last_place
last_small used h = by_cond (λ x. x ≤ 4294967295) (eqb used 0) none (used - 16) (λ _. omega arith) (λ _. omega arith)

pub new_checked : (file : List ℕ) (used : ℕ) → used ≡ 0 → check_last file used ≡ Done
unfolding check_last
new_checked file used e = rw (eq-eqb used 0 e)

pub last_checked : (file : List ℕ) (used : ℕ) → (used ≡ 0 → ⊥) → check_last file used ≡ check_trailer Two file used (last_place used)
unfolding check_last
last_checked file used some = rw (ne_eqb used 0 some) (ap (check_trailer Two file used) (sym (last_is used some)))

-- ## The room

module _ (limit used numbers : ℕ) where
  pub passes_used : limit < used → true ≡ ltb limit (end_after used numbers)
  passes_used h = sym (lt-ltb limit (end_after used numbers) (omega arith))

  pub passes_trailer : used ≤ limit → limit - used < 16 → true ≡ ltb limit (end_after used numbers)
  passes_trailer l h = sym (lt-ltb limit (end_after used numbers) (omega arith))

  pub passes_numbers : used ≤ limit → 16 ≤ limit - used → ltb ((limit - used - 16) / 4) numbers ≡ ltb limit (end_after used numbers)
  passes_numbers l h =
      same_test (ltb ((limit - used - 16) / 4) numbers) (ltb limit (end_after used numbers))
      (λ t. lt-ltb limit (end_after used numbers) (omega (arith, ltb-true ((limit - used - 16) / 4) numbers t)))
      (λ t. lt-ltb ((limit - used - 16) / 4) numbers (omega (arith, ltb-true limit (end_after used numbers) t)))

-- what 24 leaves
pub record Room (bytes used numbers : ℕ) : Type 0 where
  pub listed : end_after used numbers ≤ bytes
  pub placed : end_after used numbers ≤ 4294967295

pub room : (bytes used numbers : ℕ) → check24 bytes used numbers ≡ Done → Room bytes used numbers
unfolding check24
room bytes used numbers ok =
    let tests = refuse_fine (ltb bytes (end_after used numbers) || ltb 4294967295 (end_after used numbers)) 24 0 ok in
    record {
      listed = ltb-false bytes (end_after used numbers) (or_left_false (ltb bytes (end_after used numbers)) (ltb 4294967295 (end_after used numbers)) tests);
      placed = ltb-false 4294967295 (end_after used numbers) (or_right_false (ltb bytes (end_after used numbers)) (ltb 4294967295 (end_after used numbers)) tests);
    }

-- ## The whole append

module _ (layout : Layout) (file : List ℕ) (used : ℕ) (table : List ℕ) where
  -- all checks pass
  pub record Accepted : Type 0 where
    pub last : check_last file used ≡ Done
    pub numbers : check_table layout table ≡ Done
    pub space : Room (length file) used (length table)

  pub accepted : check_append layout file used table ≡ Done → Accepted
  unfolding check_append first_of
  accepted ok =
      let w = (all_done (check_last file used ∷ check_table layout table ∷ check24 (length file) used (length table) ∷ [])).0 ok in
      record { last = w.0; numbers = w.1.0; space = room (length file) used (length table) w.1.1.0 }

  -- what is written
  abbrev pub appended_numbers : List ℕ
  appended_numbers = table ++ trailer_numbers (new_trailer layout used (length table))

  pub written_both : (middle after trailer : List ℕ) (at : ℕ) → after ≡ sets middle at (bytes_of 4 trailer) → middle ≡ sets file used (bytes_of 4 table)
      → at ≡ used + length table * 4 → trailer ≡ trailer_numbers (new_trailer layout used (length table)) → after ≡ sets file used (bytes_of 4 appended_numbers)
  written_both middle after trailer at second first behind its =
      second ∙ ap (λ (f : List ℕ). sets f at (bytes_of 4 trailer)) first
      ∙ ap (λ (n : ℕ). sets (sets file used (bytes_of 4 table)) n (bytes_of 4 trailer)) behind
      ∙ put_behind 4 file table trailer used
      ∙ ap (λ (ts : List ℕ). sets file used (bytes_of 4 (table ++ ts))) its

  module _ (found : Outcome) (is : found ≡ check_append layout file used table) where
    pub found_accepted : found ≡ Done → Accepted
    found_accepted ok = accepted (sym is ∙ ok)

    pub answers_used : (end : ℕ) → found ≡ Done → end ≡ end_after used (length table) → Ok end ≡ append_answer layout file used table
    unfolding append_answer
    answers_used end ok e =
        ap (λ (n : ℕ). Ok n) e ∙ sym (unless_done Refused (Ok (end_after used (length table))) (check_append layout file used table) (sym is ∙ ok))

    pub writes_both : (after : List ℕ) → found ≡ Done → after ≡ sets file used (bytes_of 4 appended_numbers) → after ≡ append_file layout file used table
    unfolding append_file
    writes_both after ok e =
        e ∙ sym (unless_done (λ (number place : ℕ). file) (sets file used (bytes_of 4 appended_numbers)) (check_append layout file used table) (sym is ∙ ok))

    pub answers_refused : (number place : ℕ) → found ≡ Refused number place → Refused number place ≡ append_answer layout file used table
    unfolding append_answer
    answers_refused number place e =
        sym (unless_refused Refused (Ok (end_after used (length table))) (check_append layout file used table) number place (sym is ∙ e))

    pub writes_nothing : (number place : ℕ) → found ≡ Refused number place → file ≡ append_file layout file used table
    unfolding append_file
    writes_nothing number place e =
        sym (unless_refused (λ (number place : ℕ). file) (sets file used (bytes_of 4 appended_numbers)) (check_append layout file used table) number place (sym is ∙ e))
