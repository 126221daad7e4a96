-- Equal numbers are equal outcomes.
use Prim.Native.Nat.{ℕ}
use mathlib.Core.Logic.{◌↔◌}
use mathlib.Core.Path.{refl, ◌≡◌, ap, sym, ◌∙◌}
use mathlib.Core.List.{List}
use Rattle.bits.proofs.Laws.Bools.{apart}
use Rattle.std.specs.Prelude.{Result, Ok, Err}
use Rattle.tables.specs.declared.answers.Refusal.{Refusal}
use Rattle.tables.specs.Outcomes.{Outcome, Done, Refused}
use Rattle.tables.specs.Said.{outcome_said, done, refused}
use Rattle.tables.specs.Refusals.{unless}
use Rattle.tables.proofs.Laws.Refusals.{given_by, refused_by, same_refusal}

pub outcome_said_law : (a b : Outcome) → outcome_said a ≡ outcome_said b → a ≡ b
unfolding outcome_said
outcome_said_law (Ok u) (Ok v) e = refl
outcome_said_law (Ok u) (Err w) e = apart (cc)
outcome_said_law (Err w) (Ok u) e = apart (cc)
outcome_said_law (Err v) (Err w) e =
    let number : v.number ≡ w.number = cc in
    let place : v.place ≡ w.place = cc in
    ap (λ (r : Refusal). Err r) (same_refusal v w number place)

-- what is said of an outcome tells it
pub said_done : (o : Outcome) → outcome_said o ≡ done ↔ o ≡ Done
unfolding outcome_said
said_done o = (outcome_said_law o Done, ap outcome_said)

pub said_refused : (o : Outcome) (number place : ℕ) → outcome_said o ≡ refused number place ↔ o ≡ Refused number place
unfolding outcome_said
said_refused o number place = (outcome_said_law o (Refused number place), ap outcome_said)

-- an answer is a refusal exactly where the checks refuse, and then with their number and place; else it is given exactly where they are done
module _ {A : Type 0} (said : Result A Refusal → List ℕ) (told : (a b : Result A Refusal) → said a ≡ said b → a ≡ b) (answer : A) (o : Outcome) where
  pub refusal_exactly : ((number place : ℕ) → said (Refused number place) ≡ refused number place) → (number place : ℕ)
      → said (unless o Refused (Ok answer)) ≡ refused number place ↔ outcome_said o ≡ refused number place
  refusal_exactly says number place =
      let w = refused_by answer o number place in (
        λ e. (said_refused o number place).1 (w.0 (told (unless o Refused (Ok answer)) (Refused number place) (e ∙ sym (says number place)))),
        λ e. ap said (w.1 ((said_refused o number place).0 e)) ∙ says number place,
      )

  pub given_exactly : (a : A) → said (unless o Refused (Ok answer)) ≡ said (Ok a) ↔ (outcome_said o ≡ done) × (answer ≡ a)
  given_exactly a =
      let w = given_by answer o a in (
        λ e. let g = w.0 (told (unless o Refused (Ok answer)) (Ok a) e) in ((said_done o).1 g.0, g.1),
        λ v. ap said (w.1 ((said_done o).0 v.0, v.1)),
      )
