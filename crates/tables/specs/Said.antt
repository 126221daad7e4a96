-- The outcome of checks said in numbers: a refusal is its number and its place, done is 0.
use Rattle.std.specs.Prelude.{ℕ, List, [], ◌∷◌, Err}
use Rattle.tables.specs.Outcomes.{Outcome, Done}

-- Refused with a number and a place: two numbers, in every kind of answer.
abbrev pub refused : ℕ → ℕ → List ℕ
refused number place = number ∷ place ∷ []

abbrev pub done : List ℕ
done = 0 ∷ []

unfoldable pub outcome_said : Outcome → List ℕ
outcome_said Done = done
outcome_said (Err refusal) = refused refusal.number refusal.place
