-- An append's answer said in numbers: a refusal is its number and its place, the used length one number.
use Rattle.std.specs.Prelude.{ℕ, List, [], ◌∷◌, Result, Ok, Err}
use Rattle.tables.specs.declared.answers.Refusal.{Refusal}
use Rattle.tables.specs.Said.{refused}

abbrev pub used_length : ℕ → List ℕ
used_length bytes = bytes ∷ []

unfoldable pub appended_said : Result ℕ Refusal → List ℕ
appended_said (Err refusal) = refused refusal.number refusal.place
appended_said (Ok bytes) = used_length bytes
