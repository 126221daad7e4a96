-- The answer of `between` said in numbers: a refusal is its number and its place, a count is one number.
use Rattle.std.specs.Prelude.{ℕ, List, [], ◌∷◌, Result, Ok, Err}
use Rattle.tables.specs.Said.{refused}
use Rattle.tables.specs.declared.answers.Refusal.{Refusal}

abbrev pub counted : ℕ → List ℕ
counted n = n ∷ []

unfoldable pub count_said : Result ℕ Refusal → List ℕ
count_said (Err refusal) = refused refusal.number refusal.place
count_said (Ok n) = counted n
