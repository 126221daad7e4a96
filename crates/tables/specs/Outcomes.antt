-- What checks find: they are done, or refuse with a number and a place, as document 01 numbers them.
use Rattle.std.specs.Prelude.{ℕ, Result, Ok, Err, ⊤}
use Rattle.tables.specs.declared.answers.Refusal.{Refusal}

abbrev pub Outcome : Type 0
Outcome = Result ⊤ Refusal

pattern abbrev pub Done : Outcome
Done = Ok tt

-- a refusal, in every kind of answer
abbrev pub Refused : {A : Type 0} → ℕ → ℕ → Result A Refusal
Refused number place = Err (record { number = number; place = place })
