-- The answer said in numbers: a refusal is two, as in every kind of answer, "passes" is one, "fails" three. Equal numbers are equal answers
-- (proofs/Laws/Said).
use Rattle.std.specs.Prelude.{ℕ, List, [], ◌∷◌, Result, Ok, Err}
use Rattle.tables.specs.declared.answers.Refusal.{Refusal}
use Rattle.tables.specs.Said.{refused}
use Rattle.window.specs.declared.answers.Windows.{Windows}
use Rattle.window.specs.declared.answers.Windows.TheVariants.{Fails, Passes}

-- all windows pass; how many jobs are open
abbrev pub all_pass : ℕ → List ℕ
all_pass opens = opens ∷ []

-- the first window that fails: its first job's number and its misses; how many jobs are open
abbrev pub one_fails : ℕ → ℕ → ℕ → List ℕ
one_fails job count opens = job ∷ count ∷ opens ∷ []

unfoldable pub windows_said : Result Windows Refusal → List ℕ
windows_said (Err refusal) = refused refusal.number refusal.place
windows_said (Ok (Passes opens)) = all_pass opens
windows_said (Ok (Fails job count opens)) = one_fails job count opens
