-- Document 02, Seven, a day's admission: offered one more job, whether the list with that job appended is accepted, and how every verdict at
-- the horizon changes.
use Rattle.std.specs.Prelude.{ℕ, List, [], ◌∷◌, ◌++◌, Result}
use Rattle.tables.specs.declared.answers.Refusal.{Refusal}
use Rattle.tables.specs.Outcomes.{Refused}
use Rattle.zsrm.specs.declared.answers.Verdict.{Verdict}
use Rattle.zsrm.specs.declared.mode.Mode.{Mode}
use Rattle.zsrm.specs.declared.tie.Tie.TheVariants.{Stay}
use Rattle.zsrm.specs.Answers.{verdict_answer}
use Rattle.zsrm.specs.Run.{run_record}
use Rattle.planter.specs.declared.answers.Change.{Change}
use Rattle.planter.specs.Table.{planter}

-- The list with the offered job appended.
unfoldable pub appended : List ℕ → ℕ → ℕ → ℕ → List ℕ
appended jobs task arrival execution = jobs ++ (task ∷ arrival ∷ execution ∷ [])

-- The library's verdict on job j at the horizon, where our run of the job list ends.
unfoldable pub verdict_in : Mode → List ℕ → ℕ → ℕ → Result Verdict Refusal
verdict_in mode jobs horizon j = verdict_answer (planter mode jobs) (run_record (planter mode jobs) Stay horizon) j

-- Of each job number, in the lists or not, what `verdict` answers without and with the offered job: 13 where the list has no such job.
unfoldable pub change_at : Mode → List ℕ → List ℕ → ℕ → ℕ → Change
change_at mode jobs longer horizon j = record { before = verdict_in mode jobs horizon j; after = verdict_in mode longer horizon j }

-- Every number of a refused answer is 0.
abbrev pub blank_change : Change
blank_change = record { before = Refused 0 0; after = Refused 0 0 }
