-- What `judge` answers, refusals first.
use Rattle.std.specs.Prelude.{ℕ, Result, Ok}
use Rattle.tables.specs.declared.answers.Refusal.{Refusal}
use Rattle.tables.specs.Outcomes.{Refused}
use Rattle.tables.specs.Refusals.{unless}
use Rattle.zsrm.specs.declared.record.Record.{Record}
use Rattle.zsrm.specs.Given.{Given}
use Rattle.window.specs.declared.answers.Windows.{Windows}
use Rattle.window.specs.Refusals.{check_judge}
use Rattle.window.specs.Windows.{activations, windows_of, verdicts_on}

unfoldable pub judge_answer : Given → Record → ℕ → ℕ → ℕ → Result Windows Refusal
judge_answer g r task m k = unless (check_judge g r task m k) Refused (Ok (windows_of (activations g.lists.jobs task) (verdicts_on g r task) m k))
