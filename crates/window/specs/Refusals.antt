-- Request Twelve's refusals, and their order: those of the lists and of the record, then 19, then 20.
use Rattle.std.specs.Prelude.{ℕ, not, ◌||◌, List, eqb, ltb}
use Rattle.tables.specs.Outcomes.{Outcome}
use Rattle.tables.specs.Refusals.{before, refuse}
use Rattle.tables.specs.Tables.{task_count}
use Rattle.zsrm.specs.declared.record.Record.{Record}
use Rattle.zsrm.specs.Answers.{check_verdicts}
use Rattle.zsrm.specs.Given.{Given}

-- 19: K = 0, K over 64 or m > K
unfoldable pub check19 : ℕ → ℕ → Outcome
check19 m k = refuse (eqb k 0 || ltb 64 k || ltb k m) 19 0

-- 20: the task is not in the table
unfoldable pub check20 : List ℕ → ℕ → Outcome
check20 tasks task = refuse (not (ltb task (task_count tasks))) 20 0

-- 19 first, both after 13, which is not given here: no job is named
unfoldable pub check_judge : Given → Record → ℕ → ℕ → ℕ → Outcome
check_judge g r task m k = before (check_verdicts g r) (before (check19 m k) (check20 g.lists.tasks task))
