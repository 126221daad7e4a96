-- Request Five's refusals, and their order: the table's, 9 and 17, all these with run 0; then each run's own.
use Rattle.std.specs.Prelude.{ℕ, zero, suc, ◌*◌, not, ◌||◌, List, ltb, eqb, length, Result, Ok, Err, ⊤}
use Rattle.tables.specs.Outcomes.{Outcome, Done}
use Rattle.tables.specs.Refusals.{before, check9, check_jobs, check_tasks, refuse}
use Rattle.batch.specs.declared.refusals.RefusedRun.{RefusedRun}
use Rattle.batch.specs.Runs.{jobs_before, list_of}

-- what checks of a batch find: done, or a refusal with the number of its run
abbrev pub Found : Type 0
Found = Result ⊤ RefusedRun

-- A refusal is named with its run.
unfoldable pub with_run : ℕ → Outcome → Found
with_run run Done = Ok tt
with_run run (Err refusal) = Err (record { refusal = refusal; run = run })

-- what is found, without the run; and the run's number, 0 where nothing is refused
abbrev pub outcome_of : Found → Outcome
outcome_of (Ok u) = Done
outcome_of (Err refused) = Err refused.refusal

abbrev pub run_of : Found → ℕ
run_of (Ok u) = 0
run_of (Err refused) = refused.run

-- The first refusal goes first.
unfoldable pub goes_first : Found → Found → Found
goes_first (Ok u) later = later
goes_first (Err refused) later = Err refused

-- 17: more than 32 runs, counts whose sum times three is not the flat list's length, or a schedule list not runs times horizon long
unfoldable pub check17 : List ℕ → List ℕ → ℕ → ℕ → Outcome
check17 jobs counts horizon entries =
    refuse
    (ltb 32 (length counts)
    || (not (eqb (jobs_before counts (length counts) * 3) (length jobs)) || not (eqb entries (length counts * horizon))))
    17 0

module _ (tasks jobs counts : List ℕ) where
  -- the first n runs' own checks, run by run: 5 to 8 of their lists
  unfoldable pub check_runs : ℕ → Found
  check_runs zero = with_run 0 Done
  check_runs (suc n) = goes_first (check_runs n) (with_run n (check_jobs tasks (list_of jobs counts n)))

  module _ (horizon entries : ℕ) where
    -- after the table checks and 9, before each run's own, in place of 10
    unfoldable pub check_call : Outcome
    check_call = before (check_tasks tasks) (before (check9 horizon) (check17 jobs counts horizon entries))

    -- If any list would be refused, the whole call gives the refusal of the first such run with its run number.
    unfoldable pub check_batch : Found
    check_batch = goes_first (with_run 0 check_call) (check_runs (length counts))
