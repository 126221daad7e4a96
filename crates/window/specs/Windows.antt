-- Document 02, Twelve, deadline misses over a window. Source document 004, section 2: the pair (m, K), associated to a task, means that no
-- more than m deadline misses occur for any K consecutive activations of that task. An activation is a job of the task.
use Rattle.std.specs.Prelude.{ℕ, zero, suc, ◌+◌, ◌-◌, Bool, cond, List, [], ◌∷◌, ◌++◌, map, eqb, ltb, drop, get_or, length, take, Result}
use Rattle.bits.specs.Below.{least}
use Rattle.tables.specs.declared.answers.Refusal.{Refusal}
use Rattle.tables.specs.Tables.{job_count, task_of}
use Rattle.zsrm.specs.declared.answers.Verdict.{Verdict}
use Rattle.zsrm.specs.declared.record.Record.{Record}
use Rattle.zsrm.specs.Answers.{verdict_answer}
use Rattle.zsrm.specs.Given.{Given}
use Rattle.zsrm.specs.Verdict.{is_open, missed, verdict_is}
use Rattle.window.specs.declared.answers.Windows.{Windows}
use Rattle.window.specs.declared.answers.Windows.TheVariants.{Fails, Passes}

-- the task's jobs among the first n of the list, by their numbers, in the list's order
unfoldable pub jobs_below : List ℕ → ℕ → ℕ → List ℕ
jobs_below jobs task zero = []
jobs_below jobs task (suc n) = jobs_below jobs task n ++ cond (eqb (task_of jobs n) task) (n ∷ []) []

-- The activations of a task are its jobs, in the list's order.
unfoldable pub activations : List ℕ → ℕ → List ℕ
activations jobs task = jobs_below jobs task (job_count jobs)

-- what the library's `verdict` answers for each of them, in the same order
unfoldable pub verdicts_on : Given → Record → ℕ → List (Result Verdict Refusal)
verdicts_on g r task = map (verdict_answer g r) (activations g.lists.jobs task)

-- how many of the verdicts pass a test
unfoldable pub how_many : (Verdict → Bool) → List (Result Verdict Refusal) → ℕ
how_many test [] = 0
how_many test (v ∷ vs) = cond (verdict_is test v) 1 0 + how_many test vs

-- Deadline misses: missed means late or ended, so open jobs count as not missed.
unfoldable pub misses : List (Result Verdict Refusal) → ℕ
misses vs = how_many missed vs

-- The number of open jobs is reported.
unfoldable pub opens : List (Result Verdict Refusal) → ℕ
opens vs = how_many is_open vs

-- K consecutive activations: the i-th, counted from 0, and those after it.
unfoldable pub window : List (Result Verdict Refusal) → ℕ → ℕ → List (Result Verdict Refusal)
window vs k i = take k (drop i vs)

-- There is a window for each job that K - 1 jobs follow, and none of fewer than K jobs; K is not 0.
unfoldable pub window_count : List (Result Verdict Refusal) → ℕ → ℕ
window_count vs k = suc (length vs) - k

-- The verdicts and the pair.
module _ (vs : List (Result Verdict Refusal)) (m k : ℕ) where
  -- window i fails: more than m misses
  unfoldable pub fails : ℕ → Bool
  fails i = ltb m (misses (window vs k i))

  -- the first window that fails; where none does the number of windows, which is no window's
  unfoldable pub first_failing : ℕ
  first_failing = least (window_count vs k) fails (window_count vs k)

-- The first window that fails, by its first job's number, with its count; else all pass. Either with the number of open jobs.
unfoldable pub windows_of : List ℕ → List (Result Verdict Refusal) → ℕ → ℕ → Windows
windows_of own vs m k =
    cond (ltb (first_failing vs m k) (window_count vs k)) (Fails (get_or own (first_failing vs m k) 0) (misses (window vs k (first_failing vs m k))) (opens vs)) (Passes (opens vs))
