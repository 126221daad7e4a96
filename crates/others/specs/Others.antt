-- Request Fourteen, other people's jobs: what is asked of a set of tasks, which jobs of a list are its members', and what our run gives
-- a job. A set of tasks is a test of task numbers. A task that passes is a member; every other task of the table is outside.
use Rattle.std.specs.Prelude.{ℕ, zero, suc, Bool, not, ◌||◌, cond, List, [], ◌∷◌, ◌++◌, map, eqb, leb, ltb, get_or, Result}
use Rattle.bits.specs.Below.{every}
use Rattle.tables.specs.declared.fields.Job.{Job}
use Rattle.tables.specs.Fields.{job_at}
use Rattle.tables.specs.Tables.{idle, task_count, criticality, priority, job_count, task_of}
use Rattle.tables.specs.declared.answers.Refusal.{Refusal}
use Rattle.zsrm.specs.declared.answers.Verdict.{Verdict}
use Rattle.zsrm.specs.declared.record.Place.{Place}
use Rattle.zsrm.specs.declared.tie.Tie.{Tie}
use Rattle.zsrm.specs.Answers.{run_answer, run_schedule, verdict_answer}
use Rattle.zsrm.specs.Given.{Given}
use Rattle.zsrm.specs.Record.{place_at}

-- the numbers below the bound that pass, ascending
unfoldable pub passing : ℕ → (ℕ → Bool) → List ℕ
passing zero f = []
passing (suc n) f = passing n f ++ cond (f n) (n ∷ []) []

module _ (set : ℕ → Bool) (tasks : List ℕ) where
  -- every task outside, k, stands so to each member, m
  unfoldable pub to_each_member : (ℕ → ℕ → Bool) → Bool
  to_each_member stands = every (task_count tasks) (λ k. set k || every (task_count tasks) (λ m. not (set m) || stands k m))

  -- Every task outside has strictly lower priority than each member ..
  unfoldable pub outside_lower : Bool
  outside_lower = to_each_member (λ k m. ltb (priority tasks k) (priority tasks m))

  -- .. and is not more critical than any member.
  unfoldable pub outside_no_more_critical : Bool
  outside_no_more_critical = to_each_member (λ k m. leb (criticality tasks k) (criticality tasks m))

module _ (set : ℕ → Bool) (jobs : List ℕ) where
  -- The members' jobs, by their numbers in the list, in its order.
  unfoldable pub members_jobs : List ℕ
  members_jobs = passing (job_count jobs) (λ j. set (task_of jobs j))

  -- the i-th member's job, counted from 0
  abbrev pub member : ℕ → ℕ
  member i = get_or members_jobs i 0

  -- What the list holds of the members: two lists hold the same members' jobs in the same relative order exactly where this is the same.
  unfoldable pub held : List Job
  held = map (job_at jobs) members_jobs

-- the ticks below the horizon whose entry is job j
unfoldable pub ticks_of : ℕ → List ℕ → ℕ → List ℕ
ticks_of horizon schedule j = passing horizon (λ t. eqb (get_or schedule t idle) j)

-- What our run gives a job: the ticks whose entry it is; its place in the record at the horizon, that is its standing with its instant and
-- its ticks done, suspended and waited; and its verdict.
pub record Share : Type 0 where
  pub ticks : List ℕ
  pub place : Place
  pub verdict : Result Verdict Refusal

module _ (g : Given) (tie : Tie) (horizon : ℕ) (lent : List ℕ) where
  unfoldable pub share : ℕ → Share
  share j =
      record {
        ticks = ticks_of horizon (run_schedule g tie horizon lent) j;
        place = place_at (run_answer g tie horizon lent).«record» j;
        verdict = verdict_answer g (run_answer g tie horizon lent).«record» j;
      }

  -- to each member's job, in the list's order
  unfoldable pub shares : (ℕ → Bool) → List Share
  shares set = map share (members_jobs set g.lists.jobs)
