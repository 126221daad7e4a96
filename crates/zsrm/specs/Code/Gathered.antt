-- What the code needs of each job, gathered once into one list, five numbers a job; how it sees a tick by them; and how far from a tick on
-- nothing can happen. No contract that callers see cites it; the laws in proofs/Laws/Gathered and Gap join it to the lists and the view.
use Rattle.std.specs.Prelude.{ℕ, zero, suc, ◌+◌, ◌-◌, ◌*◌, ◌/◌, ◌%◌, ◌^◌, ◌≤◌, ◌<◌, Bool, true, not, ◌&&◌, ◌||◌, cond, List, ◌⊎◌, ◌≡◌, leb, ltb, eqb, length, get_or, set}
use Rattle.bits.specs.Below.{some, least, greatest, greatest_key, word, bit}
use Rattle.bits.specs.Word.{without, with_bit}
use Rattle.tables.specs.declared.fields.Job.{Job}
use Rattle.tables.specs.declared.fields.Task.{Task}
use Rattle.tables.specs.Tables.{idle, job_count, arrival, execution, job_criticality, job_priority, job_nominal, zero_slack_instant, Lists}
use Rattle.zsrm.specs.declared.next.Ticked.{Ticked}
use Rattle.zsrm.specs.declared.look.View.{View}
use Rattle.zsrm.specs.declared.tie.Tie.{Tie}
use Rattle.zsrm.specs.Tick.{is_stay}

-- job j's five numbers: arrival, execution time, zero-slack instant, C, and 64 times the criticality plus the priority
module _ (g : List ℕ) (j : ℕ) where
  unfoldable pub arrival_in : ℕ
  arrival_in = get_or g (5 * j) 0

  unfoldable pub execution_in : ℕ
  execution_in = get_or g (5 * j + 1) 0

  unfoldable pub slack_in : ℕ
  slack_in = get_or g (5 * j + 2) 0

  unfoldable pub nominal_in : ℕ
  nominal_in = get_or g (5 * j + 3) 0

  unfoldable pub criticality_in : ℕ
  criticality_in = get_or g (5 * j + 4) 0 / 64

  unfoldable pub priority_in : ℕ
  priority_in = get_or g (5 * j + 4) 0 % 64

-- the list in which the five numbers of job j are put
unfoldable pub put_job : List ℕ → ℕ → ℕ → ℕ → ℕ → ℕ → ℕ → List ℕ
put_job g j a c z m s = set (set (set (set (set g (5 * j) a) (5 * j + 1) c) (5 * j + 2) z) (5 * j + 3) m) (5 * j + 4) s

-- each number of a job and of its task is within its limit
pub record Fits (job : Job) (task : Task) : Type 0 where
  pub arrival_most : job.arrival ≤ 16384
  pub execution_most : job.execution ≤ 16384
  pub offset_most : task.offset ≤ 16384
  pub nominal_most : task.nominal ≤ 16384
  pub criticality_most : task.criticality.0 ≤ 255
  pub priority_most : task.priority.0 ≤ 63

-- the list holds the numbers of the first m jobs
pub record GathersTo (l : Lists) (g : List ℕ) (m : ℕ) : Type 0 where
  pub size : length g ≡ 320
  pub arrivals : (j : ℕ) → j < m → arrival_in g j ≡ arrival l.jobs j
  pub executions : (j : ℕ) → j < m → execution_in g j ≡ execution l.jobs j
  pub slacks : (j : ℕ) → j < m → slack_in g j ≡ zero_slack_instant l j
  pub nominals : (j : ℕ) → j < m → nominal_in g j ≡ job_nominal l j
  pub criticalities : (j : ℕ) → j < m → criticality_in g j ≡ job_criticality l j
  pub priorities : (j : ℕ) → j < m → priority_in g j ≡ job_priority l j

-- of all jobs
abbrev pub Gathers : Lists → List ℕ → Type 0
Gathers l g = GathersTo l g (job_count l.jobs)

-- how the code sees a tick
module _ (g : List ℕ) where
  -- job j is in the set, and its zero-slack instant has come by t
  unfoldable pub past_in : ℕ → ℕ → ℕ → Bool
  past_in among t j = bit among j && leb (slack_in g j) t

  -- job j is in the set, and strictly less critical than c
  unfoldable pub less_in : ℕ → ℕ → ℕ → Bool
  less_in among c j = bit among j && ltb (criticality_in g j) c

  -- job j is in the set, and not less critical than c
  unfoldable pub free_in : ℕ → ℕ → ℕ → Bool
  free_in among c j = bit among j && not (ltb (criticality_in g j) c)

  -- job j is in the set, and has priority p
  unfoldable pub level_in : ℕ → ℕ → ℕ → Bool
  level_in among p j = bit among j && eqb (priority_in g j) p

  -- the greatest criticality among the jobs of a set that are past zero slack at t
  unfoldable pub most_past : ℕ → ℕ → ℕ
  most_past among t = greatest_key 64 (past_in among t) (criticality_in g)

  -- the priorities of the jobs of a set that are not less critical than c
  unfoldable pub free_word : ℕ → ℕ → ℕ
  free_word among c = word 64 (λ p. some 64 (λ j. free_in among c j && eqb (priority_in g j) p))

  unfoldable pub view_in : ℕ → ℕ → View
  view_in living t =
      let suspended = word 64 (less_in living (most_past living t)) in
      record {
        alive = living;
        past = word 64 (past_in living t);
        suspended = suspended;
        eligible = without living suspended;
        ready = free_word living (most_past living t);
      }

  -- of n jobs, e is one, in the set, and has priority p
  unfoldable pub may_run_in : ℕ → ℕ → ℕ → ℕ → Bool
  may_run_in n among p e = ltb e n && level_in among p e

  unfoldable pub chosen_in : ℕ → Tie → View → ℕ → ℕ
  chosen_in n tie v previous =
      cond (is_stay tie && may_run_in n v.eligible (greatest 64 (bit v.ready) 64) previous) previous
      (least 64 (level_in v.eligible (greatest 64 (bit v.ready) 64)) idle)

  unfoldable pub top_or_idle_in : ℕ → View → ℕ → Bool
  top_or_idle_in n v e = may_run_in n v.eligible (greatest 64 (bit v.ready) 64) e || (eqb e idle && eqb v.ready 0)

-- the jobs of a set that wait while e runs: all but e, where it is one of the n jobs
unfoldable pub waiting_in : ℕ → ℕ → ℕ → ℕ
waiting_in n among e = cond (ltb e n) (without among (with_bit 0 e)) 0

unfoldable pub ticked_in : ℕ → View → ℕ → ℕ → Ticked
ticked_in n v e ended = record { entry = e; suspended = v.suspended; waiting = waiting_in n v.eligible e; ended = ended }

-- k, or less: as far as x lies ahead of t
unfoldable pub until : ℕ → ℕ → ℕ → ℕ
until k t x = cond (ltb t x) (cond (ltb (x - t) k) (x - t) k) k

module _ (g : List ℕ) where
  -- as far as the next job's arrival lies ahead of t, of n jobs the first having come
  unfoldable pub arrival_gap : ℕ → ℕ → ℕ → ℕ → ℕ
  arrival_gap n came t most = cond (ltb came n) (until most t (arrival_in g came)) most

  -- as far as the entry's job may run, which has some ticks done: to its end, in SE to C
  unfoldable pub run_gap : ℕ → Bool → ℕ → ℕ → ℕ → ℕ
  run_gap n se e done most =
      cond (ltb e n) (cond se (until (until most done (execution_in g e)) done (nominal_in g e)) (until most done (execution_in g e))) most

  -- as far as no zero-slack instant of the jobs of a set below the bound lies ahead of t
  unfoldable pub slack_gap : ℕ → ℕ → ℕ → ℕ → ℕ
  slack_gap early t most zero = most
  slack_gap early t most (suc j) = cond (bit early j) (until (slack_gap early t most j) t (slack_in g j)) (slack_gap early t most j)

  -- as far as nothing happens
  unfoldable pub gap_in : ℕ → Bool → ℕ → ℕ → ℕ → ℕ → ℕ → ℕ → ℕ
  gap_in n se t e done came early most = slack_gap early t (run_gap n se e done (arrival_gap n came t most)) 64

  -- job j is in the set, and its zero-slack instant lies ahead of t
  unfoldable pub ahead_in : ℕ → ℕ → ℕ → Bool
  ahead_in early t j = bit early j && ltb t (slack_in g j)

  -- how many of n jobs have come by t, the first of them having come before
  unfoldable pub came_in : ℕ → ℕ → ℕ → ℕ
  came_in n first t = least n (λ j. leb first j && ltb t (arrival_in g j)) n

-- the word with the bits from a to b set too
unfoldable pub with_span : ℕ → ℕ → ℕ → ℕ
with_span w a b = word 64 (λ p. bit w p || (leb a p && ltb p b))

module _ (l : Lists) where
  -- the first m jobs have come by t, and no other has
  pub record Came (t m : ℕ) : Type 0 where
    pub within : m ≤ job_count l.jobs
    pub come : (j : ℕ) → j < m → arrival l.jobs j ≤ t
    pub later : (j : ℕ) → m ≤ j → j < job_count l.jobs → t < arrival l.jobs j

  -- a set of jobs in which are all that have come by t and whose zero-slack instant lies ahead
  pub record Early (t early : ℕ) : Type 0 where
    pub listed : early < 2 ^ job_count l.jobs
    pub all : (j : ℕ) → j < job_count l.jobs → arrival l.jobs j ≤ t → t < zero_slack_instant l j → bit early j ≡ true

  -- For k ticks from t on, the entry e having some ticks done, nothing happens: no job comes, no zero-slack instant is passed, the job
  -- that runs does not finish before their end, nor in SE reach C; and where they are not the most, something does at their end.
  pub record Gap (se : Bool) (t e done most k : ℕ) : Type 0 where
    pub one : 1 ≤ k
    pub within : k ≤ most
    pub arrivals : (j : ℕ) → j < job_count l.jobs → t < arrival l.jobs j → t + k ≤ arrival l.jobs j
    pub slacks : (j : ℕ) → j < job_count l.jobs → t < zero_slack_instant l j → t + k ≤ zero_slack_instant l j
    pub finish : e < job_count l.jobs → done < execution l.jobs e → done + k ≤ execution l.jobs e
    pub nominal : se ≡ true → e < job_count l.jobs → done < job_nominal l e → done + k ≤ job_nominal l e
    pub reached : k < most
        → ((j : ℕ) × (j < job_count l.jobs) × (arrival l.jobs j ≡ t + k))
        ⊎ ((j : ℕ) × (j < job_count l.jobs) × (zero_slack_instant l j ≡ t + k))
        ⊎ ((e < job_count l.jobs) × (execution l.jobs e ≡ done + k))
        ⊎ ((se ≡ true) × (e < job_count l.jobs) × (job_nominal l e ≡ done + k))
