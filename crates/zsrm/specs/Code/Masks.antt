-- The jobs of each priority, and of each task the jobs less critical than it, as words that are made once; and what a tick sees by them.
-- No contract that callers see cites it; the laws in proofs/Laws/Masks join it to the lists and to "One tick".
use Rattle.std.specs.Prelude.{ℕ, ◌+◌, ◌*◌, ◌%◌, ◌<◌, Bool, true, ◌&&◌, ◌||◌, cond, List, ◌≡◌, ltb, eqb, length, get_or}
use Rattle.bits.specs.Below.{some, least, count, word, bit}
use Rattle.tables.specs.Tables.{idle, task_count, task_of, criticality, priority, job_count, job_criticality, job_priority, job_nominal, Lists}
use Rattle.zsrm.specs.Tick.{job_word}
use Rattle.zsrm.specs.Code.Gathered.{nominal_in}

-- the numbers that are in the one word or in the other, and those in both
unfoldable pub join : ℕ → ℕ → ℕ
join v w = word 64 (λ p. bit v p || bit w p)

unfoldable pub meet : ℕ → ℕ → ℕ
meet v w = word 64 (λ p. bit v p && bit w p)

-- task k's six numbers: T, Co, C, Z, criticality, priority
module _ (of : List ℕ) (k : ℕ) where
  unfoldable pub criticality_at : ℕ
  criticality_at = get_or of (6 * k + 4) 0

  unfoldable pub priority_at : ℕ
  priority_at = get_or of (6 * k + 5) 0

-- how many of n tasks have a priority strictly higher than p
unfoldable pub higher : List ℕ → ℕ → ℕ → ℕ
higher of n p = count n (λ m. ltb p (priority_at of m))

-- the words of those of n tasks that pass, joined
unfoldable pub joined : List ℕ → ℕ → (ℕ → Bool) → ℕ
joined words n f = word 64 (λ j. some n (λ m. f m && bit (get_or words m 0) j))

-- of those strictly less critical than c
unfoldable pub less_than : List ℕ → List ℕ → ℕ → ℕ → ℕ
less_than of words n c = joined words n (λ m. ltb (criticality_at of m) c)

-- Of n tasks, the words of the first a are joined, each at the number of tasks of higher priority; and behind them stand the words of
-- the tasks less critical than each of the first b.
pub record MasksTo (of words : List ℕ) (n a b : ℕ) (masks : List ℕ) : Type 0 where
  pub size : length masks ≡ 32
  pub levels : (q : ℕ) → q < 16 → get_or masks q 0 ≡ joined words a (λ m. eqb (higher of n (priority_at of m)) q)
  pub less : (k : ℕ) → k < b → get_or masks (16 + k) 0 ≡ less_than of words n (criticality_at of k)

-- how many tasks of the table have a priority strictly higher than p
unfoldable pub rank : List ℕ → ℕ → ℕ
rank tasks p = count (task_count tasks) (λ m. ltb p (priority tasks m))

-- Word q holds the jobs whose priority q tasks exceed: so the priorities descend. Word 16 + k holds the jobs less critical than task k.
pub record Masks (l : Lists) (masks : List ℕ) : Type 0 where
  pub size : length masks ≡ 32
  pub levels : (q : ℕ) → q < 16 → get_or masks q 0 ≡ job_word l.jobs (λ j. eqb (rank l.tasks (job_priority l j)) q)
  pub less : (k : ℕ) → k < task_count l.tasks → get_or masks (16 + k) 0 ≡ job_word l.jobs (λ j. ltb (job_criticality l j) (criticality l.tasks k))

-- the list has the scales of the tasks
pub record Scales (l : Lists) (of : List ℕ) : Type 0 where
  pub criticalities : (k : ℕ) → k < task_count l.tasks → criticality_at of k ≡ criticality l.tasks k
  pub priorities : (k : ℕ) → k < task_count l.tasks → priority_at of k ≡ priority l.tasks k

-- the words are those of the tasks' jobs
abbrev pub Words : Lists → List ℕ → Type 0
Words l words = (k : ℕ) → k < task_count l.tasks → get_or words k 0 ≡ job_word l.jobs (λ j. eqb (task_of l.jobs j) k)

-- the first level that meets a set, 16 where none does; and what they have in common
module _ (masks : List ℕ) (among : ℕ) where
  unfoldable pub meets_at : ℕ → Bool
  meets_at q = ltb 0 (meet among (get_or masks q 0))

  unfoldable pub first_level : ℕ
  first_level = least 16 meets_at 16

  unfoldable pub top_of : ℕ
  top_of = cond (ltb first_level 16) (meet among (get_or masks first_level 0)) 0

-- an entry may stand where the jobs of a set are eligible: it is one of the top, or idle with none
unfoldable pub may_stand : List ℕ → ℕ → ℕ → Bool
may_stand masks among e = cond (eqb among 0) (eqb e idle) (bit (top_of masks among) e)

-- the entry of our run where the jobs of a set are eligible: the lowest of the top, or idle with none
unfoldable pub lowest_of : List ℕ → ℕ → ℕ
lowest_of masks among = cond (eqb among 0) idle (least 64 (bit (top_of masks among)) 64)

-- the task of job j, as it is gathered
unfoldable pub task_in : List ℕ → ℕ → ℕ
task_in g j = get_or g (5 * j + 4) 0 % 16

-- what is gathered of each job, as far as the masks need it
pub record Tasks (l : Lists) (g : List ℕ) : Type 0 where
  pub size : length g ≡ 320
  pub nominals : (j : ℕ) → j < job_count l.jobs → nominal_in g j ≡ job_nominal l j
  pub tasks_of : (j : ℕ) → j < job_count l.jobs → get_or g (5 * j + 4) 0 ≡ task_of l.jobs j

-- job j's done, with one more where it is the entry e, exceeds C
unfoldable pub over_in : List ℕ → List ℕ → ℕ → ℕ → Bool
over_in g done e j = ltb (nominal_in g j) (get_or done j 0 + cond (eqb e j) 1 0)

module _ (masks g : List ℕ) where
  -- the jobs less critical than job j
  unfoldable pub less_of : ℕ → ℕ
  less_of j = get_or masks (16 + task_in g j) 0

  -- the jobs less critical than some job of a set that passes
  unfoldable pub below_some : ℕ → (ℕ → Bool) → ℕ
  below_some among f = word 64 (λ i. some 64 (λ j. (bit among j && f j) && bit (less_of j) i))

  -- than some job of a set
  unfoldable pub held_by : ℕ → ℕ
  held_by among = below_some among (λ _. true)

  -- than some job of a set that is over its C
  unfoldable pub ended_of : List ℕ → ℕ → ℕ → ℕ
  ended_of done among e = below_some among (over_in g done e)
