-- Numbers as bytes, the lowest byte first, and a number's width is how many bytes it has; then what is checked of a task table and a job
-- list that lie in bytes, four for each number.
use Rattle.std.specs.Prelude.{ℕ, zero, suc, ◌+◌, ◌*◌, ◌/◌, ◌%◌, cond, not, List, [], ◌∷◌, ◌++◌, eqb, leb, length, get_or}
use Rattle.std.proofs.lemmas.List.Edits.{sets}
use Rattle.bits.specs.Below.{list_from}
use Rattle.tables.specs.Outcomes.{Outcome}
use Rattle.tables.specs.Refusals.{refuse, before, check_tasks, check_jobs}

-- the number that begins at byte `at`; a byte past the end is 0
unfoldable pub number_at : ℕ → List ℕ → ℕ → ℕ
number_at zero bytes at = 0
number_at (suc width) bytes at = get_or bytes at 0 + number_at width bytes (suc at) * 256

-- the numbers that bytes spell, one behind another
unfoldable pub numbers_in : ℕ → List ℕ → List ℕ
numbers_in width bytes = list_from 0 (length bytes / width) (λ i. number_at width bytes (i * width))

-- a number as bytes; the last has the rest, which is a byte where the number fits its width
unfoldable pub number_bytes : ℕ → ℕ → List ℕ
number_bytes zero x = []
number_bytes (suc zero) x = x ∷ []
number_bytes (suc (suc width)) x = x % 256 ∷ number_bytes (suc width) (x / 256)

-- numbers as bytes, one behind another
unfoldable pub bytes_of : ℕ → List ℕ → List ℕ
bytes_of width [] = []
bytes_of width (x ∷ xs) = number_bytes width x ++ bytes_of width xs

-- bytes in which a number is written at byte `at`; where it does not fit, they are as they were
unfoldable pub put_at : ℕ → List ℕ → ℕ → ℕ → List ℕ
put_at width bytes at x = cond (leb (at + width) (length bytes)) (sets bytes at (number_bytes width x)) bytes

-- A byte count that makes no whole number of list entries gives that list's length refusal.
unfoldable pub uneven : ℕ → ℕ → ℕ → Outcome
uneven count width number = refuse (not (eqb (count % width) 0)) number 0

-- 2, then the tasks ascending
unfoldable pub check_tasks_in : List ℕ → Outcome
check_tasks_in tasks = before (uneven (length tasks) 4 2) (check_tasks (numbers_in 4 tasks))

-- 5, then the jobs ascending
unfoldable pub check_jobs_in : List ℕ → List ℕ → Outcome
check_jobs_in tasks jobs = before (uneven (length jobs) 4 5) (check_jobs (numbers_in 4 tasks) (numbers_in 4 jobs))

unfoldable pub check_lists_in : List ℕ → List ℕ → Outcome
check_lists_in tasks jobs = before (check_tasks_in tasks) (check_jobs_in tasks jobs)
