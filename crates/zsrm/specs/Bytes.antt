-- Document 01, the calls from C: every list is a run of bytes, each number little-endian in its own width, four bytes for tables and
-- jobs, two for schedules; a result is one number. `numbers_in` of the crate `tables` are the numbers that bytes spell, `bytes_of` the bytes
-- of numbers, each by the width.
use Rattle.std.specs.Prelude.{ℕ, ◌+◌, ◌*◌, ◌/◌, cond, List, length, eqb, ltb, Result, Ok, Err}
use Rattle.zsrm.specs.declared.mode.Mode.{Mode}
use Rattle.zsrm.specs.declared.mode.Mode.TheVariants.{S, SE}
use Rattle.zsrm.specs.declared.tie.Tie.TheVariants.{Stay}
use Rattle.tables.specs.Outcomes.{Outcome, Done, Refused}
use Rattle.tables.specs.declared.answers.Refusal.{Refusal}
use Rattle.zsrm.specs.declared.answers.Claim.{Claim}
use Rattle.zsrm.specs.Given.{Given, given}
use Rattle.tables.specs.Refusals.{refuse, before, check9, check10, unless}
use Rattle.zsrm.specs.Run.{run_entries}
use Rattle.zsrm.specs.Legal.{claim}
use Rattle.tables.specs.Bytes.{bytes_of, check_lists_in, numbers_in, uneven}
use Rattle.zsrm.specs.declared.answers.Claim.TheVariants as claims

-- The mode number is 0 (S) or 1 (SE).
unfoldable pub mode_of : ℕ → Mode
mode_of number = cond (eqb number 0) S SE

-- 1: the mode number is neither 0 nor 1
unfoldable pub check1 : ℕ → Outcome
check1 mode = refuse (ltb 1 mode) 1 0

-- what the bytes of the lists say
unfoldable pub given_bytes : ℕ → List ℕ → List ℕ → Given
given_bytes mode tasks jobs = given (mode_of mode) (numbers_in 4 tasks) (numbers_in 4 jobs)

-- 1, then the lists (2, the tasks, 5, the jobs), 9, 10; of the schedule the count of its bytes is checked
unfoldable pub check_bytes : ℕ → List ℕ → List ℕ → ℕ → ℕ → Outcome
check_bytes mode tasks jobs horizon count =
    before (check1 mode) (before (check_lists_in tasks jobs) (before (check9 horizon) (before (uneven count 2 10) (check10 (count / 2) horizon))))

-- 0 for done, or a refusal's number plus 256 times its place
unfoldable pub packed_outcome : Outcome → ℕ
packed_outcome Done = 0
packed_outcome (Err refusal) = refusal.number + 256 * refusal.place

-- 0 for legal, and 65,536 plus t for "not legal at t"
unfoldable pub packed_claim : Claim → ℕ
packed_claim claims.Legal = 0
packed_claim (claims.NotLegal t) = 65536 + t

-- and for a refusal the same as above
unfoldable pub packed_answer : Result Claim Refusal → ℕ
packed_answer (Err refusal) = refusal.number + 256 * refusal.place
packed_answer (Ok c) = packed_claim c

module _ (mode : ℕ) (tasks jobs : List ℕ) (horizon : ℕ) (schedule : List ℕ) where
  unfoldable pub run_result : ℕ
  run_result = packed_outcome (check_bytes mode tasks jobs horizon (length schedule))

  -- what the schedule's bytes are afterwards: those of our run that stays with the job that runs, or what they were
  unfoldable pub run_bytes : List ℕ
  run_bytes =
      unless (check_bytes mode tasks jobs horizon (length schedule)) (λ number place. schedule)
      (bytes_of 2 (run_entries (given_bytes mode tasks jobs) Stay horizon))

  unfoldable pub claim_result : ℕ
  claim_result =
      packed_answer
      (unless (check_bytes mode tasks jobs horizon (length schedule)) Refused (Ok (claim (given_bytes mode tasks jobs) (numbers_in 2 schedule))))
