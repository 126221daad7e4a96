-- How the code computes. No contract that callers see cites it.
use Rattle.std.specs.Prelude.{ℕ, ◌+◌, ◌<◌, ◌≤◌, ◌≡◌, length, Option, Some, None, Ok}
use Rattle.text.specs.Decimal.{decimal}
use Rattle.tables.specs.Outcomes.{Done}
use Rattle.tables.specs.Refusals.{check_lists}
use Rattle.tables.specs.Tables.{Lists, job_count}
use Rattle.zsrm.specs.declared.answers.Verdicts.{Verdicts}
use Rattle.zsrm.specs.declared.record.Record.{Record}
use Rattle.zsrm.specs.declared.record.Standing.TheVariants.{Finished}
use Rattle.zsrm.specs.Answers.{verdict_of}
use Rattle.zsrm.specs.Record.{standing_at}
use Rattle.zsrm.specs.Verdict.{verdict}
use Rattle.season.specs.declared.answers.Mean.{Mean}
use Rattle.season.specs.declared.answers.Row.{Row}
use Rattle.season.specs.Rows.{most}

-- 32 bits hold every count and the sum of two rows together.
pub record Joinable (a b : Row) : Type 0 where
  pub met : a.met + b.met ≤ most
  pub late : a.late + b.late ≤ most
  pub ended : a.ended + b.ended ≤ most
  pub «open» : a.«open» + b.«open» ≤ most
  pub finished : a.finished + b.finished ≤ most
  pub sum : a.sum + b.sum ≤ most

-- Lists that no check refuses, all verdicts on their jobs, and a record in which no job finishes past 16,384.
pub record JudgedRun (l : Lists) (r : Record) (all : Verdicts) : Type 0 where
  pub lists : check_lists l ≡ Done
  pub judged : (j : ℕ) → j < job_count l.jobs → verdict_of all j ≡ Ok (verdict l r j)
  pub short : (j f : ℕ) → j < job_count l.jobs → standing_at r j ≡ Finished f → f ≤ 16384

-- Quotient, remainder and count have at most 21 digits together.
abbrev pub Short : Option Mean → Type 0
Short None = Unit {0}
Short (Some mean) = length (decimal mean.quotient) + length (decimal mean.remainder) + length (decimal mean.count) ≤ 21
