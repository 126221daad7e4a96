-- Document 02, Ten: the numbers of one task, and how the numbers of two sides join. Here they may be of any size; what 32 bits do not hold is
-- refused (Reports).
use Rattle.std.specs.Prelude.{ℕ, ◌+◌, ◌≤◌, max, min, Bool, true, false, ◌&&◌, leb, ltb}
use Rattle.season.specs.declared.answers.Row.{Row}

-- the row of a task without jobs
abbrev pub empty_row : Row
empty_row = record { met = 0; late = 0; ended = 0; «open» = 0; finished = 0; sum = 0; least = 0; greatest = 0 }

-- some job of the row has finished
abbrev pub some_finished : Row → Bool
some_finished r = ltb 0 r.finished

-- Least and greatest are taken among the sides with a finished job: the one side's x, the other's y, or, where both have one, what both give;
-- 0 where neither has one.
abbrev pub among : Bool → ℕ → Bool → ℕ → ℕ → ℕ
among true x true y both = both
among true x false y both = x
among false x true y both = y
among false x false y both = 0

-- Any join adds counts and response sums and takes least and greatest among sides with a finished job.
unfoldable pub join_row : Row → Row → Row
join_row a b =
    record {
      met = a.met + b.met;
      late = a.late + b.late;
      ended = a.ended + b.ended;
      «open» = a.«open» + b.«open»;
      finished = a.finished + b.finished;
      sum = a.sum + b.sum;
      least = among (some_finished a) a.least (some_finished b) b.least (min a.least b.least);
      greatest = among (some_finished a) a.greatest (some_finished b) b.greatest (max a.greatest b.greatest);
    }

-- the most that a count or a sum may come to
abbrev pub most : ℕ
most = 4294967295

-- No count and no sum passes that.
pub record Held (r : Row) : Type 0 where
  pub met : r.met ≤ most
  pub late : r.late ≤ most
  pub ended : r.ended ≤ most
  pub «open» : r.«open» ≤ most
  pub finished : r.finished ≤ most
  pub sum : r.sum ≤ most

-- the same, as it is tested
unfoldable pub fits : Row → Bool
fits r =
    leb r.met most && leb r.late most && leb r.ended most && leb r.«open» most && leb r.finished most && leb r.sum most
