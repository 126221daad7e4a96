-- What a batch answers, refusals first, and what the caller's schedule list holds afterwards.
use Rattle.std.specs.Prelude.{List, ℕ, length, replicate}
use Rattle.tables.specs.Refusals.{unless}
use Rattle.zsrm.specs.Record.{blank}
use Rattle.batch.specs.declared.answers.Batch.{Batch}
use Rattle.batch.specs.Refusals.{Found, check_batch, outcome_of, run_of}
use Rattle.batch.specs.Runs.{Offer, records_of, schedules_of}

module _ (o : Offer) (schedule : List ℕ) where
  -- what all checks of the call find
  unfoldable pub checked : Found
  checked = check_batch o.tasks o.jobs o.counts o.horizon (length schedule)

  -- All records of a refused call are blank.
  unfoldable pub batch_answer : Batch
  batch_answer =
      record {
        outcome = outcome_of checked;
        run = run_of checked;
        records = unless (outcome_of checked) (λ number place. replicate 32 blank) (records_of o schedule (length o.counts));
      }

  -- what the lent schedule holds afterwards: every run's, or, where the call is refused, what it held
  unfoldable pub batch_schedule : List ℕ
  batch_schedule = unless (outcome_of checked) (λ number place. schedule) (schedules_of o schedule (length o.counts))
