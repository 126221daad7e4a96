-- How the code takes what a batch is given. No contract that callers see cites it.
use Rattle.batch.specs.declared.given.Offer as lent
use Rattle.batch.specs.Runs.{Offer, offer}

-- what the call is given, as the definitions take it
abbrev pub offer_of : lent.Offer → Offer
offer_of given = offer given.mode given.tasks.now given.jobs.now given.counts.now given.horizon
