-- How the code makes an admission. No contract that callers see cites it.
use Rattle.std.specs.Prelude.{ℕ, ◌≤◌, ◌≡◌}
use Rattle.zsrm.specs.declared.answers.Verdicts.{Verdicts}
use Rattle.zsrm.specs.declared.record.Record.{Record}
use Rattle.zsrm.specs.declared.tie.Tie.TheVariants.{Stay}
use Rattle.zsrm.specs.Answers.{verdict_of}
use Rattle.zsrm.specs.Given.{Given}
use Rattle.zsrm.specs.Run.{run_record}
use Rattle.planter.specs.declared.answers.Change.{Change}

-- The change of job j, from all verdicts on either list.
unfoldable pub change_of : Verdicts → Verdicts → ℕ → Change
change_of old new j = record { before = verdict_of old j; after = verdict_of new j }

-- A record on our run's way to the horizon: the run's own at its tick.
pub record OnTheWay (g : Given) (horizon : ℕ) (r : Record) : Type 0 where
  pub is : r ≡ run_record g Stay r.tick
  pub within : r.tick ≤ horizon
