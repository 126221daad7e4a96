-- A leap: k ticks made at once, where nothing happens between them. No contract that callers see cites it; the laws in
-- proofs/Laws/Leap and Leaps join it to "One tick" and "Legal schedules".
use Rattle.std.specs.Prelude.{ℕ, ◌+◌, ◌≤◌, ◌<◌, true, ◌⊎◌, ◌≡◌}
use Rattle.zsrm.specs.declared.record.Record.{Record}
use Rattle.zsrm.specs.Given.{Given, is_se}
use Rattle.tables.specs.Tables.{job_count, arrival, execution, job_nominal, zero_slack_instant}
use Rattle.zsrm.specs.Record.{done_at}
use Rattle.zsrm.specs.Tick.{alive}
use Rattle.zsrm.specs.Code.View.{ticked}
use Rattle.zsrm.specs.Code.Next.{next_record}

module _ (g : Given) (r : Record) (e : ℕ) where
  -- the record after k ticks of the entry e, of which the first does all the ending
  unfoldable pub leapt : ℕ → Record
  leapt k = next_record g.lists.jobs r k (ticked g r e)

  -- Strictly between the record's tick and u, where the entry e runs, nothing happens that changes who may run: no arrival, no zero-slack
  -- instant of a job that is alive, and neither has e done its c before u nor, in SE, reached its C.
  pub record Quiet (u : ℕ) : Type 0 where
    pub arrivals : (j : ℕ) → j < job_count g.lists.jobs → r.tick < arrival g.lists.jobs j → u ≤ arrival g.lists.jobs j
    pub slacks : (j : ℕ) → j < job_count g.lists.jobs → alive r j ≡ true → r.tick < zero_slack_instant g.lists j → u ≤ zero_slack_instant g.lists j
    pub finish : e < job_count g.lists.jobs → u + done_at r e ≤ r.tick + execution g.lists.jobs e
    pub nominal : is_se g.mode ≡ true → e < job_count g.lists.jobs → done_at r e < job_nominal g.lists e → u + done_at r e ≤ r.tick + job_nominal g.lists e

  -- No scheduling instant lies strictly between them: no zero-slack instant of a job in any other standing, either.
  pub record Silent (u : ℕ) : Type 0 where
    pub quiet : Quiet u
    pub slacks : (j : ℕ) → j < job_count g.lists.jobs → r.tick < zero_slack_instant g.lists j → u ≤ zero_slack_instant g.lists j

  -- u is one of these instants
  abbrev pub Reaches : ℕ → Type 0
  Reaches u =
      ((j : ℕ) × (j < job_count g.lists.jobs) × ((arrival g.lists.jobs j ≡ u) ⊎ (zero_slack_instant g.lists j ≡ u)))
      ⊎ ((e < job_count g.lists.jobs) × ((u + done_at r e ≡ r.tick + execution g.lists.jobs e) ⊎ ((is_se g.mode ≡ true) × (u + done_at r e ≡ r.tick + job_nominal g.lists e))))
