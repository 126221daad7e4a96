-- Document 01, "One tick", with request Nine's tie choice.
use Rattle.std.specs.Prelude.{ℕ, suc, ◌+◌, List, Bool, true, false, not, ◌&&◌, ◌||◌, cond, leb, ltb, eqb}
use Rattle.bits.specs.Below.{some, least, count, word, list_from}
use Rattle.zsrm.specs.declared.record.Standing.{Standing}
use Rattle.zsrm.specs.declared.record.Standing.TheVariants.{NotArrived, Unfinished, Finished, Ended}
use Rattle.zsrm.specs.declared.record.Place.{Place}
use Rattle.zsrm.specs.declared.record.Record.{Record}
use Rattle.zsrm.specs.declared.tie.Tie.{Tie}
use Rattle.zsrm.specs.declared.tie.Tie.TheVariants.{Stay, Lowest}
use Rattle.zsrm.specs.Given.{Given, is_se}
use Rattle.tables.specs.Tables.{idle, job_count, execution, job_criticality, job_priority, job_nominal, zero_slack_instant}
use Rattle.zsrm.specs.Record.{done_at, suspended_at, waited_at, standing_at, opening}

abbrev pub is_unfinished : Standing → Bool
is_unfinished NotArrived = false
is_unfinished Unfinished = true
is_unfinished (Finished f) = false
is_unfinished (Ended e) = false

-- A job is alive if arrived, neither finished nor ended.
unfoldable pub alive : Record → ℕ → Bool
alive r j = is_unfinished (standing_at r j)

abbrev pub is_stay : Tie → Bool
is_stay Stay = true
is_stay Lowest = false

-- The jobs that pass, as a word: bit j is set exactly when j is a job of the list and passes.
unfoldable pub job_word : List ℕ → (ℕ → Bool) → ℕ
job_word jobs f = word 64 (λ j. ltb j (job_count jobs) && f j)

-- some job of the list passes
unfoldable pub some_job : List ℕ → (ℕ → Bool) → Bool
some_job jobs f = some (job_count jobs) f

module _ (g : Given) where
  -- job i is strictly more critical than job j: criticalities alone are compared
  unfoldable pub more_critical : ℕ → ℕ → Bool
  more_critical i j = ltb (job_criticality g.lists j) (job_criticality g.lists i)

  -- job i has strictly higher priority than job j: priorities alone are compared
  unfoldable pub higher_priority : ℕ → ℕ → Bool
  higher_priority i j = ltb (job_priority g.lists j) (job_priority g.lists i)

  module _ (r : Record) where
    -- Past zero slack: alive, and arrival + Z ≤ t.
    unfoldable pub past_zero_slack : ℕ → Bool
    past_zero_slack j = alive r j && leb (zero_slack_instant g.lists j) r.tick

    -- Suspended: alive, and some job past zero slack is strictly more critical.
    unfoldable pub suspended : ℕ → Bool
    suspended j = alive r j && some_job g.lists.jobs (λ i. past_zero_slack i && more_critical i j)

    -- Eligible: alive and not suspended.
    unfoldable pub eligible : ℕ → Bool
    eligible j = alive r j && not (suspended j)

    -- Candidate: eligible, with no eligible job of strictly higher priority.
    unfoldable pub candidate : ℕ → Bool
    candidate j = eligible j && not (some_job g.lists.jobs (λ i. eligible i && higher_priority i j))

    -- the lowest job number among the candidates; with no candidate the tick is idle
    unfoldable pub lowest : ℕ
    lowest = least (job_count g.lists.jobs) candidate idle

    -- What a tick may give: a candidate, or idle with no candidate.
    unfoldable pub candidate_or_idle : ℕ → Bool
    candidate_or_idle e = (ltb e (job_count g.lists.jobs) && candidate e) || (eqb e idle && not (some_job g.lists.jobs candidate))

  -- Stay only: the previous entry is a job of the list, and still a candidate.
  unfoldable pub keeps : Tie → Record → Bool
  keeps tie r = is_stay tie && ltb r.previous (job_count g.lists.jobs) && candidate r r.previous

  -- Our run keeps the job of the previous tick if it is still a candidate, else takes the lowest number; the tie choice Lowest asks for
  -- the lowest number always.
  unfoldable pub choice : Tie → Record → ℕ
  choice tie r = cond (keeps tie r) r.previous (lowest r)

  module _ (r : Record) where
    -- Bit p of the ready word is set exactly when an eligible job of priority p exists.
    unfoldable pub ready_at : ℕ → Bool
    ready_at p = some_job g.lists.jobs (λ j. eligible r j && eqb (job_priority g.lists j) p)

    unfoldable pub ready_word : ℕ
    ready_word = word 64 ready_at

    -- the number of its ones
    unfoldable pub ready_count : ℕ
    ready_count = count 64 ready_at

    -- What the tick does, its entry e being given.
    module _ (e : ℕ) where
      -- The job that ran has one more tick done.
      unfoldable pub done_after : ℕ → ℕ
      done_after j = done_at r j + cond (eqb e j) 1 0

      -- If that equals c it is finished at t + 1.
      unfoldable pub finishes : ℕ → Bool
      finishes j = eqb e j && eqb (done_after j) (execution g.lists.jobs j)

      -- SE only: over if past zero slack and its done at t, plus 1 if it runs in t, exceeds C.
      unfoldable pub over : ℕ → Bool
      over j = is_se g.mode && past_zero_slack r j && ltb (job_nominal g.lists j) (done_after j)

      -- Every alive job that is strictly less critical than one that is over is then ended, with tick t.
      unfoldable pub ends : ℕ → Bool
      ends j = alive r j && some_job g.lists.jobs (λ i. over i && more_critical i j)

      -- Bit j of the ended word is set exactly when job j is ended in this tick.
      unfoldable pub ended_word : ℕ
      ended_word = job_word g.lists.jobs ends

      -- A job that is suspended has one more tick suspended.
      unfoldable pub suspended_after : ℕ → ℕ
      suspended_after j = suspended_at r j + cond (suspended r j) 1 0

      -- Eligible while another job runs: the entry is a job of the list, and not this one.
      unfoldable pub waits : ℕ → Bool
      waits j = eligible r j && ltb e (job_count g.lists.jobs) && not (eqb e j)

      -- A job that waits so has one more tick waited.
      unfoldable pub waited_after : ℕ → ℕ
      waited_after j = waited_at r j + cond (waits j) 1 0

      -- the standing after the tick of a job that was alive in it
      unfoldable pub goes_on : ℕ → Standing
      goes_on j = cond (finishes j) (Finished (suc r.tick)) (cond (ends j) (Ended r.tick) Unfinished)

      -- A job that has not arrived opens at t + 1, if its arrival has come; finished and ended jobs stay so.
      unfoldable pub standing_after : ℕ → Standing → Standing
      standing_after j NotArrived = opening g.lists.jobs (suc r.tick) j
      standing_after j Unfinished = goes_on j
      standing_after j (Finished f) = Finished f
      standing_after j (Ended t) = Ended t

      unfoldable pub place_after : ℕ → Place
      place_after j =
          record { done = done_after j; suspended = suspended_after j; waited = waited_after j; standing = standing_after j (standing_at r j) }

      -- The record comes back advanced by one tick, and keeps the entry.
      unfoldable pub advanced : Record
      advanced = record { tick = suc r.tick; previous = e; places = list_from 0 64 place_after }
