-- How the code sees a tick: sets of jobs as words, bit j for job j. No contract that callers see cites it; the laws in
-- proofs/Laws/View join it to "One tick".
use Rattle.std.specs.Prelude.{ℕ, ◌+◌, List, Bool, ◌&&◌, cond, leb, ltb, eqb}
use Rattle.bits.specs.Below.{least, greatest, word, bit, greatest_key}
use Rattle.bits.specs.Word.{without, with_bit}
use Rattle.zsrm.specs.declared.record.Record.{Record}
use Rattle.zsrm.specs.declared.next.Ticked.{Ticked}
use Rattle.zsrm.specs.declared.look.View.{View}
use Rattle.zsrm.specs.declared.tie.Tie.{Tie}
use Rattle.tables.specs.Tables.{idle, job_count, job_criticality, job_priority, job_nominal, zero_slack_instant, Lists}
use Rattle.zsrm.specs.Record.{done_at}
use Rattle.zsrm.specs.Given.{Given}
use Rattle.zsrm.specs.Tick.{alive, ended_word, is_stay, some_job, suspended, job_word, waits}

module _ (l : Lists) where
  -- the greatest criticality among the jobs of a set, 0 where it has none: nothing is less than 0, so nobody is then below it
  unfoldable pub greatest_criticality : ℕ → ℕ
  greatest_criticality among = greatest_key (job_count l.jobs) (bit among) (job_criticality l)

  -- job j is in the set, and strictly less critical than c
  unfoldable pub less_critical_in : ℕ → ℕ → ℕ → Bool
  less_critical_in among c j = bit among j && ltb (job_criticality l j) c

  unfoldable pub less_critical_word : ℕ → ℕ → ℕ
  less_critical_word among c = job_word l.jobs (less_critical_in among c)

  -- job j is in the set, and its zero-slack instant has come by t
  unfoldable pub is_past : ℕ → ℕ → ℕ → Bool
  is_past among t j = bit among j && leb (zero_slack_instant l j) t

  unfoldable pub past_word : ℕ → ℕ → ℕ
  past_word among t = job_word l.jobs (is_past among t)

  -- job j is in the set, and has priority p
  unfoldable pub has_priority : ℕ → ℕ → ℕ → Bool
  has_priority among p j = bit among j && eqb (job_priority l j) p

  unfoldable pub priority_word : ℕ → ℕ
  priority_word among = word 64 (λ p. some_job l.jobs (has_priority among p))

  unfoldable pub lowest_of : ℕ → ℕ → ℕ
  lowest_of among p = least (job_count l.jobs) (has_priority among p) idle

  -- job j is in the set, and its done, with one more where it is the entry e, exceeds C
  unfoldable pub overruns : ℕ → ℕ → ℕ → ℕ → Bool
  overruns among e j done = bit among j && ltb (job_nominal l j) (done + cond (eqb e j) 1 0)

  unfoldable pub overrun_word : Record → ℕ → ℕ → ℕ
  overrun_word r among e = job_word l.jobs (λ j. overruns among e j (done_at r j))

  unfoldable pub view : Record → View
  view r =
      let living = job_word l.jobs (alive r) in
      let past = past_word living r.tick in
      let suspended = less_critical_word living (greatest_criticality past) in
      let eligible = without living suspended in
      record { alive = living; past = past; suspended = suspended; eligible = eligible; ready = priority_word eligible }

  -- the tie choice is to stay, and the previous entry is a job of the set that has priority p
  unfoldable pub keeps_by : Tie → ℕ → ℕ → ℕ → Bool
  keeps_by tie among p previous = is_stay tie && ltb previous (job_count l.jobs) && has_priority among p previous

  -- of the eligible jobs of the top priority that is ready, the one that stays, else the lowest-numbered
  unfoldable pub chosen : Tie → View → ℕ → ℕ
  chosen tie v previous =
      let top = greatest 64 (bit v.ready) 64 in
      cond (keeps_by tie v.eligible top previous) previous (lowest_of v.eligible top)

-- the jobs of a set that wait while e runs: all but e, where it is a job
unfoldable pub waiting_word : List ℕ → ℕ → ℕ → ℕ
waiting_word jobs among e = cond (ltb e (job_count jobs)) (without among (with_bit 0 e)) 0

-- what the tick does that is seen so, in which e runs and the jobs of a word are ended
unfoldable pub ticked_by : List ℕ → View → ℕ → ℕ → Ticked
ticked_by jobs v e ended = record { entry = e; suspended = v.suspended; waiting = waiting_word jobs v.eligible e; ended = ended }

-- what the tick does with the entry e, its jobs as words
abbrev pub ticked : Given → Record → ℕ → Ticked
ticked g r e =
    record { entry = e; suspended = job_word g.lists.jobs (suspended g r); waiting = job_word g.lists.jobs (waits g r e); ended = ended_word g r e }
