-- What a call carries from tick to tick instead of a record: the word of the jobs alive, a word of jobs whose zero-slack instant may lie
-- ahead, how many jobs came, the next zero-slack instant, and the ticks done. No contract that callers see cites it; the laws in
-- proofs/Laws/Compact join it to the record.
use Rattle.std.specs.Prelude.{ℕ, ◌+◌, ◌≤◌, ◌<◌, Bool, false, true, not, ◌&&◌, ◌||◌, cond, List, ◌⊎◌, ◌≡◌, ltb, eqb, get_or, min}
use Rattle.bits.specs.Below.{bit}
use Rattle.bits.specs.Word.{with_bit}
use Rattle.zsrm.specs.declared.compact.Going.{Going}
use Rattle.zsrm.specs.declared.record.Record.{Record}
use Rattle.zsrm.specs.Given.{Given}
use Rattle.tables.specs.Tables.{job_count, arrival, execution, job_nominal, zero_slack_instant, Lists}
use Rattle.zsrm.specs.Record.{done_at}
use Rattle.zsrm.specs.Tick.{alive, ends, job_word}
use Rattle.zsrm.specs.Code.Gathered.{arrival_in, execution_in, slack_in, nominal_in}

module _ (g : Given) (all : Bool) (r : Record) (living early came soon : ℕ) (done : List ℕ) where
  -- At the record's tick, of the first jobs, which came before: who lives, who is early (all that came, or the living alone) and not before
  -- which instant, where all are early one of theirs or 65535. The others, where they have come by the tick, open in it.
  pub record Carried : Type 0 where
    pub lives : living ≡ job_word g.lists.jobs (λ j. ltb j came && alive r j)
    pub within : came ≤ job_count g.lists.jobs
    pub come : (j : ℕ) → j < came → arrival g.lists.jobs j ≤ r.tick
    pub opens : (j : ℕ) → came ≤ j → j < job_count g.lists.jobs → arrival g.lists.jobs j ≤ r.tick → alive r j ≡ ltb 0 (execution g.lists.jobs j)
    pub dones : (j : ℕ) → j < job_count g.lists.jobs → get_or done j 0 ≡ done_at r j
    pub listed : (j : ℕ) → bit early j ≡ true → j < came
    pub earlies : (j : ℕ) → j < came → (all || alive r j) ≡ true → r.tick < zero_slack_instant g.lists j → bit early j ≡ true
    pub first : (j : ℕ) → bit early j ≡ true → soon ≤ zero_slack_instant g.lists j
    pub met : all ≡ true → (soon ≡ 65535) ⊎ ((j : ℕ) × (j < job_count g.lists.jobs) × (zero_slack_instant g.lists j ≡ soon))

  -- so, and nobody is left who comes by the tick, nor who is past zero slack and early
  pub record Current : Type 0 where
    pub carried : Carried
    pub later : (j : ℕ) → came ≤ j → j < job_count g.lists.jobs → r.tick < arrival g.lists.jobs j
    pub ahead : r.tick < soon

-- job j is alive, not ended in the tick, and k ticks of the entry e do not finish it
unfoldable pub stays : Given → Record → ℕ → ℕ → ℕ → Bool
stays g r e k j = alive r j && not (ends g r e j) && not (eqb e j && eqb (done_at r j + k) (execution g.lists.jobs j))

-- what the code carries does so
abbrev pub Holds : Given → Bool → Record → List ℕ → Going → Type 0
Holds g all r done s = Carried g all r s.alive s.early s.came s.soon done

-- the list holds the times of each job, whatever stands at its fifth place
pub record Times (l : Lists) (g : List ℕ) : Type 0 where
  pub arrivals : (j : ℕ) → j < job_count l.jobs → arrival_in g j ≡ arrival l.jobs j
  pub executions : (j : ℕ) → j < job_count l.jobs → execution_in g j ≡ execution l.jobs j
  pub slacks : (j : ℕ) → j < job_count l.jobs → slack_in g j ≡ zero_slack_instant l j
  pub nominals : (j : ℕ) → j < job_count l.jobs → nominal_in g j ≡ job_nominal l j

-- Whatever record of tick t the first stand for, of n jobs whose times are gathered, the second do, too.
abbrev pub Onward : List ℕ → ℕ → ℕ → Going → Going → Type 0
Onward gathered n t s s' =
    (g : Given) (all : Bool) (r : Record) (done : List ℕ) → Times g.lists gathered → n ≡ job_count g.lists.jobs → t ≡ r.tick → Holds g all r done s → Holds g all r done s'

-- the same of a run, where the living alone need be early
abbrev pub OnwardRun : List ℕ → ℕ → Going → Going → Type 0
OnwardRun gathered t s s' =
    (g : Given) (r : Record) (done : List ℕ) → Times g.lists gathered → job_count g.lists.jobs ≤ 64 → t ≡ r.tick → Holds g false r done s → Holds g false r done s'

-- with the next job counted
unfoldable pub counted_in : List ℕ → Going → Going
counted_in g s =
    record {
      alive = cond (ltb 0 (execution_in g s.came)) (with_bit s.alive s.came) s.alive;
      early = with_bit s.early s.came;
      came = s.came + 1;
      soon = min (slack_in g s.came) s.soon;
    }
