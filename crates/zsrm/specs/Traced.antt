-- Document 01, "Traced schedules": the cases marked P, case 11, and three of ours, as one table. What a case says is set beside what the
-- entry points answer.
use Rattle.std.specs.Prelude.{ℕ, true, false, List, [], ◌∷◌, ◌++◌, map, replicate, Result, Ok}
use Rattle.bits.specs.Below.{list_from}
use Rattle.zsrm.specs.declared.mode.Mode.{Mode}
use Rattle.zsrm.specs.declared.mode.Mode.TheVariants.{S, SE}
use Rattle.zsrm.specs.declared.record.Standing.{Standing}
use Rattle.zsrm.specs.declared.record.Standing.TheVariants.{NotArrived, Unfinished, Finished, Ended}
use Rattle.zsrm.specs.declared.tie.Tie.{Tie}
use Rattle.tables.specs.Outcomes.{Outcome, Done}
use Rattle.tables.specs.declared.answers.Refusal.{Refusal}
use Rattle.zsrm.specs.declared.answers.Claim.{Claim}
use Rattle.zsrm.specs.declared.answers.Claim.TheVariants.{Legal, NotLegal}
use Rattle.zsrm.specs.declared.answers.Verdict.{Verdict}
use Rattle.zsrm.specs.declared.answers.Verdict.TheVariants.{Met, Late, Open, Ended as EndedV}
use Rattle.zsrm.specs.declared.answers.Witness.{Witness}
use Rattle.zsrm.specs.declared.answers.Witness.TheVariants.{Outside, NotMissed, AcceptedLate}
use Rattle.zsrm.specs.Given.{Given, given}
use Rattle.tables.specs.Tables.{idle, job_count}
use Rattle.zsrm.specs.Record.{standing_at}
use Rattle.zsrm.specs.Answers.{run_answer, run_schedule, claim_answer, verdict_answer, witness_answer}

-- of a run: its outcome, its entries, where each job stands at its end, with finishing instant or ending tick, and each job's verdict;
-- the answers to the claim of those entries, and to them as a witness against each job; and the answers to further claims
pub record Trace : Type 0 where
  pub outcome : Outcome
  pub entries : List ℕ
  pub standings : List Standing
  pub verdicts : List (Result Verdict Refusal)
  pub own : Result Claim Refusal
  pub witnesses : List (Result Witness Refusal)
  pub further : List (Result Claim Refusal)

pub record Case : Type 0 where
  pub setting : Given
  pub horizon : ℕ
  pub claims : List (List ℕ)
  pub trace : Trace

-- what document 01 says of a case, request Three of its witnesses, and we of the cases of ours
unfoldable pub said : Case → Trace
said c = c.trace

-- what the entry points answer, under either tie choice, the run's list being lent with zeros in it
unfoldable pub computed : Tie → Case → Trace
computed tie c =
    let g = c.setting in
    let h = c.horizon in
    let n = job_count g.lists.jobs in
    let lent : List ℕ = replicate h 0 in
    let ran = run_answer g tie h lent in
    let es = run_schedule g tie h lent in
    record {
      outcome = ran.outcome;
      entries = es;
      standings = list_from 0 n (standing_at ran.«record»);
      verdicts = list_from 0 n (verdict_answer g ran.«record»);
      own = claim_answer g h es;
      witnesses = list_from 0 n (witness_answer g h es);
      further = map (claim_answer g h) c.claims;
    }

-- the paper's Fig. 1 in half units
abbrev pub fig1 : List ℕ
fig1 = 8 ∷ 8 ∷ 4 ∷ 4 ∷ 1 ∷ 2 ∷ 4 ∷ 20 ∷ 16 ∷ 5 ∷ 10 ∷ 2 ∷ 1 ∷ 10 ∷ []

-- list A, its middle execution time being c
abbrev pub list_a : ℕ → List ℕ
list_a c = 0 ∷ 0 ∷ 4 ∷ 1 ∷ 0 ∷ c ∷ 0 ∷ 8 ∷ 4 ∷ []

-- two equal tasks, each 10 10 3 3 1 1 10, and one job each at 0 with c 3
abbrev pub equals : List ℕ
equals = 10 ∷ 10 ∷ 3 ∷ 3 ∷ 1 ∷ 1 ∷ 10 ∷ 10 ∷ 10 ∷ 3 ∷ 3 ∷ 1 ∷ 1 ∷ 10 ∷ []

abbrev pub both : List ℕ
both = 0 ∷ 0 ∷ 3 ∷ 1 ∷ 0 ∷ 3 ∷ []

-- a case over Fig. 1: accepted, and its run a legal claim
abbrev pub on_fig1 : Mode → List ℕ → ℕ → List ℕ → List Standing → List Verdict → List Witness → Case
on_fig1 m jobs h es ss vs ws =
    record {
      setting = given m fig1 jobs;
      horizon = h;
      claims = [];
      trace = record { outcome = Done; entries = es; standings = ss; verdicts = map (λ v. Ok v) vs; own = Ok Legal; witnesses = map (λ w. Ok w) ws; further = [] };
    }

-- case 10: the run is 000111, the claim 111000 legal, 010101 not legal at 1
abbrev pub on_equals : Mode → Case
on_equals m =
    record {
      setting = given m equals both;
      horizon = 6;
      claims = (1 ∷ 1 ∷ 1 ∷ 0 ∷ 0 ∷ 0 ∷ []) ∷ (0 ∷ 1 ∷ 0 ∷ 1 ∷ 0 ∷ 1 ∷ []) ∷ [];
      trace =
          record {
            outcome = Done;
            entries = 0 ∷ 0 ∷ 0 ∷ 1 ∷ 1 ∷ 1 ∷ [];
            standings = Finished 3 ∷ Finished 6 ∷ [];
            verdicts = Ok Met ∷ Ok Met ∷ [];
            own = Ok Legal;
            witnesses = Ok NotMissed ∷ Ok NotMissed ∷ [];
            further = Ok Legal ∷ Ok (NotLegal 1) ∷ [];
          };
    }

-- A case of ours, for the last of document 01's easy errors: from tick 4 on job 1, which suspends job 0, is itself suspended by job 2,
-- and job 0 stays suspended.
abbrev pub nested : Case
nested =
    record {
      setting = given S
          (20 ∷ 20 ∷ 4 ∷ 4 ∷ 1 ∷ 3 ∷ 20 ∷ 20 ∷ 20 ∷ 4 ∷ 4 ∷ 2 ∷ 2 ∷ 2 ∷ 20 ∷ 20 ∷ 3 ∷ 3 ∷ 3 ∷ 1 ∷ 4 ∷ [])
          (0 ∷ 0 ∷ 4 ∷ 1 ∷ 0 ∷ 4 ∷ 2 ∷ 0 ∷ 3 ∷ []);
      horizon = 12;
      claims = [];
      trace =
          record {
            outcome = Done;
            entries = 0 ∷ 0 ∷ 1 ∷ 1 ∷ 2 ∷ 2 ∷ 2 ∷ 1 ∷ 1 ∷ 0 ∷ 0 ∷ idle ∷ [];
            standings = Finished 11 ∷ Finished 9 ∷ Finished 7 ∷ [];
            verdicts = Ok Met ∷ Ok Met ∷ Ok Met ∷ [];
            own = Ok Legal;
            witnesses = Ok NotMissed ∷ Ok NotMissed ∷ Ok NotMissed ∷ [];
            further = [];
          };
    }

-- A case of ours, for the assumption of a witness, which is about the whole list: job 1 arrives at the horizon only, and its c exceeds its C.
-- Against job 1 itself that does not matter.
abbrev pub arrives_later : Case
arrives_later =
    on_fig1 S (0 ∷ 0 ∷ 1 ∷ 1 ∷ 8 ∷ 10 ∷ []) 8 (0 ∷ idle ∷ idle ∷ idle ∷ idle ∷ idle ∷ idle ∷ idle ∷ [])
    (Finished 1 ∷ Unfinished ∷ []) (Met ∷ Open ∷ []) (Outside 1 ∷ NotMissed ∷ [])

-- A case of ours, for a witness that is accepted: the jobs of two equally critical tasks, with C 3 and Co 6, both run to Co.
abbrev pub peers : Case
peers =
    record {
      setting = given S (10 ∷ 10 ∷ 3 ∷ 6 ∷ 1 ∷ 1 ∷ 10 ∷ 10 ∷ 10 ∷ 3 ∷ 6 ∷ 1 ∷ 1 ∷ 10 ∷ []) (0 ∷ 0 ∷ 6 ∷ 1 ∷ 0 ∷ 6 ∷ []);
      horizon = 12;
      claims = [];
      trace =
          record {
            outcome = Done;
            entries = 0 ∷ 0 ∷ 0 ∷ 0 ∷ 0 ∷ 0 ∷ 1 ∷ 1 ∷ 1 ∷ 1 ∷ 1 ∷ 1 ∷ [];
            standings = Finished 6 ∷ Finished 12 ∷ [];
            verdicts = Ok Met ∷ Ok (Late 2 true) ∷ [];
            own = Ok Legal;
            witnesses = Ok NotMissed ∷ Ok (AcceptedLate 2 true) ∷ [];
            further = [];
          };
    }

-- the cases 1 to 9, 10 in either mode, 11, which has horizon 0, and ours
unfoldable pub cases : List Case
cases =
    on_fig1 S (list_a 5) 16 (0 ∷ 0 ∷ 0 ∷ 0 ∷ 1 ∷ 1 ∷ 1 ∷ 1 ∷ 2 ∷ 2 ∷ 1 ∷ 2 ∷ 2 ∷ idle ∷ idle ∷ idle ∷ [])
    (Finished 4 ∷ Finished 11 ∷ Finished 13 ∷ []) (Met ∷ Met ∷ Met ∷ []) (NotMissed ∷ NotMissed ∷ NotMissed ∷ [])
    ∷ on_fig1 S (list_a 10) 18 (0 ∷ 0 ∷ 0 ∷ 0 ∷ 1 ∷ 1 ∷ 1 ∷ 1 ∷ 2 ∷ 2 ∷ 1 ∷ 1 ∷ 1 ∷ 1 ∷ 1 ∷ 1 ∷ 2 ∷ 2 ∷ [])
    (Finished 4 ∷ Finished 16 ∷ Finished 18 ∷ []) (Met ∷ Met ∷ (Late 2 true) ∷ []) (Outside 1 ∷ NotMissed ∷ Outside 1 ∷ [])
    ∷ on_fig1 S (list_a 10) 16 (0 ∷ 0 ∷ 0 ∷ 0 ∷ 1 ∷ 1 ∷ 1 ∷ 1 ∷ 2 ∷ 2 ∷ 1 ∷ 1 ∷ 1 ∷ 1 ∷ 1 ∷ 1 ∷ [])
    (Finished 4 ∷ Finished 16 ∷ Unfinished ∷ []) (Met ∷ Met ∷ Late 0 false ∷ []) (Outside 1 ∷ NotMissed ∷ Outside 1 ∷ [])
    ∷ on_fig1 S (list_a 10) 15 (0 ∷ 0 ∷ 0 ∷ 0 ∷ 1 ∷ 1 ∷ 1 ∷ 1 ∷ 2 ∷ 2 ∷ 1 ∷ 1 ∷ 1 ∷ 1 ∷ 1 ∷ [])
    (Finished 4 ∷ Unfinished ∷ Unfinished ∷ []) (Met ∷ Open ∷ Open ∷ []) (Outside 1 ∷ NotMissed ∷ Outside 1 ∷ [])
    ∷ on_fig1 SE (list_a 10) 18 (0 ∷ 0 ∷ 0 ∷ 0 ∷ 1 ∷ 1 ∷ 1 ∷ 1 ∷ 2 ∷ 2 ∷ 1 ∷ 1 ∷ 1 ∷ 1 ∷ 1 ∷ 1 ∷ idle ∷ idle ∷ [])
    (Finished 4 ∷ Finished 16 ∷ Ended 11 ∷ []) (Met ∷ Met ∷ EndedV ∷ []) (Outside 1 ∷ NotMissed ∷ Outside 1 ∷ [])
    ∷ on_fig1 SE (list_a 6) 16 (0 ∷ 0 ∷ 0 ∷ 0 ∷ 1 ∷ 1 ∷ 1 ∷ 1 ∷ 2 ∷ 2 ∷ 1 ∷ 1 ∷ idle ∷ idle ∷ idle ∷ idle ∷ [])
    (Finished 4 ∷ Finished 12 ∷ Ended 11 ∷ []) (Met ∷ Met ∷ EndedV ∷ []) (Outside 1 ∷ NotMissed ∷ Outside 1 ∷ [])
    ∷ on_fig1 SE (list_a 5) 16 (0 ∷ 0 ∷ 0 ∷ 0 ∷ 1 ∷ 1 ∷ 1 ∷ 1 ∷ 2 ∷ 2 ∷ 1 ∷ 2 ∷ 2 ∷ idle ∷ idle ∷ idle ∷ [])
    (Finished 4 ∷ Finished 11 ∷ Finished 13 ∷ []) (Met ∷ Met ∷ Met ∷ []) (NotMissed ∷ NotMissed ∷ NotMissed ∷ [])
    ∷ on_fig1 S (list_a 6) 16 (0 ∷ 0 ∷ 0 ∷ 0 ∷ 1 ∷ 1 ∷ 1 ∷ 1 ∷ 2 ∷ 2 ∷ 1 ∷ 1 ∷ 2 ∷ 2 ∷ idle ∷ idle ∷ [])
    (Finished 4 ∷ Finished 12 ∷ Finished 14 ∷ []) (Met ∷ Met ∷ Met ∷ []) (Outside 1 ∷ NotMissed ∷ Outside 1 ∷ [])
    ∷ on_fig1 SE (list_a 10 ++ (0 ∷ 16 ∷ 4 ∷ [])) 20
    (0 ∷ 0 ∷ 0 ∷ 0 ∷ 1 ∷ 1 ∷ 1 ∷ 1 ∷ 2 ∷ 2 ∷ 1 ∷ 1 ∷ 1 ∷ 1 ∷ 1 ∷ 1 ∷ 3 ∷ 3 ∷ 3 ∷ 3 ∷ [])
    (Finished 4 ∷ Finished 16 ∷ Ended 11 ∷ Finished 20 ∷ []) (Met ∷ Met ∷ EndedV ∷ Met ∷ []) (Outside 1 ∷ NotMissed ∷ Outside 1 ∷ Outside 1 ∷ [])
    ∷ on_equals S
    ∷ on_equals SE
    ∷ on_fig1 S (list_a 5) 0 [] (Unfinished ∷ Unfinished ∷ NotArrived ∷ []) (Open ∷ Open ∷ Open ∷ []) (NotMissed ∷ NotMissed ∷ NotMissed ∷ [])
    ∷ nested
    ∷ arrives_later
    ∷ peers
    ∷ []
