-- Two job lists of one table, what the premises of request Fourteen say of them, and what our run gives to the members' jobs of each: by
-- computation, in either mode and under either tie choice. The first case meets every premise. Each of the others drops one, and what the
-- runs give is not the same.
use Prim.Native.Nat.{ℕ, ◌≤◌}
use mathlib.Core.Bool.{Bool, true, false}
use mathlib.Core.List.{List, [], ◌∷◌, ◌++◌, map}
use mathlib.Core.Path.{ap, refl, sym, ◌∙◌, ◌≡◌}
use native.Mathlib.Omega.{arith}
use lib.Dec.{eqb, ltb}
use lib.ListN.{get_or, length, replicate}
use Rattle.bits.specs.Below.{every, greatest, least, list_from, some}
use Rattle.std.specs.Prelude.{Ok}
use Rattle.tables.specs.declared.fields.Job.{Job}
use Rattle.tables.specs.Outcomes.{Outcome, Done}
use Rattle.tables.specs.Refusals.{ascending, before, check10, check13, check2, check3, check4, check5, check6, check7}
use Rattle.tables.specs.Refusals.{check8, check9, check_jobs, check_lists, check_tasks, outside, preceding, refuse, unless, check_schedule}
use Rattle.tables.specs.Said.{done, outcome_said}
use Rattle.tables.specs.Tables.{arrival, criticality, deadline, deadline_instant, execution, job_count, job_criticality, job_nominal, job_priority}
use Rattle.tables.specs.Tables.{lists, nominal, offset, overload, period, priority, task_count, task_of, zero_slack_instant}
use Rattle.tables.proofs.Laws.Refusals.{before_first}
use Rattle.zsrm.specs.declared.answers.Verdict.{Verdict}
use Rattle.zsrm.specs.declared.answers.Verdict.TheVariants.{Late, Met}
use Rattle.zsrm.specs.declared.mode.Mode.{Mode}
use Rattle.zsrm.specs.declared.mode.Mode.TheVariants.{S, SE}
use Rattle.zsrm.specs.declared.record.Standing.{Standing}
use Rattle.zsrm.specs.declared.record.Standing.TheVariants.{Finished, Unfinished}
use Rattle.zsrm.specs.declared.tie.Tie.{Tie}
use Rattle.zsrm.specs.declared.tie.Tie.TheVariants.{Lowest, Stay}
use Rattle.zsrm.specs.Answers.{check_verdict, ran, run_answer, run_schedule, verdict_answer}
use Rattle.zsrm.specs.Given.{Given, given}
use Rattle.zsrm.specs.Record.{arrived, arriving, check11, consistent, done_at, fresh, fresh_place, opening, place_at, sound_at, sound_previous, standing_at, suspended_at, waited_at}
use Rattle.zsrm.specs.Run.{entries_by, final_by, replay, run_entries, run_record}
use Rattle.zsrm.specs.Tick.{advanced, alive, candidate, choice, done_after, eligible, ends, finishes, goes_on, higher_priority, keeps}
use Rattle.zsrm.specs.Tick.{lowest, more_critical, over, past_zero_slack, place_after, some_job, standing_after, suspended, suspended_after, waited_after, waits}
use Rattle.zsrm.specs.Traced.{both, equals, fig1, list_a}
use Rattle.zsrm.specs.Verdict.{verdict}
use Rattle.others.specs.Others.{Share, held, members_jobs, outside_lower, outside_no_more_critical, passing, share, shares, ticks_of, to_each_member}

-- of a list: its run's outcome, what it holds of the members, and what our run gives to their jobs
pub record Side : Type 0 where
  pub outcome : Outcome
  pub members : List Job
  pub gives : List Share

pub record Shown : Type 0 where
  pub lower : Bool
  pub no_more_critical : Bool
  pub one : Side
  pub other : Side

pub record Case : Type 0 where
  pub set : ℕ → Bool
  pub tasks : List ℕ
  pub one : List ℕ
  pub other : List ℕ
  pub horizon : ℕ
  pub shown : Shown

unfoldable pub said : Case → Shown
said c = c.shown

unfoldable pub side_of : (ℕ → Bool) → Given → Tie → ℕ → Side
side_of set g tie horizon =
    let lent : List ℕ = replicate horizon 0 in
    record { outcome = (run_answer g tie horizon lent).outcome; members = held set g.lists.jobs; gives = shares g tie horizon lent set }

unfoldable pub computed : Mode → Tie → Case → Shown
computed mode tie c =
    record {
      lower = outside_lower c.set c.tasks;
      no_more_critical = outside_no_more_critical c.set c.tasks;
      one = side_of c.set (given mode c.tasks c.one) tie c.horizon;
      other = side_of c.set (given mode c.tasks c.other) tie c.horizon;
    }

abbrev pub job : ℕ → ℕ → ℕ → Job
job k a c = record { task = k; arrival = a; execution = c }

-- ticks, then done, suspended, waited and standing, then the verdict
abbrev pub gets : List ℕ → ℕ → ℕ → ℕ → Standing → Verdict → Share
gets ticks done suspended waited standing verdict =
    record { ticks = ticks; place = record { done = done; suspended = suspended; waited = waited; standing = standing }; verdict = Ok verdict }

abbrev pub ran_to : List Job → List Share → Side
ran_to members gives = record { outcome = Done; members = members; gives = gives }

-- Every premise holds: Fig. 1's tasks, and a third below them, whose jobs stand before, between and behind theirs and overrun.
abbrev pub below : Case
below =
    let side =
    ran_to (job 0 0 4 ∷ job 1 0 5 ∷ job 0 8 4 ∷ [])
    (gets (0 ∷ 1 ∷ 2 ∷ 3 ∷ []) 4 0 0 (Finished 4) Met
    ∷ gets (4 ∷ 5 ∷ 6 ∷ 7 ∷ 10 ∷ []) 5 0 6 (Finished 11) Met
    ∷ gets (8 ∷ 9 ∷ 11 ∷ 12 ∷ []) 4 1 0 (Finished 13) Met
    ∷ []) in
    record {
      set = λ k. ltb k 2;
      tasks = fig1 ++ (6 ∷ 6 ∷ 2 ∷ 5 ∷ 1 ∷ 0 ∷ 1 ∷ []);
      one = list_a 5;
      other = 2 ∷ 0 ∷ 5 ∷ 0 ∷ 0 ∷ 4 ∷ 1 ∷ 0 ∷ 5 ∷ 2 ∷ 6 ∷ 5 ∷ 0 ∷ 8 ∷ 4 ∷ 2 ∷ 13 ∷ 3 ∷ [];
      horizon = 16;
      shown = record { lower = true; no_more_critical = true; one = side; other = side };
    }

-- Without "not more critical": the task outside has lower priority, and its job suspends the member's.
abbrev pub more_critical_outside : Case
more_critical_outside =
    record {
      set = λ k. eqb k 0;
      tasks = 1 ∷ 1 ∷ 1 ∷ 1 ∷ 0 ∷ 1 ∷ 1 ∷ 1 ∷ 1 ∷ 1 ∷ 1 ∷ 1 ∷ 0 ∷ 0 ∷ [];
      one = 0 ∷ 0 ∷ 1 ∷ [];
      other = 0 ∷ 0 ∷ 1 ∷ 1 ∷ 0 ∷ 1 ∷ [];
      horizon = 1;
      shown =
          record {
            lower = true;
            no_more_critical = false;
            one = ran_to (job 0 0 1 ∷ []) (gets (0 ∷ []) 1 0 0 (Finished 1) Met ∷ []);
            other = ran_to (job 0 0 1 ∷ []) (gets [] 0 1 0 Unfinished (Late 0 false) ∷ []);
          };
    }

-- Not more critical than the one member, more critical than the other: the task outside stands between them.
abbrev pub between_members : Case
between_members =
    let jobs : List Job = job 0 0 1 ∷ job 1 1 1 ∷ [] in
    record {
      set = λ k. ltb k 2;
      tasks = 1 ∷ 1 ∷ 1 ∷ 1 ∷ 0 ∷ 1 ∷ 1 ∷ 1 ∷ 1 ∷ 1 ∷ 1 ∷ 2 ∷ 1 ∷ 1 ∷ 1 ∷ 1 ∷ 1 ∷ 1 ∷ 1 ∷ 0 ∷ 0 ∷ [];
      one = 0 ∷ 0 ∷ 1 ∷ 1 ∷ 1 ∷ 1 ∷ [];
      other = 0 ∷ 0 ∷ 1 ∷ 2 ∷ 0 ∷ 1 ∷ 1 ∷ 1 ∷ 1 ∷ [];
      horizon = 2;
      shown =
          record {
            lower = true;
            no_more_critical = false;
            one = ran_to jobs (gets (0 ∷ []) 1 0 0 (Finished 1) Met ∷ gets (1 ∷ []) 1 0 0 (Finished 2) Met ∷ []);
            other = ran_to jobs (gets (1 ∷ []) 1 1 0 (Finished 2) (Late 1 true) ∷ gets [] 0 0 1 Unfinished (Late 0 false) ∷ []);
          };
    }

-- Without "strictly lower priority": two equal tasks, one of them outside.
abbrev pub equal_outside : Case
equal_outside =
    record {
      set = λ k. eqb k 1;
      tasks = equals;
      one = 1 ∷ 0 ∷ 3 ∷ [];
      other = both;
      horizon = 6;
      shown =
          record {
            lower = false;
            no_more_critical = true;
            one = ran_to (job 1 0 3 ∷ []) (gets (0 ∷ 1 ∷ 2 ∷ []) 3 0 0 (Finished 3) Met ∷ []);
            other = ran_to (job 1 0 3 ∷ []) (gets (3 ∷ 4 ∷ 5 ∷ []) 3 0 3 (Finished 6) Met ∷ []);
          };
    }

-- Without "in the same relative order": the same two jobs, both members', the other way round.
abbrev pub other_order : Case
other_order =
    record {
      set = λ k. true;
      tasks = equals;
      one = 0 ∷ 0 ∷ 3 ∷ 1 ∷ 0 ∷ 2 ∷ [];
      other = 1 ∷ 0 ∷ 2 ∷ 0 ∷ 0 ∷ 3 ∷ [];
      horizon = 5;
      shown =
          record {
            lower = true;
            no_more_critical = true;
            one = ran_to (job 0 0 3 ∷ job 1 0 2 ∷ []) (gets (0 ∷ 1 ∷ 2 ∷ []) 3 0 0 (Finished 3) Met ∷ gets (3 ∷ 4 ∷ []) 2 0 3 (Finished 5) Met ∷ []);
            other = ran_to (job 1 0 2 ∷ job 0 0 3 ∷ []) (gets (0 ∷ 1 ∷ []) 2 0 0 (Finished 2) Met ∷ gets (2 ∷ 3 ∷ 4 ∷ []) 3 0 2 (Finished 5) Met ∷ []);
          };
    }

unfoldable pub cases : List Case
cases = below ∷ more_critical_outside ∷ between_members ∷ equal_outside ∷ other_order ∷ []

pub shown_by_computing : (mode : Mode) (tie : Tie) → map (computed mode tie) cases ≡ map said cases
unfolding cases said computed side_of passing ticks_of to_each_member outside_lower outside_no_more_critical members_jobs held share shares some every least
    greatest list_from task_count period deadline nominal overload criticality priority offset job_count task_of arrival execution job_criticality
    job_priority job_nominal zero_slack_instant deadline_instant refuse before ascending outside check2 check3 check4 check_tasks check5 preceding check6
    check7 check8 check_jobs check_lists check9 check10 check11 check13 place_at done_at suspended_at waited_at standing_at arriving arrived opening
    fresh_place fresh sound_at sound_previous consistent alive some_job more_critical higher_priority past_zero_slack suspended eligible candidate lowest
    keeps choice done_after over ends finishes suspended_after waits waited_after goes_on standing_after place_after advanced replay entries_by final_by
    run_entries run_record verdict unless ran check_schedule check_verdict run_answer run_schedule verdict_answer
shown_by_computing S Stay = refl
shown_by_computing S Lowest = refl
shown_by_computing SE Stay = refl
shown_by_computing SE Lowest = refl

-- So without "not more critical" the promise is false.
pub needs_no_more_critical : (mode : Mode) (tie : Tie)
    → ((set : ℕ → Bool) (tasks a b : List ℕ) → outside_lower set tasks ≡ true
    → outcome_said (check_lists (lists tasks a)) ≡ done → outcome_said (check_lists (lists tasks b)) ≡ done → held set a ≡ held set b
    → (horizon : ℕ) → horizon ≤ 16384 → (lent-a lent-b : List ℕ) → length lent-a ≡ horizon → length lent-b ≡ horizon
    → shares (given mode tasks a) tie horizon lent-a set ≡ shares (given mode tasks b) tie horizon lent-b set)
    → ⊥
unfolding cases said computed side_of run_answer ran check_schedule outcome_said
needs_no_more_critical mode tie promise = omega (arith, ap ticks_of_first same)
  where
    c : Case
    c = more_critical_outside

    row : computed mode tie c ≡ c.shown
    row = ap (λ (x : List Shown). get_or x 1 c.shown) (shown_by_computing mode tie)

    same : c.shown.one.gives ≡ c.shown.other.gives
    same =
        sym (ap (λ (x : Shown). x.one.gives) row)
        ∙ promise c.set c.tasks c.one c.other (ap (λ (x : Shown). x.lower) row)
        (ap outcome_said (before_first _ _ (ap (λ (x : Shown). x.one.outcome) row))) (ap outcome_said (before_first _ _ (ap (λ (x : Shown). x.other.outcome) row)))
        (ap (λ (x : Shown). x.one.members) row ∙ sym (ap (λ (x : Shown). x.other.members) row))
        1 (omega arith) (0 ∷ []) (0 ∷ []) refl refl
        ∙ ap (λ (x : Shown). x.other.gives) row

    -- one tick in the one run, none in the other
    ticks_of_first : List Share → ℕ
    ticks_of_first x = length (get_or x 0 (gets [] 0 0 0 Unfinished Met)).ticks
