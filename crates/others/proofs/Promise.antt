-- The promise of request Fourteen, for every table, every two accepted job lists, either mode and either tie choice. Read this file first.
--
-- A set of tasks is a test of task numbers; a task that passes is a member. `outside_lower` and `outside_no_more_critical` are what is asked of
-- it. `members_jobs set jobs` are the numbers of its members' jobs in a list, `member set jobs i` is the i-th of them, and `held set jobs`
-- what the list holds of them: task, arrival and execution time of each. `share g tie horizon lent j` is what our run gives job j: its
-- ticks (`ticks_of`), its place, its verdict; `shares` that of each member's job, in order. `run_answer` and `run_schedule` are the whole
-- contract of the library's `run`, `verdict_answer` of its `verdict`, and `check_lists` the checks 2 to 8. Example has a case that meets the
-- premises, one that does not for priority and one for order, two for criticality, with what the runs then give, and
-- `needs_no_more_critical`: without "not more critical" the promise is false.
use Prim.Native.Nat.{ℕ, ◌<◌, ◌≤◌}
use mathlib.Core.Bool.{Bool, true}
use mathlib.Core.List.{List}
use mathlib.Core.Logic.{◌↔◌}
use mathlib.Core.Path.{ap, sym, ◌∙◌, ◌≡◌}
use lib.ListN.{get_or, length}
use borrow.Author.Tests.{eq-eqb, eqb-true}
use Rattle.tables.specs.Fields.{job_at}
use Rattle.tables.specs.Refusals.{check_lists}
use Rattle.tables.specs.Said.{done, outcome_said}
use Rattle.tables.specs.Tables.{criticality, idle, job_count, lists, priority, task_of}
use Rattle.zsrm.specs.declared.mode.Mode.{Mode}
use Rattle.zsrm.specs.declared.record.Record.{Record}
use Rattle.zsrm.specs.declared.tie.Tie.{Tie}
use Rattle.zsrm.specs.Answers.{run_answer, run_schedule, verdict_answer}
use Rattle.zsrm.specs.Given.{Given, given}
use Rattle.zsrm.specs.Record.{place_at, standing_at}
use Rattle.zsrm.proofs.Laws.Answers.{run_outcome}
use Rattle.others.specs.Others.{Share, held, member, members_jobs, outside_lower, outside_no_more_critical, share, shares, ticks_of}
use Rattle.others.proofs.Laws.Members.{ToEachMember, lower_reads, no_more_critical_reads}
use Rattle.others.proofs.Laws.Passing.{listed, listed_there}
use Rattle.others.proofs.Laws.Shares.{maps_at, maps_long, maps_same, run_fits, shares_same}
use Rattle.others.proofs.Laws.Uppermost.{OneOf}

-- ## What the words mean

module _ (set : ℕ → Bool) where
  -- Every task outside has strictly lower priority than each member ..
  pub lower_exactly : (tasks : List ℕ) → outside_lower set tasks ≡ true ↔ ToEachMember set tasks (λ k m. priority tasks k < priority tasks m)
  lower_exactly tasks = lower_reads set tasks

  -- .. and is not more critical than any member.
  pub no_more_critical_exactly : (tasks : List ℕ) → outside_no_more_critical set tasks ≡ true ↔ ToEachMember set tasks (λ k m. criticality tasks k ≤ criticality tasks m)
  no_more_critical_exactly tasks = no_more_critical_reads set tasks

  -- The members' jobs of a list are exactly the jobs of it whose task is a member ..
  pub members_exactly : (jobs : List ℕ) (j : ℕ) → OneOf (length (members_jobs set jobs)) (member set jobs) j ↔ (j < job_count jobs) × (set (task_of jobs j) ≡ true)
  unfolding members_jobs
  members_exactly jobs j =
      let w = listed (λ j. set (task_of jobs j)) (job_count jobs) in (
        λ v. (rw v.2 at (w.below v.0 v.1), rw v.2 at (w.passes v.0 v.1)),
        λ v. w.finds j v.0 v.1,
      )

  -- .. in the list's order.
  pub members_ordered : (jobs : List ℕ) (i k : ℕ) → i < k → k < length (members_jobs set jobs) → member set jobs i < member set jobs k
  unfolding members_jobs
  members_ordered jobs = (listed (λ j. set (task_of jobs j)) (job_count jobs)).order

  -- Two lists hold the same members' jobs in the same relative order exactly where they hold as many, and the i-th of the one is the i-th of
  -- the other: of the same task, with the same arrival and execution time.
  pub held_exactly : (a b : List ℕ) → held set a ≡ held set b
      ↔ (length (members_jobs set a) ≡ length (members_jobs set b)) × ((i : ℕ) → i < length (members_jobs set a) → job_at a (member set a i) ≡ job_at b (member set b i))
  unfolding held
  held_exactly a b = (
    λ e. (maps_long (job_at a) (job_at b) (members_jobs set a) (members_jobs set b) e, maps_at (job_at a) (job_at b) (members_jobs set a) (members_jobs set b) e),
    λ w. maps_same (job_at a) (job_at b) (members_jobs set a) (members_jobs set b) w.0 w.1,
  )

-- ## Other people's jobs

-- A set of tasks such that every task outside has strictly lower priority than each member and is not more critical than any member; two
-- accepted job lists, a and b, that hold the same members' jobs in the same relative order, whatever the other jobs; a common horizon;
-- either mode, either tie choice. Each run is lent a list of horizon entries.
module _ (set : ℕ → Bool) (tasks : List ℕ) (lower : outside_lower set tasks ≡ true) (no-more-critical : outside_no_more_critical set tasks ≡ true)
    (a b : List ℕ) (accepted-a : outcome_said (check_lists (lists tasks a)) ≡ done) (accepted-b : outcome_said (check_lists (lists tasks b)) ≡ done)
    (same : held set a ≡ held set b) (mode : Mode) (tie : Tie) (horizon : ℕ) (within : horizon ≤ 16384)
    (lent-a lent-b : List ℕ) (whole-a : length lent-a ≡ horizon) (whole-b : length lent-b ≡ horizon) where
  abbrev pub given_a : Given
  given_a = given mode tasks a

  abbrev pub given_b : Given
  given_b = given mode tasks b

  -- Both runs are done.
  pub both_done : (outcome_said (run_answer given_a tie horizon lent-a).outcome ≡ done) × (outcome_said (run_answer given_b tie horizon lent-b).outcome ≡ done)
  unfolding outcome_said
  both_done = (
    ap outcome_said (run_outcome given_a tie horizon lent-a ∙ run_fits (lists tasks a) accepted-a horizon within (length lent-a) whole-a),
    ap outcome_said (run_outcome given_b tie horizon lent-b ∙ run_fits (lists tasks b) accepted-b horizon within (length lent-b) whole-b),
  )

  -- Our run gives the members' jobs of the one list what it gives those of the other.
  pub other_peoples_jobs : shares given_a tie horizon lent-a set ≡ shares given_b tie horizon lent-b set
  other_peoples_jobs =
      shares_same set tasks lower no-more-critical a b same mode horizon lent-a lent-b (run_fits (lists tasks a) accepted-a horizon within (length lent-a) whole-a)
      (run_fits (lists tasks b) accepted-b horizon within (length lent-b) whole-b) tie

  -- the records at the horizon
  abbrev pub end_a : Record
  end_a = (run_answer given_a tie horizon lent-a).«record»

  abbrev pub end_b : Record
  end_b = (run_answer given_b tie horizon lent-b).«record»

  -- Job j of the one and job k of the other run in the same ticks, have the same place, with its standing, and the same verdict.
  pub record SameFor (j k : ℕ) : Type 0 where
    pub ticks : (t : ℕ) → t < horizon → get_or (run_schedule given_a tie horizon lent-a) t idle ≡ j ↔ get_or (run_schedule given_b tie horizon lent-b) t idle ≡ k
    pub place : place_at end_a j ≡ place_at end_b k
    pub standing : standing_at end_a j ≡ standing_at end_b k
    pub verdict : verdict_answer given_a end_a j ≡ verdict_answer given_b end_b k

  -- So it is with the i-th member's job of the one and the i-th of the other ..
  pub each_job : (i : ℕ) → i < length (members_jobs set a) → SameFor (member set a i) (member set b i)
  unfolding shares share ticks_of standing_at
  each_job i l =
      let e = maps_at (share given_a tie horizon lent-a) (share given_b tie horizon lent-b) (members_jobs set a) (members_jobs set b) other_peoples_jobs i l in
      let runs = ap (λ (s : Share). s.ticks) e in
      record {
        ticks = λ t l. (
          λ p. eqb-true _ _ (listed_there _ _ horizon runs t l (eq-eqb _ _ p)),
          λ p. eqb-true _ _ (listed_there _ _ horizon (sym runs) t l (eq-eqb _ _ p)),
        );
        place = ap (λ (s : Share). s.place) e;
        standing = ap (λ (s : Share). s.place.standing) e;
        verdict = ap (λ (s : Share). s.verdict) e;
      }

  -- .. and there are as many.
  pub as_many : length (members_jobs set a) ≡ length (members_jobs set b)
  unfolding shares
  as_many = maps_long (share given_a tie horizon lent-a) (share given_b tie horizon lent-b) (members_jobs set a) (members_jobs set b) other_peoples_jobs
