-- A row said by its jobs: how many jobs of the task are met, late, ended, open and finished; the sum of the responses; and that least and
-- greatest are the least and the greatest of them. Each is proved of `own_row`, which joins the jobs of one run one by one, and then of
-- `total_row`, which joins the runs.
use Prim.Native.Nat.{ℕ, zero, suc, ◌+◌, ◌-◌, ◌<◌, ◌≤◌}
use mathlib.Core.Bool.{Bool, cond, false, true, ◌&&◌}
use mathlib.Core.List.{List, [], ◌∷◌, Memᴰ}
use mathlib.Core.Logic.{inl, inr, ◌⊎◌}
use mathlib.Core.Path.{ap, ap₂, refl, subst, sym, ◌∙◌, ◌≡◌}
use native.Mathlib.Nat.{not-suc-le-zero}
use native.Mathlib.Omega.{arith}
use lib.Dec.{eqb}
use borrow.Author.Tests.{eq-eqb, eqb-true, ltb-true}
use Rattle.bits.specs.Below.{count, sum_below}
use Rattle.bits.proofs.Laws.Below.{count_same, last_or_below}
use Rattle.bits.proofs.Laws.Bools.{by_cond, apart}
use Rattle.std.specs.Prelude.{Result}
use Rattle.tables.specs.declared.answers.Refusal.{Refusal}
use Rattle.tables.specs.Outcomes.{Done}
use Rattle.tables.specs.Refusals.{check_lists}
use Rattle.tables.specs.Tables.{Lists, arrival, job_count, lists, task_of}
use Rattle.tables.proofs.Laws.Accepted.{lists_few}
use Rattle.tables.proofs.Laws.Said.{said_done}
use Rattle.zsrm.specs.declared.answers.Verdict.{Verdict}
use Rattle.zsrm.specs.declared.record.Record.{Record}
use Rattle.zsrm.specs.declared.record.Standing.{Standing}
use Rattle.zsrm.specs.declared.record.Standing.TheVariants.{NotArrived, Unfinished, Finished, Ended}
use Rattle.zsrm.specs.Answers.{verdict_answer}
use Rattle.zsrm.specs.Record.{consistent, standing_at}
use Rattle.zsrm.specs.Said.{standing_said}
use Rattle.zsrm.specs.Verdict.{is_ended, is_late, is_met, is_open, verdict, verdict_is}
use Rattle.zsrm.proofs.Laws.Verdicts.{verdict_answered}
use Rattle.zsrm.proofs.Laws.Consistent.{sound_at_law}
use Rattle.zsrm.proofs.Laws.Said.{standing_said_law}
use Rattle.season.specs.declared.answers.Row.{Row}
use Rattle.season.specs.Jobs.{Counted, Response, is_finished, is_of_task, response_of, sum_over}
use Rattle.season.specs.Own.{job_row, job_row_at, judged_row, own_row, with_response}
use Rattle.season.specs.Rows.{join_row, empty_row, some_finished}
use Rattle.season.specs.Season.{Accepted, AllAccepted, Run, run_given, row_in, total_row}
use Rattle.season.proofs.Laws.Own.{checked_run_consistent, run_lists}
use Rattle.season.proofs.Laws.Rows.{Reach, greatest_taken, least_taken, reach_left, reach_right}
use Rattle.zsrm.specs.declared.answers.Verdict.TheVariants as verdicts

-- ## One job

kept : (x : Row) (a : ℕ) (s : Standing)
    → ((with_response x a s).met ≡ x.met) × ((with_response x a s).late ≡ x.late) × ((with_response x a s).ended ≡ x.ended) × ((with_response x a s).«open» ≡ x.«open»)
kept x a NotArrived = (refl, refl, refl, refl)
kept x a Unfinished = (refl, refl, refl, refl)
kept x a (Finished f) = (refl, refl, refl, refl)
kept x a (Ended e) = (refl, refl, refl, refl)

one : (v : Verdict) → ((judged_row v).met ≡ cond (is_met v) 1 0) × ((judged_row v).late ≡ cond (is_late v) 1 0) × ((judged_row v).ended ≡ cond (is_ended v) 1 0) × ((judged_row v).«open» ≡ cond (is_open v) 1 0)
one verdicts.Met = (refl, refl, refl, refl)
one (verdicts.Late by is_exact) = (refl, refl, refl, refl)
one verdicts.Ended = (refl, refl, refl, refl)
one verdicts.Open = (refl, refl, refl, refl)

nothing : (v : Verdict) → ((judged_row v).finished ≡ 0) × ((judged_row v).sum ≡ 0)
nothing verdicts.Met = (refl, refl)
nothing (verdicts.Late by is_exact) = (refl, refl)
nothing verdicts.Ended = (refl, refl)
nothing verdicts.Open = (refl, refl)

responded : (x : Row) (a : ℕ) (s : Standing) → x.finished ≡ 0 → x.sum ≡ 0 → ((with_response x a s).finished ≡ cond (is_finished s) 1 0) × ((with_response x a s).sum ≡ response_of a s)
responded x a NotArrived p q = (p, q)
responded x a Unfinished p q = (p, q)
responded x a (Finished f) p q = (refl, refl)
responded x a (Ended e) p q = (p, q)

-- ## The jobs of task k, of the first n

module _ (l : Lists) (r : Record) (k : ℕ) where
  abbrev pub of_task : ℕ → Bool
  of_task j = eqb (task_of l.jobs j) k

  -- a number that joining adds, and that a job has once or not at all
  counts : (field : Row → ℕ) (test : ℕ → Bool) → field empty_row ≡ 0 → ((a b : Row) → field (join_row a b) ≡ field a + field b) → ((j : ℕ) → field (job_row_at l r j) ≡ cond (test j) 1 0)
      → (n : ℕ) → field (own_row l r k n) ≡ count n (λ j. of_task j && test j)
  unfolding own_row count
  counts field test none add each zero = none
  counts field test none add each (suc n) = go (of_task n) (counts field test none add each n)
    where
      go : (b : Bool) → field (own_row l r k n) ≡ count n (λ j. of_task j && test j)
          → field (cond b (join_row (own_row l r k n) (job_row_at l r n)) (own_row l r k n)) ≡ cond (b && test n) 1 0 + count n (λ j. of_task j && test j)
      go true ih = add (own_row l r k n) (job_row_at l r n) ∙ omega (arith, ih, each n)
      go false ih = omega (arith, ih)

  pub met_counts : (n : ℕ) → (own_row l r k n).met ≡ count n (λ j. of_task j && is_met (verdict l r j))
  unfolding join_row job_row_at job_row
  met_counts = counts (λ x. x.met) (λ j. is_met (verdict l r j)) refl (λ a b. refl) (λ j. (kept (judged_row (verdict l r j)) _ (standing_at r j)).0 ∙ (one (verdict l r j)).0)

  pub late_counts : (n : ℕ) → (own_row l r k n).late ≡ count n (λ j. of_task j && is_late (verdict l r j))
  unfolding join_row job_row_at job_row
  late_counts = counts (λ x. x.late) (λ j. is_late (verdict l r j)) refl (λ a b. refl) (λ j. (kept (judged_row (verdict l r j)) _ (standing_at r j)).1 ∙ (one (verdict l r j)).1)

  pub ended_counts : (n : ℕ) → (own_row l r k n).ended ≡ count n (λ j. of_task j && is_ended (verdict l r j))
  unfolding join_row job_row_at job_row
  ended_counts = counts (λ x. x.ended) (λ j. is_ended (verdict l r j)) refl (λ a b. refl) (λ j. (kept (judged_row (verdict l r j)) _ (standing_at r j)).2 ∙ (one (verdict l r j)).2)

  pub open_counts : (n : ℕ) → (own_row l r k n).«open» ≡ count n (λ j. of_task j && is_open (verdict l r j))
  unfolding join_row job_row_at job_row
  open_counts = counts (λ x. x.«open») (λ j. is_open (verdict l r j)) refl (λ a b. refl) (λ j. (kept (judged_row (verdict l r j)) _ (standing_at r j)).3 ∙ (one (verdict l r j)).3)

  pub finished_counts : (n : ℕ) → (own_row l r k n).finished ≡ count n (λ j. of_task j && is_finished (standing_at r j))
  unfolding join_row job_row_at job_row
  finished_counts =
      counts (λ x. x.finished) (λ j. is_finished (standing_at r j)) refl (λ a b. refl)
      (λ j. (responded (judged_row (verdict l r j)) (arrival l.jobs j) (standing_at r j) (nothing (verdict l r j)).0 (nothing (verdict l r j)).1).0)

  pub sum_sums : (n : ℕ) → (own_row l r k n).sum ≡ sum_below n (λ j. cond (of_task j) (response_of (arrival l.jobs j) (standing_at r j)) 0)
  unfolding own_row sum_below join_row job_row_at job_row
  sum_sums zero = refl
  sum_sums (suc n) = go (of_task n) (sum_sums n)
    where
      took : (job_row_at l r n).sum ≡ response_of (arrival l.jobs n) (standing_at r n)
      took = (responded (judged_row (verdict l r n)) (arrival l.jobs n) (standing_at r n) (nothing (verdict l r n)).0 (nothing (verdict l r n)).1).1

      go : (b : Bool) → (own_row l r k n).sum ≡ sum_below n (λ j. cond (of_task j) (response_of (arrival l.jobs j) (standing_at r j)) 0)
          → (cond b (join_row (own_row l r k n) (job_row_at l r n)) (own_row l r k n)).sum
          ≡ cond b (response_of (arrival l.jobs n) (standing_at r n)) 0 + sum_below n (λ j. cond (of_task j) (response_of (arrival l.jobs j) (standing_at r j)) 0)
      go true ih = omega (arith, ih, took)
      go false ih = omega (arith, ih)

  -- the one job's response is its row's least and greatest
  alone : (j f : ℕ) → standing_at r j ≡ Finished f → Reach (job_row_at l r j) (f - arrival l.jobs j)
  unfolding job_row_at job_row
  alone j f e = rw e (record { some = refl; low = omega arith; high = omega arith })

  -- every response of the task lies from the least to the greatest ..
  pub within : (n j f : ℕ) → j < n → task_of l.jobs j ≡ k → standing_at r j ≡ Finished f → Reach (own_row l r k n) (f - arrival l.jobs j)
  unfolding own_row
  within zero j f b t e = absurd (not-suc-le-zero b)
  within (suc n) j f b t e = go (last_or_below n j b) (within n j f)
    where
      v : ℕ
      v = f - arrival l.jobs j

      go : (j ≡ n) ⊎ (j < n) → (j < n → task_of l.jobs j ≡ k → standing_at r j ≡ Finished f → Reach (own_row l r k n) v)
          → Reach (cond (of_task n) (join_row (own_row l r k n) (job_row_at l r n)) (own_row l r k n)) v
      go (inl q) ih =
          rw (eq-eqb (task_of l.jobs n) k (ap (task_of l.jobs) (sym q) ∙ t))
          (reach_right (own_row l r k n) (job_row_at l r n) v (subst (λ (i : ℕ). Reach (job_row_at l r i) v) q (alone j f e)))
      go (inr m) ih =
          by_cond (λ x. Reach x v) (of_task n) (join_row (own_row l r k n) (job_row_at l r n)) (own_row l r k n)
          (λ _. reach_left (own_row l r k n) (job_row_at l r n) v (ih m t e)) (λ _. ih m t e)

  -- .. and each of the two is one of them
  pub record OwnResponse (n v : ℕ) : Type 0 where
    pub job : ℕ
    pub instant : ℕ
    pub listed : job < n
    pub its_task : task_of l.jobs job ≡ k
    pub its_standing : standing_at r job ≡ Finished instant
    pub is : v ≡ instant - arrival l.jobs job

  later : (n v : ℕ) → OwnResponse n v → OwnResponse (suc n) v
  later n v w = record { job = w.job; instant = w.instant; listed = omega (arith, w.listed); its_task = w.its_task; its_standing = w.its_standing; is = w.is }

  -- the one job has finished
  lone : (j : ℕ) → some_finished (job_row_at l r j) ≡ true → (f : ℕ) × (standing_at r j ≡ Finished f)
      × ((job_row_at l r j).least ≡ f - arrival l.jobs j) × ((job_row_at l r j).greatest ≡ f - arrival l.jobs j)
  unfolding job_row_at job_row
  lone j h = go (standing_at r j) refl h
    where
      x : Row
      x = judged_row (verdict l r j)

      never : {A : Type 0} → some_finished x ≡ true → A
      never h = absurd (omega (arith, ltb-true 0 x.finished h, (nothing (verdict l r j)).0))

      go : (s : Standing) → standing_at r j ≡ s → some_finished (with_response x (arrival l.jobs j) s) ≡ true
          → (f : ℕ) × (standing_at r j ≡ Finished f) × ((with_response x (arrival l.jobs j) s).least ≡ f - arrival l.jobs j)
          × ((with_response x (arrival l.jobs j) s).greatest ≡ f - arrival l.jobs j)
      go NotArrived e h = never h
      go Unfinished e h = never h
      go (Finished f) e h = (f, e, refl, refl)
      go (Ended t) e h = never h

  attained : (field : Row → ℕ)
      → ((a b : Row) → some_finished (join_row a b) ≡ true → ((some_finished a ≡ true) × (field (join_row a b) ≡ field a)) ⊎ ((some_finished b ≡ true) × (field (join_row a b) ≡ field b)))
      → ((j : ℕ) → some_finished (job_row_at l r j) ≡ true → (f : ℕ) × (standing_at r j ≡ Finished f) × (field (job_row_at l r j) ≡ f - arrival l.jobs j))
      → (n : ℕ) → some_finished (own_row l r k n) ≡ true → OwnResponse n (field (own_row l r k n))
  unfolding own_row
  attained field found own zero h = apart (cc)
  attained field found own (suc n) h = go (of_task n) refl (attained field found own n) h
    where
      last : task_of l.jobs n ≡ k → some_finished (job_row_at l r n) ≡ true → (v : ℕ) → v ≡ field (job_row_at l r n) → OwnResponse (suc n) v
      last t s v e = let w = own n s in record { job = n; instant = w.0; listed = omega arith; its_task = t; its_standing = w.1; is = e ∙ w.2 }

      go : (b : Bool) → of_task n ≡ b → (some_finished (own_row l r k n) ≡ true → OwnResponse n (field (own_row l r k n)))
          → some_finished (cond b (join_row (own_row l r k n) (job_row_at l r n)) (own_row l r k n)) ≡ true
          → OwnResponse (suc n) (field (cond b (join_row (own_row l r k n) (job_row_at l r n)) (own_row l r k n)))
      go false e ih h = later n _ (ih h)
      go true e ih h = pick (found (own_row l r k n) (job_row_at l r n) h)
        where
          pick : ((some_finished (own_row l r k n) ≡ true) × (field (join_row (own_row l r k n) (job_row_at l r n)) ≡ field (own_row l r k n)))
              ⊎ ((some_finished (job_row_at l r n) ≡ true) × (field (join_row (own_row l r k n) (job_row_at l r n)) ≡ field (job_row_at l r n)))
              → OwnResponse (suc n) (field (join_row (own_row l r k n) (job_row_at l r n)))
          pick (inl w) = rw w.1 (later n _ (ih w.0))
          pick (inr w) = last (eqb-true (task_of l.jobs n) k e) w.0 _ w.1

  pub least_response : (n : ℕ) → some_finished (own_row l r k n) ≡ true → OwnResponse n (own_row l r k n).least
  least_response = attained (λ x. x.least) least_taken (λ j h. let w = lone j h in (w.0, w.1, w.2))

  pub greatest_response : (n : ℕ) → some_finished (own_row l r k n) ≡ true → OwnResponse n (own_row l r k n).greatest
  greatest_response = attained (λ x. x.greatest) greatest_taken (λ j h. let w = lone j h in (w.0, w.1, w.3))

-- ## A run that is accepted

module _ (tasks : List ℕ) (run : Run) (ok : Accepted tasks run) where
  its_lists : check_lists (lists tasks run.jobs) ≡ Done
  its_lists = run_lists (run_given tasks run) run.returned ((said_done _).0 ok)

  its_record : consistent (run_given tasks run) run.returned ≡ true
  its_record = checked_run_consistent (run_given tasks run) run.returned ((said_done _).0 ok)

  -- the library answers the verdicts by which it is counted
  as_answered : (k : ℕ) (so : Verdict → Bool)
      → count (job_count run.jobs) (λ j. is_of_task k run j && so (verdict (lists tasks run.jobs) run.returned j))
      ≡ count (job_count run.jobs) (λ j. is_of_task k run j && verdict_is so (verdict_answer (run_given tasks run) run.returned j))
  as_answered k so =
      count_same _ _ (job_count run.jobs)
      (λ j b. ap (λ (v : Result Verdict Refusal). is_of_task k run j && verdict_is so v) (sym (verdict_answered (run_given tasks run) its_lists run.returned its_record j b)))

  -- no job finishes before its arrival
  pub finished_since : (j f : ℕ) → j < job_count run.jobs → standing_at run.returned j ≡ Finished f → arrival run.jobs j ≤ f
  finished_since j f b q =
      let complete = rw q at (sound_at_law (run_given tasks run) run.returned its_record j (omega (arith, b, lists_few (lists tasks run.jobs) its_lists))) in
      omega (arith, complete.after)

-- ## The jobs of task k, in all runs

module _ (tasks : List ℕ) (k : ℕ) where
  -- a number that joining adds
  sums : (field : Row → ℕ) (f : Run → ℕ) → field empty_row ≡ 0 → ((a b : Row) → field (join_row a b) ≡ field a + field b)
      → ((run : Run) → Accepted tasks run → field (row_in tasks k run) ≡ f run)
      → (runs : List Run) → AllAccepted tasks runs → field (total_row tasks k runs) ≡ sum_over f runs
  unfolding total_row sum_over
  sums field f none add own [] w = none
  sums field f none add own (run ∷ runs) w =
      add (row_in tasks k run) (total_row tasks k runs) ∙ ap₂ (λ (x y : ℕ). x + y) (own run w.0) (sums field f none add own runs w.1)

  pub total_counted : (runs : List Run) → AllAccepted tasks runs → Counted tasks k runs (total_row tasks k runs)
  unfolding join_row
  total_counted runs w =
      record {
        met = sums (λ x. x.met) _ refl (λ a b. refl) (λ run ok. met_counts _ _ k _ ∙ as_answered tasks run ok k is_met) runs w;
        late = sums (λ x. x.late) _ refl (λ a b. refl) (λ run ok. late_counts _ _ k _ ∙ as_answered tasks run ok k is_late) runs w;
        ended = sums (λ x. x.ended) _ refl (λ a b. refl) (λ run ok. ended_counts _ _ k _ ∙ as_answered tasks run ok k is_ended) runs w;
        «open» = sums (λ x. x.«open») _ refl (λ a b. refl) (λ run ok. open_counts _ _ k _ ∙ as_answered tasks run ok k is_open) runs w;
        finished = sums (λ x. x.finished) _ refl (λ a b. refl) (λ run ok. finished_counts _ _ k _) runs w;
        sum = sums (λ x. x.sum) _ refl (λ a b. refl) (λ run ok. sum_sums _ _ k _) runs w;
      }

  -- every response of the task lies from the least to the greatest ..
  reach_total : {run : Run} {runs : List Run} → Memᴰ run runs → (v : ℕ) → Reach (row_in tasks k run) v → Reach (total_row tasks k runs) v
  unfolding total_row
  reach_total (Memᴰ.head {x} {xs} e) v w = reach_left (row_in tasks k x) (total_row tasks k xs) v (subst (λ (run : Run). Reach (row_in tasks k run) v) e w)
  reach_total (Memᴰ.tail {x} {xs} m) v w = reach_right (row_in tasks k x) (total_row tasks k xs) v (reach_total m v w)

  pub total_within : (runs : List Run) (v : ℕ) → Response k runs v → Reach (total_row tasks k runs) v
  unfolding standing_said
  total_within runs v w =
      let stands = standing_said_law _ (Finished w.instant) w.its_standing in
      let own = within (lists tasks w.run.jobs) w.run.returned k (job_count w.run.jobs) w.job w.instant w.listed w.its_task stands in
      reach_total w.its_run v (rw w.is own)

  -- .. and each of the two is one of them
  total_attained : (field : Row → ℕ)
      → ((a b : Row) → some_finished (join_row a b) ≡ true → ((some_finished a ≡ true) × (field (join_row a b) ≡ field a)) ⊎ ((some_finished b ≡ true) × (field (join_row a b) ≡ field b)))
      → ((run : Run) → some_finished (row_in tasks k run) ≡ true → OwnResponse (lists tasks run.jobs) run.returned k (job_count run.jobs) (field (row_in tasks k run)))
      → (runs : List Run) → some_finished (total_row tasks k runs) ≡ true → Response k runs (field (total_row tasks k runs))
  unfolding total_row standing_said
  total_attained field found own [] h = apart (cc)
  total_attained field found own (run ∷ runs) h = go (found (row_in tasks k run) (total_row tasks k runs) h) (total_attained field found own runs)
    where
      whole : ℕ
      whole = field (join_row (row_in tasks k run) (total_row tasks k runs))

      go : ((some_finished (row_in tasks k run) ≡ true) × (whole ≡ field (row_in tasks k run))) ⊎ ((some_finished (total_row tasks k runs) ≡ true) × (whole ≡ field (total_row tasks k runs)))
          → (some_finished (total_row tasks k runs) ≡ true → Response k runs (field (total_row tasks k runs))) → Response k (run ∷ runs) whole
      go (inl w) ih =
          let r = own run w.0 in
          record {
            run = run;
            its_run = Memᴰ.head refl;
            job = r.job;
            listed = r.listed;
            its_task = r.its_task;
            instant = r.instant;
            its_standing = ap standing_said r.its_standing;
            is = w.1 ∙ r.is;
          }
      go (inr w) ih =
          let r = ih w.0 in
          record {
            run = r.run;
            its_run = Memᴰ.tail r.its_run;
            job = r.job;
            listed = r.listed;
            its_task = r.its_task;
            instant = r.instant;
            its_standing = r.its_standing;
            is = w.1 ∙ r.is;
          }

  pub total_least : (runs : List Run) → some_finished (total_row tasks k runs) ≡ true → Response k runs (total_row tasks k runs).least
  total_least = total_attained (λ x. x.least) least_taken (λ run. least_response (lists tasks run.jobs) run.returned k (job_count run.jobs))

  pub total_greatest : (runs : List Run) → some_finished (total_row tasks k runs) ≡ true → Response k runs (total_row tasks k runs).greatest
  total_greatest = total_attained (λ x. x.greatest) greatest_taken (λ run. greatest_response (lists tasks run.jobs) run.returned k (job_count run.jobs))
