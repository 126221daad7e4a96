-- Laws of a run's own report: its numbers are small, so nothing wraps; a loop over the jobs makes it; and what the checks leave.
use Prim.Native.Nat.{ℕ, zero, suc, ◌+◌, ◌*◌, ◌<◌, ◌≤◌}
use mathlib.Core.Bool.{Bool, cond, true}
use mathlib.Core.List.{List}
use mathlib.Core.Path.{ap, refl, sym, ◌∙◌, ◌≡◌}
use native.Mathlib.Decide.{ℕ_discrete}
use native.Mathlib.Numerals.{add-one}
use native.Mathlib.Omega.{arith}
use lib.Dec.{eqb}
use lib.ListN.{get_or, length-set, set}
use lib.Seq.{ext_get_or, get_or-set_other, get_or-set_same}
use borrow.Author.Tests.{eq-eqb, ne_eqb, not-false}
use Rattle.bits.specs.Below.{list_from}
use Rattle.bits.proofs.Laws.Below.{get_or_list, length_list_from}
use Rattle.bits.proofs.Laws.Bools.{by_cond}
use Rattle.std.specs.Prelude.{Ok}
use Rattle.tables.specs.Outcomes.{Done, Refused}
use Rattle.tables.specs.Refusals.{before, check_lists, refuse}
use Rattle.tables.specs.Tables.{Lists, arrival, job_count, task_count, task_of}
use Rattle.tables.proofs.Laws.Accepted.{accepted_job, lists_few, lists_jobs, lists_tasks, few_tasks}
use Rattle.tables.proofs.Laws.Refusals.{same_ok, before_first, before_second, refuse_fine}
use Rattle.zsrm.specs.declared.answers.Verdict.{Verdict}
use Rattle.zsrm.specs.declared.answers.Verdicts.{Verdicts}
use Rattle.zsrm.specs.declared.record.Record.{Record}
use Rattle.zsrm.specs.declared.record.Standing.{Standing}
use Rattle.zsrm.specs.declared.record.Standing.TheVariants.{NotArrived, Unfinished, Finished, Ended}
use Rattle.zsrm.specs.Answers.{check_verdicts, verdict_of, verdicts_answer}
use Rattle.zsrm.specs.Given.{Given}
use Rattle.zsrm.specs.Record.{check11, consistent, done_at, standing_at}
use Rattle.zsrm.specs.Verdict.{verdict}
use Rattle.zsrm.proofs.Laws.Verdicts.{verdict_answered}
use Rattle.zsrm.proofs.Laws.Consistent.{Sound, consistent_tick, sound_at_law}
use Rattle.zsrm.proofs.Promise.{verdicts_each}
use Rattle.season.specs.declared.answers.Report.{Report}
use Rattle.season.specs.declared.answers.Reported.{Reported}
use Rattle.season.specs.declared.answers.Row.{Row}
use Rattle.season.specs.Code.{Joinable, JudgedRun}
use Rattle.season.specs.Own.{count_row, job_row, job_row_at, judged_row, own_report, own_row, own_up_to, with_response}
use Rattle.season.specs.Answers.{add_answer, join_answer}
use Rattle.season.specs.Reports.{check18, empty_report, joined}
use Rattle.season.specs.Rows.{join_row, empty_row}
use Rattle.season.proofs.Laws.Reports.{report_same, reported_refused}
use Rattle.zsrm.specs.declared.answers.Verdict.TheVariants as verdicts

-- ## Small numbers

-- the numbers of n jobs: a response is at most 16,384
pub record SmallRow (n : ℕ) (x : Row) : Type 0 where
  pub met : x.met ≤ 16384 * n
  pub late : x.late ≤ 16384 * n
  pub ended : x.ended ≤ 16384 * n
  pub «open» : x.«open» ≤ 16384 * n
  pub finished : x.finished ≤ 16384 * n
  pub sum : x.sum ≤ 16384 * n

small_none : SmallRow 0 empty_row
small_none = record { met = omega arith; late = omega arith; ended = omega arith; «open» = omega arith; finished = omega arith; sum = omega arith }

small_on : {n : ℕ} {x : Row} → SmallRow n x → SmallRow (suc n) x
small_on w = record { met = omega arith; late = omega arith; ended = omega arith; «open» = omega arith; finished = omega arith; sum = omega arith }

small_join : {n : ℕ} {a b : Row} → SmallRow n a → SmallRow 1 b → SmallRow (suc n) (join_row a b)
unfolding join_row
small_join v w = record { met = omega arith; late = omega arith; ended = omega arith; «open» = omega arith; finished = omega arith; sum = omega arith }

small_counted : (m l e o : ℕ) → m ≤ 1 → l ≤ 1 → e ≤ 1 → o ≤ 1 → SmallRow 1 (count_row m l e o)
small_counted m l e o a b c d = record { met = omega arith; late = omega arith; ended = omega arith; «open» = omega arith; finished = omega arith; sum = omega arith }

small_judged : (v : Verdict) → SmallRow 1 (judged_row v)
small_judged verdicts.Met = small_counted 1 0 0 0 (omega arith) (omega arith) (omega arith) (omega arith)
small_judged (verdicts.Late by is_exact) = small_counted 0 1 0 0 (omega arith) (omega arith) (omega arith) (omega arith)
small_judged verdicts.Ended = small_counted 0 0 1 0 (omega arith) (omega arith) (omega arith) (omega arith)
small_judged verdicts.Open = small_counted 0 0 0 1 (omega arith) (omega arith) (omega arith) (omega arith)

small_response : (x : Row) (a : ℕ) (s : Standing) → SmallRow 1 x → ((f : ℕ) → s ≡ Finished f → f ≤ 16384) → SmallRow 1 (with_response x a s)
small_response x a NotArrived w h = w
small_response x a Unfinished w h = w
small_response x a (Finished f) w h =
    record { met = w.met; late = w.late; ended = w.ended; «open» = w.«open»; finished = omega arith; sum = omega (arith, h f refl) }
small_response x a (Ended e) w h = w

-- ## A run with its verdicts

module _ {l : Lists} {r : Record} {all : Verdicts} (w : JudgedRun l r all) where
  small_job : (j : ℕ) → j < job_count l.jobs → SmallRow 1 (job_row_at l r j)
  unfolding job_row_at job_row
  small_job j b = small_response (judged_row (verdict l r j)) (arrival l.jobs j) (standing_at r j) (small_judged (verdict l r j)) (λ f e. w.short j f b e)

  small_own : (k n : ℕ) → n ≤ job_count l.jobs → SmallRow n (own_row l r k n)
  unfolding own_row
  small_own k zero b = small_none
  small_own k (suc n) b =
      let before = small_own k n (omega arith) in
      by_cond (SmallRow (suc n)) (eqb (task_of l.jobs n) k) (join_row (own_row l r k n) (job_row_at l r n)) (own_row l r k n) (λ _. small_join before (small_job n (omega arith))) (λ _. small_on before)

  -- the next job has room in its row
  own_room : (k j : ℕ) → j < job_count l.jobs → Joinable (own_row l r k j) (job_row_at l r j)
  own_room k j b =
      let few = lists_few l w.lists in
      let v = small_own k j (omega arith) in
      let u = small_job j b in
      record { met = omega arith; late = omega arith; ended = omega arith; «open» = omega arith; finished = omega arith; sum = omega arith }

  pub judged_run_few : job_count l.jobs ≤ 64
  judged_run_few = lists_few l w.lists

  pub judged_run_tasks : task_count l.tasks ≤ 16
  judged_run_tasks = few_tasks l.tasks (lists_tasks l w.lists)

  pub judged_run_task : (j : ℕ) → j < job_count l.jobs → task_of l.jobs j < 16
  judged_run_task j b = omega (arith, judged_run_tasks, (accepted_job l.tasks l.jobs (lists_jobs l w.lists) j b).known)

  -- the row of one job, from its verdict and its standing
  pub one_judged : (j : ℕ) (v : Verdict) → j < job_count l.jobs → verdict_of all j ≡ Ok v → v ≡ verdict l r j
  one_judged j v b e = same_ok (sym e ∙ w.judged j b)

  pub one_job : (j : ℕ) (one : Row) (v : Verdict) (a : ℕ) → j < job_count l.jobs → a ≡ arrival l.jobs j → verdict_of all j ≡ Ok v → one ≡ job_row v a (standing_at r j)
      → one ≡ job_row_at l r j
  unfolding job_row_at
  one_job j one v a b p e q = rw (← p, ← one_judged j v b e) q

  pub room_there : (j k : ℕ) (out : Report) (one : Row) → j < job_count l.jobs → k < 16 → out ≡ own_up_to l r j → one ≡ job_row_at l r j → Joinable (get_or out.rows k empty_row) one
  unfolding own_up_to
  room_there j k out one b m p q = rw (p, q, get_or_list 16 (λ i. own_row l r i j) k empty_row m) (own_room k j b)

-- ## The report as a loop makes it

module _ (l : Lists) (r : Record) where
  pub own_none : empty_report (task_count l.tasks) ≡ own_up_to l r 0
  unfolding empty_report own_up_to own_row list_from
  own_none = refl

  own_more : (k j : ℕ) → own_row l r k (j + 1) ≡ cond (eqb (task_of l.jobs j) k) (join_row (own_row l r k j) (job_row_at l r j)) (own_row l r k j)
  unfolding own_row
  own_more k j = rw (add-one, own_row)

  -- the next job is joined to the row of its task, and the other rows stay
  stored : (j k : ℕ) (v : Row) → task_of l.jobs j ≡ k → k < 16 → v ≡ join_row (own_row l r k j) (job_row_at l r j)
      → set (list_from 0 16 (λ i. own_row l r i j)) k v ≡ list_from 0 16 (λ i. own_row l r i (j + 1))
  stored j k v t m e =
      ext_get_or empty_row (set rows k v) (list_from 0 16 (λ i. own_row l r i (j + 1)))
      (length-set rows k v ∙ length_list_from 0 16 (λ i. own_row l r i j) ∙ sym (length_list_from 0 16 (λ i. own_row l r i (j + 1))))
      (λ i b. let c : i < 16 = omega (arith, b, length-set rows k v, length_list_from 0 16 (λ i. own_row l r i j)) in
      at i c (ℕ_discrete i k) ∙ sym (get_or_list 16 (λ i. own_row l r i (j + 1)) i empty_row c))
    where
      rows : List Row
      rows = list_from 0 16 (λ i. own_row l r i j)

      at : (i : ℕ) → i < 16 → Dec (i ≡ k) → get_or (set rows k v) i empty_row ≡ own_row l r i (j + 1)
      at i c (yes q) =
          rw q (get_or-set_same rows k v empty_row (omega (arith, length_list_from 0 16 (λ i. own_row l r i j))) ∙ e
          ∙ sym (own_more k j ∙ ap (λ (b : Bool). cond b (join_row (own_row l r k j) (job_row_at l r j)) (own_row l r k j)) (eq-eqb (task_of l.jobs j) k t)))
      at i c (no q) =
          get_or-set_other rows k i v empty_row q ∙ get_or_list 16 (λ i. own_row l r i j) i empty_row c
          ∙ sym (own_more i j ∙ ap (λ (b : Bool). cond b (join_row (own_row l r i j) (job_row_at l r j)) (own_row l r i j)) (ne_eqb (task_of l.jobs j) i (λ x. q (sym x ∙ t))))

  pub own_stored : (j k : ℕ) (out : Report) (one v : Row) → out ≡ own_up_to l r j → k ≡ task_of l.jobs j → k < 16 → one ≡ job_row_at l r j
      → v ≡ join_row (get_or out.rows k empty_row) one → ◌≡◌ {A = Report} (record { tasks = out.tasks; rows = set out.rows k v }) (own_up_to l r (j + 1))
  unfolding own_up_to
  own_stored j k out one v p t m q e =
      report_same (ap (λ (x : Report). x.tasks) p)
      (ap (λ (x : Report). set x.rows k v) p
      ∙ stored j k v (sym t) m (e ∙ ap (λ (x : Report). join_row (get_or x.rows k empty_row) one) p ∙ rw (q, get_or_list 16 (λ i. own_row l r i j) k empty_row m)))

-- ## What the checks leave

module _ (g : Given) (run : Record) where
  pub run_lists : check_verdicts g run ≡ Done → check_lists g.lists ≡ Done
  unfolding check_verdicts
  run_lists ok = before_first (check_lists g.lists) _ ok

  pub checked_run_consistent : check_verdicts g run ≡ Done → consistent g run ≡ true
  unfolding check_verdicts check11
  checked_run_consistent ok = not-false (consistent g run) (refuse_fine _ 11 0 (before_second (check_lists g.lists) _ ok))

  pub run_accepted : check_lists g.lists ≡ Done → consistent g run ≡ true → check_verdicts g run ≡ Done
  unfolding check_verdicts check11 refuse before
  run_accepted lists sound = rw (lists, sound)

  pub judged_run : check_verdicts g run ≡ Done → (all : Verdicts) → all ≡ verdicts_answer g run → JudgedRun g.lists run all
  judged_run ok all e =
      record {
        lists = run_lists ok;
        judged = λ j b. ap (λ (x : Verdicts). verdict_of x j) e ∙ verdicts_each g run j _ (omega (arith, lists_few g.lists (run_lists ok)))
            ∙ verdict_answered g (run_lists ok) run (checked_run_consistent ok) j b;
        short = λ j f b q. early j f q (sound_at_law g run (checked_run_consistent ok) j (omega (arith, lists_few g.lists (run_lists ok))));
      }
    where
      early : (j f : ℕ) → standing_at run j ≡ Finished f → Sound g run.tick j (done_at run j) (standing_at run j) → f ≤ 16384
      early j f q s = let complete = rw q at s in omega (arith, complete.by, consistent_tick g run (checked_run_consistent ok))

  -- as the code checks
  pub run_checked : (all : Verdicts) → all ≡ verdicts_answer g run → all.outcome ≡ check_verdicts g run
  unfolding verdicts_answer
  run_checked all e = ap (λ (x : Verdicts). x.outcome) e

  -- as the code answers
  pub add_done : (report : Report) (x : Reported) → check_verdicts g run ≡ Done → x ≡ join_answer report (own_report g.lists run) → x ≡ add_answer report g run
  unfolding add_answer join_answer before
  add_done report x ok e = e ∙ rw ok

  pub add_refused : (report : Report) (number place : ℕ) → check_verdicts g run ≡ Refused number place → record { outcome = Refused number place; report = report } ≡ add_answer report g run
  unfolding add_answer before
  add_refused report n p e =
      sym (reported_refused report (joined report (own_report g.lists run)) (before (check_verdicts g run) (check18 report (own_report g.lists run))) n p (rw e))
