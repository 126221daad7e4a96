-- Lists read from their bytes once: the numbers of a task, and of a job, lie one row behind another; each row put leaves those before it.
-- What is kept of the tasks and of the jobs above decides 6, 7 and 8 as the lists do.
use Prim.Native.Nat.{◌%◌, ◌*◌, ◌+◌, ◌/◌, ◌<◌, suc, zero, ℕ, ◌≤◌}
use mathlib.Core.Bool.{Bool, false, not, true, ◌||◌}
use mathlib.Core.List.{List, [], ◌∷◌}
use mathlib.Core.Logic.{inl, inr, ◌⊎◌}
use mathlib.Core.Path.{ap, refl, sym, ◌∙◌, ◌≡◌}
use native.Mathlib.Decide.{ℕ_discrete}
use native.Mathlib.Nat.{not-suc-le-zero}
use native.Mathlib.Omega.{arith}
use lib.Dec.{eqb, ltb}
use lib.ListN.{get_or, length, length-replicate, length-set, replicate, set}
use lib.Seq.{get_or-set_other, get_or-set_same, length-sets, sets}
use borrow.Author.Tests.{eq-eqb, eqb-false, eqb-true, le-ltb, leb-false, leb-true, lt-ltb, ltb-true, ne_eqb}
use Rattle.bits.specs.Below.{word}
use Rattle.bits.specs.Word.{with_bit}
use Rattle.bits.proofs.Laws.Below.{last_or_below}
use Rattle.bits.proofs.Laws.Bools.{either}
use Rattle.bits.proofs.Laws.Lists.{sets_below}
use Rattle.bits.proofs.Laws.Word.{collect, up_to, up_to_none}
use Rattle.tables.specs.Bytes.{check_jobs_in, check_lists_in, check_tasks_in, numbers_in, uneven}
use Rattle.std.specs.Prelude.{Ok, ⊤, leb}
use Rattle.tables.specs.Outcomes.{Outcome, Done}
use Rattle.tables.specs.Code.{Seen, soonest}
use Rattle.tables.specs.declared.fields.Job.{Job}
use Rattle.tables.specs.declared.fields.Task.{Task}
use Rattle.tables.specs.Fields.{job_at, task_at}
use Rattle.tables.specs.Refusals.{ascending, before, check10, check3, check4, check6, check9, check_tasks, outside, refuse}
use Rattle.tables.specs.Tables.{arrival, criticality, execution, job_count, job_nominal, lists, Lists, nominal, offset, overload, period, priority, task_count, task_of, zero_slack_instant}
use Rattle.tables.proofs.Laws.InBytes.{jobs_in, tasks_counted, tasks_in}
use Rattle.tables.proofs.Laws.Accepted.{accepted_task, few_tasks}
use Rattle.tables.proofs.Laws.Bytes.{length_numbers}
use Rattle.tables.proofs.Laws.Noted.{job_seen, job_checked, Looked, looked_more, looked_none}
use Rattle.tables.proofs.Laws.Refusals.{still_done, ascending_none, before_assoc, before_first, before_second, fine, refuse_fine}
use Rattle.zsrm.specs.Bytes.{check1, check_bytes}
use Rattle.zsrm.specs.Code.Reading.{Cleared, JobFits, Jobbed, job_row, job_tested, TaskFits, Tasked, task_row}
use Rattle.zsrm.specs.Tick.{job_word}
use Rattle.zsrm.proofs.Laws.Masks.{zeros_read}

-- ## Rows

-- what is stored is read back
sets_inside : (vs l : List ℕ) (at i : ℕ) → i < length vs → at + length vs ≤ length l → get_or (sets l at vs) (at + i) 0 ≡ get_or vs i 0
sets_inside [] l at i b h = absurd (not-suc-le-zero b)
sets_inside (v ∷ vs) l at zero b h =
    let e : at + 0 ≡ at = omega arith in
    rw e (sets_below vs (set l at v) (suc at) at (omega arith) ∙ get_or-set_same l at v 0 (omega arith))
sets_inside (v ∷ vs) l at (suc i) b h =
    let e : at + suc i ≡ suc at + i = omega arith in
    rw e (sets_inside vs (set l at v) (suc at) i (omega arith) (omega (arith, length-set l at v)))

-- a list of m numbers holds the first n rows, of w numbers each
pub record Rows (w m : ℕ) (row : ℕ → List ℕ) (g : List ℕ) (n : ℕ) : Type 0 where
  pub size : length g ≡ m
  pub each : (k i : ℕ) → k < n → i < w → get_or g (w * k + i) 0 ≡ get_or (row k) i 0

module _ (w m : ℕ) (row : ℕ → List ℕ) (g : List ℕ) where
  rows_none : length g ≡ m → Rows w m row g 0
  rows_none e = record { size = e; each = λ k i a. absurd (not-suc-le-zero a) }

  rows_more : (n : ℕ) (vs : List ℕ) {after : List ℕ} → Rows w m row g n → length vs ≡ w → vs ≡ row n → w * n + w ≤ m
      → ((k i : ℕ) → k < n → i < w → w * k + i < w * n) → after ≡ sets g (w * n) vs → Rows w m row after (n + 1)
  rows_more n vs r wide same room low put =
      rw put (record { size = length-sets g (w * n) vs ∙ r.size; each = λ k i a b. go k i b (last_or_below n k (omega arith)) })
    where
      go : (k i : ℕ) → i < w → (k ≡ n) ⊎ (k < n) → get_or (sets g (w * n) vs) (w * k + i) 0 ≡ get_or (row k) i 0
      go k i b (inl e) = rw e (sets_inside vs g (w * n) i (omega (arith, wide)) (omega (arith, wide, r.size)) ∙ ap (λ (l : List ℕ). get_or l i 0) same)
      go k i b (inr a) = sets_below vs g (w * n) (w * k + i) (low k i a b) ∙ r.each k i a b

pub six_put : (l : List ℕ) (at a b c d e f : ℕ)
    → set (set (set (set (set (set l at a) (at + 1) b) (at + 2) c) (at + 3) d) (at + 4) e) (at + 5) f ≡ sets l at (a ∷ b ∷ c ∷ d ∷ e ∷ f ∷ [])
six_put l at a b c d e f =
    let one : at + 1 ≡ suc at = omega arith in
    let two : at + 2 ≡ suc (suc at) = omega arith in
    let three : at + 3 ≡ suc (suc (suc at)) = omega arith in
    let four : at + 4 ≡ suc (suc (suc (suc at))) = omega arith in
    let five : at + 5 ≡ suc (suc (suc (suc (suc at)))) = omega arith in
    rw (one, two, three, four, five)

-- ## Tasks

-- 3, 4 of one task
abbrev pub task_checked : List ℕ → ℕ → Outcome
task_checked tasks k = before (check3 tasks k) (check4 tasks k)

-- one test tells whether bytes make whole tasks
whole_tasks : (n : ℕ) (x : Bool) → (not (eqb (n % 4) 0) || (not (eqb (n / 4 % 7) 0) || x)) ≡ (not (eqb (n % 28) 0) || x)
whole_tasks n x = go (either (eqb (n % 4) 0)) (either (eqb (n / 4 % 7) 0))
  where
    go : (eqb (n % 4) 0 ≡ true) ⊎ (eqb (n % 4) 0 ≡ false) → (eqb (n / 4 % 7) 0 ≡ true) ⊎ (eqb (n / 4 % 7) 0 ≡ false)
        → (not (eqb (n % 4) 0) || (not (eqb (n / 4 % 7) 0) || x)) ≡ (not (eqb (n % 28) 0) || x)
    go (inr a) _ = rw (a, ne_eqb (n % 28) 0 (λ e. eqb-false (n % 4) 0 a (omega arith)))
    go (inl a) (inr b) = rw (a, b, ne_eqb (n % 28) 0 (λ e. eqb-false (n / 4 % 7) 0 b (omega arith)))
    go (inl a) (inl b) = rw (a, b, eq-eqb (n % 28) 0 (omega (arith, eqb-true (n % 4) 0 a, eqb-true (n / 4 % 7) 0 b)))

module _ (bytes : List ℕ) where
  pub tasks_tested : check_tasks_in bytes
      ≡ before (refuse (not (eqb (length bytes % 28) 0) || (ltb (length bytes / 28) 1 || ltb 16 (length bytes / 28))) 2 0)
      (ascending (length bytes / 28) (task_checked (numbers_in 4 bytes)))
  tasks_tested =
      let same : length bytes / 4 / 7 ≡ length bytes / 28 = omega arith in
      rw (tasks_in, whole_tasks, same)

  pub tasks_number : length bytes / 28 ≡ task_count (numbers_in 4 bytes)
  tasks_number = let same : length bytes / 28 ≡ length bytes / 4 / 7 = omega arith in same ∙ tasks_counted bytes

-- a task that passes fits
pub task_fits : (tasks : List ℕ) (k : ℕ) (task : Task) (one : Outcome) → task ≡ task_at tasks k → one ≡ task_checked tasks k → one ≡ Done → TaskFits task
unfolding check3 outside
task_fits tasks k task one own checked ok =
    let both = sym checked ∙ ok in
    let three = refuse_fine _ _ _ (before_first (check3 tasks k) (check4 tasks k) both) in
    let T : period tasks k ≤ 16384 = search fine depth 9 in
    let Co : overload tasks k ≤ 16384 = search fine depth 9 in
    let C : nominal tasks k ≤ 16384 = search fine depth 9 in
    let Z : offset tasks k ≤ 16384 = search fine depth 9 in
    let crit : criticality tasks k ≤ 255 = search fine depth 9 in
    let prio : priority tasks k ≤ 63 = search fine depth 9 in
    rw own (record {
      period_fits = omega arith;
      overload_fits = omega arith;
      nominal_fits = omega arith;
      offset_fits = omega arith;
      criticality_fits = omega arith;
      priority_fits = omega arith;
    })

-- the first k tasks pass, and their numbers are in the list
pub record TasksRead (tasks of : List ℕ) (k : ℕ) : Type 0 where
  pub passed : ascending k (task_checked tasks) ≡ Done
  pub rows : Rows 6 96 (λ i. task_row (task_at tasks i)) of k

module _ (tasks of : List ℕ) where
  pub tasks_none : length of ≡ 96 → TasksRead tasks of 0
  tasks_none e = record { passed = ascending_none (task_checked tasks); rows = rows_none 6 96 _ of e }

  pub tasks_more : (k : ℕ) (task : Task) (one : Outcome) {after : List ℕ} {u : ⊤} → TasksRead tasks of k → k < 16 → task ≡ task_at tasks k
      → one ≡ task_checked tasks k → one ≡ Ok u → after ≡ sets of (6 * k) (task_row task) → TasksRead tasks after (k + 1)
  tasks_more k task one w few own checked ok put = record {
    passed = still_done (task_checked tasks) k w.passed checked ok;
    rows = rows_more 6 96 _ of k (task_row task) w.rows refl (ap task_row own) (omega arith) (λ i m a b. omega arith) put;
  }

  pub tasked : (k : ℕ) → TasksRead tasks of k → k ≡ task_count tasks → Tasked tasks of
  tasked k w e =
      let r = rw e at w.rows in
      record {
        periods = λ i l. ap (λ (p : ℕ). get_or of p 0) (let z : 6 * i ≡ 6 * i + 0 = omega arith in z) ∙ r.each i 0 l (omega arith);
        overloads = λ i l. r.each i 1 l (omega arith);
        nominals = λ i l. r.each i 2 l (omega arith);
        offsets = λ i l. r.each i 3 l (omega arith);
        criticalities = λ i l. r.each i 4 l (omega arith);
        priorities = λ i l. r.each i 5 l (omega arith);
      }

-- ## Jobs

pub five_put : (l : List ℕ) (at a b c d e : ℕ)
    → set (set (set (set (set l at a) (at + 1) b) (at + 2) c) (at + 3) d) (at + 4) e ≡ sets l at (a ∷ b ∷ c ∷ d ∷ e ∷ [])
five_put l at a b c d e =
    let one : at + 1 ≡ suc at = omega arith in
    let two : at + 2 ≡ suc (suc at) = omega arith in
    let three : at + 3 ≡ suc (suc (suc at)) = omega arith in
    let four : at + 4 ≡ suc (suc (suc (suc at))) = omega arith in
    rw (one, two, three, four)

-- one test tells whether bytes make whole jobs
whole_jobs : (n : ℕ) (x : Bool) → (not (eqb (n % 4) 0) || (not (eqb (n / 4 % 3) 0) || x)) ≡ (not (eqb (n % 12) 0) || x)
whole_jobs n x = go (either (eqb (n % 4) 0)) (either (eqb (n / 4 % 3) 0))
  where
    go : (eqb (n % 4) 0 ≡ true) ⊎ (eqb (n % 4) 0 ≡ false) → (eqb (n / 4 % 3) 0 ≡ true) ⊎ (eqb (n / 4 % 3) 0 ≡ false)
        → (not (eqb (n % 4) 0) || (not (eqb (n / 4 % 3) 0) || x)) ≡ (not (eqb (n % 12) 0) || x)
    go (inr a) _ = rw (a, ne_eqb (n % 12) 0 (λ e. eqb-false (n % 4) 0 a (omega arith)))
    go (inl a) (inr b) = rw (a, b, ne_eqb (n % 12) 0 (λ e. eqb-false (n / 4 % 3) 0 b (omega arith)))
    go (inl a) (inl b) = rw (a, b, eq-eqb (n % 12) 0 (omega (arith, eqb-true (n % 4) 0 a, eqb-true (n / 4 % 3) 0 b)))

pub jobs_tested : (tasks jobs : List ℕ) → check_jobs_in tasks jobs
    ≡ before (refuse (not (eqb (length jobs % 12) 0) || ltb 64 (length jobs / 12)) 5 0)
    (ascending (length jobs / 12) (job_checked (numbers_in 4 tasks) (numbers_in 4 jobs)))
jobs_tested tasks jobs =
    let same : length jobs / 4 / 3 ≡ length jobs / 12 = omega arith in
    rw (jobs_in, whole_jobs, same)

pub jobs_number : (jobs : List ℕ) → length jobs / 12 ≡ job_count (numbers_in 4 jobs)
unfolding job_count
jobs_number jobs = let same : length jobs / 12 ≡ length jobs / 4 / 3 = omega arith in rw (length_numbers 4 jobs) same

-- a job tested, test by test
module _ (of noted : List ℕ) (count above : ℕ) (job : Job) (j : ℕ) where
  abbrev unfit : Bool
  unfit = ltb 16384 job.arrival || ltb (get_or of (6 * job.task + 1) 0) job.execution

  pub tested_in_order : job_tested of noted count above job j
      ≡ before (refuse (leb count job.task) 6 j)
      (before (refuse unfit 6 j) (before (refuse (ltb job.arrival above) 7 j) (refuse (ltb job.arrival (get_or noted job.task 0)) 8 j)))
  unfolding job_tested refuse before
  tested_in_order = go (either (leb count job.task))
    where
      go : (leb count job.task ≡ true) ⊎ (leb count job.task ≡ false) → job_tested of noted count above job j
          ≡ before (refuse (leb count job.task) 6 j)
          (before (refuse unfit 6 j) (before (refuse (ltb job.arrival above) 7 j) (refuse (ltb job.arrival (get_or noted job.task 0)) 8 j)))
      go (inl a) = rw (a, le-ltb job.task count (leb-true count job.task a))
      go (inr a) = rw (a, lt-ltb job.task count (leb-false count job.task a))

-- a job of a table that passed: what is tested by the kept numbers is what is checked by the lists
tested_same : (of noted tasks : List ℕ) (count above : ℕ) (job : Job) (j : ℕ) → (job.task < count → get_or of (6 * job.task + 1) 0 ≡ overload tasks job.task)
    → job_tested of noted count above job j
    ≡ before (refuse (not (ltb job.task count) || ltb 16384 job.arrival || ltb (overload tasks job.task) job.execution) 6 j)
    (before (refuse (ltb job.arrival above) 7 j) (refuse (ltb job.arrival (get_or noted job.task 0)) 8 j))
unfolding job_tested refuse before
tested_same of noted tasks count above job j same = go (either (ltb job.task count))
  where
    go : (ltb job.task count ≡ true) ⊎ (ltb job.task count ≡ false) → job_tested of noted count above job j
        ≡ before (refuse (not (ltb job.task count) || ltb 16384 job.arrival || ltb (overload tasks job.task) job.execution) 6 j)
        (before (refuse (ltb job.arrival above) 7 j) (refuse (ltb job.arrival (get_or noted job.task 0)) 8 j))
    go (inl a) = rw (same (ltb-true job.task count a))
    go (inr a) = rw a

-- a job's five numbers
abbrev pub job_row_at : Lists → ℕ → List ℕ
job_row_at l j = arrival l.jobs j ∷ execution l.jobs j ∷ zero_slack_instant l j ∷ job_nominal l j ∷ task_of l.jobs j ∷ []

-- the first j jobs pass, and what is kept of them
pub record JobsRead (tasks jobs : List ℕ) (j : ℕ) (noted : List ℕ) (above : ℕ) (out words : List ℕ) : Type 0 where
  pub looked : Looked tasks jobs j noted above
  pub rows : Rows 5 320 (job_row_at (lists tasks jobs)) out j
  pub words_size : length words ≡ 16
  pub words_of : (k : ℕ) → k < 16 → get_or words k 0 ≡ word 64 (up_to (λ i. eqb (task_of jobs i) k) j)

pub jobs_none : (tasks jobs noted out words : List ℕ) → noted ≡ replicate 16 0 → length out ≡ 320 → Cleared words → JobsRead tasks jobs 0 noted 0 out words
jobs_none tasks jobs noted out words e size w = record {
  looked = looked_none tasks jobs noted e;
  rows = rows_none 5 320 _ out size;
  words_size = w.size;
  words_of = λ k l. w.clear k l ∙ sym (up_to_none (λ i. eqb (task_of jobs i) k));
}

-- job j, its task's numbers being kept
module _ (tasks jobs of : List ℕ) (ok : check_tasks tasks ≡ Done) (kept : Tasked tasks of) (j : ℕ) (job : Job) (own : job ≡ job_at jobs j) where
  module _ (noted : List ℕ) (above : ℕ) (out words : List ℕ) (w : JobsRead tasks jobs j noted above out words) (count : ℕ) (counted : count ≡ task_count tasks)
      (one : Outcome) (tested : one ≡ job_tested of noted count above job j) where
    -- what is tested is what is checked
    pub job_checked_law : one ≡ job_checked tasks jobs j
    job_checked_law =
        tested ∙ tested_same of noted tasks count above job j (λ l. kept.overloads job.task (rw counted at l))
        ∙ job_seen tasks jobs j job (task_at tasks job.task) count above (get_or noted job.task 0)
        (record {
          own = own;
          of_task_law = refl;
          tasks_counted = counted;
          last = w.looked.last;
          allowed = λ l. w.looked.each.each job.task (omega (arith, l, few_tasks tasks ok));
        })

  -- a job that passes is of a task in the table, and fits
  pub job_known : job_checked tasks jobs j ≡ Done → job.task < task_count tasks
  unfolding check6
  job_known fine-job =
      let six = refuse_fine _ _ _ (before_first (check6 tasks jobs j) _ fine-job) in
      rw own (ltb-true (task_of jobs j) (task_count tasks) (search fine))

  pub job_fits : job_checked tasks jobs j ≡ Done → JobFits of job
  unfolding check6
  job_fits fine-job =
      let six = refuse_fine _ _ _ (before_first (check6 tasks jobs j) _ fine-job) in
      let k = job_known fine-job in
      let t = accepted_task tasks ok job.task k in
      let early : arrival jobs j ≤ 16384 = search fine in
      let within : execution jobs j ≤ overload tasks (task_of jobs j) = search fine in
      let a : job.arrival ≡ arrival jobs j = ap (λ (x : Job). x.arrival) own in
      let c : job.execution ≡ execution jobs j = ap (λ (x : Job). x.execution) own in
      let i : task_of jobs j ≡ job.task = sym (ap (λ (x : Job). x.task) own) in
      let most : overload tasks (task_of jobs j) ≤ 16384 = rw i t.overload_most in
      record {
        known = omega (arith, k, few_tasks tasks ok);
        arrival_fits = omega (arith, a, early);
        execution_fits = omega (arith, c, within, most);
        offset_fits = omega (arith, kept.offsets job.task k, t.offset_most);
      }

  -- its row is the lists'
  job_row_law : job_checked tasks jobs j ≡ Done → job_row of job ≡ job_row_at (lists tasks jobs) j
  unfolding job_row zero_slack_instant job_nominal
  job_row_law fine-job = let k = job_known fine-job in rw (kept.offsets job.task k, kept.nominals job.task k, own)

  pub jobs_more : (noted : List ℕ) (above : ℕ) (out words : List ℕ) (one : Outcome) {noted' out' words' : List ℕ} → JobsRead tasks jobs j noted above out words
      → j < 64 → one ≡ job_checked tasks jobs j → one ≡ Done
      → out' ≡ sets out (5 * j) (job_row of job) → noted' ≡ set noted job.task (job.arrival + get_or of (6 * job.task) 0)
      → words' ≡ set words job.task (with_bit (get_or words job.task 0) j) → JobsRead tasks jobs (j + 1) noted' job.arrival out' words'
  unfolding before
  jobs_more noted above out words one {noted'} {out'} {words'} w few checked done put note mark =
      let passes : job_checked tasks jobs j ≡ Done = sym checked ∙ done in
      let k = job_known passes in
      let t = few_tasks tasks ok in
      record {
        looked = looked_more' passes (note ∙ ap (λ (x : ℕ). set noted job.task (job.arrival + x)) (kept.periods job.task k));
        rows = rows_more 5 320 _ out j (job_row of job) w.rows (unfold job_row in refl) (job_row_law passes) (omega arith) (λ i m a b. omega arith) put;
        words_size = ap length mark ∙ length-set words _ _ ∙ w.words_size;
        words_of = λ i l. rw mark (go i l (omega (arith, k, t)) (ℕ_discrete i job.task));
      }
    where
      looked_more' : job_checked tasks jobs j ≡ Done → noted' ≡ set noted job.task (job.arrival + period tasks job.task)
          → Looked tasks jobs (j + 1) noted' job.arrival
      looked_more' passes note =
          let task = task_at tasks job.task in
          let from = soonest tasks jobs j job.task in
          let seen : Seen tasks jobs j job task (task_count tasks) above from
          = record { own = own; of_task_law = refl; tasks_counted = refl; last = w.looked.last; allowed = λ _. refl } in
          looked_more tasks jobs j noted above w.looked job task (task_count tasks) from _ own refl refl (λ _. refl)
          (λ ts js s. job_seen ts js j job task (task_count tasks) above from s) noted'
          (job_seen tasks jobs j job task (task_count tasks) above from seen ∙ passes) note

      mine : job.task ≡ task_of jobs j
      mine = ap (λ (x : Job). x.task) own

      v : ℕ
      v = with_bit (get_or words job.task 0) j

      go : (i : ℕ) → i < 16 → job.task < 16 → Dec (i ≡ job.task) → get_or (set words job.task v) i 0 ≡ word 64 (up_to (λ m. eqb (task_of jobs m) i) (j + 1))
      go i l b (yes q) =
          ap (λ (x : ℕ). get_or (set words job.task v) x 0) q ∙ get_or-set_same words job.task v 0 (omega (arith, w.words_size, b))
          ∙ collect (λ m. eqb (task_of jobs m) i) j (get_or words job.task 0) v true (ap (λ (x : ℕ). get_or words x 0) (sym q) ∙ w.words_of i l)
          (sym (eq-eqb (task_of jobs j) i (sym mine ∙ sym q))) refl
      go i l b (no q) =
          get_or-set_other words job.task i v 0 q
          ∙ collect (λ m. eqb (task_of jobs m) i) j (get_or words i 0) (get_or words i 0) false (w.words_of i l) (sym (ne_eqb (task_of jobs j) i (λ e. q (sym e ∙ sym mine)))) refl

module _ (tasks jobs noted : List ℕ) (above : ℕ) (out words : List ℕ) where
  pub jobbed : (j : ℕ) → JobsRead tasks jobs j noted above out words → j ≡ job_count jobs → Jobbed (lists tasks jobs) out words
  unfolding job_word
  jobbed j w e =
      let r = rw e at w.rows in
      record {
        size = r.size;
        arrivals = λ i l. ap (λ (p : ℕ). get_or out p 0) (let z : 5 * i ≡ 5 * i + 0 = omega arith in z) ∙ r.each i 0 l (omega arith);
        executions = λ i l. r.each i 1 l (omega arith);
        slacks = λ i l. r.each i 2 l (omega arith);
        nominals = λ i l. r.each i 3 l (omega arith);
        tasks_of = λ i l. r.each i 4 l (omega arith);
        words_size = w.words_size;
        jobs_of = λ k l. w.words_of k l ∙ ap (λ (m : ℕ). word 64 (up_to (λ i. eqb (task_of jobs i) k) m)) e;
      }

-- ## A call

-- a table that passes in its bytes passes
pub table_passed : (tasks : List ℕ) (found : Outcome) → found ≡ check_tasks_in tasks → found ≡ Done → check_tasks (numbers_in 4 tasks) ≡ Done
unfolding check_tasks_in
table_passed tasks found q e = before_second (uneven (length tasks) 4 2) _ (sym q ∙ e)

-- words of which none was written
pub cleared : Cleared (replicate 16 0)
cleared = record { size = length-replicate {A = ℕ} 16 0; clear = λ k _. zeros_read 16 k }

-- the mode decides first, then the table, then the jobs, then the ticks
module _ (mode : ℕ) (tasks jobs : List ℕ) (horizon count : ℕ) where
  abbrev ticks : Outcome
  ticks = before (check9 horizon) (before (uneven count 2 10) (check10 (count / 2) horizon))

  pub call_in_order : check_bytes mode tasks jobs horizon count
      ≡ before (refuse (ltb 1 mode) 1 0) (before (check_tasks_in tasks) (before (check_jobs_in tasks jobs) ticks))
  unfolding check_bytes check1 check_lists_in
  call_in_order = ap (λ (o : Outcome). before (refuse (ltb 1 mode) 1 0) o) (before_assoc (check_tasks_in tasks) (check_jobs_in tasks jobs) ticks)
