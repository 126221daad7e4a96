-- What is gathered of the jobs, job by job; and that what the code sees by it, of a set of jobs in the list, is what it sees by the lists:
-- both scans pass at the jobs of the set alone, where the gathered numbers are the lists'.
use Prim.Native.Nat.{◌*◌, ◌+◌, ◌/◌, ◌%◌, ◌<◌, ◌^◌, ℕ, ◌≤◌}
use mathlib.Core.Bool.{◌&&◌, Bool, cond, false, not, true, ◌||◌}
use mathlib.Core.List.{List}
use mathlib.Core.Logic.{inl, inr, ◌⊎◌}
use mathlib.Core.Path.{ap, ap₂, refl, sym, ◌∙◌, ◌≡◌}
use native.Mathlib.Omega.{arith}
use lib.Dec.{eqb, leb, ltb}
use lib.ListN.{get_or, length, length-set, set}
use lib.Seq.{get_or-set_other, get_or-set_same}
use borrow.Author.Tests.{le-ltb, ltb-false, ltb-true}
use Rattle.bits.specs.Below.{bit, greatest, greatest_key, least, some, word}
use Rattle.bits.specs.Word.{without}
use Rattle.bits.proofs.Laws.Below.{last_or_below, least_same, least_skip, some_same, some_skip}
use Rattle.bits.proofs.Laws.Bools.{clash, either}
use Rattle.bits.proofs.Laws.Most.{greatest_key_same, greatest_key_skip}
use Rattle.bits.proofs.Laws.Sweep.{stays, word_below}
use Rattle.bits.proofs.Laws.Word.{bit_above, bit_word, word_same}
use Rattle.tables.specs.Outcomes.{Done}
use Rattle.tables.specs.Refusals.{check_lists}
use Rattle.tables.proofs.Laws.Accepted.{accepted_job, accepted_task, lists_jobs, lists_tasks}
use Rattle.tables.specs.Tables.{task_of, arrival, execution, idle, job_count, job_criticality, job_nominal, job_priority, Lists, zero_slack_instant}
use Rattle.zsrm.specs.declared.record.Record.{Record}
use Rattle.zsrm.specs.declared.look.View.{View}
use Rattle.zsrm.specs.declared.tie.Tie.{Tie}
use Rattle.zsrm.specs.Tick.{alive, is_stay, job_word, some_job}
use Rattle.zsrm.specs.Code.Claims.{top_or_idle}
use Rattle.zsrm.specs.Code.Gathered.{arrival_in, chosen_in, criticality_in, execution_in, free_in, free_word, Gathers, GathersTo, less_in, level_in, may_run_in, most_past, nominal_in}
use Rattle.zsrm.specs.Code.Gathered.{past_in, priority_in, put_job, slack_in, ticked_in, top_or_idle_in, view_in, waiting_in}
use Rattle.zsrm.specs.Code.View.{chosen, greatest_criticality, has_priority, is_past, keeps_by, less_critical_in, less_critical_word, lowest_of, past_word, priority_word, ticked_by, view, waiting_word}
use Rattle.zsrm.proofs.Laws.View.{view_made}

-- the five numbers of job j as they are put: each is read back, and what lies before them stays
module _ (g : List ℕ) (j a c z m s : ℕ) (size : length g ≡ 320) (few : j < 64) where
  abbrev one : List ℕ
  one = set g (5 * j) a

  abbrev two : List ℕ
  two = set one (5 * j + 1) c

  abbrev three : List ℕ
  three = set two (5 * j + 2) z

  abbrev four : List ℕ
  four = set three (5 * j + 3) m

  size1 : length one ≡ 320
  size1 = length-set g (5 * j) a ∙ size

  size2 : length two ≡ 320
  size2 = length-set one (5 * j + 1) c ∙ size1

  size3 : length three ≡ 320
  size3 = length-set two (5 * j + 2) z ∙ size2

  size4 : length four ≡ 320
  size4 = length-set three (5 * j + 3) m ∙ size3

  put_size : length (put_job g j a c z m s) ≡ 320
  unfolding put_job
  put_size = length-set four (5 * j + 4) s ∙ size4

  put_below : (q : ℕ) → q < 5 * j → get_or (put_job g j a c z m s) q 0 ≡ get_or g q 0
  unfolding put_job
  put_below q l =
      get_or-set_other four (5 * j + 4) q s 0 (λ e. omega arith) ∙ get_or-set_other three (5 * j + 3) q m 0 (λ e. omega arith)
      ∙ get_or-set_other two (5 * j + 2) q z 0 (λ e. omega arith) ∙ get_or-set_other one (5 * j + 1) q c 0 (λ e. omega arith)
      ∙ get_or-set_other g (5 * j) q a 0 (λ e. omega arith)

  put_arrival : get_or (put_job g j a c z m s) (5 * j) 0 ≡ a
  unfolding put_job
  put_arrival =
      get_or-set_other four (5 * j + 4) (5 * j) s 0 (λ e. omega arith) ∙ get_or-set_other three (5 * j + 3) (5 * j) m 0 (λ e. omega arith)
      ∙ get_or-set_other two (5 * j + 2) (5 * j) z 0 (λ e. omega arith) ∙ get_or-set_other one (5 * j + 1) (5 * j) c 0 (λ e. omega arith)
      ∙ get_or-set_same g (5 * j) a 0 (omega (arith, size))

  put_execution : get_or (put_job g j a c z m s) (5 * j + 1) 0 ≡ c
  unfolding put_job
  put_execution =
      get_or-set_other four (5 * j + 4) (5 * j + 1) s 0 (λ e. omega arith) ∙ get_or-set_other three (5 * j + 3) (5 * j + 1) m 0 (λ e. omega arith)
      ∙ get_or-set_other two (5 * j + 2) (5 * j + 1) z 0 (λ e. omega arith) ∙ get_or-set_same one (5 * j + 1) c 0 (omega (arith, size1))

  put_slack : get_or (put_job g j a c z m s) (5 * j + 2) 0 ≡ z
  unfolding put_job
  put_slack =
      get_or-set_other four (5 * j + 4) (5 * j + 2) s 0 (λ e. omega arith) ∙ get_or-set_other three (5 * j + 3) (5 * j + 2) m 0 (λ e. omega arith)
      ∙ get_or-set_same two (5 * j + 2) z 0 (omega (arith, size2))

  put_nominal : get_or (put_job g j a c z m s) (5 * j + 3) 0 ≡ m
  unfolding put_job
  put_nominal = get_or-set_other four (5 * j + 4) (5 * j + 3) s 0 (λ e. omega arith) ∙ get_or-set_same three (5 * j + 3) m 0 (omega (arith, size3))

  put_scales : get_or (put_job g j a c z m s) (5 * j + 4) 0 ≡ s
  unfolding put_job
  put_scales = get_or-set_same four (5 * j + 4) s 0 (omega (arith, size4))

  -- what was so of the jobs below j, and is so of j, is so of the jobs below j + 1
  put_more : (f place want : ℕ → ℕ) → ((k : ℕ) → k < j → place k < 5 * j) → ((k : ℕ) → k < j → f (get_or g (place k) 0) ≡ want k)
      → f (get_or (put_job g j a c z m s) (place j) 0) ≡ want j → (k : ℕ) → k < j + 1 → f (get_or (put_job g j a c z m s) (place k) 0) ≡ want k
  put_more f place want low old last k b = go (last_or_below j k (omega arith))
    where
      go : (k ≡ j) ⊎ (k < j) → f (get_or (put_job g j a c z m s) (place k) 0) ≡ want k
      go (inl e) = ap (λ (x : ℕ). f (get_or (put_job g j a c z m s) (place x) 0)) e ∙ last ∙ ap want (sym e)
      go (inr i) = ap f (put_below (place k) (low k i)) ∙ old k i

-- one job more is gathered
pub gathers_more : (l : Lists) (g : List ℕ) (j a c z m s : ℕ) → GathersTo l g j → j < 64 → a ≡ arrival l.jobs j → c ≡ execution l.jobs j → z ≡ zero_slack_instant l j
    → m ≡ job_nominal l j → s ≡ 64 * job_criticality l j + job_priority l j → job_priority l j ≤ 63 → GathersTo l (put_job g j a c z m s) (j + 1)
unfolding arrival_in execution_in slack_in nominal_in criticality_in priority_in
gathers_more l g j a c z m s w few qa qc qz qm qs low =
    record {
      size = put_size g j a c z m s w.size few;
      arrivals = put_more g j a c z m s w.size few (λ x. x) (λ k. 5 * k) (arrival l.jobs) (λ k b. omega arith) w.arrivals (put_arrival g j a c z m s w.size few ∙ qa);
      executions = put_more g j a c z m s w.size few (λ x. x) (λ k. 5 * k + 1) (execution l.jobs) (λ k b. omega arith) w.executions (put_execution g j a c z m s w.size few ∙ qc);
      slacks = put_more g j a c z m s w.size few (λ x. x) (λ k. 5 * k + 2) (zero_slack_instant l) (λ k b. omega arith) w.slacks (put_slack g j a c z m s w.size few ∙ qz);
      nominals = put_more g j a c z m s w.size few (λ x. x) (λ k. 5 * k + 3) (job_nominal l) (λ k b. omega arith) w.nominals (put_nominal g j a c z m s w.size few ∙ qm);
      criticalities =
          put_more g j a c z m s w.size few (λ x. x / 64) (λ k. 5 * k + 4) (job_criticality l) (λ k b. omega arith) w.criticalities
          (ap (λ (x : ℕ). x / 64) (put_scales g j a c z m s w.size few ∙ qs) ∙ high (job_criticality l j) (job_priority l j) low);
      priorities =
          put_more g j a c z m s w.size few (λ x. x % 64) (λ k. 5 * k + 4) (job_priority l) (λ k b. omega arith) w.priorities
          (ap (λ (x : ℕ). x % 64) (put_scales g j a c z m s w.size few ∙ qs) ∙ lower (job_criticality l j) (job_priority l j) low);
    }
  where
    high : (x y : ℕ) → y ≤ 63 → (64 * x + y) / 64 ≡ x
    high x y b = omega arith

    lower : (x y : ℕ) → y ≤ 63 → (64 * x + y) % 64 ≡ y
    lower x y b = omega arith

pub gathers_none : (l : Lists) (g : List ℕ) → length g ≡ 320 → GathersTo l g 0
gathers_none l g e =
    record {
      size = e;
      arrivals = λ k b. absurd (omega arith);
      executions = λ k b. absurd (omega arith);
      slacks = λ k b. absurd (omega arith);
      nominals = λ k b. absurd (omega arith);
      criticalities = λ k b. absurd (omega arith);
      priorities = λ k b. absurd (omega arith);
    }

pub gathers_all : (l : Lists) (g : List ℕ) (j n : ℕ) → n ≡ job_count l.jobs → j ≤ n → n ≤ j → GathersTo l g j → Gathers l g
gathers_all l g j n q a b w = rw (let e : job_count l.jobs ≡ j = omega arith in e) w

-- what is gathered fits
pub nominal_fits : (l : Lists) → check_lists l ≡ Done → (j : ℕ) → j < job_count l.jobs → job_nominal l j ≤ 16384
unfolding job_nominal
nominal_fits l ok j b = (accepted_task l.tasks (lists_tasks l ok) (task_of l.jobs j) (accepted_job l.tasks l.jobs (lists_jobs l ok) j b).known).nominal_most

-- a set of jobs in the list
pub job_word_below : (jobs : List ℕ) (f : ℕ → Bool) → job_count jobs ≤ 64 → job_word jobs f < 2 ^ job_count jobs
unfolding job_word
job_word_below jobs f few = word_below (λ j. ltb j (job_count jobs) && f j) (job_count jobs) few (λ k b. rw (le-ltb k (job_count jobs) b))

module _ (l : Lists) (g : List ℕ) (w : Gathers l g) (few : job_count l.jobs ≤ 64) (among : ℕ) (small : among < 2 ^ job_count l.jobs) where
  -- its bits are jobs of the list
  pub in_list : (j : ℕ) → bit among j ≡ true → j < job_count l.jobs
  in_list j t = go (either (ltb j (job_count l.jobs)))
    where
      go : (ltb j (job_count l.jobs) ≡ true) ⊎ (ltb j (job_count l.jobs) ≡ false) → j < job_count l.jobs
      go (inl b) = ltb-true j (job_count l.jobs) b
      go (inr b) = clash t (bit_above among (job_count l.jobs) j small (ltb-false j (job_count l.jobs) b))

  -- past the list a test of the set fails
  no_more : (P : ℕ → Bool) (k : ℕ) → job_count l.jobs ≤ k → (bit among k && P k) ≡ false
  no_more P k b = ap (λ (x : Bool). x && P k) (bit_above among (job_count l.jobs) k small b)

  -- so tests that agree on the list's jobs make one word
  same_word : (P Q : ℕ → Bool) → ((j : ℕ) → j < job_count l.jobs → P j ≡ Q j) → word 64 (λ j. bit among j && P j) ≡ job_word l.jobs (λ j. bit among j && Q j)
  unfolding job_word
  same_word P Q h = word_same (λ j. bit among j && P j) _ 64 (λ j _. go j (either (ltb j (job_count l.jobs))))
    where
      go : (j : ℕ) → (ltb j (job_count l.jobs) ≡ true) ⊎ (ltb j (job_count l.jobs) ≡ false) → (bit among j && P j) ≡ (ltb j (job_count l.jobs) && (bit among j && Q j))
      go j (inl b) = rw b (ap (λ (x : Bool). bit among j && x) (h j (ltb-true j (job_count l.jobs) b)))
      go j (inr b) = rw b (no_more P j (ltb-false j (job_count l.jobs) b))

  pub past_in_law : (t : ℕ) → word 64 (past_in g among t) ≡ past_word l among t
  unfolding past_in past_word is_past
  past_in_law t = same_word (λ j. leb (slack_in g j) t) (λ j. leb (zero_slack_instant l j) t) (λ j b. ap (λ (x : ℕ). leb x t) (w.slacks j b))

  pub less_in_law : (c : ℕ) → word 64 (less_in g among c) ≡ less_critical_word l among c
  unfolding less_in less_critical_word less_critical_in
  less_in_law c = same_word (λ j. ltb (criticality_in g j) c) (λ j. ltb (job_criticality l j) c) (λ j b. ap (λ (x : ℕ). ltb x c) (w.criticalities j b))

  pub most_in : (t : ℕ) → most_past g among t ≡ greatest_criticality l (word 64 (past_in g among t))
  unfolding most_past greatest_criticality
  most_in t =
      stays (λ k. greatest_key k (past_in g among t) (criticality_in g)) (job_count l.jobs) 64 few
      (λ k a _. greatest_key_skip (past_in g among t) (criticality_in g) k (unfold past_in in no_more (λ j. leb (slack_in g j) t) k a))
      ∙ greatest_key_same (past_in g among t) (bit (word 64 (past_in g among t))) (criticality_in g) (job_criticality l) (job_count l.jobs)
      (λ k b. sym (bit_word (past_in g among t) 64 k (omega arith))) (λ k b _. w.criticalities k b)

  free_bit : (c k : ℕ) → k < 64 → free_in g among c k ≡ bit (without among (word 64 (less_in g among c))) k
  unfolding free_in without
  free_bit c k b =
      go (bit among k) (ltb (criticality_in g k) c)
      ∙ ap (λ (x : Bool). bit among k && not x) (sym (bit_word (less_in g among c) 64 k b ∙ less))
      ∙ sym (bit_word (λ p. bit among p && not (bit (word 64 (less_in g among c)) p)) 64 k b)
    where
      less : less_in g among c k ≡ (bit among k && ltb (criticality_in g k) c)
      less = unfold less_in in refl

      go : (x y : Bool) → (x && not y) ≡ (x && not (x && y))
      go true y = refl
      go false y = refl

  pub free_in_law : (c : ℕ) → free_word g among c ≡ priority_word l (without among (word 64 (less_in g among c)))
  unfolding free_word priority_word some_job has_priority
  free_in_law c =
      word_same _ _ 64
      (λ p _. stays (λ k. some k (λ j. free_in g among c j && eqb (priority_in g j) p)) (job_count l.jobs) 64 few (λ k a _. some_skip _ k (none p k a))
      ∙ some_same _ (λ j. bit (without among (word 64 (less_in g among c))) j && eqb (job_priority l j) p) (job_count l.jobs)
      (λ j b. ap₂ (λ (x : Bool) (y : ℕ). x && eqb y p) (free_bit c j (omega arith)) (w.priorities j b)))
    where
      none : (p k : ℕ) → job_count l.jobs ≤ k → (free_in g among c k && eqb (priority_in g k) p) ≡ false
      none p k a = let e : free_in g among c k ≡ false = unfold free_in in no_more (λ j. not (ltb (criticality_in g j) c)) k a in ap (λ (x : Bool). x && eqb (priority_in g k) p) e

  -- a job of the list, as it is seen by priority
  pub level_in_law : (p j : ℕ) → j < job_count l.jobs → level_in g among p j ≡ has_priority l among p j
  unfolding level_in has_priority
  level_in_law p j b = ap (λ (x : ℕ). bit among j && eqb x p) (w.priorities j b)

  pub lowest_in : (p : ℕ) → least 64 (level_in g among p) idle ≡ lowest_of l among p
  unfolding lowest_of
  lowest_in p =
      stays (λ k. least k (level_in g among p) idle) (job_count l.jobs) 64 few
      (λ k a _. least_skip (level_in g among p) k idle (unfold level_in in no_more (λ j. eqb (priority_in g j) p) k a))
      ∙ least_same (level_in g among p) (has_priority l among p) (job_count l.jobs) idle (level_in_law p)

  pub may_run_in_law : (p e : ℕ) → may_run_in g (job_count l.jobs) among p e ≡ (ltb e (job_count l.jobs) && has_priority l among p e)
  unfolding may_run_in
  may_run_in_law p e = go (ltb e (job_count l.jobs)) (λ b. level_in_law p e (ltb-true e (job_count l.jobs) b))
    where
      go : (b : Bool) {x y : Bool} → (b ≡ true → x ≡ y) → (b && x) ≡ (b && y)
      go true h = h refl
      go false h = refl

-- the view of a record, from the word of its jobs alive
pub view_in_law : (l : Lists) (g : List ℕ) (r : Record) → Gathers l g → job_count l.jobs ≤ 64 → view_in g (job_word l.jobs (alive r)) r.tick ≡ view l r
unfolding view_in
view_in_law l g r w few =
    let a = job_word l.jobs (alive r) in
    let b = job_word_below l.jobs (alive r) few in
    view_made l r a (word 64 (past_in g a r.tick)) (most_past g a r.tick) (word 64 (less_in g a (most_past g a r.tick))) _ _ refl
    (past_in_law l g w few a b r.tick) (most_in l g w few a b r.tick) (less_in_law l g w few a b (most_past g a r.tick)) refl
    (free_in_law l g w few a b (most_past g a r.tick))

-- the choice, and whether an entry may run, by a view whose eligible jobs are in the list
module _ (l : Lists) (g : List ℕ) (v : View) (w : Gathers l g) (few : job_count l.jobs ≤ 64) (small : v.eligible < 2 ^ job_count l.jobs) where
  pub chosen_in_law : (tie : Tie) (previous : ℕ) → chosen_in g (job_count l.jobs) tie v previous ≡ chosen l tie v previous
  unfolding chosen_in chosen keeps_by
  chosen_in_law tie previous =
      ap₂ (λ (b : Bool) (x : ℕ). cond b previous x)
      (ap (λ (b : Bool). is_stay tie && b) (may_run_in_law l g w few v.eligible small (greatest 64 (bit v.ready) 64) previous) ∙ go (is_stay tie) _ _)
      (lowest_in l g w few v.eligible small (greatest 64 (bit v.ready) 64))
    where
      go : (a b c : Bool) → (a && (b && c)) ≡ ((a && b) && c)
      go true b c = refl
      go false b c = refl

  pub top_or_idle_in_law : (e : ℕ) → top_or_idle_in g (job_count l.jobs) v e ≡ top_or_idle l v e
  unfolding top_or_idle_in top_or_idle
  top_or_idle_in_law e = ap (λ (b : Bool). b || (eqb e idle && eqb v.ready 0)) (may_run_in_law l g w few v.eligible small (greatest 64 (bit v.ready) 64) e)

-- the code's steps to them
pub view_in_made : (g : List ℕ) (a t p m s y e : ℕ) → p ≡ word 64 (past_in g a t) → m ≡ most_past g a t → s ≡ word 64 (less_in g a m) → y ≡ free_word g a m → e ≡ without a s
    → ◌≡◌ {A = View} (record { alive = a; past = p; suspended = s; eligible = e; ready = y }) (view_in g a t)
unfolding view_in
view_in_made g a t p m s y e qp qm qs qy qe = rw (qe, qy, qs, qm, qp)

module _ (g : List ℕ) (n : ℕ) (tie : Tie) (v : View) (previous top : ℕ) (stay may : Bool) (p : top ≡ greatest 64 (bit v.ready) 64) (q : stay ≡ is_stay tie)
    (m : may ≡ may_run_in g n v.eligible top previous) where
  pub chosen_kept_in : (stay && may) ≡ true → previous ≡ chosen_in g n tie v previous
  unfolding chosen_in
  chosen_kept_in t = rw (← p, ← q, ← m, t)

  pub chosen_else_in : (stay && may) ≡ false → (x : ℕ) → x ≡ least 64 (level_in g v.eligible top) idle → x ≡ chosen_in g n tie v previous
  unfolding chosen_in
  chosen_else_in t x h = rw (← p, ← q, ← m, t) h

-- and what the tick does
pub ticked_in_law : (jobs : List ℕ) (v : View) (e ended : ℕ) → ticked_in (job_count jobs) v e ended ≡ ticked_by jobs v e ended
unfolding ticked_in waiting_in ticked_by waiting_word
ticked_in_law jobs v e ended = refl
