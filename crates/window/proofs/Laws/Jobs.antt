-- Laws of a task's jobs: as a loop gathers them, and which they are.
use Prim.Native.Nat.{ℕ, zero, suc, ◌+◌, ◌<◌, ◌≤◌}
use mathlib.Core.Bool.{Bool, cond, false, true, ◌&&◌}
use mathlib.Core.List.{List, [], ◌++◌, ◌∷◌, append-nil, map, map-append}
use mathlib.Core.Logic.{inl, inr, ◌⊎◌, ⊎_elim}
use mathlib.Core.Path.{ap, ap₂, refl, sym, ◌∙◌, ◌≡◌}
use native.Mathlib.Nat.{not-suc-le-zero}
use native.Mathlib.Numerals.{add-one}
use native.Mathlib.Omega.{arith}
use lib.Dec.{eqb}
use lib.ListN.{get_or-append, get_or, length, length-append}
use lib.Seq.{get_or-append_seam}
use borrow.Author.Tests.{eq-eqb, eqb-true}
use Rattle.bits.specs.Below.{count}
use Rattle.bits.proofs.Laws.Below.{last_or_below}
use Rattle.bits.proofs.Laws.Bools.{clash}
use Rattle.std.specs.Prelude.{Result}
use Rattle.tables.specs.declared.answers.Refusal.{Refusal}
use Rattle.tables.specs.Tables.{job_count, task_of}
use Rattle.zsrm.specs.declared.answers.Verdict.{Verdict}
use Rattle.zsrm.specs.Verdict.{verdict_is}
use Rattle.window.specs.Windows.{activations, how_many, jobs_below}
use Rattle.window.proofs.Laws.Counts.{many_append}

-- what stands at i, of a list with one number more
snoc_at : (xs : List ℕ) (n i : ℕ) → i < length (xs ++ (n ∷ []))
    → ((i ≡ length xs) × (get_or (xs ++ (n ∷ [])) i 0 ≡ n)) ⊎ ((i < length xs) × (get_or (xs ++ (n ∷ [])) i 0 ≡ get_or xs i 0))
snoc_at xs n i l = go (last_or_below (length xs) i (omega (arith, length-append xs (n ∷ []))))
  where
    go : (i ≡ length xs) ⊎ (i < length xs) → ((i ≡ length xs) × (get_or (xs ++ (n ∷ [])) i 0 ≡ n)) ⊎ ((i < length xs) × (get_or (xs ++ (n ∷ [])) i 0 ≡ get_or xs i 0))
    go (inl q) = inl (q, ap (λ (k : ℕ). get_or (xs ++ (n ∷ [])) k 0) q ∙ get_or-append_seam xs n [] 0)
    go (inr q) = inr (q, get_or-append xs (n ∷ []) 0 i q)

module _ (jobs : List ℕ) (task : ℕ) where
  pub below_none : jobs_below jobs task 0 ≡ []
  unfolding jobs_below
  below_none = refl

  pub below_more : (n : ℕ) → jobs_below jobs task (n + 1) ≡ jobs_below jobs task n ++ cond (eqb (task_of jobs n) task) (n ∷ []) []
  unfolding jobs_below
  below_more n = rw (add-one, jobs_below)

  pub below_few : (n : ℕ) → length (jobs_below jobs task n) ≤ n
  unfolding jobs_below
  below_few zero = omega arith
  below_few (suc n) =
      omega (arith, length-append (jobs_below jobs task n) (cond (eqb (task_of jobs n) task) (n ∷ []) []), go (eqb (task_of jobs n) task), below_few n)
    where
      go : (b : Bool) → length (cond b (n ∷ []) []) ≤ 1
      go true = omega arith
      go false = omega arith

  -- what agrees below n agrees on them
  pub below_same : {A : Type 0} (f h : ℕ → A) (n : ℕ) → ((j : ℕ) → j < n → f j ≡ h j) → map f (jobs_below jobs task n) ≡ map h (jobs_below jobs task n)
  unfolding jobs_below
  below_same f h zero same = refl
  below_same {A} f h (suc n) same =
      map-append f (jobs_below jobs task n) _
      ∙ ap₂ (λ (xs ys : List A). xs ++ ys) (below_same f h n (λ j l. same j (omega arith))) (go (eqb (task_of jobs n) task))
      ∙ sym (map-append h (jobs_below jobs task n) _)
    where
      go : (b : Bool) → map f (cond b (n ∷ []) []) ≡ map h (cond b (n ∷ []) [])
      go true = ap (λ (x : A). x ∷ []) (same n (omega arith))
      go false = refl

  -- how many of their verdicts pass a test, counted over the list
  below_many : (test : Verdict → Bool) (v : ℕ → Result Verdict Refusal) (n : ℕ) → how_many test (map v (jobs_below jobs task n)) ≡ count n (λ j. eqb (task_of jobs j) task && verdict_is test (v j))
  unfolding jobs_below how_many count
  below_many test v zero = refl
  below_many test v (suc n) =
      ap (how_many test) (map-append v (jobs_below jobs task n) (cond (eqb (task_of jobs n) task) (n ∷ []) []))
      ∙ many_append test (map v (jobs_below jobs task n)) (map v (cond (eqb (task_of jobs n) task) (n ∷ []) []))
      ∙ omega (arith, below_many test v n, go (eqb (task_of jobs n) task))
    where
      go : (b : Bool) → how_many test (map v (cond b (n ∷ []) [])) ≡ cond (b && verdict_is test (v n)) 1 0
      go true = omega arith
      go false = refl

  -- one number more is a job of the task, or not
  below_cases : (P : List ℕ → Type 0) (n : ℕ) → (eqb (task_of jobs n) task ≡ true → P (jobs_below jobs task n ++ (n ∷ [])))
      → (eqb (task_of jobs n) task ≡ false → P (jobs_below jobs task n)) → P (jobs_below jobs task (suc n))
  unfolding jobs_below
  below_cases P n its other = go (eqb (task_of jobs n) task) its other
    where
      go : (b : Bool) → (b ≡ true → P (jobs_below jobs task n ++ (n ∷ []))) → (b ≡ false → P (jobs_below jobs task n)) → P (jobs_below jobs task n ++ cond b (n ∷ []) [])
      go true f h = f refl
      go false f h = rw (append-nil (jobs_below jobs task n)) (h refl)

  abbrev Each : List ℕ → ℕ → ℕ → Type 0
  Each own n i = (get_or own i 0 < n) × (task_of jobs (get_or own i 0) ≡ task)

  -- each is a job of the task below n
  below_each : (n i : ℕ) → i < length (jobs_below jobs task n) → Each (jobs_below jobs task n) n i
  unfolding jobs_below
  below_each zero i = λ l. absurd (not-suc-le-zero l)
  below_each (suc n) i =
      below_cases (λ own. i < length own → Each own (suc n) i) n
      (λ t l. ⊎_elim (λ q. rw q.1 (omega arith, eqb-true (task_of jobs n) task t))
      (λ q. rw q.1 (let w = below_each n i q.0 in (omega (arith, w.0), w.1))) (snoc_at (jobs_below jobs task n) n i l))
      (λ t l. let w = below_each n i l in (omega (arith, w.0), w.1))

  -- they ascend
  below_order : (n i k : ℕ) → i < k → k < length (jobs_below jobs task n) → get_or (jobs_below jobs task n) i 0 < get_or (jobs_below jobs task n) k 0
  unfolding jobs_below
  below_order zero i k b = λ l. absurd (not-suc-le-zero l)
  below_order (suc n) i k b =
      below_cases (λ own. k < length own → get_or own i 0 < get_or own k 0) n
      (λ t l. ⊎_elim (λ q. rw (q.1, get_or-append (jobs_below jobs task n) (n ∷ []) 0 i (omega (arith, q.0))) (below_each n i (omega (arith, q.0))).0)
      (λ q. rw (q.1, get_or-append (jobs_below jobs task n) (n ∷ []) 0 i (omega (arith, q.0))) (below_order n i k b q.0)) (snoc_at (jobs_below jobs task n) n k l))
      (λ t l. below_order n i k b l)

  -- and none is missing
  below_all : (n j : ℕ) → j < n → task_of jobs j ≡ task → (i : ℕ) × (i < length (jobs_below jobs task n)) × (get_or (jobs_below jobs task n) i 0 ≡ j)
  unfolding jobs_below
  below_all zero j l e = absurd (not-suc-le-zero l)
  below_all (suc n) j l e =
      let own = jobs_below jobs task n in
      below_cases (λ ys. (i : ℕ) × (i < length ys) × (get_or ys i 0 ≡ j)) n
      (λ t. ⊎_elim (λ q. (length own, omega (arith, length-append own (n ∷ [])), get_or-append_seam own n [] 0 ∙ sym q))
      (λ m. let w = below_all n j m e in (w.0, omega (arith, w.1, length-append own (n ∷ [])), get_or-append own (n ∷ []) 0 w.0 w.1 ∙ w.2)) (last_or_below n j l))
      (λ t. below_all n j (⊎_elim (λ q. clash (eq-eqb (task_of jobs n) task (ap (task_of jobs) (sym q) ∙ e)) t) (λ m. m) (last_or_below n j l)) e)

  -- all of the list
  pub own_each : (i : ℕ) → i < length (activations jobs task) → (get_or (activations jobs task) i 0 < job_count jobs) × (task_of jobs (get_or (activations jobs task) i 0) ≡ task)
  unfolding activations
  own_each = below_each (job_count jobs)

  pub own_order : (i k : ℕ) → i < k → k < length (activations jobs task) → get_or (activations jobs task) i 0 < get_or (activations jobs task) k 0
  unfolding activations
  own_order = below_order (job_count jobs)

  pub own_all : (j : ℕ) → j < job_count jobs → task_of jobs j ≡ task → (i : ℕ) × (i < length (activations jobs task)) × (get_or (activations jobs task) i 0 ≡ j)
  unfolding activations
  own_all = below_all (job_count jobs)

  pub own_many : (test : Verdict → Bool) (v : ℕ → Result Verdict Refusal) → how_many test (map v (activations jobs task)) ≡ count (job_count jobs) (λ j. eqb (task_of jobs j) task && verdict_is test (v j))
  unfolding activations
  own_many test v = below_many test v (job_count jobs)

  pub own_same : {A : Type 0} (f h : ℕ → A) → ((j : ℕ) → j < job_count jobs → f j ≡ h j) → map f (activations jobs task) ≡ map h (activations jobs task)
  unfolding activations
  own_same f h = below_same f h (job_count jobs)
