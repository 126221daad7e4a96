-- Laws of what a batch checks: the runs' checks as a loop makes them, what 17 leaves, and which check decides.
use Prim.Native.Nat.{ℕ, zero, suc, ◌+◌, ◌*◌, ◌<◌, ◌≤◌}
use mathlib.Core.Bool.{Bool, false, not, true, ◌||◌}
use mathlib.Core.List.{List, [], ◌∷◌}
use mathlib.Core.Logic.{inl, inr, ◌↔◌, ◌⊎◌}
use mathlib.Core.Path.{ap, ap₂, refl, subst, sym, ◌∙◌, ◌≡◌}
use native.Mathlib.Numerals.{add-one}
use native.Mathlib.Omega.{arith}
use lib.Dec.{eqb, ltb}
use lib.ListN.{length}
use borrow.Author.Tests.{eq-eqb, eqb-true, le-ltb, ltb-false}
use Rattle.bits.proofs.Laws.Bools.{apart}
use Rattle.std.specs.Prelude.{Ok, Err, IsErrAnd, ⊤}
use Rattle.std.specs.Result.{result_and}
use Rattle.tables.specs.Outcomes.{Outcome, Done, Refused}
use Rattle.tables.specs.Refusals.{ascending, before, check9, check_jobs, check_tasks, refuse}
use Rattle.tables.proofs.Laws.Refusals.{Numbered, ascending_at, before_first, before_second, fine, numbered_before, numbered_refuse, refuse_fine, tasks_numbered, first_of, own_refused}
use Rattle.batch.specs.declared.refusals.RefusedRun.{RefusedRun}
use Rattle.batch.specs.Refusals.{Found, check17, check_batch, check_call, check_runs, goes_first, outcome_of, run_of, with_run}
use Rattle.batch.specs.Runs.{jobs_before, list_of}

-- what was found first decides
pub with_run_outcome : (r : ℕ) (o : Outcome) → outcome_of (with_run r o) ≡ o
unfolding with_run
with_run_outcome r (Ok u) = refl
with_run_outcome r (Err w) = refl

pub goes_first_outcome : (a b : Found) → outcome_of (goes_first a b) ≡ before (outcome_of a) (outcome_of b)
unfolding goes_first before
goes_first_outcome (Ok u) b = refl
goes_first_outcome (Err w) b = refl

pub goes_first_later : (a b : Found) → outcome_of a ≡ Done → goes_first a b ≡ b
unfolding goes_first
goes_first_later (Ok u) b e = refl
goes_first_later (Err w) b e = apart (cc)

pub goes_first_keeps : (a b : Found) (number place : ℕ) → outcome_of a ≡ Refused number place → goes_first a b ≡ a
unfolding goes_first
goes_first_keeps (Ok u) b number place e = apart (cc)
goes_first_keeps (Err w) b number place e = refl

-- an outcome tells whether anything was found
pub found_done : (a : Found) → outcome_of a ≡ Done → a ≡ Ok tt
found_done (Ok u) e = refl
found_done (Err w) e = apart (cc)

pub found_refused : (a : Found) (number place : ℕ) → outcome_of a ≡ Refused number place → (w : RefusedRun) × (a ≡ Err w)
found_refused (Ok u) number place e = apart (cc)
found_refused (Err w) number place e = (w, refl)

-- the library's `and` lets the first go first
pub and_first : (a b : Found) → result_and a b ≡ goes_first a b
unfolding goes_first
and_first (Ok u) b = refl
and_first (Err w) b = refl

-- as `?` meets them: what it hands back is what was found first, and past it nothing was found
module _ (first later : Found) {a r : Found} where
  pub found_stops : {w : RefusedRun} → a ≡ first → a ≡ Err w → IsErrAnd r (λ x. x ≡ w) → r ≡ goes_first first later
  unfolding goes_first
  found_stops {w = w} e q h = rw (← e, q) (at r h)
    where
      at : (o : Found) → IsErrAnd o (λ x. x ≡ w) → o ≡ Err w
      at (Ok u) h = absurd h
      at (Err x) h = rw h

  pub found_goes_on : {u : ⊤} → a ≡ first → a ≡ Ok u → r ≡ later → r ≡ goes_first first later
  unfolding goes_first
  found_goes_on e q h = rw (← e, q, h)

module _ (jobs counts : List ℕ) (horizon entries : ℕ) where
  -- what 17 leaves
  pub record Fits : Type 0 where
    pub few : length counts ≤ 32
    pub listed : jobs_before counts (length counts) * 3 ≡ length jobs
    pub placed : entries ≡ length counts * horizon

  pub seventeen_leaves : check17 jobs counts horizon entries ≡ Done → Fits
  unfolding check17
  seventeen_leaves ok =
      let tests = refuse_fine _ _ _ ok in
      record {
        few = search fine;
        listed = eqb-true (jobs_before counts (length counts) * 3) (length jobs) (search fine);
        placed = eqb-true entries (length counts * horizon) (search fine);
      }

  pub fitted : Fits → check17 jobs counts horizon entries ≡ Done
  unfolding check17 refuse
  fitted w =
      rw (le-ltb 32 (length counts) w.few, eq-eqb (jobs_before counts (length counts) * 3) (length jobs) w.listed, eq-eqb entries (length counts * horizon) w.placed)

  pub unfit : (Fits → ⊥) → check17 jobs counts horizon entries ≡ Refused 17 0
  unfolding check17 refuse
  unfit never = go _ refl
    where
      go : (b : Bool) → (ltb 32 (length counts) || (not (eqb (jobs_before counts (length counts) * 3) (length jobs)) || not (eqb entries (length counts * horizon)))) ≡ b
          → check17 jobs counts horizon entries ≡ Refused 17 0
      go true e = ap (λ (b : Bool). refuse b 17 0) e
      go false e = absurd (never (seventeen_leaves (ap (λ (b : Bool). refuse b 17 0) e)))

module _ (tasks jobs counts : List ℕ) where
  pub checks_none : check_runs tasks jobs counts 0 ≡ Ok tt
  unfolding check_runs with_run
  checks_none = refl

  pub checks_more : (r : ℕ) → check_runs tasks jobs counts (r + 1) ≡ goes_first (check_runs tasks jobs counts r) (with_run r (check_jobs tasks (list_of jobs counts r)))
  unfolding check_runs
  checks_more r = rw (add-one, check_runs)

  module _ (horizon entries : ℕ) where
    -- the call's own checks passed
    pub call_17 : check_call tasks jobs counts horizon entries ≡ Done → check17 jobs counts horizon entries ≡ Done
    unfolding check_call
    call_17 ok = before_second (check9 horizon) _ (before_second (check_tasks tasks) _ ok)

    pub call_fits : check_call tasks jobs counts horizon entries ≡ Done → Fits jobs counts horizon entries
    call_fits ok = seventeen_leaves jobs counts horizon entries (call_17 ok)

    pub call_exactly : check_call tasks jobs counts horizon entries ≡ Done ↔ (check_tasks tasks ≡ Done) × (horizon ≤ 16384) × Fits jobs counts horizon entries
    unfolding check_call check9 refuse before
    call_exactly = (
      λ ok. (before_first (check_tasks tasks) _ ok, ltb-false 16384 horizon (refuse_fine _ 9 0 (before_first (check9 horizon) _ (before_second (check_tasks tasks) _ ok))), call_fits ok),
      λ w. rw (w.0, le-ltb 16384 horizon w.1) (fitted jobs counts horizon entries w.2),
    )

    -- and where 17 alone refuses
    pub call_unfit : check_tasks tasks ≡ Done → horizon ≤ 16384 → (Fits jobs counts horizon entries → ⊥) → check_call tasks jobs counts horizon entries ≡ Refused 17 0
    unfolding check_call check9 refuse before
    call_unfit table few never = rw (table, le-ltb 16384 horizon few) (unfit jobs counts horizon entries never)

    pub batch_call : (number place : ℕ) → check_call tasks jobs counts horizon entries ≡ Refused number place
        → check_batch tasks jobs counts horizon entries ≡ with_run 0 (Refused number place)
    unfolding check_batch
    batch_call number place refuses = goes_first_keeps _ _ number place (with_run_outcome 0 _ ∙ refuses) ∙ ap (with_run 0) refuses

    pub batch_runs : check_call tasks jobs counts horizon entries ≡ Done → check_batch tasks jobs counts horizon entries ≡ check_runs tasks jobs counts (length counts)
    unfolding check_batch
    batch_runs ok = goes_first_later _ _ (with_run_outcome 0 _ ∙ ok)

    pub batch_passes : outcome_of (check_batch tasks jobs counts horizon entries) ≡ Done → check_call tasks jobs counts horizon entries ≡ Done
    unfolding check_batch
    batch_passes ok =
        sym (with_run_outcome 0 (check_call tasks jobs counts horizon entries))
        ∙ before_first _ _ (sym (goes_first_outcome (with_run 0 (check_call tasks jobs counts horizon entries)) (check_runs tasks jobs counts (length counts))) ∙ ok)

-- which run is refused
module _ (tasks jobs counts : List ℕ) where
  -- what the checks of list r find
  abbrev own : ℕ → Outcome
  own r = check_jobs tasks (list_of jobs counts r)

  pub checks_outcome : (n : ℕ) → outcome_of (check_runs tasks jobs counts n) ≡ ascending n own
  unfolding check_runs ascending
  checks_outcome zero = with_run_outcome 0 Done
  checks_outcome (suc n) =
      goes_first_outcome (check_runs tasks jobs counts n) (with_run n (own n)) ∙ ap₂ before (checks_outcome n) (with_run_outcome n (own n))

  pub checks_each : (n : ℕ) → outcome_of (check_runs tasks jobs counts n) ≡ Done → (r : ℕ) → r < n → own r ≡ Done
  checks_each n ok r l = ascending_at own n r l (sym (checks_outcome n) ∙ ok)

  pub checks_pass : (n : ℕ) → ((r : ℕ) → r < n → own r ≡ Done) → outcome_of (check_runs tasks jobs counts n) ≡ Done
  unfolding check_runs before
  checks_pass zero each = with_run_outcome 0 Done
  checks_pass (suc n) each =
      goes_first_outcome (check_runs tasks jobs counts n) (with_run n (own n))
      ∙ ap₂ before (checks_pass n (λ r l. each r (omega arith))) (with_run_outcome n (own n) ∙ each n (omega arith))

  pub checks_zero : (n : ℕ) → outcome_of (check_runs tasks jobs counts n) ≡ Done → (run_of (check_runs tasks jobs counts n)) ≡ 0
  unfolding check_runs with_run
  checks_zero zero ok = refl
  checks_zero (suc n) ok =
      let both = sym (goes_first_outcome (check_runs tasks jobs counts n) (with_run n (own n))) ∙ ok in
      let last = sym (with_run_outcome n (own n)) ∙ before_second (outcome_of (check_runs tasks jobs counts n)) _ both in
      ap run_of (goes_first_later (check_runs tasks jobs counts n) (with_run n (own n)) (before_first _ (outcome_of (with_run n (own n))) both) ∙ ap (with_run n) last)

  -- run r is the first that is refused, of n
  pub record FirstFound (n number place r : ℕ) : Type 0 where
    pub there : r < n
    pub here : own r ≡ Refused number place
    pub earlier : (i : ℕ) → i < r → own i ≡ Done

  pub checks_run : (n number place : ℕ) → outcome_of (check_runs tasks jobs counts n) ≡ Refused number place → FirstFound n number place (run_of (check_runs tasks jobs counts n))
  unfolding check_runs with_run
  checks_run zero number place says = apart (cc)
  checks_run (suc n) number place says = go (outcome_of (check_runs tasks jobs counts n)) refl (checks_run n)
    where
      go : (o : Outcome) → outcome_of (check_runs tasks jobs counts n) ≡ o
          → ((x y : ℕ) → outcome_of (check_runs tasks jobs counts n) ≡ Refused x y → FirstFound n x y (run_of (check_runs tasks jobs counts n)))
          → FirstFound (suc n) number place (run_of (goes_first (check_runs tasks jobs counts n) (with_run n (own n))))
      go (Ok u) e ih =
          let last = goes_first_later (check_runs tasks jobs counts n) (with_run n (own n)) e in
          let refuses = sym (with_run_outcome n (own n)) ∙ ap outcome_of (sym last) ∙ says in
          let at : (run_of (goes_first (check_runs tasks jobs counts n) (with_run n (own n)))) ≡ n = ap run_of (last ∙ ap (with_run n) refuses) in
          subst (FirstFound (suc n) number place) (sym at) (record { there = omega arith; here = refuses; earlier = checks_each n e })
      go (Err r) e ih =
          let kept = goes_first_keeps (check_runs tasks jobs counts n) (with_run n (own n)) r.number r.place e in
          let w = ih number place (ap outcome_of (sym kept) ∙ says) in
          subst (FirstFound (suc n) number place) (ap run_of (sym kept))
          (record { there = omega (arith, w.there); here = w.here; earlier = w.earlier })

-- not from 5 to 8
abbrev pub CallNumber : ℕ → Type 0
CallNumber number = (number ≤ 4) ⊎ (9 ≤ number)

-- the refusals of the call as a whole are 2 to 4, 9 and 17
pub call_numbered : (tasks jobs counts : List ℕ) (horizon entries : ℕ) → Numbered CallNumber (check_call tasks jobs counts horizon entries)
unfolding check_call check9 check17
call_numbered tasks jobs counts horizon entries =
    numbered_before CallNumber (check_tasks tasks) _ (tasks_numbered CallNumber (λ number least most. inl (omega arith)) tasks)
    (numbered_before CallNumber (check9 horizon) _ (numbered_refuse CallNumber _ 9 0 (inr (omega arith))) (numbered_refuse CallNumber _ 17 0 (inr (omega arith))))

-- 17 is found only where the table and the horizon are accepted, and the lists do not fit
pub call_seventeen : (tasks jobs counts : List ℕ) (horizon entries place : ℕ) → check_call tasks jobs counts horizon entries ≡ Refused 17 place
    → (check_tasks tasks ≡ Done) × (horizon ≤ 16384) × (Fits jobs counts horizon entries → ⊥)
unfolding check_call check9 first_of
call_seventeen tasks jobs counts horizon entries place says =
    let w = (own_refused (check_tasks tasks ∷ check9 horizon ∷ []) (check17 jobs counts horizon entries) [] 17 place
    (tasks_numbered _ (λ number least most e. omega arith) tasks, (numbered_refuse _ _ 9 0 (λ e. omega arith), tt)) tt).0 says in
    let short : horizon ≤ 16384 = ltb-false 16384 horizon (refuse_fine _ 9 0 w.0.1.0) in
    (w.0.0, short, λ f. let fine = (call_exactly tasks jobs counts horizon entries).1 (w.0.0, short, f) in apart (cc))
