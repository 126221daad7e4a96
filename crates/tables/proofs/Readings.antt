-- Document 01's refusals with their "exactly when", "preceding", "lowest class first" and "ascending" said by quantifiers, each proved of
-- the definition that computes it. A test holds where it is `true`.
use Prim.Native.Nat.{◌+◌, ◌<◌, suc, zero, ℕ}
use mathlib.Core.Bool.{◌&&◌, Bool, false, true}
use mathlib.Core.List.{List}
use mathlib.Core.Logic.Iff
use mathlib.Core.Logic.{inl, inr, ◌↔◌, ◌≢◌, ◌⊎◌, ⊎_elim}
use mathlib.Core.Path.{refl, ◌∙◌, ◌≡◌, sym}
use native.Mathlib.Omega.{arith}
use lib.Dec.{eqb, ltb}
use borrow.Author.Tests.{eq-eqb, eqb-false, eqb-true, ne_eqb}
use Rattle.bits.proofs.Laws.Bools.{passed, passes, apart}
use Rattle.bits.proofs.Readings.{greatest_reads}
use Rattle.std.specs.Prelude.{Err}
use Rattle.tables.specs.Outcomes.{Outcome, Done, Refused}
use Rattle.tables.specs.Tables.{arrival, period, task_of}
use Rattle.tables.specs.Refusals.{ascending, before, check8, preceding, refuse}
use Rattle.tables.proofs.Laws.Refusals.{ascending_at, before_first, before_second, refused_here}

-- "Given exactly when": a check refuses exactly when its test passes, and is done exactly when it fails.
pub refuse_reads : (b : Bool) (number place : ℕ) → refuse b number place ≡ Refused number place ↔ b ≡ true
unfolding refuse
refuse_reads true n p = (λ e. refl, λ e. refl)
refuse_reads false n p = (λ e. apart (cc), λ e. apart (cc))

pub refuse_done : (b : Bool) (number place : ℕ) → refuse b number place ≡ Done ↔ b ≡ false
unfolding refuse
refuse_done true n p = (λ e. apart (cc), λ e. apart (cc))
refuse_done false n p = (λ e. refl, λ e. refl)

-- 8: "less than T after the preceding job of its task". Job i is the preceding job of j's task:
pub record Preceding (jobs : List ℕ) (j i : ℕ) : Type 0 where
  pub above : i < j
  pub same_task : task_of jobs i ≡ task_of jobs j
  pub nearest : (k : ℕ) → i < k → k < j → task_of jobs k ≢ task_of jobs j

pub check8_reads : (tasks jobs : List ℕ) (j : ℕ) → check8 tasks jobs j ≡ Refused 8 j
    ↔ ((i : ℕ) × Preceding jobs j i × (arrival jobs j < arrival jobs i + period tasks (task_of jobs j)))
unfolding check8 preceding
check8_reads tasks jobs j =
    Iff.trans (refuse_reads (soon (preceding jobs j)) 8 j) (
      λ h. (preceding jobs j, (precedes (preceding jobs j) (search passed)).0 refl, search passed),
      λ w. rw ((precedes w.0 w.1.above).1 w.1) (search passes),
    )
  where
    soon : ℕ → Bool
    soon i = ltb i j && ltb (arrival jobs j) (arrival jobs i + period tasks (task_of jobs j))

    precedes : (i : ℕ) → i < j → preceding jobs j ≡ i ↔ Preceding jobs j i
    precedes i l =
        Iff.trans (greatest_reads (λ k. eqb (task_of jobs k) (task_of jobs j)) j j i l (omega arith)) (
          λ w. record { above = l; same_task = eqb-true _ _ w.0; nearest = λ k a b. eqb-false _ _ (w.1 k a b) },
          λ w. (eq-eqb _ _ w.same_task, λ k a b. ne_eqb _ _ (w.nearest k a b)),
        )

-- "the lowest class goes first"
pub before_done : (a b : Outcome) → before a b ≡ Done ↔ (a ≡ Done) × (b ≡ Done)
before_done a b = (λ h. (before_first a b h, before_second a b h), λ w. rw w.0 (unfold before in w.1))

pub before_refused : (a b : Outcome) (x y : ℕ) → before a b ≡ Refused x y ↔ (a ≡ Refused x y) ⊎ ((a ≡ Done) × (b ≡ Refused x y))
unfolding before
before_refused Done b x y = (λ h. inr (refl, h), ⊎_elim (λ e. apart (cc)) (λ w. w.1))
before_refused (Err w) b x y = (λ h. inl h, ⊎_elim (λ e. e) (λ v. let e = v.0 in apart (cc)))

-- "then tasks ascending", "then jobs ascending": every check is done; else the first that is not answers.
pub ascending_done : (f : ℕ → Outcome) (n : ℕ) → ascending n f ≡ Done ↔ ((i : ℕ) → i < n → f i ≡ Done)
unfolding ascending before
ascending_done f n = (λ h i l. ascending_at f n i l h, all n)
  where
    all : (n : ℕ) → ((i : ℕ) → i < n → f i ≡ Done) → ascending n f ≡ Done
    all zero h = refl
    all (suc n) h = rw (all n (λ i l. h i (omega arith))) (h n (omega arith))

pub record FirstRefusal (f : ℕ → Outcome) (n x y i : ℕ) : Type 0 where
  pub place : i < n
  pub refused : f i ≡ Refused x y
  pub earlier : (k : ℕ) → k < i → f k ≡ Done

pub ascending_refused : (f : ℕ → Outcome) (n x y : ℕ) → ascending n f ≡ Refused x y ↔ ((i : ℕ) × FirstRefusal f n x y i)
unfolding ascending before
ascending_refused f n x y = (there n, back)
  where
    there : (n : ℕ) → ascending n f ≡ Refused x y → (i : ℕ) × FirstRefusal f n x y i
    there zero h = apart (cc)
    there (suc n) h = go (ascending n f) refl h (there n)
      where
        go : (o : Outcome) → ascending n f ≡ o → before o (f n) ≡ Refused x y
            → (ascending n f ≡ Refused x y → (i : ℕ) × FirstRefusal f n x y i) → (i : ℕ) × FirstRefusal f (suc n) x y i
        go Done q h ih = (n, record { place = omega arith; refused = h; earlier = λ k l. ascending_at f n k l q })
        go (Err refusal) q h ih =
            let w = ih (q ∙ h) in (w.0, record { place = omega arith; refused = w.1.refused; earlier = w.1.earlier })

    back : (i : ℕ) × FirstRefusal f n x y i → ascending n f ≡ Refused x y
    back w =
        let v = w.1 in
        sym (refused_here f n w.0 (f w.0) x y v.place ((ascending_done f w.0).1 v.earlier) refl v.refused)
