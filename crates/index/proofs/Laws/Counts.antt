-- Laws of entries and ticks: one entry more, as a loop meets it; a part behind a part; one entry replaced.
use Prim.Native.Nat.{ℕ, zero, suc, ◌+◌, ◌-◌, ◌<◌, ◌≤◌}
use mathlib.Core.Bool.{Bool, cond, false, true, ◌&&◌}
use mathlib.Core.List.{List, [], ◌++◌, ◌∷◌}
use mathlib.Core.Path.{ap, refl, sym, ◌∙◌, ◌≡◌}
use native.Mathlib.Decide.{ℕ_discrete}
use native.Mathlib.Nat.{add-zero}
use native.Mathlib.Numerals.{add-one}
use native.Mathlib.Omega.{arith}
use lib.ListN.{drop, get_or, length, length-set, length-take, replicate, set, take}
use lib.Seq.{ext_get_or, get_or-set_other, get_or-set_same, take-add, take-suc}
use borrow.Author.Tests.{eq-eqb, ne_eqb}
use Rattle.std.specs.Prelude.{Some, None}
use Rattle.bits.specs.Below.{list_from}
use Rattle.bits.proofs.Laws.Below.{get_or_list, length_list_from}
use Rattle.bits.proofs.Laws.Bools.{and_left, and_right, and_true, apart, at_most_one}
use Rattle.tables.specs.Tables.{Lists}
use Rattle.index.specs.Code.{Checked, counts_of, tally}
use Rattle.index.specs.Counts.{all_jobs_or_idle, column, gives, job_or_idle, entries_between, ticks}

and_last : (a : Bool) → (a && true) ≡ a
and_last true = refl
and_last false = refl

and_assoc : (a b c : Bool) → (a && (b && c)) ≡ ((a && b) && c)
and_assoc true b c = refl
and_assoc false b c = refl

length_take_most : (xs : List ℕ) (n : ℕ) → length (take n xs) ≤ n
length_take_most xs n = simp length-take (omega arith)

pub length_between : (xs : List ℕ) (a b : ℕ) → length (entries_between a b xs) ≤ b - a
unfolding entries_between
length_between xs a b = simp length-take (omega arith)

module _ (jobs : List ℕ) where
  pub jobs_or_idle_append : (xs ys : List ℕ) → all_jobs_or_idle jobs (xs ++ ys) ≡ (all_jobs_or_idle jobs xs && all_jobs_or_idle jobs ys)
  unfolding all_jobs_or_idle
  jobs_or_idle_append [] ys = refl
  jobs_or_idle_append (x ∷ xs) ys = ap (λ (b : Bool). job_or_idle jobs x && b) (jobs_or_idle_append xs ys) ∙ and_assoc (job_or_idle jobs x) (all_jobs_or_idle jobs xs) (all_jobs_or_idle jobs ys)

  -- one entry more
  pub jobs_or_idle_none : all_jobs_or_idle jobs [] ≡ true
  unfolding all_jobs_or_idle
  jobs_or_idle_none = refl

  pub jobs_or_idle_more : (xs : List ℕ) (i : ℕ) → i < length xs → all_jobs_or_idle jobs (take (i + 1) xs) ≡ (all_jobs_or_idle jobs (take i xs) && job_or_idle jobs (get_or xs i 0))
  unfolding all_jobs_or_idle
  jobs_or_idle_more xs i l =
      rw add-one
      (ap (all_jobs_or_idle jobs) (take-suc xs i 0 l) ∙ jobs_or_idle_append (take i xs) (get_or xs i 0 ∷ [])
      ∙ ap (λ (b : Bool). all_jobs_or_idle jobs (take i xs) && b) (and_last (job_or_idle jobs (get_or xs i 0))))

  -- where all are, each is
  pub jobs_or_idle_at : (xs : List ℕ) (n t : ℕ) → all_jobs_or_idle jobs (take n xs) ≡ true → t < n → t < length xs → job_or_idle jobs (get_or xs t 0) ≡ true
  unfolding all_jobs_or_idle
  jobs_or_idle_at [] n t all l m = absurd (omega arith)
  jobs_or_idle_at (x ∷ xs) zero t all l m = absurd (omega arith)
  jobs_or_idle_at (x ∷ xs) (suc n) zero all l m = and_left (job_or_idle jobs x) _ all
  jobs_or_idle_at (x ∷ xs) (suc n) (suc t) all l m = jobs_or_idle_at xs n t (and_right (job_or_idle jobs x) _ all) (omega arith) (omega arith)

  -- of the whole list, too
  pub jobs_or_idle_each : (xs : List ℕ) (t : ℕ) → all_jobs_or_idle jobs xs ≡ true → t < length xs → job_or_idle jobs (get_or xs t 0) ≡ true
  unfolding all_jobs_or_idle
  jobs_or_idle_each [] t all m = absurd (omega arith)
  jobs_or_idle_each (x ∷ xs) zero all m = and_left (job_or_idle jobs x) _ all
  jobs_or_idle_each (x ∷ xs) (suc t) all m = jobs_or_idle_each xs t (and_right (job_or_idle jobs x) _ all) (omega arith)

  pub jobs_or_idle_take : (xs : List ℕ) (n m : ℕ) → all_jobs_or_idle jobs (take n xs) ≡ true → m ≤ n → all_jobs_or_idle jobs (take m xs) ≡ true
  unfolding all_jobs_or_idle
  jobs_or_idle_take xs n zero all b = refl
  jobs_or_idle_take xs zero (suc m) all b = absurd (omega arith)
  jobs_or_idle_take [] (suc n) (suc m) all b = refl
  jobs_or_idle_take (x ∷ xs) (suc n) (suc m) all b = and_true (and_left (job_or_idle jobs x) _ all) (jobs_or_idle_take xs n m (and_right (job_or_idle jobs x) _ all) (omega arith))

  -- a part of known entries, and a known one put among them
  pub jobs_or_idle_drop : (xs : List ℕ) (n : ℕ) → all_jobs_or_idle jobs xs ≡ true → all_jobs_or_idle jobs (drop n xs) ≡ true
  unfolding all_jobs_or_idle
  jobs_or_idle_drop xs zero all = all
  jobs_or_idle_drop [] (suc n) all = all
  jobs_or_idle_drop (x ∷ xs) (suc n) all = jobs_or_idle_drop xs n (and_right (job_or_idle jobs x) _ all)

  jobs_or_idle_front : (xs : List ℕ) (n : ℕ) → all_jobs_or_idle jobs xs ≡ true → all_jobs_or_idle jobs (take n xs) ≡ true
  unfolding all_jobs_or_idle
  jobs_or_idle_front xs zero all = refl
  jobs_or_idle_front [] (suc n) all = all
  jobs_or_idle_front (x ∷ xs) (suc n) all = and_true (and_left (job_or_idle jobs x) _ all) (jobs_or_idle_front xs n (and_right (job_or_idle jobs x) _ all))

  pub jobs_or_idle_between : (xs : List ℕ) (a b : ℕ) → all_jobs_or_idle jobs xs ≡ true → all_jobs_or_idle jobs (entries_between a b xs) ≡ true
  unfolding entries_between
  jobs_or_idle_between xs a b all = jobs_or_idle_front (drop a xs) (b - a) (jobs_or_idle_drop xs a all)

  pub jobs_or_idle_set : (xs : List ℕ) (t x : ℕ) → all_jobs_or_idle jobs xs ≡ true → job_or_idle jobs x ≡ true → all_jobs_or_idle jobs (set xs t x) ≡ true
  unfolding all_jobs_or_idle
  jobs_or_idle_set [] t x all is = all
  jobs_or_idle_set (y ∷ xs) zero x all is = and_true is (and_right (job_or_idle jobs y) _ all)
  jobs_or_idle_set (y ∷ xs) (suc t) x all is = and_true (and_left (job_or_idle jobs y) _ all) (jobs_or_idle_set xs t x (and_right (job_or_idle jobs y) _ all) is)

module _ (l : Lists) (c : ℕ) where
  pub ticks_append : (xs ys : List ℕ) → ticks l c (xs ++ ys) ≡ ticks l c xs + ticks l c ys
  unfolding ticks
  ticks_append [] ys = omega arith
  ticks_append (x ∷ xs) ys = omega (arith, ticks_append xs ys)

  pub ticks_none : ticks l c [] ≡ 0
  unfolding ticks
  ticks_none = refl

  pub ticks_one : (x : ℕ) → ticks l c (x ∷ []) ≡ cond (gives l c x) 1 0
  unfolding ticks
  ticks_one x = omega arith

  pub ticks_most : (xs : List ℕ) → ticks l c xs ≤ length xs
  unfolding ticks
  ticks_most [] = omega arith
  ticks_most (x ∷ xs) = omega (arith, ticks_most xs, at_most_one (gives l c x))

  -- one entry more
  pub ticks_more : (xs : List ℕ) (i : ℕ) → i < length xs → ticks l c (take (i + 1) xs) ≡ ticks l c (take i xs) + cond (gives l c (get_or xs i 0)) 1 0
  ticks_more xs i m =
      rw add-one
      (ap (ticks l c) (take-suc xs i 0 m) ∙ ticks_append (take i xs) (get_or xs i 0 ∷ []) ∙ ap (λ (n : ℕ). ticks l c (take i xs) + n) (ticks_one (get_or xs i 0)))

  -- those up to a, and then those up to b
  pub ticks_between : (xs : List ℕ) (a b : ℕ) → a ≤ b → ticks l c (take b xs) ≡ ticks l c (take a xs) + ticks l c (entries_between a b xs)
  unfolding entries_between
  ticks_between xs a b m =
      let e : b ≡ a + (b - a) = omega arith in
      ap (λ (n : ℕ). ticks l c (take n xs)) e ∙ ap (ticks l c) (take-add a (b - a) xs) ∙ ticks_append (take a xs) (take (b - a) (drop a xs))

  pub ticks_take_most : (xs : List ℕ) (n : ℕ) → ticks l c (take n xs) ≤ n
  ticks_take_most xs n = omega (arith, ticks_most (take n xs), length_take_most xs n)

  pub ticks_between_most : (xs : List ℕ) (a b : ℕ) → ticks l c (entries_between a b xs) ≤ b
  ticks_between_most xs a b = omega (arith, ticks_most (entries_between a b xs), length_between xs a b)

  -- one entry replaced: the old one is given to c no longer, the new one is
  pub ticks_set : (xs : List ℕ) (t x : ℕ) → t < length xs → ticks l c (set xs t x) + cond (gives l c (get_or xs t 0)) 1 0 ≡ ticks l c xs + cond (gives l c x) 1 0
  unfolding ticks
  ticks_set [] t x m = absurd (omega arith)
  ticks_set (y ∷ xs) zero x m = omega arith
  ticks_set (y ∷ xs) (suc t) x m = omega (arith, ticks_set xs t x (omega arith))

-- what is told of entries that are all jobs or idle
pub tally_some : (l : Lists) (c : ℕ) (entries : List ℕ) (n : ℕ) → tally l c entries ≡ Some n → n ≡ ticks l c entries
unfolding tally
tally_some l c entries n e = go (all_jobs_or_idle l.jobs entries) e
  where
    go : (b : Bool) → cond b (Some (ticks l c entries)) None ≡ Some n → n ≡ ticks l c entries
    go true e = cc
    go false e = apart (cc)

pub tally_all : (l : Lists) (c : ℕ) (entries : List ℕ) (n : ℕ) → tally l c entries ≡ Some n → all_jobs_or_idle l.jobs entries ≡ true
unfolding tally
tally_all l c entries n e = go (all_jobs_or_idle l.jobs entries) e
  where
    go : (b : Bool) → cond b (Some (ticks l c entries)) None ≡ Some n → b ≡ true
    go true e = refl
    go false e = apart (cc)

pub tally_none : (l : Lists) (c : ℕ) (entries : List ℕ) → tally l c entries ≡ None → all_jobs_or_idle l.jobs entries ≡ false
unfolding tally
tally_none l c entries e = go (all_jobs_or_idle l.jobs entries) e
  where
    go : (b : Bool) → cond b (Some (ticks l c entries)) None ≡ None → b ≡ false
    go true e = apart (cc)
    go false e = refl

-- a known entry is given to its own column alone
module _ (l : Lists) (entry : ℕ) (is : job_or_idle l.jobs entry ≡ true) where
  pub gives_own : gives l (column l entry) entry ≡ true
  unfolding gives
  gives_own = rw (is, eq-eqb (column l entry) (column l entry) refl)

  pub gives_other : (c : ℕ) → (column l entry ≡ c → ⊥) → gives l c entry ≡ false
  unfolding gives
  gives_other c other = rw (is, ne_eqb (column l entry) c other)

-- a known entry's column is one of the index
pub column_small : (l : Lists) → Checked l → (xs : List ℕ) (n t : ℕ) → all_jobs_or_idle l.jobs (take n xs) ≡ true → t < n → t < length xs → column l (get_or xs t 0) < 17
column_small l w xs n t all m b = omega (arith, w.few, w.within (get_or xs t 0) (jobs_or_idle_at l.jobs xs n t all m b))

-- the counts of a beginning of the schedule, by column
module _ (l : Lists) where
  pub counts_none : counts_of l [] ≡ replicate 17 0
  unfolding counts_of ticks list_from
  counts_none = refl

  pub length_counts : (xs : List ℕ) → length (counts_of l xs) ≡ 17
  unfolding counts_of
  length_counts xs = length_list_from 0 17 (λ c. ticks l c xs)

  pub counts_at : (xs : List ℕ) (c d : ℕ) → c < 17 → get_or (counts_of l xs) c d ≡ ticks l c xs
  unfolding counts_of
  counts_at xs c d m = get_or_list 17 (λ c. ticks l c xs) c d m

  pub counts_most : (xs : List ℕ) (c : ℕ) → c < 17 → get_or (counts_of l xs) c 0 ≤ length xs
  counts_most xs c m = omega (arith, counts_at xs c 0 m, ticks_most l c xs)

  -- one entry more
  pub counts_more : (xs : List ℕ) (i : ℕ) → i < length xs → job_or_idle l.jobs (get_or xs i 0) ≡ true → column l (get_or xs i 0) < 17
      → set (counts_of l (take i xs)) (column l (get_or xs i 0)) (get_or (counts_of l (take i xs)) (column l (get_or xs i 0)) 0 + 1) ≡ counts_of l (take (i + 1) xs)
  counts_more xs i m is small =
      ext_get_or 0 _ (counts_of l (take (i + 1) xs)) (length-set counts k _ ∙ length_counts (take i xs) ∙ sym (length_counts (take (i + 1) xs)))
      (λ c b. let few : c < 17 = omega (arith, length-set counts k (get_or counts k 0 + 1), length_counts (take i xs)) in go c few (ℕ_discrete c k))
    where
      counts : List ℕ
      counts = counts_of l (take i xs)

      k : ℕ
      k = column l (get_or xs i 0)

      go : (c : ℕ) → c < 17 → Dec (c ≡ k) → get_or (set counts k (get_or counts k 0 + 1)) c 0 ≡ get_or (counts_of l (take (i + 1) xs)) c 0
      go c few (yes e) =
          let own = gives_own l (get_or xs i 0) is in
          rw e
          (get_or-set_same counts k (get_or counts k 0 + 1) 0 (omega (arith, length_counts (take i xs)))
          ∙ ap (λ (n : ℕ). n + 1) (counts_at (take i xs) k 0 small)
          ∙ ap (λ (b : Bool). ticks l k (take i xs) + cond b 1 0) (sym own)
          ∙ sym (ticks_more l k xs i m)
          ∙ sym (counts_at (take (i + 1) xs) k 0 small))
      go c few (no e) =
          let other = gives_other l (get_or xs i 0) is c (λ q. e (sym q)) in
          get_or-set_other counts k c (get_or counts k 0 + 1) 0 e
          ∙ counts_at (take i xs) c 0 few
          ∙ sym (add-zero (ticks l c (take i xs)))
          ∙ ap (λ (b : Bool). ticks l c (take i xs) + cond b 1 0) (sym other)
          ∙ sym (ticks_more l c xs i m)
          ∙ sym (counts_at (take (i + 1) xs) c 0 few)
