-- Laws of what the windows come to: when all pass, and which is the first that fails.
use Prim.Native.Nat.{ℕ, ◌+◌, ◌-◌, ◌<◌, ◌≤◌}
use mathlib.Core.Bool.{Bool, cond, false, true}
use mathlib.Core.List.{List}
use mathlib.Core.Logic.{◌↔◌}
use mathlib.Core.Path.{ap, refl, sym, ◌∙◌, ◌≡◌}
use native.Mathlib.Omega.{arith}
use lib.Dec.{ltb}
use lib.ListN.{get_or, length}
use borrow.Author.Tests.{le-ltb, lt-ltb, ltb-false, ltb-true}
use Rattle.bits.proofs.Laws.Below.{least_found, least_none, none_passes, some_true}
use Rattle.bits.proofs.Readings.{least_reads}
use Rattle.std.specs.Prelude.{Result}
use Rattle.tables.specs.declared.answers.Refusal.{Refusal}
use Rattle.zsrm.specs.declared.answers.Verdict.{Verdict}
use Rattle.window.specs.declared.answers.Windows.{Windows}
use Rattle.window.specs.declared.answers.Windows.TheVariants.{Fails, Passes}
use Rattle.window.specs.Windows.{fails, first_failing, windows_of, misses, opens, window, window_count}
use Rattle.window.proofs.Laws.Counts.{window_within}
use Rattle.bits.proofs.Laws.Bools as bools
use Rattle.bits.proofs.Laws.Bools.{apart}

-- every K consecutive of the verdicts contain at most m misses
abbrev pub Holds : List (Result Verdict Refusal) → ℕ → ℕ → Type 0
Holds vs m k = (i : ℕ) → i + k ≤ length vs → misses (window vs k i) ≤ m

-- window i is the first that fails: it lies within the verdicts and contains more than m misses, and no earlier window does
pub record FirstOver (vs : List (Result Verdict Refusal)) (m k i : ℕ) : Type 0 where
  pub there : i + k ≤ length vs
  pub over : m < misses (window vs k i)
  pub earlier : (e : ℕ) → e < i → misses (window vs k e) ≤ m

-- a smaller K does not turn a pass into a failure, where there are at least the larger K verdicts: each smaller window lies within a larger
-- one, the last at the latest
pub holds_shorter : (vs : List (Result Verdict Refusal)) (m k n : ℕ) → n ≤ k → k ≤ length vs → Holds vs m k → Holds vs m n
holds_shorter vs m k n l enough h i b = go (ltb (length vs) (i + k)) refl
  where
    go : (late : Bool) → ltb (length vs) (i + k) ≡ late → misses (window vs n i) ≤ m
    go false e = omega (arith, h i (ltb-false (length vs) (i + k) e), window_within vs n i k i (omega arith) (omega arith))
    go true e =
        let last = length vs - k in
        let past = ltb-true (length vs) (i + k) e in
        omega (arith, h last (omega arith), window_within vs n i k last (omega arith) (omega arith))

-- the windows are those that begin with k verdicts left
pub window_counted : (vs : List (Result Verdict Refusal)) (k i : ℕ) → i < window_count vs k ↔ i + k ≤ length vs
unfolding window_count
window_counted vs k i = (λ l. omega arith, λ l. omega arith)

module _ (vs : List (Result Verdict Refusal)) (m k : ℕ) where
  pub over_exactly : (i : ℕ) → fails vs m k i ≡ true ↔ m < misses (window vs k i)
  unfolding fails
  over_exactly i = (ltb-true m (misses (window vs k i)), lt-ltb m (misses (window vs k i)))

  within_reads : (i : ℕ) → fails vs m k i ≡ false ↔ misses (window vs k i) ≤ m
  unfolding fails
  within_reads i = (ltb-false m (misses (window vs k i)), le-ltb m (misses (window vs k i)))

  none_fails : window_count vs k ≤ first_failing vs m k → Holds vs m k
  unfolding first_failing
  none_fails l i b =
      (within_reads i).0
      (bools.never_true (fails vs m k i)
      (λ p. omega (arith, (least_found (fails vs m k) (window_count vs k) (window_count vs k) (some_true (fails vs m k) (window_count vs k) i ((window_counted vs k i).1 b) p)).0)))

  pub first_none : Holds vs m k → first_failing vs m k ≡ window_count vs k
  unfolding first_failing
  first_none h =
      least_none (fails vs m k) (window_count vs k) (window_count vs k) (none_passes (fails vs m k) (window_count vs k) (λ i l. (within_reads i).1 (h i ((window_counted vs k i).0 l))))

  first_over_law : first_failing vs m k < window_count vs k → FirstOver vs m k (first_failing vs m k)
  unfolding first_failing
  first_over_law l =
      let w = (least_reads (fails vs m k) (window_count vs k) (window_count vs k) (first_failing vs m k) l (omega arith)).0 refl in
      record {
        there = (window_counted vs k (first_failing vs m k)).0 l;
        over = (over_exactly (first_failing vs m k)).0 w.0;
        earlier = λ e b. (within_reads e).0 (w.1 e b);
      }

  pub first_is : (i : ℕ) → FirstOver vs m k i → first_failing vs m k ≡ i
  unfolding first_failing
  first_is i w =
      (least_reads (fails vs m k) (window_count vs k) (window_count vs k) i ((window_counted vs k i).1 w.there) (omega arith)).1
      ((over_exactly i).1 w.over, λ e b. (within_reads e).1 (w.earlier e b))

module _ (own : List ℕ) (vs : List (Result Verdict Refusal)) (m k : ℕ) where
  -- what a failing window is told as
  abbrev pub fails_at : ℕ → Windows
  fails_at i = Fails (get_or own i 0) (misses (window vs k i)) (opens vs)

  pub windows_pass : Holds vs m k → windows_of own vs m k ≡ Passes (opens vs)
  unfolding windows_of
  windows_pass h = rw (le-ltb (first_failing vs m k) (window_count vs k) (omega (arith, first_none vs m k h)))

  pub windows_fail : (i : ℕ) → FirstOver vs m k i → windows_of own vs m k ≡ fails_at i
  unfolding windows_of
  windows_fail i w =
      rw (lt-ltb (first_failing vs m k) (window_count vs k) (omega (arith, first_is vs m k i w, (window_counted vs k i).1 w.there))) (ap fails_at (first_is vs m k i w))

  -- one or the other
  pub data WindowCases : Windows → Type 0 where
    each_passes : Holds vs m k → WindowCases (Passes (opens vs))
    one_fails_law : (i : ℕ) → FirstOver vs m k i → WindowCases (fails_at i)

  pub window_cases : WindowCases (windows_of own vs m k)
  unfolding windows_of
  window_cases = go (ltb (first_failing vs m k) (window_count vs k)) refl
    where
      go : (b : Bool) → ltb (first_failing vs m k) (window_count vs k) ≡ b → WindowCases (cond b (fails_at (first_failing vs m k)) (Passes (opens vs)))
      go true e = one_fails_law (first_failing vs m k) (first_over_law vs m k (ltb-true (first_failing vs m k) (window_count vs k) e))
      go false e = each_passes (none_fails vs m k (ltb-false (first_failing vs m k) (window_count vs k) e))

  pub passes_reads : (n : ℕ) → windows_of own vs m k ≡ Passes n ↔ Holds vs m k × (n ≡ opens vs)
  passes_reads n = (λ e. go (windows_of own vs m k) window_cases e, λ w. windows_pass w.0 ∙ ap Passes (sym w.1))
    where
      go : (x : Windows) → WindowCases x → x ≡ Passes n → Holds vs m k × (n ≡ opens vs)
      go _ (each_passes h) e = (h, cc)
      go _ (one_fails_law i w) e = apart (cc)

  pub fails_reads : (j c n : ℕ) → windows_of own vs m k ≡ Fails j c n
      ↔ ((i : ℕ) × FirstOver vs m k i × (j ≡ get_or own i 0) × (c ≡ misses (window vs k i)) × (n ≡ opens vs))
  fails_reads j c n = (λ e. go (windows_of own vs m k) window_cases e, λ w. windows_fail w.0 w.1 ∙ cc (w.2, w.3, w.4))
    where
      go : (x : Windows) → WindowCases x → x ≡ Fails j c n → (i : ℕ) × FirstOver vs m k i × (j ≡ get_or own i 0) × (c ≡ misses (window vs k i)) × (n ≡ opens vs)
      go _ (each_passes h) e = apart (cc)
      go _ (one_fails_law i w) e = (i, w, cc, cc, cc)
