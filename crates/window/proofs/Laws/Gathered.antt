-- Laws of the jobs that the code gathers: one more at a time, and that their misses tell what the windows come to.
use Prim.Native.Nat.{ℕ, suc, ◌+◌, ◌-◌, ◌<◌, ◌≤◌}
use mathlib.Core.Bool.{Bool, cond, false, true}
use mathlib.Core.List.{List, [], ◌++◌, ◌∷◌, append-nil, map, map-append}
use mathlib.Core.Logic.{inl, inr, ◌⊎◌}
use mathlib.Core.Path.{ap, refl, sym, ◌∙◌, ◌≡◌}
use mir.Val.{bool_byte}
use native.Mathlib.Omega.{arith}
use lib.Dec.{eqb, leb, ltb}
use lib.ListN.{get_or-append, get_or, get_or-replicate, length, length-append, length-replicate, length-set, replicate, set, take}
use lib.Seq.{get_or-append_seam, get_or-set_other, get_or-set_same, take_all, take-append-le, take-nil}
use borrow.Author.Tests.{le-leb, leb-true, lt-leb, lt-ltb, ltb-true}
use Rattle.bits.specs.Below.{least}
use Rattle.bits.proofs.Laws.Below.{last_or_below, least_same}
use Rattle.bits.proofs.Laws.Bools.{same_test}
use Rattle.std.specs.Prelude.{Result}
use Rattle.tables.specs.declared.answers.Refusal.{Refusal}
use Rattle.tables.specs.Tables.{task_of}
use Rattle.zsrm.specs.declared.answers.Verdict.{Verdict}
use Rattle.zsrm.specs.Verdict.{is_open, missed, verdict_is}
use Rattle.window.specs.declared.jobs.Gathered.{Gathered}
use Rattle.window.specs.declared.answers.Windows.TheVariants.{Fails, Passes}
use Rattle.window.specs.Code.{GatheredAs, Rising, RoomForJob, first_over, misses_between, windows_from, with_job}
use Rattle.window.specs.Windows.{fails, first_failing, how_many, jobs_below, windows_of, misses, opens, window, window_count}
use Rattle.window.proofs.Laws.Counts.{many_most, many_one_more, misses_rise, misses_window}
use Rattle.window.proofs.Laws.Jobs.{below_more}
use Rattle.window.proofs.Laws.Windows.{window_counted}

pub gathered_none : GatheredAs [] [] (record { count = 0; numbers = replicate 64 0; missed = replicate 65 0; opens = 0 })
unfolding misses opens how_many
gathered_none =
    record {
      few = omega arith;
      judged = refl;
      count = refl;
      numbered = length-replicate {A = ℕ} 64 0;
      numbers = λ i l. absurd (omega arith);
      counted = length-replicate {A = ℕ} 65 0;
      missed = λ i l. get_or-replicate 65 i 0 0 (omega arith) ∙ sym (ap misses (take-nil i));
      opens = refl;
    }

module _ (own : List ℕ) (vs : List (Result Verdict Refusal)) (x : Gathered) (w : GatheredAs own vs x) where
  pub gathered_room : length own < 64 → RoomForJob x
  unfolding misses opens
  gathered_room room =
      record {
        few = omega (arith, w.count);
        missed =
            let here = w.missed x.count (omega (arith, w.count)) in
            omega (arith, here, many_most missed (take x.count vs), ap (how_many missed) (take_all x.count vs (omega (arith, w.count, w.judged))), many_most missed vs, w.judged);
        opens = omega (arith, w.opens, many_most is_open vs, w.judged);
      }

  pub gathered_rising : Rising x
  gathered_rising =
      record {
        few = omega (arith, w.count, w.few);
        rises = λ i k l. omega (arith, w.missed i (omega (arith, w.count)), w.missed (i + k) (omega (arith, w.count)), misses_rise vs i (i + k) (omega arith));
      }

  -- one job more
  module _ (room : length own < 64) (j : ℕ) (v : Result Verdict Refusal) where
    ends : length (own ++ (j ∷ [])) ≡ length own + 1
    ends = length-append own (j ∷ [])

    more_number : (i : ℕ) → i < length (own ++ (j ∷ [])) → get_or (set x.numbers x.count j) i 0 ≡ get_or (own ++ (j ∷ [])) i 0
    more_number i l = go (last_or_below (length own) i (omega (arith, ends)))
      where
        go : (i ≡ length own) ⊎ (i < length own) → get_or (set x.numbers x.count j) i 0 ≡ get_or (own ++ (j ∷ [])) i 0
        go (inl e) =
            ap (λ (n : ℕ). get_or (set x.numbers x.count j) n 0) (e ∙ sym w.count)
            ∙ get_or-set_same x.numbers x.count j 0 (omega (arith, w.count, w.numbered))
            ∙ sym (ap (λ (n : ℕ). get_or (own ++ (j ∷ [])) n 0) e ∙ get_or-append_seam own j [] 0)
        go (inr m) = get_or-set_other x.numbers x.count i j 0 (λ e. omega (arith, w.count)) ∙ w.numbers i m ∙ sym (get_or-append own (j ∷ []) 0 i m)

    more_missed : (i : ℕ) → i ≤ length (own ++ (j ∷ []))
        → get_or (set x.missed (x.count + 1) (get_or x.missed x.count 0 + cond (verdict_is missed v) 1 0)) i 0 ≡ misses (take i (vs ++ (v ∷ [])))
    unfolding misses
    more_missed i l = go (last_or_below (suc (length own)) i (omega (arith, ends)))
      where
        sum : ℕ
        sum = get_or x.missed x.count 0 + cond (verdict_is missed v) 1 0

        go : (i ≡ suc (length own)) ⊎ (i < suc (length own)) → get_or (set x.missed (x.count + 1) sum) i 0 ≡ how_many missed (take i (vs ++ (v ∷ [])))
        go (inl e) =
            let here : i ≡ x.count + 1 = omega (arith, w.count) in
            ap (λ (n : ℕ). get_or (set x.missed (x.count + 1) sum) n 0) here
            ∙ get_or-set_same x.missed (x.count + 1) sum 0 (omega (arith, w.count, w.counted))
            ∙ ap (λ (n : ℕ). n + cond (verdict_is missed v) 1 0) (w.missed x.count (omega (arith, w.count)) ∙ ap (how_many missed) (take_all x.count vs (omega (arith, w.count, w.judged))))
            ∙ sym (many_one_more missed vs v)
            ∙ ap (how_many missed) (sym (take_all i (vs ++ (v ∷ [])) (omega (arith, length-append vs (v ∷ []), w.judged))))
        go (inr m) =
            get_or-set_other x.missed (x.count + 1) i sum 0 (λ e. omega (arith, w.count))
            ∙ w.missed i (omega arith)
            ∙ ap (how_many missed) (sym (take-append-le i vs (v ∷ []) (omega (arith, w.judged))))

    pub gathered_more : GatheredAs (own ++ (j ∷ [])) (vs ++ (v ∷ [])) (with_job x j v)
    unfolding with_job opens
    gathered_more =
        record {
          few = omega (arith, ends);
          judged = omega (arith, ends, length-append vs (v ∷ []), w.judged);
          count = omega (arith, ends, w.count);
          numbered = length-set x.numbers x.count j ∙ w.numbered;
          numbers = more_number;
          counted = length-set x.missed (x.count + 1) _ ∙ w.counted;
          missed = more_missed;
          opens = ap (λ (n : ℕ). n + cond (verdict_is is_open v) 1 0) w.opens ∙ sym (many_one_more is_open vs v);
        }

-- a test as a number
pub one_of : (b : Bool) {n : ℕ} → n ≡ bool_byte b → n ≡ cond b 1 0
one_of true e = e
one_of false e = e

-- a loop's next turn
module _ (jobs : List ℕ) (task : ℕ) (verdict : ℕ → Result Verdict Refusal) (j : ℕ) (x : Gathered)
    (w : GatheredAs (jobs_below jobs task j) (map verdict (jobs_below jobs task j)) x) (room : length (jobs_below jobs task j) < 64) where
  pub gathered_next : (y : Gathered) → y ≡ cond (eqb (task_of jobs j) task) (with_job x j (verdict j)) x
      → GatheredAs (jobs_below jobs task (j + 1)) (map verdict (jobs_below jobs task (j + 1))) y
  gathered_next y e =
      rw (below_more jobs task j, e, map-append verdict (jobs_below jobs task j) (cond (eqb (task_of jobs j) task) (j ∷ []) [])) (go (eqb (task_of jobs j) task))
    where
      own : List ℕ
      own = jobs_below jobs task j

      go : (b : Bool) → GatheredAs (own ++ cond b (j ∷ []) []) (map verdict own ++ map verdict (cond b (j ∷ []) [])) (cond b (with_job x j (verdict j)) x)
      go true = gathered_more own (map verdict own) x w room j (verdict j)
      go false = rw (append-nil own, append-nil (map verdict own)) w

-- what the code makes of the first window that it finds
module _ (x : Gathered) (m k : ℕ) where
  pub over_fails : (i c : ℕ) → i ≡ first_over x m k → c ≡ misses_between x k i → i + k ≤ x.count → Fails (get_or x.numbers i 0) c x.opens ≡ windows_from x m k
  unfolding windows_from
  over_fails i c e q l = rw (← e, le-leb (i + k) x.count l, q)

  pub over_passes : (i : ℕ) → i ≡ first_over x m k → x.count < i + k → Passes x.opens ≡ windows_from x m k
  unfolding windows_from
  over_passes i e l = rw (← e, lt-leb (i + k) x.count l)

-- what the windows come to
module _ (own : List ℕ) (vs : List (Result Verdict Refusal)) (x : Gathered) (w : GatheredAs own vs x) (m k : ℕ) (least_size : 0 < k) where
  pub between : (i : ℕ) → i + k ≤ length vs → misses_between x k i ≡ misses (window vs k i)
  unfolding misses_between
  between i l =
      omega (arith, w.missed i (omega (arith, w.judged)), w.missed (i + k) (omega (arith, w.judged)), misses_window vs k i)

  windows : suc x.count - k ≡ window_count vs k
  unfolding window_count
  windows = ap (λ (n : ℕ). suc n - k) (w.count ∙ sym w.judged)

  first : first_over x m k ≡ first_failing vs m k
  unfolding first_over first_failing fails
  first =
      ap (λ (n : ℕ). least n (λ i. ltb m (misses_between x k i)) n) windows
      ∙ least_same (λ i. ltb m (misses_between x k i)) (fails vs m k) (window_count vs k) (window_count vs k) (λ i l. ap (ltb m) (between i ((window_counted vs k i).0 l)))

  pub gathered_windows : windows_from x m k ≡ windows_of own vs m k
  unfolding windows_from windows_of
  gathered_windows =
      rw (
        first,
        same_test (leb (i + k) x.count) (ltb i (window_count vs k))
            (λ h. lt-ltb i (window_count vs k) ((window_counted vs k i).1 (omega (arith, leb-true (i + k) x.count h, w.count, w.judged))))
            (λ h. le-leb (i + k) x.count (omega (arith, (window_counted vs k i).0 (ltb-true i (window_count vs k) h), w.count, w.judged))),
      )
      (go (ltb i (window_count vs k)) refl)
    where
      i : ℕ
      i = first_failing vs m k

      go : (b : Bool) → ltb i (window_count vs k) ≡ b
          → cond b (Fails (get_or x.numbers i 0) (misses_between x k i) x.opens) (Passes x.opens) ≡ cond b (Fails (get_or own i 0) (misses (window vs k i)) (opens vs)) (Passes (opens vs))
      go true e =
          let there = (window_counted vs k i).0 (ltb-true i (window_count vs k) e) in
          let number = w.numbers i (omega (arith, w.judged)) in
          let count = between i there in
          let open' = w.opens in
          cc
      go false e = ap Passes w.opens
