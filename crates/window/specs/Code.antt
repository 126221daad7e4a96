-- How the code computes the answer. No contract that callers see cites it.
use Rattle.std.specs.Prelude.{ℕ, suc, ◌+◌, ◌-◌, ◌<◌, ◌≤◌, cond, List, Option, Some, None, ◌≡◌, leb, ltb, get_or, length, set, take, Result}
use Rattle.bits.specs.Below.{least}
use Rattle.tables.specs.declared.answers.Refusal.{Refusal}
use Rattle.zsrm.specs.declared.answers.Verdict.{Verdict}
use Rattle.zsrm.specs.Verdict.{is_open, missed, verdict_is}
use Rattle.window.specs.declared.jobs.Gathered.{Gathered}
use Rattle.window.specs.declared.answers.Windows.{Windows}
use Rattle.window.specs.declared.answers.Windows.TheVariants.{Fails, Passes}
use Rattle.window.specs.Windows.{misses, opens}

-- the jobs own, whose verdicts are vs, are gathered
pub record GatheredAs (own : List ℕ) (vs : List (Result Verdict Refusal)) (x : Gathered) : Type 0 where
  pub few : length own ≤ 64
  pub judged : length vs ≡ length own
  pub count : x.count ≡ length own
  pub numbered : length x.numbers ≡ 64
  pub numbers : (i : ℕ) → i < length own → get_or x.numbers i 0 ≡ get_or own i 0
  pub counted : length x.missed ≡ 65
  pub missed : (i : ℕ) → i ≤ length own → get_or x.missed i 0 ≡ misses (take i vs)
  pub opens : x.opens ≡ opens vs

-- there is room for one job more, and no sum wraps
pub record RoomForJob (x : Gathered) : Type 0 where
  pub few : x.count < 64
  pub missed : get_or x.missed x.count 0 ≤ 64
  pub opens : x.opens ≤ 64

-- one job more
unfoldable pub with_job : Gathered → ℕ → Result Verdict Refusal → Gathered
with_job x j v =
    record {
      count = x.count + 1;
      numbers = set x.numbers x.count j;
      missed = set x.missed (x.count + 1) (get_or x.missed x.count 0 + cond (verdict_is missed v) 1 0);
      opens = x.opens + cond (verdict_is is_open v) 1 0;
    }

-- the misses never fall
pub record Rising (x : Gathered) : Type 0 where
  pub few : x.count ≤ 64
  pub rises : (i k : ℕ) → i + k ≤ x.count → get_or x.missed i 0 ≤ get_or x.missed (i + k) 0

-- a window's misses, the windows, and what they come to
unfoldable pub misses_between : Gathered → ℕ → ℕ → ℕ
misses_between x k i = get_or x.missed (i + k) 0 - get_or x.missed i 0

unfoldable pub first_over : Gathered → ℕ → ℕ → ℕ
first_over x m k = least (suc x.count - k) (λ i. ltb m (misses_between x k i)) (suc x.count - k)

-- the first window with more than m misses, if there is one
abbrev pub FirstOver : Gathered → ℕ → ℕ → Option ℕ → Type 0
FirstOver x m k (Some i) = (i ≡ first_over x m k) × (i + k ≤ x.count)
FirstOver x m k None = x.count < first_over x m k + k

unfoldable pub windows_from : Gathered → ℕ → ℕ → Windows
windows_from x m k =
    cond (leb (first_over x m k + k) x.count) (Fails (get_or x.numbers (first_over x m k) 0) (misses_between x k (first_over x m k)) x.opens) (Passes x.opens)
