-- The first line and the whole text, by cases, as the code goes.
use Prim.Native.Nat.{ℕ, ◌*◌, ◌/◌, ◌≤◌}
use mathlib.Core.Path.{◌≡◌, ap}
use mathlib.Core.List.{List}
use mathlib.Core.Bool.{Bool, true, false, ◌&&◌}
use native.Mathlib.Omega.{arith}
use lib.ListN.{length, get_or}
use lib.Seq.{sets}
use lib.Dec.{leb, eqb}
use borrow.Author.Tests.{eq-eqb, ne_eqb, leb-true}
use Rattle.std.specs.Prelude.{Some, None}
use Rattle.bits.proofs.Laws.Bools.{and_left, and_right}
use Rattle.text.specs.Decimal.{Value, Malformed}
use Rattle.zsrm.specs.declared.mode.Mode.{Mode}
use Rattle.sheet.specs.Grammar.{is_mode, mode_of_letter, field_at, heading, first_line, got, bad, fields_from, parsed, malformed, parsed_of}
use Rattle.sheet.specs.Code.{no_jobs, no_tasks, sheet_of}
use Rattle.sheet.proofs.Laws.Numbers.{got_length}

pub room_tasks : {l : List ℕ} → l ≡ no_tasks → length l ≡ 112
unfolding no_tasks
room_tasks e = ap length e

pub room_jobs : {l : List ℕ} → l ≡ no_jobs → length l ≡ 192
unfolding no_jobs
room_jobs e = ap length e

-- the first line's test as the code makes it
pub head_test : (s : List ℕ) {letter space : ℕ} {mode v : Bool} → letter ≡ get_or s 0 256 → mode ≡ is_mode letter → space ≡ get_or s 1 256
    → (mode && eqb space 32) ≡ v
    → (is_mode (get_or s 0 256) && eqb (get_or s 1 256) 32) ≡ v
head_test s p q r e = rw (← p, ← r, ← q) e

pub counts_few : (t j : ℕ) → (leb t 16 && leb j 64) ≡ true → (t ≤ 16) × (j ≤ 64)
counts_few t j e = (leb-true _ _ (and_left (leb t 16) (leb j 64) e), leb-true _ _ (and_right (leb t 16) (leb j 64) e))

module _ (s : List ℕ) where
  pub head_no_mode : (is_mode (get_or s 0 256) && eqb (get_or s 1 256) 32) ≡ false → first_line s ≡ None
  unfolding first_line
  head_no_mode a = rw a

  module _ (a : (is_mode (get_or s 0 256) && eqb (get_or s 1 256) 32) ≡ true) where
    pub head_no_horizon : field_at s 2 32 ≡ Malformed → first_line s ≡ None
    unfolding first_line
    head_no_horizon c = rw (a, c)

    module _ {h k : ℕ} (c : field_at s 2 32 ≡ Value h k) where
      pub head_no_tasks : field_at s k 32 ≡ Malformed → first_line s ≡ None
      unfolding first_line
      head_no_tasks d = rw (a, c, d)

      module _ {t m : ℕ} (d : field_at s k 32 ≡ Value t m) where
        pub head_no_jobs : field_at s m 10 ≡ Malformed → first_line s ≡ None
        unfolding first_line
        head_no_jobs f = rw (a, c, d, f)

        module _ {j e : ℕ} (f : field_at s m 10 ≡ Value j e) where
          pub head_too_many : (leb t 16 && leb j 64) ≡ false → first_line s ≡ None
          unfolding first_line
          head_too_many g = rw (a, c, d, f, g)

          pub head_all : (leb t 16 && leb j 64) ≡ true → {letter : ℕ} → letter ≡ get_or s 0 256 → heading letter h t j e ≡ first_line s
          unfolding first_line
          head_all g p = rw (a, c, d, f, g, p)

module _ (s : List ℕ) where
  sheet_bad : parsed_of s ≡ malformed → None ≡ sheet_of s
  unfolding sheet_of
  sheet_bad e = rw e

  pub sheet_no_head : first_line s ≡ None → None ≡ sheet_of s
  unfolding parsed_of
  sheet_no_head p = sheet_bad (rw p)

  module _ {letter h t j a : ℕ} (p : first_line s ≡ heading letter h t j a) where
    pub sheet_no_tasks : fields_from s 7 0 (t * 7) a ≡ bad → None ≡ sheet_of s
    unfolding parsed_of
    sheet_no_tasks q = sheet_bad (rw (p, q))

    module _ {ts : List ℕ} {b : ℕ} (q : fields_from s 7 0 (t * 7) a ≡ got ts b) where
      pub sheet_no_jobs : fields_from s 3 0 (j * 3) b ≡ bad → None ≡ sheet_of s
      unfolding parsed_of
      sheet_no_jobs r = sheet_bad (rw (p, q, r))

      module _ {js : List ℕ} {e : ℕ} (r : fields_from s 3 0 (j * 3) b ≡ got js e) where
        pub sheet_more : (e ≡ length s → ⊥) → None ≡ sheet_of s
        unfolding parsed_of
        sheet_more z = sheet_bad (rw (p, q, r, ne_eqb _ _ z))

        sheet_parsed : e ≡ length s → parsed_of s ≡ parsed (mode_of_letter letter) h ts js
        unfolding parsed_of
        sheet_parsed z = rw (p, q, r, eq-eqb _ _ z)

        pub sheet_all : e ≡ length s → {m : Mode} {u v : List ℕ} → m ≡ mode_of_letter letter → u ≡ sets no_tasks 0 ts → v ≡ sets no_jobs 0 js
            → Some (record { mode = m; horizon = h; tasks = t; jobs = j; table = u; list = v }) ≡ sheet_of s
        unfolding sheet_of
        sheet_all z {m} {u} {v} x y w =
            let lt : length ts / 7 ≡ t = omega (arith, got_length s 7 0 (t * 7) a ts b q) in
            let lj : length js / 3 ≡ j = omega (arith, got_length s 3 0 (j * 3) b js e r) in
            rw (sheet_parsed z, lt, lj, x, y, w)
