-- What a sheet says of the text that it was read from: its lists stand at the front of their rooms, and nothing is cut off.
use Prim.Native.Nat.{◌*◌, ◌/◌, ◌<◌, ℕ, ◌≤◌}
use mathlib.Core.Bool.{Bool, ◌&&◌, cond, false, true}
use mathlib.Core.List.{List}
use mathlib.Core.Path.{refl, subst, ◌≡◌}
use native.Mathlib.Omega.{arith}
use lib.Dec.{eqb, leb}
use lib.ListN.{get_or, length, take}
use lib.Seq.{length-sets, sets}
use borrow.Author.Tests.{eqb-true}
use Rattle.std.specs.Prelude.{Option, Some, None}
use Rattle.bits.proofs.Laws.Bools.{apart}
use Rattle.text.specs.Decimal.{Number, Malformed, Value}
use Rattle.sheet.specs.declared.input.Head.{Head}
use Rattle.sheet.specs.declared.input.Sheet.{Sheet}
use Rattle.sheet.specs.Grammar.{Numbers, Parsed, bad, field_at, first_line, got, is_mode, malformed, mode_of_letter, fields_from, parsed, parsed_of, with_head, with_number, with_numbers}
use Rattle.sheet.specs.Code.{as_sheet, no_jobs, no_tasks, sheet_of}
use Rattle.text.proofs.Laws.Put.{front}
use Rattle.sheet.proofs.Laws.Numbers.{field_ends, got_ends, got_length}
use Rattle.sheet.proofs.Laws.Sheets.{counts_few, room_jobs, room_tasks}

-- whole lines: seven numbers for each of at most 16 tasks, three for each of at most 64 jobs. The longest text has 20 bytes in its first
-- line, and 6 for each number behind that.
pub record WholeLines (s table list : List ℕ) : Type 0 where
  pub tasks : length table / 7 * 7 ≡ length table
  pub jobs : length list / 3 * 3 ≡ length list
  pub few_tasks : length table ≤ 112
  pub few_jobs : length list ≤ 192
  pub short : length s ≤ 1844

abbrev Sized : List ℕ → Parsed → Type 0
Sized s (parsed mode horizon table list) = WholeLines s table list
Sized s malformed = Unit {0}

abbrev Fits : Option Head → Type 0
Fits (Some head) = (head.tasks ≤ 16) × (head.jobs ≤ 64) × (head.next ≤ 20)
Fits None = Unit {0}

fits_number : (x : Number) (rest : ℕ → ℕ → Option Head) → ((v k : ℕ) → x ≡ Value v k → Fits (rest v k)) → Fits (with_number x rest)
fits_number (Value v k) rest h = h v k refl
fits_number Malformed rest h = tt

fits_cond : (b : Bool) (x : Option Head) → (b ≡ true → Fits x) → Fits (cond b x None)
fits_cond true x h = h refl
fits_cond false x h = tt

first_fits : (s : List ℕ) → Fits (first_line s)
unfolding first_line
first_fits s =
    fits_cond (is_mode (get_or s 0 256) && eqb (get_or s 1 256) 32) _
    (λ _. fits_number (field_at s 2 32) _
    (λ h a p. fits_number (field_at s a 32) _
    (λ t b q. fits_number (field_at s b 10) _
    (λ j e r. fits_cond (leb t 16 && leb j 64) _
    (λ c.
    let few = counts_few t j c in
    (few.0, few.1, omega (arith, field_ends s 2 32 h a p, field_ends s a 32 t b q, field_ends s b 10 j e r)))))))

module _ (s : List ℕ) where
  sized_head : (x : Option Head) (rest : ℕ → ℕ → ℕ → ℕ → ℕ → Parsed) → Fits x → ((letter h t j a : ℕ) → (t ≤ 16) × (j ≤ 64) × (a ≤ 20) → Sized s (rest letter h t j a)) → Sized s (with_head x rest)
  sized_head (Some head) rest fits go = go head.letter head.horizon head.tasks head.jobs head.next fits
  sized_head None rest fits go = tt

  sized_numbers : (x : Numbers) (rest : List ℕ → ℕ → Parsed) → ((vs : List ℕ) (k : ℕ) → x ≡ got vs k → Sized s (rest vs k)) → Sized s (with_numbers x rest)
  sized_numbers (got vs k) rest go = go vs k refl
  sized_numbers bad rest go = tt

  sized_cond : (b : Bool) (x : Parsed) → (b ≡ true → Sized s x) → Sized s (cond b x malformed)
  sized_cond true x h = h refl
  sized_cond false x h = tt

  sized : Sized s (parsed_of s)
  unfolding parsed_of
  sized =
      sized_head (first_line s) _ (first_fits s)
      (λ letter h t j a fits. sized_numbers (fields_from s 7 0 (t * 7) a) _
      (λ ts b p. sized_numbers (fields_from s 3 0 (j * 3) b) _
      (λ js e q. sized_cond (eqb e (length s)) (parsed (mode_of_letter letter) h ts js)
      (λ c.
      let few-t = fits.0 in
      let few-j = fits.1 in
      let x = got_length s 7 0 (t * 7) a ts b p in
      let y = got_length s 3 0 (j * 3) b js e q in
      record {
        tasks = omega arith;
        jobs = omega arith;
        few_tasks = omega arith;
        few_jobs = omega arith;
        short = omega (arith, fits.2, eqb-true e (length s) c, got_ends s 7 0 (t * 7) a ts b p, got_ends s 3 0 (j * 3) b js e q);
      }))))

-- a sheet that is formed, and what it says
pub record WellFormed (s : List ℕ) (sheet : Sheet) : Type 0 where
  pub says : parsed_of s ≡ parsed sheet.mode sheet.horizon (take (sheet.tasks * 7) sheet.table) (take (sheet.jobs * 3) sheet.list)
  pub few_tasks : sheet.tasks * 7 ≤ 112
  pub few_jobs : sheet.jobs * 3 ≤ 192
  pub tasks_fit : sheet.tasks * 7 ≤ length sheet.table
  pub jobs_fit : sheet.jobs * 3 ≤ length sheet.list

-- a sheet is what it is told to be
some_same : {a b : Sheet} → Some a ≡ Some b → a ≡ b
some_same e = cc

told_by : (s : List ℕ) (p : Parsed) {sheet : Sheet} → parsed_of s ≡ p → Sized s p → as_sheet p ≡ Some sheet → WellFormed s sheet
told_by s (parsed mode horizon table list) e w f =
    let t : take (length table / 7 * 7) (sets no_tasks 0 table) ≡ table = front no_tasks table _ w.tasks (omega (arith, room_tasks {l = no_tasks} refl, w.few_tasks)) in
    let j : take (length list / 3 * 3) (sets no_jobs 0 list) ≡ list = front no_jobs list _ w.jobs (omega (arith, room_jobs {l = no_jobs} refl, w.few_jobs)) in
    subst (WellFormed s) (some_same f)
    (record {
      says = rw (t, j) e;
      few_tasks = omega (arith, w.tasks, w.few_tasks);
      few_jobs = omega (arith, w.jobs, w.few_jobs);
      tasks_fit = omega (arith, w.tasks, w.few_tasks, room_tasks {l = no_tasks} refl, length-sets no_tasks 0 table);
      jobs_fit = omega (arith, w.jobs, w.few_jobs, room_jobs {l = no_jobs} refl, length-sets no_jobs 0 list);
    })
told_by s malformed e w f = apart (cc)

unformed_by : (p : Parsed) → as_sheet p ≡ None → p ≡ malformed
unformed_by (parsed mode horizon table list) f = apart (cc)
unformed_by malformed f = refl

module _ (s : List ℕ) where
  pub well_formed : {sheet : Sheet} → sheet_of s ≡ Some sheet → WellFormed s sheet
  unfolding sheet_of
  well_formed f = told_by s (parsed_of s) refl (sized s) f

  pub unformed : sheet_of s ≡ None → parsed_of s ≡ malformed
  unfolding sheet_of
  unformed f = unformed_by (parsed_of s) f

-- a text of more than 1,844 bytes is malformed
long_by : (s : List ℕ) (p : Parsed) → Sized s p → 1844 < length s → p ≡ malformed
long_by s (parsed mode horizon table list) w h = absurd (omega (arith, w.short))
long_by s malformed w h = refl

pub long : (s : List ℕ) → 1844 < length s → parsed_of s ≡ malformed
long s h = long_by s (parsed_of s) (sized s) h
