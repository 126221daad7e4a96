-- Laws of one replaced entry: whether some row's number strays, as a loop looks for it, and the rows past the tick changed one by one.
use Prim.Native.Nat.{ℕ, ◌+◌, ◌-◌, ◌*◌, ◌<◌, ◌≤◌}
use mathlib.Core.Bool.{Bool, cond, false, not, true, ◌&&◌}
use mathlib.Core.List.{List}
use mathlib.Core.Logic.{inl, inr, ◌⊎◌}
use mathlib.Core.Path.{ap, refl, subst, sym, ◌∙◌, ◌≡◌}
use native.Mathlib.Decide.{ℕ_discrete}
use native.Mathlib.Omega.{arith}
use lib.Dec.{eqb, ltb}
use lib.ListN.{get_or, length, length-set, set}
use lib.Seq.{get_or-set_other, get_or-set_same}
use borrow.Author.Tests.{eq-eqb, le-ltb, lt-ltb, ltb-false, ltb-true, ne_eqb}
use Rattle.bits.specs.Below.{some}
use Rattle.bits.proofs.Laws.Below.{none_passes, scan_on, some_false, some_true}
use Rattle.bits.proofs.Laws.Bools.{and_false, and_false_right, and_true, by_cond, either, failed, same_test}
use Rattle.tables.specs.Tables.{task_count}
use Rattle.index.specs.Answers.{moved}
use Rattle.index.specs.Code.{Sized}
use Rattle.index.specs.Refusals.{leaves, strays}
use Rattle.index.specs.Rows.{index_number, row_count, row_by_row, row_width}
use Rattle.index.proofs.Laws.Rows.{place_apart, place_within, row_by_row_is}

-- what a number that does not leave is
pub record Stays (horizon loses gains : ℕ) : Type 0 where
  pub some_left : 1 ≤ loses
  pub loses_most : loses ≤ horizon + 1
  pub gains_most : gains + 1 ≤ horizon

pub stays_within : (horizon loses gains : ℕ) → leaves horizon loses gains ≡ false → Stays horizon loses gains
unfolding leaves
stays_within horizon loses gains e =
    record {
      some_left = ltb-false loses 1 (search failed);
      loses_most = ltb-false (horizon + 1) loses (search failed);
      gains_most = ltb-false horizon (gains + 1) (search failed);
    }

pub leaves_not : (horizon loses gains : ℕ) → Stays horizon loses gains → leaves horizon loses gains ≡ false
unfolding leaves
leaves_not horizon loses gains w =
    rw (le-ltb loses 1 w.some_left, le-ltb (horizon + 1) loses w.loses_most, le-ltb horizon (gains + 1) w.gains_most)

module _ (tasks : List ℕ) (horizon : ℕ) (index : List ℕ) (tick old new : ℕ) where
  -- the numbers of row r leave
  abbrev pub out : ℕ → Bool
  out r = leaves horizon (index_number tasks index r old) (index_number tasks index r new)

  -- row r is past the tick, and they do
  abbrev pub stray : ℕ → Bool
  stray r = ltb tick (r * 64) && out r

  pub strays_same : old ≡ new → strays tasks horizon index tick old new ≡ false
  unfolding strays
  strays_same e = rw (eq-eqb old new e)

  -- no row at or before the tick
  pub strays_none : (first : ℕ) → first * 64 ≤ tick + 64 → some first stray ≡ false
  strays_none first m = none_passes stray first (λ r l. ap (λ (b : Bool). b && out r) (le-ltb tick (r * 64) (omega arith)))

  pub strays_more : (r : ℕ) → some r stray ≡ false → out r ≡ false → some (r + 1) stray ≡ false
  strays_more r none fine = scan_on stray r (stray r) none refl (and_false_right (ltb tick (r * 64)) fine)

  pub strays_end : (r : ℕ) → row_count horizon ≤ r → some r stray ≡ false → strays tasks horizon index tick old new ≡ false
  unfolding strays
  strays_end r all none =
      and_false_right (not (eqb old new)) (none_passes stray (row_count horizon) (λ k l. some_false stray r k (omega arith) none))

  module _ (other : old ≡ new → ⊥) (r : ℕ) (there : r < row_count horizon) (past : tick < r * 64) where
    pub strays_found : out r ≡ true → strays tasks horizon index tick old new ≡ true
    unfolding strays
    strays_found e = and_true (ap not (ne_eqb old new other)) (some_true stray (row_count horizon) r there (and_true (lt-ltb tick (r * 64) past) e))

    pub strays_fine : strays tasks horizon index tick old new ≡ false → Stays horizon (index_number tasks index r old) (index_number tasks index r new)
    unfolding strays
    strays_fine e =
        stays_within horizon _ _ (and_false (lt-ltb tick (r * 64) past) (some_false stray (row_count horizon) r there (and_false (ap not (ne_eqb old new other)) e)))

  -- nothing strays where no number leaves
  pub strays_never : ((old ≡ new → ⊥) → (r : ℕ) → r < row_count horizon → tick < r * 64 → Stays horizon (index_number tasks index r old) (index_number tasks index r new))
      → strays tasks horizon index tick old new ≡ false
  unfolding strays
  strays_never each = go (ℕ_discrete old new)
    where
      row : (old ≡ new → ⊥) → (r : ℕ) → r < row_count horizon → (ltb tick (r * 64) ≡ true) ⊎ (ltb tick (r * 64) ≡ false) → stray r ≡ false
      row apart r there (inl past) = and_false_right (ltb tick (r * 64)) (leaves_not horizon _ _ (each apart r there (ltb-true tick (r * 64) past)))
      row apart r there (inr past) = ap (λ (b : Bool). b && out r) past

      go : Dec (old ≡ new) → (not (eqb old new) && some (row_count horizon) stray) ≡ false
      go (yes e) = rw (eq-eqb old new e)
      go (no apart) = and_false_right (not (eqb old new)) (none_passes stray (row_count horizon) (λ r there. row apart r there (either (ltb tick (r * 64)))))

-- what a replacement makes of each number
module _ (tasks held : List ℕ) (tick old new : ℕ) where
  pub moved_before : (r c : ℕ) → r * 64 ≤ tick → moved tasks held tick old new r c ≡ index_number tasks held r c
  unfolding moved
  moved_before r c m = rw (and_false_right (not (eqb old new)) (le-ltb tick (r * 64) m))

  pub moved_same : old ≡ new → (r c : ℕ) → moved tasks held tick old new r c ≡ index_number tasks held r c
  unfolding moved
  moved_same e r c = rw (eq-eqb old new e)

  module _ (apart : old ≡ new → ⊥) (r : ℕ) (past : tick < r * 64) where
    pub moved_old : moved tasks held tick old new r old ≡ index_number tasks held r old - 1
    unfolding moved
    moved_old = rw (ne_eqb old new apart, lt-ltb tick (r * 64) past, eq-eqb old old refl)

    pub moved_new : moved tasks held tick old new r new ≡ index_number tasks held r new + 1
    unfolding moved
    moved_new = rw (ne_eqb old new apart, lt-ltb tick (r * 64) past, ne_eqb new old (λ e. apart (sym e)), eq-eqb new new refl)

  pub moved_other : (r c : ℕ) → (c ≡ old → ⊥) → (c ≡ new → ⊥) → moved tasks held tick old new r c ≡ index_number tasks held r c
  unfolding moved
  moved_other r c a b =
      by_cond (λ n. n ≡ index_number tasks held r c) (not (eqb old new) && ltb tick (r * 64)) _ _ (λ _. rw (ne_eqb c old a, ne_eqb c new b)) (λ _. refl)

module _ (tasks held : List ℕ) (tick old new rows : ℕ) where
  -- The rows before row r are as the replacement makes them, the others still as they were.
  pub record Moving (index : List ℕ) (r : ℕ) : Type 0 where
    pub size : length index ≡ length held
    pub each : (q c : ℕ) → q < rows → c < row_width tasks → index_number tasks index q c ≡ cond (ltb q r) (moved tasks held tick old new q c) (index_number tasks held q c)

  pub moving_none : (first : ℕ) → first * 64 ≤ tick + 64 → Moving held first
  moving_none first b =
      record {
        size = refl;
        each = λ q c l m. by_cond (λ n. index_number tasks held q c ≡ n) (ltb q first) _ _ (λ e. sym (moved_before tasks held tick old new q c (omega (arith, ltb-true q first e)))) (λ _. refl);
      }

  -- row r still holds what it held
  pub moving_held : (index : List ℕ) (r c : ℕ) → Moving index r → r < rows → c < row_width tasks → index_number tasks index r c ≡ index_number tasks held r c
  moving_held index r c w l m = w.each r c l m ∙ ap (λ (b : Bool). cond b (moved tasks held tick old new r c) (index_number tasks held r c)) (le-ltb r r (omega arith))

  module _ (apart : old ≡ new → ⊥) (firstly : old < row_width tasks) (lastly : new < row_width tasks) (long : length held ≡ rows * row_width tasks) where
    -- one row more
    pub moving_more : (index : List ℕ) (r : ℕ) → Moving index r → r < rows → tick < r * 64
        → Moving (set (set index (r * row_width tasks + old) (index_number tasks index r old - 1)) (r * row_width tasks + new)
        (get_or (set index (r * row_width tasks + old) (index_number tasks index r old - 1)) (r * row_width tasks + new) 0 + 1)) (r + 1)
    unfolding index_number
    moving_more index r w there past =
        record {
          size = length-set one pn _ ∙ length-set index po _ ∙ w.size;
          each = λ q c l m. go q c l m (ℕ_discrete q r);
        }
      where
        wide : ℕ
        wide = row_width tasks

        po : ℕ
        po = r * row_width tasks + old

        pn : ℕ
        pn = r * row_width tasks + new

        one : List ℕ
        one = set index po (get_or index po 0 - 1)

        two : List ℕ
        two = set one pn (get_or one pn 0 + 1)

        po_within : po < length index
        po_within = omega (arith, place_within wide rows r old there firstly, long, w.size)

        pn_within : pn < length one
        pn_within = omega (arith, place_within wide rows r new there lastly, long, w.size, length-set index po (get_or index po 0 - 1))

        differ : pn ≡ po → ⊥
        differ e = apart (sym (place_apart wide r new r old lastly firstly e).1)

        -- a number at another place
        kept : (p : ℕ) → (p ≡ po → ⊥) → (p ≡ pn → ⊥) → get_or two p 0 ≡ get_or index p 0
        kept p a b = get_or-set_other one pn p _ 0 b ∙ get_or-set_other index po p _ 0 a

        held_here : (c : ℕ) → c < wide → get_or index (r * row_width tasks + c) 0 ≡ index_number tasks held r c
        held_here c m = moving_held index r c w there m

        here : (c : ℕ) → c < wide → Dec (c ≡ old) → Dec (c ≡ new) → get_or two (r * row_width tasks + c) 0 ≡ moved tasks held tick old new r c
        here c m (yes a) d =
            rw a
            (get_or-set_other one pn po _ 0 (λ e. differ (sym e)) ∙ get_or-set_same index po _ 0 po_within ∙ ap (λ (n : ℕ). n - 1) (held_here old firstly)
            ∙ sym (moved_old tasks held tick old new apart r past))
        here c m (no a) (yes b) =
            rw b
            (get_or-set_same one pn _ 0 pn_within ∙ ap (λ (n : ℕ). n + 1) (get_or-set_other index po pn _ 0 differ ∙ held_here new lastly)
            ∙ sym (moved_new tasks held tick old new apart r past))
        here c m (no a) (no b) =
            kept (r * row_width tasks + c) (λ e. a (place_apart wide r c r old m firstly e).1) (λ e. b (place_apart wide r c r new m lastly e).1)
            ∙ held_here c m ∙ sym (moved_other tasks held tick old new r c a b)

        same : (q : ℕ) → (q ≡ r → ⊥) → ltb q r ≡ ltb q (r + 1)
        same q e =
            same_test (ltb q r) (ltb q (r + 1)) (λ h. lt-ltb q (r + 1) (omega (arith, ltb-true q r h))) (λ h. lt-ltb q r (omega (arith, ltb-true q (r + 1) h)))

        go : (q c : ℕ) → q < rows → c < wide → Dec (q ≡ r) → get_or two (q * row_width tasks + c) 0 ≡ cond (ltb q (r + 1)) (moved tasks held tick old new q c) (index_number tasks held q c)
        go q c l m (yes e) = rw (e, lt-ltb r (r + 1) (omega arith)) (here c m (ℕ_discrete c old) (ℕ_discrete c new))
        go q c l m (no e) =
            kept (q * row_width tasks + c) (λ s. e (place_apart wide q c r old m firstly s).0) (λ s. e (place_apart wide q c r new m lastly s).0)
            ∙ w.each q c l m ∙ ap (λ (b : Bool). cond b (moved tasks held tick old new q c) (index_number tasks held q c)) (same q e)

  -- all rows past the tick
  pub moving_all : (index : List ℕ) (r : ℕ) → length held ≡ rows * row_width tasks → Moving index r → rows ≤ r → index ≡ row_by_row (row_width tasks) rows (moved tasks held tick old new)
  unfolding index_number
  moving_all index r long w all =
      row_by_row_is (row_width tasks) (moved tasks held tick old new) index rows (w.size ∙ long)
      (λ q c l m. w.each q c l m ∙ ap (λ (b : Bool). cond b (moved tasks held tick old new q c) (index_number tasks held q c)) (lt-ltb q r (omega arith)))

  -- no row where both columns are the same
  pub moving_same : length held ≡ rows * row_width tasks → old ≡ new → held ≡ row_by_row (row_width tasks) rows (moved tasks held tick old new)
  unfolding index_number
  moving_same long e = row_by_row_is (row_width tasks) (moved tasks held tick old new) held rows long (λ q c l m. sym (moved_same tasks held tick old new e q c))

-- one turn of the loop, where row r begins at `at`: no place is outside the index, no number wraps, and one row more is moved
pub record Turn (tasks : List ℕ) (horizon : ℕ) (held : List ℕ) (tick old new : ℕ) (index : List ℕ) (r at : ℕ) : Type 0 where
  pub place : (c : ℕ) → c ≤ task_count tasks → at + c < length index
  pub loses : 1 ≤ get_or index (at + old) 0
  pub gains : get_or (set index (at + old) (get_or index (at + old) 0 - 1)) (at + new) 0 + 1 ≤ horizon
  pub moves : Moving tasks held tick old new (row_count horizon)
      (set (set index (at + old) (get_or index (at + old) 0 - 1)) (at + new) (get_or (set index (at + old) (get_or index (at + old) 0 - 1)) (at + new) 0 + 1)) (r + 1)

pub turn : (tasks : List ℕ) (horizon : ℕ) (held : List ℕ) (tick old new : ℕ) → Sized tasks horizon held → old ≤ task_count tasks → new ≤ task_count tasks → (old ≡ new → ⊥)
    → strays tasks horizon held tick old new ≡ false → (index : List ℕ) (r at : ℕ) → Moving tasks held tick old new (row_count horizon) index r
    → r < row_count horizon → tick < r * 64 → at ≡ r * row_width tasks → Turn tasks horizon held tick old new index r at
unfolding index_number
turn tasks horizon held tick old new size firstly lastly apart fine index r at w there past begins =
    record {
      place = λ c m. omega (arith, begins, place_within (row_width tasks) (row_count horizon) r c there (omega arith), size.indexed, w.size);
      loses = omega (arith, number old firstly, stay.some_left);
      gains = omega (arith, get_or-set_other index (at + old) (at + new) (get_or index (at + old) 0 - 1) 0 (λ e. apart (omega arith)), number new lastly, stay.gains_most);
      moves = subst
          (λ (p : ℕ). Moving tasks held tick old new (row_count horizon)
          (set (set index (p + old) (get_or index (p + old) 0 - 1)) (p + new) (get_or (set index (p + old) (get_or index (p + old) 0 - 1)) (p + new) 0 + 1)) (r + 1))
          (sym begins)
          (moving_more tasks held tick old new (row_count horizon) apart (omega arith) (omega arith) size.indexed index r w there past);
    }
  where
    stay : Stays horizon (index_number tasks held r old) (index_number tasks held r new)
    stay = strays_fine tasks horizon held tick old new apart r there past fine

    number : (c : ℕ) → c ≤ task_count tasks → get_or index (at + c) 0 ≡ index_number tasks held r c
    number c m = ap (λ (n : ℕ). get_or index (n + c) 0) begins ∙ moving_held tasks held tick old new (row_count horizon) index r c w there (omega arith)
