-- Laws of lists that are nobody's in particular: a list's front, its places, and stores one behind another.
use Prim.Native.Nat.{◌+◌, ◌<◌, suc, zero, ℕ, ◌≤◌}
use mathlib.Core.List.{◌++◌, List, [], ◌∷◌}
use mathlib.Core.Path.{ap, ap₂, refl, sym, ◌∙◌, ◌≡◌}
use native.Mathlib.Nat.{add-zero, not-suc-le-zero}
use native.Mathlib.Numerals.{add-one}
use native.Mathlib.Omega.{arith}
use lib.ListN.{drop, get_or, length, length-append, set, take}
use lib.Seq.{ext_get_or, get_or-set_other, length-sets, length-take-le, sets, sets-eq, take-append_seam, take-suc, take-suc-set}
use Rattle.bits.specs.Below.{list_from}
use Rattle.bits.proofs.Laws.Below.{get_or_list, length_list_from}

-- the front of a list of values
pub take_list : (f : ℕ → ℕ) (i n m : ℕ) → n ≤ m → take n (list_from i m f) ≡ list_from i n f
unfolding list_from
take_list f i zero m h = refl
take_list f i (suc n) zero h = absurd (not-suc-le-zero h)
take_list f i (suc n) (suc m) h = ap (λ (l : List ℕ). f i ∷ l) (take_list f (suc i) n m (omega arith))

-- within a list the default does not count
pub get_or_any : (l : List ℕ) (i d e : ℕ) → i < length l → get_or l i d ≡ get_or l i e
get_or_any [] i d e h = absurd (not-suc-le-zero h)
get_or_any (x ∷ xs) zero d e h = refl
get_or_any (x ∷ xs) (suc i) d e h = get_or_any xs i d e (omega arith)

-- one place more is written
pub take_next : (l : List ℕ) (i x : ℕ) → i < length l → take (i + 1) (set l i x) ≡ take i l ++ (x ∷ [])
take_next l i x h = rw add-one (take-suc-set l i x h)

-- a list copied place by place
pub copied_more : (from to : List ℕ) (i x : ℕ) → i < length to → i < length from → take i to ≡ take i from → x ≡ get_or from i 0
    → take (i + 1) (set to i x) ≡ take (i + 1) from
copied_more from to i x b l p q =
    take_next to i x b ∙ ap₂ (λ (l : List ℕ) (y : ℕ). l ++ (y ∷ [])) p q ∙ sym (rw add-one (take-suc from i 0 l))

-- stores behind stores
pub sets_sets : (xs ys l : List ℕ) (at : ℕ) → sets (sets l at xs) (at + length xs) ys ≡ sets l at (xs ++ ys)
sets_sets [] ys l at = rw add-zero
sets_sets (x ∷ xs) ys l at =
    let e : at + suc (length xs) ≡ suc at + length xs = omega arith in
    rw e (sets_sets xs ys (set l at x) (suc at))

-- stores leave the length, what lies before them, and what lies behind them
pub sets_length : (l vs : List ℕ) (at : ℕ) {after : List ℕ} → after ≡ sets l at vs → length after ≡ length l
sets_length l vs at e = ap length e ∙ length-sets l at vs

pub sets_below : (vs l : List ℕ) (at i : ℕ) → i < at → get_or (sets l at vs) i 0 ≡ get_or l i 0
sets_below [] l at i h = refl
sets_below (v ∷ vs) l at i h = sets_below vs (set l at v) (suc at) i (omega arith) ∙ get_or-set_other l at i v 0 (λ e. omega arith)

pub sets_above : (vs l : List ℕ) (at i : ℕ) → at + length vs ≤ i → get_or (sets l at vs) i 0 ≡ get_or l i 0
sets_above [] l at i h = refl
sets_above (v ∷ vs) l at i h = sets_above vs (set l at v) (suc at) i (omega arith) ∙ get_or-set_other l at i v 0 (λ e. omega arith)

-- the front up to the last store
pub take_sets : (vs l : List ℕ) (at : ℕ) → at + length vs ≤ length l → take (at + length vs) (sets l at vs) ≡ take at l ++ vs
take_sets vs l at h =
    let size : at + length vs ≡ length (take at l ++ vs) = omega (arith, length-append (take at l) vs, length-take-le at l (omega arith)) in
    ap₂ (λ (n : ℕ) (f : List ℕ). take n f) size (sets-eq vs l at h) ∙ take-append_seam (take at l ++ vs) (drop (at + length vs) l)

-- a list is the list of its elements
pub list_of : (l : List ℕ) → list_from 0 (length l) (λ i. get_or l i 0) ≡ l
list_of l = ext_get_or 0 (list_from 0 (length l) (λ i. get_or l i 0)) l (length_list_from 0 (length l) (λ i. get_or l i 0))
    (λ i h. get_or_list (length l) (λ k. get_or l k 0) i 0 (omega (arith, length_list_from 0 (length l) (λ k. get_or l k 0))))
