-- Laws of rows one behind another: where a number stands, a row more, and a list that is a table by its numbers.
use Prim.Native.Nat.{ℕ, zero, suc, ◌+◌, ◌*◌, ◌<◌, ◌≤◌}
use mathlib.Core.List.{List, [], ◌++◌, ◌∷◌, append-nil}
use mathlib.Core.Logic.{inl, inr, ◌⊎◌}
use mathlib.Core.Path.{ap, ap₂, refl, sym, ◌∙◌, ◌≡◌}
use native.Mathlib.Decide.{ℕ_discrete, dec_lt}
use native.Mathlib.Nat.{mul-le-mul, mul-le-mul_right, not-suc-le-zero, suc-mul, zero-mul}
use native.Mathlib.Numerals.{add-one}
use native.Mathlib.Omega.{arith}
use lib.ListN.{get_or-append, drop, get_or, length, length-append, length-drop, take, take-append-drop}
use lib.Seq.{drop_at, drop-drop, drop-length, ext_get_or, get_or-append-add, get_or-drop, get_or-take, length-take-le, paste, take_at}
use Rattle.bits.specs.Below.{list_from}
use Rattle.bits.proofs.Laws.Below.{get_or_list, last_or_below, length_list_from, list_same}
use Rattle.bits.proofs.Laws.Lists.{take_list}
use Rattle.index.specs.Code.{counts_of}
use Rattle.index.specs.Counts.{Plan, ticks}
use Rattle.index.specs.Rows.{row_number, row_by_row}

-- a number of a row that is there stands before the rows' end
pub place_within : (w n r c : ℕ) → r < n → c < w → r * w + c < n * w
place_within w n r c l m = omega (arith, mul-le-mul_right w l, suc-mul r w)

pub row_within : (w n r : ℕ) → r < n → r * w + w ≤ n * w
row_within w n r l = omega (arith, mul-le-mul_right w l, suc-mul r w)

-- an index is short
pub row_small : (w r : ℕ) → w ≤ 17 → r ≤ 257 → r * w ≤ 4369
row_small w r l m = mul-le-mul m l

-- two numbers of an index stand at different places
pub place_apart : (w r c q d : ℕ) → c < w → d < w → r * w + c ≡ q * w + d → (r ≡ q) × (c ≡ d)
place_apart w r c q d l m e = go (ℕ_discrete r q)
  where
    go : Dec (r ≡ q) → (r ≡ q) × (c ≡ d)
    go (yes s) = let t : r * w ≡ q * w = ap (λ (n : ℕ). n * w) s in (s, omega arith)
    go (no s) = less (dec_lt r q)
      where
        less : Dec (r < q) → (r ≡ q) × (c ≡ d)
        less (yes b) = absurd (omega (arith, mul-le-mul_right w b, suc-mul r w))
        less (no b) = let above : q < r = omega arith in absurd (omega (arith, mul-le-mul_right w above, suc-mul q w))

module _ (w : ℕ) (f : ℕ → ℕ → ℕ) where
  pub row_by_row_none : row_by_row w 0 f ≡ []
  unfolding row_by_row
  row_by_row_none = refl

  pub row_by_row_more : (n : ℕ) → row_by_row w (n + 1) f ≡ row_by_row w n f ++ list_from 0 w (f n)
  unfolding row_by_row
  row_by_row_more n = rw (add-one, row_by_row)

  pub length_row_by_row : (n : ℕ) → length (row_by_row w n f) ≡ n * w
  unfolding row_by_row
  length_row_by_row zero = sym (zero-mul w)
  length_row_by_row (suc n) =
      length-append (row_by_row w n f) (list_from 0 w (f n)) ∙ ap₂ (λ (x y : ℕ). x + y) (length_row_by_row n) (length_list_from 0 w (f n)) ∙ sym (suc-mul n w)

  -- each number at its place
  pub row_by_row_at : (n r c : ℕ) → r < n → c < w → get_or (row_by_row w n f) (r * w + c) 0 ≡ f r c
  unfolding row_by_row
  row_by_row_at zero r c l m = absurd (not-suc-le-zero l)
  row_by_row_at (suc n) r c l m = go (last_or_below n r l) (row_by_row_at n r c)
    where
      go : (r ≡ n) ⊎ (r < n) → (r < n → c < w → get_or (row_by_row w n f) (r * w + c) 0 ≡ f r c) → get_or (row_by_row w n f ++ list_from 0 w (f n)) (r * w + c) 0 ≡ f r c
      go (inl e) ih =
          let begins : r * w ≡ length (row_by_row w n f) = ap (λ (k : ℕ). k * w) e ∙ sym (length_row_by_row n) in
          ap (λ (k : ℕ). get_or (row_by_row w n f ++ list_from 0 w (f n)) (k + c) 0) begins
          ∙ get_or-append-add (row_by_row w n f) (list_from 0 w (f n)) c 0
          ∙ get_or_list w (f n) c 0 m
          ∙ ap (λ (k : ℕ). f k c) (sym e)
      go (inr b) ih =
          get_or-append (row_by_row w n f) (list_from 0 w (f n)) 0 (r * w + c) (omega (arith, place_within w n r c b m, length_row_by_row n)) ∙ ih b m

  -- a list with such numbers is the table
  pub row_by_row_is : (l : List ℕ) (n : ℕ) → length l ≡ n * w → ((r c : ℕ) → r < n → c < w → get_or l (r * w + c) 0 ≡ f r c) → l ≡ row_by_row w n f
  unfolding row_by_row
  row_by_row_is l zero e each = none l (e ∙ zero-mul w)
    where
      none : (k : List ℕ) → length k ≡ 0 → k ≡ []
      none [] e = refl
      none (x ∷ xs) e = absurd (omega arith)
  row_by_row_is l (suc n) e each =
      let long = suc-mul n w in
      let front : length (take (n * w) l) ≡ n * w = length-take-le (n * w) l (omega arith) in
      let back : length (drop (n * w) l) ≡ w = length-drop (n * w) l ∙ omega arith in
      sym (take-append-drop (n * w) l)
      ∙ ap₂ (λ (x y : List ℕ). x ++ y)
      (row_by_row_is (take (n * w) l) n front (λ r c b m. get_or-take (n * w) l (r * w + c) 0 (place_within w n r c b m) ∙ each r c (omega arith) m))
      (ext_get_or 0 (drop (n * w) l) (list_from 0 w (f n)) (back ∙ sym (length_list_from 0 w (f n)))
      (λ c b. let m : c < w = omega arith in
      get_or-drop (n * w) l c 0 ∙ each n c (omega arith) m ∙ sym (get_or_list w (f n) c 0 m)))

  -- one row more is written behind those that are there
  pub row_written : (r : ℕ) (held index counts : List ℕ) → index ≡ row_by_row w r f ++ drop (r * w) held → take w counts ≡ list_from 0 w (f r)
      → paste index (r * w) counts w ≡ row_by_row w (r + 1) f ++ drop ((r + 1) * w) held
  row_written r held index counts wrote row =
      let front : take (r * w) index ≡ row_by_row w r f = ap (take (r * w)) wrote ∙ take_at (row_by_row w r f) (drop (r * w) held) (r * w) (length_row_by_row r) in
      let rest : drop (r * w) index ≡ drop (r * w) held = ap (drop (r * w)) wrote ∙ drop_at (row_by_row w r f) (drop (r * w) held) (r * w) (length_row_by_row r) in
      let ends : r * w + w ≡ (r + 1) * w = sym (suc-mul r w) ∙ ap (λ (k : ℕ). k * w) (sym (add-one r)) in
      ap₂ (λ (x y : List ℕ). x ++ y)
      (ap₂ (λ (x y : List ℕ). x ++ y) front row ∙ sym (row_by_row_more r))
      (sym (drop-drop w (r * w) index) ∙ ap (drop w) rest ∙ drop-drop w (r * w) held ∙ ap (λ (k : ℕ). drop k held) ends)

  pub rows_none : (held : List ℕ) → held ≡ row_by_row w 0 f ++ drop (0 * w) held
  rows_none held = sym (ap₂ (λ (x y : List ℕ). x ++ y) row_by_row_none (ap (λ (k : ℕ). drop k held) (zero-mul w)))

  -- and the last row
  pub last_written : (n r : ℕ) (held index counts : List ℕ) → r ≡ n → length held ≡ (n + 1) * w → index ≡ row_by_row w r f ++ drop (r * w) held
      → take w counts ≡ list_from 0 w (f r) → paste index (n * w) counts w ≡ row_by_row w (n + 1) f
  last_written n r held index counts e size wrote row =
      ap (λ (k : ℕ). paste index (k * w) counts w) (sym e)
      ∙ row_written r held index counts wrote row
      ∙ ap₂ (λ (x y : List ℕ). x ++ y) (ap (λ (k : ℕ). row_by_row w (k + 1) f) e) (ap (λ (k : ℕ). drop ((k + 1) * w) held) e ∙ ap (λ (k : ℕ). drop k held) (sym size) ∙ drop-length held)
      ∙ append-nil (row_by_row w (n + 1) f)

-- tables whose numbers agree
pub row_by_row_same : (w n : ℕ) (f h : ℕ → ℕ → ℕ) → ((r c : ℕ) → r < n → c < w → f r c ≡ h r c) → row_by_row w n f ≡ row_by_row w n h
unfolding row_by_row
row_by_row_same w zero f h same = refl
row_by_row_same w (suc n) f h same =
    ap₂ (λ (x y : List ℕ). x ++ y) (row_by_row_same w n f h (λ r c l m. same r c (omega arith) m)) (list_same w (f n) (h n) (λ c m. same n c (omega arith) m))

-- the first w of the counts are a row
pub row_of_counts : (g : Plan) (schedule : List ℕ) (r w : ℕ) → w ≤ 17 → take w (counts_of g.lists (take (r * 64) schedule)) ≡ list_from 0 w (row_number g schedule r)
unfolding counts_of row_number
row_of_counts g schedule r w m = take_list (λ c. ticks g.lists c (take (r * 64) schedule)) 0 w 17 m
