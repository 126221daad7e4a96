-- Laws of bytes written one part behind another: no law asks for room.
use Prim.Native.Nat.{ℕ, zero, suc, ◌+◌, ◌<◌, ◌≤◌}
use mathlib.Core.List.{List, [], ◌∷◌, ◌++◌, append_assoc, append-nil, map, map-append}
use mathlib.Core.Path.{ap, refl, sym, ◌∙◌, ◌≡◌}
use native.Mathlib.Decide.{dec_le}
use native.Mathlib.Numerals.{add-one}
use native.Mathlib.Omega.{arith}
use lib.ListN.{drop, get_or, length, length-append, length-set, set, take}
use lib.Seq.{length-sets, sets, sets-eq, take_at, take-suc}
use Rattle.bits.proofs.Laws.Lists.{sets_sets}
use Rattle.text.specs.Decimal.{decimal, numbers, spaced}
use Rattle.text.specs.Wrote.{Put, Wrote}

-- ## Bytes stored in a row

-- behind the end nothing is stored
set_past : (l : List ℕ) (i a : ℕ) → length l ≤ i → set l i a ≡ l
set_past [] i a h = refl
set_past (x ∷ l) zero a h = absurd (omega arith)
set_past (x ∷ l) (suc i) a h = ap (λ (m : List ℕ). x ∷ m) (set_past l i a (omega arith))

sets_past : (xs l : List ℕ) (i : ℕ) → length l ≤ i → sets l i xs ≡ l
sets_past [] l i h = refl
sets_past (a ∷ xs) l i h = sets_past xs (set l i a) (suc i) (omega (arith, length-set l i a)) ∙ set_past l i a h

-- what was stored at the front
pub front : (l vs : List ℕ) (n : ℕ) → n ≡ length vs → length vs ≤ length l → take n (sets l 0 vs) ≡ vs
front l vs n e h = rw (sets-eq vs l 0 (omega arith)) (take_at vs (drop (0 + length vs) l) n (sym e))

-- ## Parts

pub put_length : {l m bs : List ℕ} {at k : ℕ} → Put l at bs m k → length m ≡ length l
put_length {l} {m} {bs} {at} w = ap length w.after_is ∙ length-sets l at bs

pub put_none : (l : List ℕ) (at : ℕ) → Put l at [] l at
put_none l at = record { next_is = omega arith; after_is = refl }

-- one part behind another: either all of the first has room, or the second has none
pub put_more : {l m r xs ys : List ℕ} {at k n : ℕ} → Put l at xs m k → Put m k ys r n → Put l at (xs ++ ys) r n
put_more {l} {m} {r} {xs} {ys} {at} {k} {n} v w =
    let long = put_length v in
    record {
      next_is = omega (arith, v.next_is, w.next_is, length-append xs ys);
      after_is = by_room (dec_le (at + length xs) (length l));
    }
  where
    by_room : Dec (at + length xs ≤ length l) → r ≡ sets l at (xs ++ ys)
    by_room (yes h) =
        let e : k ≡ at + length xs = omega (arith, v.next_is) in
        w.after_is ∙ rw (v.after_is, e) (sets_sets xs ys l at)
    by_room (no h) =
        let long = length-sets l at xs in
        let none : sets (sets l at xs) (at + length xs) ys ≡ sets l at xs = sets_past ys (sets l at xs) (at + length xs) (omega arith) in
        let past = sets_past ys (sets l at xs) k (omega (arith, v.next_is)) in
        w.after_is ∙ rw v.after_is (past ∙ sym none ∙ sets_sets xs ys l at)

pub put_one : {l m n bs : List ℕ} {at j k : ℕ} → Put l at bs m j → Put l at bs n k → (j ≡ k) × (m ≡ n)
put_one v w = (v.next_is ∙ sym w.next_is, v.after_is ∙ sym w.after_is)

-- where there is room for all, all are written
pub put_all : {l m bs : List ℕ} {at k : ℕ} → Put l at bs m k → at + length bs ≤ length l → Wrote l at bs m k
put_all w room = record { next_is = omega (arith, w.next_is); after_is = w.after_is }

-- ## One byte, the next byte of a text, the next of several numbers

pub put_stored : (l : List ℕ) (at b : ℕ) → at < length l → Put l at (b ∷ []) (set l at b) (at + 1)
put_stored l at b h = record { next_is = omega arith; after_is = refl }

pub put_past : (l : List ℕ) (at b : ℕ) → length l ≤ at → Put l at (b ∷ []) l at
put_past l at b h = record { next_is = omega arith; after_is = sym (sets_past (b ∷ []) l at h) }

pub put_next : (t : List ℕ) {l m r : List ℕ} {at i k n : ℕ} → Put l at (take i t) m k → Put m k (get_or t i 0 ∷ []) r n → i < length t
    → Put l at (take (i + 1) t) r n
put_next t {i = i} v w h =
    let e : take (i + 1) t ≡ take i t ++ (get_or t i 0 ∷ []) = rw add-one (take-suc t i 0 h) in
    rw e (put_more v w)

pub spaced_append : (xs ys : List (List ℕ)) → spaced (xs ++ ys) ≡ spaced xs ++ spaced ys
unfolding spaced
spaced_append [] ys = refl
spaced_append (x ∷ xs) ys = rw (spaced_append xs ys, append_assoc x (spaced xs) (spaced ys))

pub put_next_number : (t : List ℕ) {l m o r : List ℕ} {at i k a n : ℕ} → Put l at (numbers (take i t)) m k → Put m k (32 ∷ []) o a → Put o a (decimal (get_or t i 0)) r n
    → i < length t
    → Put l at (numbers (take (i + 1) t)) r n
unfolding numbers spaced
put_next_number t {i = i} v w x h =
    let e : take (i + 1) t ≡ take i t ++ (get_or t i 0 ∷ []) = rw add-one (take-suc t i 0 h) in
    let last = spaced_append (map decimal (take i t)) (decimal (get_or t i 0) ∷ []) in
    rw (e, map-append, last, append-nil) (put_more v (put_more w x))
