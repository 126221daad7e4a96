-- A loop over the set bits of a word, from the lowest on: what it has scanned, and the rest of the word. A scan is any value by how many
-- numbers it has met; where it stays at each number whose bit is not set, the loop comes to the scan of all 64.
use Prim.Native.Nat.{◌+◌, ◌<◌, suc, zero, ℕ, ◌≤◌, ◌^◌}
use mathlib.Core.Bool.{◌&&◌, Bool, cond, false, not, true}
use mathlib.Core.Logic.{inl, inr, ◌⊎◌}
use mathlib.Core.Path.{ap, ap₂, refl, sym, ◌∙◌, ◌≡◌}
use native.Mathlib.Decide.{ℕ_discrete}
use native.Mathlib.Nat.{not-suc-le-zero}
use native.Mathlib.Omega.{arith}
use lib.Dec.{eqb, leb, ltb}
use borrow.Author.Tests.{eqb-false, le-leb, leb-true, ltb-false, ltb-true, ne_eqb, not-true}
use Rattle.bits.specs.Below.{bit, greatest_key, least, some, word}
use Rattle.bits.specs.Word.{from, with_bit, without_lowest}
use Rattle.bits.proofs.Laws.Below.{least_is, least_none, none_passes, scan_on, some_skip}
use Rattle.bits.proofs.Laws.Bools.{and_false, and_left, and_right, and_true, clash, either, not_of, same_test}
use Rattle.bits.proofs.Laws.Word.{bit_above, bit_word, collect, keyed, keyed_collect, keyed_none, keyed_skip, lowest_set, up_to, up_to_all, up_to_none, up_to_skip, word_bits}
use Rattle.bits.proofs.Laws.Word.{word_lt, word_same, word_skip}
use Rattle.bits.proofs.Laws.Most.{greatest_key_more, greatest_key_skip}
use Rattle.bits.proofs.Readings.{least_reads}

-- what stays the same from each number of a stretch to the next is at its end what it is at its start
pub stays : {A : Type 0} (S : ℕ → A) (a b : ℕ) → a ≤ b → ((k : ℕ) → a ≤ k → k < b → S (suc k) ≡ S k) → S b ≡ S a
stays S a zero l h = ap S (let e : ◌≡◌ {A = ℕ} 0 a = omega arith in e)
stays S a (suc b) l h = go (ℕ_discrete a (suc b)) (λ m. stays S a b m (λ k p q. h k p (omega arith)))
  where
    go : Dec (a ≡ suc b) → (a ≤ b → S b ≡ S a) → S (suc b) ≡ S a
    go (yes e) ih = ap S (sym e)
    go (no n) ih = h b (omega arith) (omega arith) ∙ ih (omega arith)

-- a test that fails from n on makes a word below 2 ^ n
pub word_below : (f : ℕ → Bool) (n : ℕ) → n ≤ 64 → ((k : ℕ) → n ≤ k → f k ≡ false) → word 64 f < 2 ^ n
word_below f n l h = rw (stays (λ k. word k f) n 64 l (λ k a _. word_skip f k (h k a))) (word_lt f n)

-- the bits from a on
from_bit : (w a p : ℕ) → p < 64 → bit (from w a) p ≡ (leb a p && bit w p)
unfolding from
from_bit w a p l = bit_word (λ p. leb a p && bit w p) 64 p l

from_all : (w : ℕ) → w < 2 ^ 64 → from w 0 ≡ w
unfolding from
from_all w h = word_same (λ p. leb 0 p && bit w p) (bit w) 64 (λ p _. ap (λ (b : Bool). b && bit w p) (le-leb 0 p (omega arith))) ∙ word_bits w 64 h

from_lt : (w a : ℕ) → from w a < 2 ^ 64
unfolding from
from_lt w a = word_lt (λ p. leb a p && bit w p) 64

without_lowest_from : (r w a : ℕ) → ((p : ℕ) → p < 64 → (bit r p && not (eqb p (least 64 (bit r) 64))) ≡ (leb a p && bit w p)) → without_lowest r ≡ from w a
unfolding without_lowest from
without_lowest_from r w a same = word_same (λ p. bit r p && not (eqb p (least 64 (bit r) 64))) (λ p. leb a p && bit w p) 64 same

-- the lowest of them is a bit of the word, and from a to it none is; without it they are the bits behind it
record Lowest (w a j : ℕ) : Type 0 where
  pub below : j < 64
  pub behind : a ≤ j
  pub set : bit w j ≡ true
  pub clear : (k : ℕ) → a ≤ k → k < j → bit w k ≡ false
  pub left : without_lowest (from w a) ≡ from w (j + 1)

lowest_from : (w a : ℕ) → 0 < from w a → Lowest w a (least 64 (bit (from w a)) 64)
lowest_from w a l =
    record { below = b; behind = leb-true a j (and_left (leb a j) (bit w j) s); set = and_right (leb a j) (bit w j) s; clear = clear; left = left }
  where
    j : ℕ
    j = least 64 (bit (from w a)) 64

    b : j < 64
    b = (lowest_set (from w a) (from_lt w a) l).0

    s : (leb a j && bit w j) ≡ true
    s = sym (from_bit w a j b) ∙ (lowest_set (from w a) (from_lt w a) l).1

    clear : (k : ℕ) → a ≤ k → k < j → bit w k ≡ false
    clear k m i =
        and_false (le-leb a k m) (sym (from_bit w a k (omega (arith, b))) ∙ ((least_reads (bit (from w a)) 64 64 j b (omega arith)).0 refl).1 k i)

    -- a bit from a on that is not the lowest lies behind it
    later : (p : ℕ) → a ≤ p → bit w p ≡ true → (p ≡ j → ⊥) → (ltb p j ≡ true) ⊎ (ltb p j ≡ false) → j + 1 ≤ p
    later p m t n (inl h) = clash t (clear p m (ltb-true p j h))
    later p m t n (inr h) = omega (arith, ltb-false p j h, n)

    same : (p : ℕ) → ((leb a p && bit w p) && not (eqb p j)) ≡ (leb (j + 1) p && bit w p)
    same p =
        same_test ((leb a p && bit w p) && not (eqb p j)) (leb (j + 1) p && bit w p)
        (λ h. let x = and_left (leb a p && bit w p) (not (eqb p j)) h in
        let t = and_right (leb a p) (bit w p) x in
        and_true (le-leb (j + 1) p (later p (leb-true a p (and_left (leb a p) (bit w p) x)) t
        (eqb-false p j (not-true (eqb p j) (and_right (leb a p && bit w p) (not (eqb p j)) h))) (either (ltb p j)))) t)
        (λ h. let m = leb-true (j + 1) p (and_left (leb (j + 1) p) (bit w p) h) in
        and_true (and_true (le-leb a p (omega (arith, leb-true a j (and_left (leb a j) (bit w j) s)))) (and_right (leb (j + 1) p) (bit w p) h))
        (not_of (ne_eqb p j (λ e. omega (arith, e)))))

    left : without_lowest (from w a) ≡ from w (j + 1)
    left = without_lowest_from (from w a) w (j + 1) (λ p m. ap (λ (x : Bool). x && not (eqb p j)) (from_bit w a p m) ∙ same p)

module _ {A : Type 0} (S : ℕ → A) (w : ℕ) where
  -- the loop has scanned up to a place, and the rest are the word's bits from there on
  pub record Swept (rest : ℕ) (acc : A) : Type 0 where
    pub place : ℕ
    pub low : place ≤ 64
    pub left : rest ≡ from w place
    pub so_far : acc ≡ S place

  pub swept_none : (acc : A) → w < 2 ^ 64 → acc ≡ S 0 → Swept w acc
  swept_none acc h e = record { place = 0; low = omega arith; left = sym (from_all w h); so_far = e }

  module _ (rest j : ℕ) (acc : A) (at : Swept rest acc) (l : 0 < rest) (q : j ≡ least 64 (bit rest) 64) where
    lowest : Lowest w at.place j
    lowest = rw (q, at.left) (lowest_from w at.place (rw at.left at l))

    -- what it meets next is a set bit of the word
    pub swept_below : j < 64
    swept_below = lowest.below

    pub swept_set : bit w j ≡ true
    swept_set = lowest.set

    -- up to which the scan stays
    pub swept_here : ((k : ℕ) → bit w k ≡ false → S (suc k) ≡ S k) → acc ≡ S j
    swept_here skips = at.so_far ∙ sym (stays S at.place j lowest.behind (λ k a b. skips k (lowest.clear k a b)))

    pub swept_next : (rest' : ℕ) (acc' : A) → rest' ≡ without_lowest rest → acc' ≡ S (j + 1) → Swept rest' acc'
    swept_next rest' acc' e r =
        record { place = j + 1; low = omega (arith, lowest.below); left = e ∙ ap without_lowest at.left ∙ lowest.left; so_far = r }

  -- where nothing rests the scan is that of all
  pub swept_all : (rest : ℕ) (acc : A) → Swept rest acc → rest ≤ 0 → ((k : ℕ) → bit w k ≡ false → S (suc k) ≡ S k) → acc ≡ S 64
  swept_all rest acc at z skips = at.so_far ∙ sym (stays S at.place 64 at.low (λ k a b. skips k (clear k a b)))
    where
      none : from w at.place ≡ 0
      none = sym at.left ∙ (let e : rest ≡ 0 = omega arith in e)

      clear : (k : ℕ) → at.place ≤ k → k < 64 → bit w k ≡ false
      clear k a b =
          and_false (le-leb at.place k a) (sym (from_bit w at.place k b) ∙ ap (λ (x : ℕ). bit x k) none ∙ bit_above 0 0 k (omega arith) (omega arith))

-- The scans of the set bits that pass: as the loop meets the lowest of the rest, j, b tells whether j passes, and v is what it makes of acc.
module _ (P : ℕ → Bool) (w : ℕ) where
  abbrev passing : ℕ → Bool
  passing i = bit w i && P i

  fails : (k : ℕ) → bit w k ≡ false → passing k ≡ false
  fails k e = ap (λ (b : Bool). b && P k) e

  passes : (j : ℕ) (b : Bool) → bit w j ≡ true → b ≡ P j → b ≡ passing j
  passes j b t q = q ∙ sym (ap (λ (x : Bool). x && P j) t)

  -- their word
  abbrev pub word_to : ℕ → ℕ
  word_to k = word 64 (up_to passing k)

  pub word_start : w < 2 ^ 64 → Swept word_to w w 0
  word_start h = swept_none word_to w 0 h (sym (up_to_none passing))

  pub word_on : (rest j acc rest' v : ℕ) (b : Bool) → Swept word_to w rest acc → 0 < rest → j ≡ least 64 (bit rest) 64 → rest' ≡ without_lowest rest
      → b ≡ P j → v ≡ cond b (with_bit acc j) acc → Swept word_to w rest' v
  word_on rest j acc rest' v b at l q e p r =
      swept_next word_to w rest j acc at l q rest' v e
      (collect passing j acc v b (swept_here word_to w rest j acc at l q (λ k f. up_to_skip passing k (fails k f))) (passes j b (swept_set word_to w rest j acc at l q) p) r)

  pub word_end : (rest acc : ℕ) → Swept word_to w rest acc → rest ≤ 0 → acc ≡ word 64 (λ i. bit w i && P i)
  word_end rest acc at z = swept_all word_to w rest acc at z (λ k f. up_to_skip passing k (fails k f)) ∙ up_to_all passing

  -- whether there is one, and the least
  abbrev pub some_to : ℕ → Bool
  some_to k = some k passing

  pub some_start : w < 2 ^ 64 → Swept some_to w w false
  some_start h = swept_none some_to w false h (sym (none_passes passing 0 (λ k l. absurd (not-suc-le-zero l))))

  pub some_on : (rest j rest' : ℕ) (b : Bool) → Swept some_to w rest false → 0 < rest → j ≡ least 64 (bit rest) 64 → rest' ≡ without_lowest rest
      → b ≡ P j → b ≡ false → Swept some_to w rest' false
  some_on rest j rest' b at l q e p f =
      swept_next some_to w rest j false at l q rest' false e
      (sym (scan_on passing j b (sym (swept_here some_to w rest j false at l q (λ k x. some_skip passing k (fails k x)))) (passes j b (swept_set some_to w rest j false at l q) p) f))

  pub some_met : (rest j d : ℕ) (b : Bool) → Swept some_to w rest false → 0 < rest → j ≡ least 64 (bit rest) 64 → b ≡ P j → b ≡ true
      → j ≡ least 64 (λ i. bit w i && P i) d
  some_met rest j d b at l q p t =
      sym (least_is passing 64 d j (swept_below some_to w rest j false at l q)
      (sym (swept_here some_to w rest j false at l q (λ k x. some_skip passing k (fails k x)))) (sym (passes j b (swept_set some_to w rest j false at l q) p) ∙ t))

  pub some_end : (rest d : ℕ) → Swept some_to w rest false → rest ≤ 0 → d ≡ least 64 (λ i. bit w i && P i) d
  some_end rest d at z = sym (least_none passing 64 d (sym (swept_all some_to w rest false at z (λ k x. some_skip passing k (fails k x)))))

  module _ (key : ℕ → ℕ) where
    -- the greatest of their keys
    abbrev pub most_to : ℕ → ℕ
    most_to k = greatest_key k passing key

    pub most_start : w < 2 ^ 64 → Swept most_to w w 0
    unfolding greatest_key
    most_start h = swept_none most_to w 0 h refl

    pub most_on : (rest j acc rest' v x : ℕ) (b : Bool) → Swept most_to w rest acc → 0 < rest → j ≡ least 64 (bit rest) 64 → rest' ≡ without_lowest rest
        → b ≡ P j → x ≡ key j → v ≡ cond (b && ltb acc x) x acc → Swept most_to w rest' v
    most_on rest j acc rest' v x b at l q e p i r =
        swept_next most_to w rest j acc at l q rest' v e
        (greatest_key_more passing key j acc v (swept_here most_to w rest j acc at l q (λ k f. greatest_key_skip passing key k (fails k f)))
        (r ∙ ap₂ (λ (c : Bool) (y : ℕ). cond (c && ltb acc y) y acc) (passes j b (swept_set most_to w rest j acc at l q) p) i))

    pub most_end : (rest acc : ℕ) → Swept most_to w rest acc → rest ≤ 0 → acc ≡ greatest_key 64 (λ i. bit w i && P i) key
    most_end rest acc at z = swept_all most_to w rest acc at z (λ k f. greatest_key_skip passing key k (fails k f))

    -- the word of their keys
    abbrev pub keys_to : ℕ → ℕ
    keys_to k = word 64 (keyed passing key k)

    pub keys_start : w < 2 ^ 64 → Swept keys_to w w 0
    keys_start h = swept_none keys_to w 0 h (sym (keyed_none passing key 64))

    pub keys_on : (rest j acc rest' v x : ℕ) (b : Bool) → Swept keys_to w rest acc → 0 < rest → j ≡ least 64 (bit rest) 64 → rest' ≡ without_lowest rest
        → b ≡ P j → x ≡ key j → v ≡ cond b (with_bit acc x) acc → Swept keys_to w rest' v
    keys_on rest j acc rest' v x b at l q e p i r =
        swept_next keys_to w rest j acc at l q rest' v e
        (keyed_collect passing key j acc v b (swept_here keys_to w rest j acc at l q (λ k f. sym (keyed_skip passing key 64 k (fails k f))))
        (passes j b (swept_set keys_to w rest j acc at l q) p) (r ∙ ap (λ (y : ℕ). cond b (with_bit acc y) acc) i))

    pub keys_end : (rest acc : ℕ) → Swept keys_to w rest acc → rest ≤ 0 → acc ≡ word 64 (λ p. some 64 (λ i. (bit w i && P i) && eqb (key i) p))
    keys_end rest acc at z = swept_all keys_to w rest acc at z (λ k f. sym (keyed_skip passing key 64 k (fails k f)))
