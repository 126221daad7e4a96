-- The laws of words and their bits: a word is fixed by its bits, and a word made from a test answers as the test does.
-- A caller cites these and opens neither `word`, `bit` nor `with_bit`.
use Prim.Native.Nat.{◌%◌, ◌*◌, ◌+◌, ◌/◌, ◌<◌, ◌^◌, suc, zero, zero-le, ℕ, ◌≤◌}
use mathlib.Core.Bool.{◌&&◌, Bool, cond, false, false≢true, not, or_comm, or-false, or-true, true, ◌||◌}
use mathlib.Core.Logic.{inl, inr, ◌⊎◌}
use mathlib.Core.Path.{ap, ap₂, refl, sym, ◌∙◌, ◌≡◌}
use native.Mathlib.Decide.{ℕ_discrete}
use native.Mathlib.Nat.{add-zero, div-eq_of_lt, div-eq_of_lt-le, div-one, le_of_suc-le-suc, lt_of_lt_of_le, lt_of_not-le, mod-eq_of_lt}
use native.Mathlib.Nat.{mod-lt, mod-one, not-suc-le-zero, one-mul, pow-suc, pow-succ', zero-add, zero-mul}
use native.Mathlib.Numerals.{add-one, one-add}
use native.Mathlib.Omega.{arith}
use lib.Bits.{and_block, bit_and, bit_or, bit_xor, or_block, xor_block}
use lib.Count.{leading_top, count_leading_zeros, ones, ones_cat, count_trailing_zeros, under}
use lib.Dec.{eqb, ltb}
use lib.Pow.{mod-pow-add, pow-lt, pow_mono, pow_pos, shr-shr}
use borrow.Author.Tests.{eq-eqb, eqb-true, le-ltb, lt-ltb, ltb-true, ne_eqb}
use Rattle.bits.specs.Below.{bit, count, greatest, least, some, word}
use Rattle.bits.specs.Word.{with_bit, without, without_lowest}
use Rattle.bits.proofs.Laws.Below.{count_same, greatest_none, greatest_same, last_or_below, least_found, least_same, none_passes, some_false}
use Rattle.bits.proofs.Laws.Bools.{and_false_right, and_left, by_cond, clash, either, eqb_swap, same_test}
use Rattle.bits.proofs.Laws.Most.{greatest_is}

-- a bit as a number
abbrev digit : Bool → ℕ
digit b = cond b 1 0

-- a word is its top bit and the word below it
word_split : (f : ℕ → Bool) (n : ℕ) → word (suc n) f ≡ digit (f n) * 2 ^ n + word n f
unfolding word
word_split f n = ap (λ (x : ℕ). x + word n f) (go (f n))
  where
    go : (b : Bool) → cond b (2 ^ n) 0 ≡ digit b * 2 ^ n
    go true = sym (one-mul (2 ^ n))
    go false = sym (zero-mul (2 ^ n))

-- a word of n bits is below 2 ^ n
pub word_lt : (f : ℕ → Bool) (n : ℕ) → word n f < 2 ^ n
unfolding word
word_lt f zero = omega arith
word_lt f (suc n) =
    let ih = word_lt f n in
    by_cond (λ x. x + word n f < 2 ^ suc n) (f n) (2 ^ n) 0 (λ _. rw pow-suc (omega arith)) (λ _. rw pow-suc (omega arith))

-- tests that agree below n make one word
pub word_same : (f h : ℕ → Bool) (n : ℕ) → ((k : ℕ) → k < n → f k ≡ h k) → word n f ≡ word n h
unfolding word
word_same f h zero q = refl
word_same f h (suc n) q =
    ap₂ (λ (b : Bool) (x : ℕ). cond b (2 ^ n) 0 + x) (q n (omega arith)) (word_same f h n (λ k l. q k (omega arith)))

-- a test that fails below n makes the word 0
pub word_none : (f : ℕ → Bool) (n : ℕ) → ((k : ℕ) → k < n → f k ≡ false) → word n f ≡ 0
unfolding word
word_none f zero q = refl
word_none f (suc n) q = rw (q n (omega arith), word_none f n (λ k l. q k (omega arith)))

-- a number that fails changes nothing
pub word_skip : (f : ℕ → Bool) (n : ℕ) → f n ≡ false → word (suc n) f ≡ word n f
unfolding word
word_skip f n e = rw (e, zero-add)

-- the word of a number's low bits is the number without the others
word_low : (w n : ℕ) → word n (bit w) ≡ w % 2 ^ n
unfolding word bit
word_low w zero = sym (mod-one w)
word_low w (suc n) =
    word_split (bit w) n ∙ ap₂ (λ (x y : ℕ). x * 2 ^ n + y) (odd (w / 2 ^ n % 2) (mod-lt (w / 2 ^ n) (omega arith))) (word_low w n)
    ∙ sym (mod-pow-add w 1 n) ∙ ap (λ (k : ℕ). w % 2 ^ k) (one-add n)
  where
    odd : (x : ℕ) → x < 2 → digit (eqb x 1) ≡ x
    odd zero l = refl
    odd (suc zero) l = refl
    odd (suc (suc x)) l = absurd (omega arith)

-- a number below 2 ^ n is the word of its bits
pub word_bits : (w n : ℕ) → w < 2 ^ n → word n (bit w) ≡ w
word_bits w n l = word_low w n ∙ mod-eq_of_lt l

-- tests that make one word agree below n
pub word_tells : (f h : ℕ → Bool) (n p : ℕ) → word n f ≡ word n h → p < n → f p ≡ h p
unfolding word
word_tells f h zero p e l = absurd (not-suc-le-zero l)
word_tells f h (suc n) p e l = go (top (f n) (h n) (word_lt f n) (word_lt h n) e) (word_tells f h n p) (last_or_below n p l)
  where
    top : (b c : Bool) {x y : ℕ} → x < 2 ^ n → y < 2 ^ n → cond b (2 ^ n) 0 + x ≡ cond c (2 ^ n) 0 + y → (b ≡ c) × (x ≡ y)
    top true true hx hy q = (refl, omega arith)
    top true false hx hy q = absurd (omega arith)
    top false true hx hy q = absurd (omega arith)
    top false false hx hy q = (refl, omega arith)

    go : (f n ≡ h n) × (word n f ≡ word n h) → (word n f ≡ word n h → p < n → f p ≡ h p) → (p ≡ n) ⊎ (p < n) → f p ≡ h p
    go t ih (inl q) = rw q t.0
    go t ih (inr m) = ih t.1 m

-- bit p of a test's word is the test at p
pub bit_word : (f : ℕ → Bool) (n p : ℕ) → p < n → bit (word n f) p ≡ f p
bit_word f n p = word_tells (bit (word n f)) f n p (word_bits (word n f) n (word_lt f n))

-- a number below 2 ^ n has no bit at n or above
pub bit_above : (w n p : ℕ) → w < 2 ^ n → n ≤ p → bit w p ≡ false
unfolding bit
bit_above w n p h l = rw (div-eq_of_lt (lt_of_lt_of_le h (pow_mono l)))

-- an operation that goes digit by digit makes, of two tests' words, the word of the joined test
module _ (op : ℕ → ℕ → ℕ) (join : Bool → Bool → Bool) (none : op 0 0 ≡ 0)
    (block : (k a b r s : ℕ) → r < 2 ^ k → s < 2 ^ k → op (a * 2 ^ k + r) (b * 2 ^ k + s) ≡ op a b * 2 ^ k + op r s)
    (digits : (b c : Bool) → op (digit b) (digit c) ≡ digit (join b c)) where
  op_words : (f h : ℕ → Bool) (n : ℕ) → op (word n f) (word n h) ≡ word n (λ q. join (f q) (h q))
  unfolding word
  op_words f h zero = none
  op_words f h (suc n) =
      ap₂ op (word_split f n) (word_split h n) ∙ block n (digit (f n)) (digit (h n)) (word n f) (word n h) (word_lt f n) (word_lt h n)
      ∙ ap₂ (λ (x y : ℕ). x * 2 ^ n + y) (digits (f n) (h n)) (op_words f h n) ∙ sym (word_split (λ q. join (f q) (h q)) n)

-- the `|` of two words
pub or_words : (f h : ℕ → Bool) (n : ℕ) → bit_or (word n f) (word n h) ≡ word n (λ q. f q || h q)
or_words = op_words bit_or ◌||◌ refl or_block digits
  where
    digits : (b c : Bool) → bit_or (digit b) (digit c) ≡ digit (b || c)
    digits true true = refl
    digits true false = refl
    digits false true = refl
    digits false false = refl

-- the `&` of two words
pub and_words : (f h : ℕ → Bool) (n : ℕ) → bit_and (word n f) (word n h) ≡ word n (λ q. f q && h q)
and_words = op_words bit_and ◌&&◌ refl and_block digits
  where
    digits : (b c : Bool) → bit_and (digit b) (digit c) ≡ digit (b && c)
    digits true true = refl
    digits true false = refl
    digits false true = refl
    digits false false = refl

-- the `^` of a word and its part
pub xor_words : (f h : ℕ → Bool) (n : ℕ) → bit_xor (word n f) (word n h) ≡ word n (λ q. cond (f q) (not (h q)) (h q))
xor_words = op_words bit_xor (λ b c. cond b (not c) c) refl xor_block digits
  where
    digits : (b c : Bool) → bit_xor (digit b) (digit c) ≡ digit (cond b (not c) c)
    digits true true = refl
    digits true false = refl
    digits false true = refl
    digits false false = refl

-- the bits of one word that another lacks, by `^` and `&`
pub without_xor : (v w : ℕ) → v < 2 ^ 64 → w < 2 ^ 64 → bit_xor v (bit_and v w) ≡ without v w
unfolding without
without_xor v w hv hw =
    ap₂ (λ (x y : ℕ). bit_xor x (bit_and x y)) (sym (word_bits v 64 hv)) (sym (word_bits w 64 hw))
    ∙ ap (bit_xor (word 64 (bit v))) (and_words (bit v) (bit w) 64) ∙ xor_words (bit v) (λ p. bit v p && bit w p) 64
    ∙ word_same _ (λ p. bit v p && not (bit w p)) 64 (λ p _. go (bit v p) (bit w p))
  where
    go : (b c : Bool) → cond b (not (b && c)) (b && c) ≡ (b && not c)
    go true c = refl
    go false c = refl

-- so of two tests' words the word of the numbers that pass the one and fail the other
pub without_word : (f h : ℕ → Bool) → without (word 64 f) (word 64 h) ≡ word 64 (λ p. f p && not (h p))
unfolding without
without_word f h =
    word_same (λ p. bit (word 64 f) p && not (bit (word 64 h) p)) (λ p. f p && not (h p)) 64
    (λ p l. ap₂ (λ (b c : Bool). b && not c) (bit_word f 64 p l) (bit_word h 64 p l))

-- the word of one bit
pub word_one : (n p : ℕ) → p < n → word n (λ q. eqb q p) ≡ 2 ^ p
unfolding word
word_one zero p l = absurd (not-suc-le-zero l)
word_one (suc n) p l = go (last_or_below n p l) (word_one n p)
  where
    go : (p ≡ n) ⊎ (p < n) → (p < n → word n (λ q. eqb q p) ≡ 2 ^ p) → cond (eqb n p) (2 ^ n) 0 + word n (λ q. eqb q p) ≡ 2 ^ p
    go (inl e) ih = rw (eq-eqb n p (sym e), word_none (λ q. eqb q p) n (λ q m. ne_eqb q p (omega arith)), e, add-zero)
    go (inr m) ih = rw (ne_eqb n p (omega arith), ih m, zero-add)

-- one more bit by `|`
pub or_word : (f : ℕ → Bool) (n p : ℕ) → p < n → bit_or (word n f) (2 ^ p) ≡ word n (λ q. f q || eqb q p)
or_word f n p l = ap (bit_or (word n f)) (sym (word_one n p l)) ∙ or_words f (λ q. eqb q p) n

-- for p below 64 the bit comes by `w | (1 << p)`
pub with_bit_or : (w p : ℕ) → w < 2 ^ 64 → p < 64 → bit_or w ((1 * 2 ^ p) % 2 ^ 64) ≡ with_bit w p
unfolding with_bit
with_bit_or w p h l = ap₂ bit_or (sym (word_bits w 64 h)) (rw one-mul (mod-eq_of_lt (pow-lt l))) ∙ or_word (bit w) 64 p l

-- for any other p the word is as it was
pub with_bit_above : (w p : ℕ) → w < 2 ^ 64 → 64 ≤ p → with_bit w p ≡ w
unfolding with_bit
with_bit_above w p h l =
    word_same (λ q. bit w q || eqb q p) (bit w) 64 (λ q m. rw (ne_eqb q p (omega arith)) (or-false (bit w q))) ∙ word_bits w 64 h

-- a test's word with bit p is the word of the test that passes at p too
pub with_bit_word : (f : ℕ → Bool) (p : ℕ) → with_bit (word 64 f) p ≡ word 64 (λ q. f q || eqb q p)
unfolding with_bit
with_bit_word f p =
    word_same (λ q. bit (word 64 f) q || eqb q p) (λ q. f q || eqb q p) 64 (λ q l. ap (λ (b : Bool). b || eqb q p) (bit_word f 64 q l))

-- the ones of a test's word are as many as pass
pub ones_word : (f : ℕ → Bool) (n : ℕ) → ones (word n f) ≡ count n f
unfolding word count ones
ones_word f zero = refl
ones_word f (suc n) =
    ap ones (word_split f n) ∙ ones_cat n (digit (f n)) (word n f) (word_lt f n) ∙ ap₂ (λ (a b : ℕ). a + b) (go (f n)) (ones_word f n)
  where
    go : (b : Bool) → ones (digit b) ≡ digit b
    go true = refl
    go false = refl

-- the ones of a number below 2 ^ n are as many as its set bits
pub ones_bits : (w n : ℕ) → w < 2 ^ n → ones w ≡ count n (bit w)
ones_bits w n l = ap ones (sym (word_bits w n l)) ∙ ones_word (bit w) n

-- a test's word has as many set bits as pass
pub count_bits : (f : ℕ → Bool) (n : ℕ) → count n (bit (word n f)) ≡ count n f
count_bits f n = count_same (bit (word n f)) f n (bit_word f n)

-- 0 has no highest bit
pub highest_none : (n d : ℕ) → greatest n (bit 0) d ≡ d
highest_none n d = greatest_none (bit 0) n d (none_passes (bit 0) n (λ k l. bit_above 0 0 k (omega arith) zero-le))

-- above the highest bit of another number stand its leading zeros
pub highest_some : (w n d : ℕ) → 0 < w → w < 2 ^ n → count_leading_zeros n w + suc (greatest n (bit w) d) ≡ n
unfolding bit
highest_some w n d h l =
    let t = leading_top n w h l in
    let j = t.0 in
    let one : w / 2 ^ j ≡ 1 = div-eq_of_lt-le (2 ^ j) (rw one-mul t.2) (rw pow-succ' at t.3) in
    rw (greatest_is (bit w) n d j (record {
      below = omega (arith, t.1);
      passes = rw one;
      tops = λ i m q. le_of_suc-le-suc (lt_of_not-le (λ (g : suc j ≤ i). clash q (bit_above w (suc j) i t.3 g)));
    })) t.1

-- the highest bit of a test's word is the greatest that passes
pub highest_word : (f : ℕ → Bool) (n d : ℕ) → greatest n (bit (word n f)) d ≡ greatest n f d
highest_word f n d = greatest_same (bit (word n f)) f n d (bit_word f n)

-- the least that passes, told from the first number on
least_first : (f : ℕ → Bool) (n d : ℕ) → least (suc n) f (suc d) ≡ cond (f 0) 0 (suc (least n (λ p. f (suc p)) d))
unfolding least
least_first f zero d = refl
least_first f (suc n) d = ap (λ (x : ℕ). least (suc n) f x) (go (f (suc n))) ∙ least_first f n (cond (f (suc n)) n d)
  where
    go : (b : Bool) → cond b (suc n) (suc d) ≡ suc (cond b n d)
    go true = refl
    go false = refl

half_bit : (w p : ℕ) → bit (w / 2) p ≡ bit w (suc p)
unfolding bit
half_bit w p = ap (λ (x : ℕ). eqb (x % 2) 1) (shr-shr w 1 p ∙ ap (λ (k : ℕ). w / 2 ^ k) (one-add p))

first_bit : (w : ℕ) → eqb (w % 2) 1 ≡ bit w 0
unfolding bit
first_bit w = ap (λ (x : ℕ). eqb (x % 2) 1) (sym (div-one w))

-- below the lowest bit of a number stand its trailing zeros
pub lowest_bit : (w n : ℕ) → count_trailing_zeros n w ≡ least n (bit w) n
unfolding count_trailing_zeros least
lowest_bit w zero = refl
lowest_bit w (suc n) =
    ap (under (w % 2)) (lowest_bit (w / 2) n ∙ least_same (bit (w / 2)) (λ p. bit w (suc p)) n n (λ p _. half_bit w p))
    ∙ first (w % 2) (least n (λ p. bit w (suc p)) n) (mod-lt w (omega arith))
    ∙ ap (λ (b : Bool). cond b 0 (suc (least n (λ p. bit w (suc p)) n))) (first_bit w) ∙ sym (least_first (bit w) n n)
  where
    first : (d t : ℕ) → d < 2 → under d t ≡ cond (eqb d 1) 0 (suc t)
    first zero t l = refl
    first (suc zero) t l = refl
    first (suc (suc d)) t l = absurd (omega arith)

-- a word that is not 0 has a lowest bit
pub lowest_set : (w : ℕ) → w < 2 ^ 64 → 0 < w → (least 64 (bit w) 64 < 64) × (bit w (least 64 (bit w) 64) ≡ true)
lowest_set w h l = least_found (bit w) 64 64 (go (either (some 64 (bit w))))
  where
    go : (some 64 (bit w) ≡ true) ⊎ (some 64 (bit w) ≡ false) → some 64 (bit w) ≡ true
    go (inl s) = s
    go (inr s) = absurd (omega (arith, word_bits w 64 h, word_none (bit w) 64 (λ k m. some_false (bit w) 64 k m s)))

-- without it the word comes by `w ^ (1 << lowest)`
pub without_lowest_xor : (w : ℕ) → w < 2 ^ 64 → 0 < w → bit_xor w ((1 * 2 ^ least 64 (bit w) 64) % 2 ^ 64) ≡ without_lowest w
unfolding without_lowest
without_lowest_xor w h l =
    let s = lowest_set w h l in
    ap₂ bit_xor (sym (word_bits w 64 h)) (rw one-mul (mod-eq_of_lt (pow-lt s.0)) ∙ sym (word_one 64 (least 64 (bit w) 64) s.0))
    ∙ xor_words (bit w) (λ q. eqb q (least 64 (bit w) 64)) 64
    ∙ word_same _ (λ p. bit w p && not (eqb p (least 64 (bit w) 64))) 64
    (λ p _. go (bit w p) (eqb p (least 64 (bit w) 64)) (λ t. ap (bit w) (eqb-true p (least 64 (bit w) 64) t) ∙ s.1))
  where
    go : (b e : Bool) → (e ≡ true → b ≡ true) → cond b (not e) e ≡ (b && not e)
    go true e k = refl
    go false true k = absurd (false≢true (k refl))
    go false false k = refl

pub without_lowest_none : without_lowest 0 ≡ 0
unfolding without_lowest
without_lowest_none =
    word_none (λ p. bit 0 p && not (eqb p (least 64 (bit 0) 64))) 64
    (λ p _. ap (λ (b : Bool). b && not (eqb p (least 64 (bit 0) 64))) (bit_above 0 0 p (omega arith) zero-le))

-- where the one test passes the other does: its word is no greater, and less where the other passes once more
module _ (f h : ℕ → Bool) where
  word_most : (n : ℕ) → ((k : ℕ) → k < n → f k ≡ true → h k ≡ true) → word n f ≤ word n h
  unfolding word
  word_most zero s = omega arith
  word_most (suc n) s = go (f n) (h n) (s n (omega arith)) (word_most n (λ k l. s k (omega arith)))
    where
      go : (b c : Bool) → (b ≡ true → c ≡ true) → word n f ≤ word n h → cond b (2 ^ n) 0 + word n f ≤ cond c (2 ^ n) 0 + word n h
      go true c k m = rw (k refl) (omega arith)
      go false true k m = omega arith
      go false false k m = omega arith

  pub word_less : (n p : ℕ) → p < n → f p ≡ false → h p ≡ true → ((k : ℕ) → k < n → f k ≡ true → h k ≡ true) → word n f < word n h
  unfolding word
  word_less zero p l a b s = absurd (not-suc-le-zero l)
  word_less (suc n) p l a b s = go (last_or_below n p l) (λ m. word_less n p m a b (λ k i. s k (omega arith)))
    where
      on : (b c : Bool) → (b ≡ true → c ≡ true) → word n f < word n h → cond b (2 ^ n) 0 + word n f < cond c (2 ^ n) 0 + word n h
      on true c k m = rw (k refl) (omega arith)
      on false true k m = omega arith
      on false false k m = omega arith

      go : (p ≡ n) ⊎ (p < n) → (p < n → word n f < word n h) → cond (f n) (2 ^ n) 0 + word n f < cond (h n) (2 ^ n) 0 + word n h
      go (inl e) ih = rw (ap f (sym e) ∙ a, ap h (sym e) ∙ b) (omega (arith, word_most n (λ k i. s k (omega arith)), pow_pos n))
      go (inr m) ih = on (f n) (h n) (s n (omega arith)) (ih m)

-- so the word without its lowest bit is less: by this a loop over the set bits ends
pub without_lowest_less : (w : ℕ) → w < 2 ^ 64 → 0 < w → without_lowest w < w
unfolding without_lowest
without_lowest_less w h l =
    let s = lowest_set w h l in
    let e = word_bits w 64 h in
    let m = word_less (λ p. bit w p && not (eqb p (least 64 (bit w) 64))) (bit w) 64 (least 64 (bit w) 64) s.0
    (and_false_right (bit w (least 64 (bit w) 64)) (ap not (eq-eqb (least 64 (bit w) 64) (least 64 (bit w) 64) refl))) s.1
    (λ k _ t. and_left (bit w k) (not (eqb k (least 64 (bit w) 64))) t) in
    omega arith

-- the word that a loop over numbered things collects: thing k, where it is ok, sets the bit that is its key
module _ (ok : ℕ → Bool) (key : ℕ → ℕ) where
  -- some thing below i is ok and has the key p
  abbrev pub keyed : ℕ → ℕ → Bool
  keyed i p = some i (λ k. ok k && eqb (key k) p)

  -- before the first thing the word is 0
  pub keyed_none : (n : ℕ) → word n (keyed 0) ≡ 0
  unfolding some
  keyed_none n = word_none (keyed 0) n (λ p l. refl)

  keyed_next : (n i : ℕ) → ok i ≡ true → word n (λ p. keyed i p || eqb p (key i)) ≡ word n (keyed (suc i))
  unfolding some
  keyed_next n i e =
      word_same (λ p. keyed i p || eqb p (key i)) (keyed (suc i)) n
      (λ p _. rw e (or_comm (keyed i p) (eqb p (key i)) ∙ ap (λ (b : Bool). b || keyed i p) (eqb_swap p (key i))))

  -- a thing that is ok sets its bit, whatever its key
  pub keyed_with : (i : ℕ) → ok i ≡ true → with_bit (word 64 (keyed i)) (key i) ≡ word 64 (keyed (suc i))
  keyed_with i e = with_bit_word (keyed i) (key i) ∙ keyed_next 64 i e

  -- another leaves the word as it is
  pub keyed_skip : (n i : ℕ) → ok i ≡ false → word n (keyed i) ≡ word n (keyed (suc i))
  unfolding some
  keyed_skip n i e = word_same (keyed i) (keyed (suc i)) n (λ p _. rw e)

  -- both as a loop meets them: w holds the keys below j, b tells whether j is ok, v is w with j's key where b says so
  pub keyed_collect : (j w v : ℕ) (b : Bool) → w ≡ word 64 (keyed j) → b ≡ ok j → v ≡ cond b (with_bit w (key j)) w → v ≡ word 64 (keyed (j + 1))
  keyed_collect j w v b p q r =
      rw (add-one, r, q, p)
      (by_cond (λ x. x ≡ word 64 (keyed (suc j))) (ok j) (with_bit (word 64 (keyed j)) (key j)) (word 64 (keyed j)) (keyed_with j) (keyed_skip 64 j))

-- below i and below suc i differ at i alone
ltb_suc : (q i : ℕ) → (q ≡ i → ⊥) → ltb q i ≡ ltb q (suc i)
ltb_suc q i n =
    same_test (ltb q i) (ltb q (suc i)) (λ e. lt-ltb q (suc i) (omega (arith, ltb-true q i e)))
    (λ e. lt-ltb q i (omega (arith, ltb-true q (suc i) e)))

-- the numbers below i that pass, as an upward loop has collected them in a word
module _ (f : ℕ → Bool) where
  abbrev pub up_to : ℕ → ℕ → Bool
  up_to i p = ltb p i && f p

  -- before the first the word is 0
  pub up_to_none : word 64 (up_to 0) ≡ 0
  up_to_none = word_none (up_to 0) 64 (λ p l. ap (λ (b : Bool). b && f p) (le-ltb p 0 (omega arith)))

  -- i joins where it passes
  pub up_to_next : (i : ℕ) → cond (f i) (with_bit (word 64 (up_to i)) i) (word 64 (up_to i)) ≡ word 64 (up_to (suc i))
  up_to_next i =
      by_cond (λ x. x ≡ word 64 (up_to (suc i))) (f i) (with_bit (word 64 (up_to i)) i) (word 64 (up_to i))
      (λ e. with_bit_word (up_to i) i ∙ word_same (λ q. up_to i q || eqb q i) (up_to (suc i)) 64 (λ q _. joins e q (ℕ_discrete q i)))
      (λ e. word_same (up_to i) (up_to (suc i)) 64 (λ q _. stays e q (ℕ_discrete q i)))
    where
      joins : f i ≡ true → (q : ℕ) → Dec (q ≡ i) → (up_to i q || eqb q i) ≡ up_to (suc i) q
      joins e q (yes z) = rw (z, eq-eqb i i refl, lt-ltb i (suc i) (omega arith), e) (or-true (ltb i i && true))
      joins e q (no n) = rw (ne_eqb q i n, ltb_suc q i n) (or-false (ltb q (suc i) && f q))

      stays : f i ≡ false → (q : ℕ) → Dec (q ≡ i) → up_to i q ≡ up_to (suc i) q
      stays e q (yes z) = rw (z, e) (and_false_right (ltb i i) refl ∙ sym (and_false_right (ltb i (suc i)) refl))
      stays e q (no n) = ap (λ (b : Bool). b && f q) (ltb_suc q i n)

  -- where i fails the word stays
  pub up_to_skip : (i : ℕ) → f i ≡ false → word 64 (up_to (suc i)) ≡ word 64 (up_to i)
  up_to_skip i e = sym (up_to_next i) ∙ ap (λ (b : Bool). cond b (with_bit (word 64 (up_to i)) i) (word 64 (up_to i))) e

  -- up to 64 it has them all
  pub up_to_all : word 64 (up_to 64) ≡ word 64 f
  up_to_all = word_same (up_to 64) f 64 (λ p l. ap (λ (b : Bool). b && f p) (lt-ltb p 64 l))

  -- the same as a loop meets it: w is collected up to j, b tells whether j passes, v is w with j where b says so
  pub collect : (j w v : ℕ) (b : Bool) → w ≡ word 64 (up_to j) → b ≡ f j → v ≡ cond b (with_bit w j) w → v ≡ word 64 (up_to (j + 1))
  collect j w v b p q r = rw (add-one, r, q, p) (up_to_next j)
