-- Laws of numbers as bytes, in any width: what the bytes of a number are, how numbers are written one behind another, and how they are read
-- back.
use Prim.Native.Nat.{ℕ, zero, suc, ◌+◌, ◌*◌, ◌/◌, ◌%◌, ◌<◌, ◌≤◌}
use mathlib.Core.List.{List, [], ◌∷◌, ◌++◌, append_assoc, append-nil}
use mathlib.Core.Path.{ap, ap₂, refl, sym, ◌∙◌, ◌≡◌}
use native.Mathlib.Nat.{div-add-mod, mul_comm, mul-div_cancel, mul-le-mul_right, not-suc-le-zero, suc-mul}
use native.Mathlib.Numerals.{add-one}
use native.Mathlib.Omega.{arith}
use lib.Dec.{leb}
use lib.ListN.{drop, get_or, length, length-append, take, get_or-append, get_or-eq_default}
use lib.Seq.{drop-cons, drop-drop, get_or-append-add, length-sets, length-take-le, sets, sets-eq, take-add, take_all, take-suc}
use Rattle.std.proofs.lemmas.Grind.{common_steps}
use borrow.Rule.Slice.PartMut.{put_mid}
use borrow.Author.Tests.{le-leb, lt-leb}
use Rattle.bits.specs.Below.{list_from}
use Rattle.bits.proofs.Laws.Bools.{by_cond}
use Rattle.bits.proofs.Laws.Below.{get_or_list, length_list_from, list_same}
use Rattle.bits.proofs.Laws.Lists.{list_of, sets_sets, take_sets}
use Rattle.tables.specs.Bytes.{bytes_of, number_at, number_bytes, numbers_in, put_at}

-- ## Two bytes, and four

pub number2 : (bytes : List ℕ) (at : ℕ) → number_at 2 bytes at ≡ get_or bytes at 0 + get_or bytes (at + 1) 0 * 256
unfolding number_at
number2 bytes at = rw add-one (omega arith)

pub number4 : (l : List ℕ) (at : ℕ)
    → number_at 4 l at ≡ get_or l at 0 + get_or l (at + 1) 0 * 256 + get_or l (at + 2) 0 * 65536 + get_or l (at + 3) 0 * 16777216
unfolding number_at
number4 l at =
    let one : at + 1 ≡ suc at = omega arith in
    let two : at + 2 ≡ suc (suc at) = omega arith in
    let three : at + 3 ≡ suc (suc (suc at)) = omega arith in
    rw (one, two, three) (omega arith)

pub bytes2 : (x : ℕ) → number_bytes 2 x ≡ x % 256 ∷ x / 256 ∷ []
unfolding number_bytes
bytes2 x = refl

pub bytes4 : (x : ℕ) → number_bytes 4 x ≡ x % 256 ∷ x / 256 % 256 ∷ x / 65536 % 256 ∷ x / 16777216 ∷ []
unfolding number_bytes
bytes4 x =
    let third : x / 256 / 256 ≡ x / 65536 = omega arith in
    let fourth : x / 256 / 256 / 256 ≡ x / 16777216 = omega arith in
    rw (fourth, third)

-- ## Read

-- a number of bytes that are the same is the same
pub number_same : (w : ℕ) (f g : List ℕ) (n at : ℕ) → ((i : ℕ) → i < n → get_or f i 0 ≡ get_or g i 0) → at + w ≤ n → number_at w f at ≡ number_at w g at
unfolding number_at
number_same zero f g n at same h = refl
number_same (suc w) f g n at same h = ap₂ (λ (a b : ℕ). a + b * 256) (same at (omega arith)) (number_same w f g n (suc at) same (omega arith))

pub number_past : (w : ℕ) (l : List ℕ) (at : ℕ) → length l ≤ at → 0 ≡ number_at w l at
unfolding number_at
number_past zero l at h = refl
number_past (suc w) l at h = omega (arith, get_or-eq_default l 0 h, number_past w l (suc at) (omega arith))

number_behind : (w : ℕ) (xs ys : List ℕ) (at : ℕ) → number_at w (xs ++ ys) (length xs + at) ≡ number_at w ys at
unfolding number_at
number_behind zero xs ys at = refl
number_behind (suc w) xs ys at =
    let next : suc (length xs + at) ≡ length xs + suc at = omega arith in
    ap₂ (λ (a b : ℕ). a + b * 256) (get_or-append-add xs ys at 0) (ap (number_at w (xs ++ ys)) next ∙ number_behind w xs ys (suc at))

number_before : (w : ℕ) (xs ys : List ℕ) (at : ℕ) → at + w ≤ length xs → number_at w (xs ++ ys) at ≡ number_at w xs at
number_before w xs ys at h = number_same w (xs ++ ys) xs (length xs) at (λ i l. get_or-append xs ys 0 i l) h

pub length_numbers : (w : ℕ) (bytes : List ℕ) → length (numbers_in w bytes) ≡ length bytes / w
unfolding numbers_in
length_numbers w bytes = length_list_from 0 (length bytes / w) _

pub numbers_at : (w : ℕ) (bytes : List ℕ) (i : ℕ) → i < length bytes / w → get_or (numbers_in w bytes) i 0 ≡ number_at w bytes (i * w)
unfolding numbers_in
numbers_at w bytes i h = get_or_list (length bytes / w) (λ k. number_at w bytes (k * w)) i 0 h

pub numbers_past : (w : ℕ) (bytes : List ℕ) (i : ℕ) → length bytes / w ≤ i → get_or (numbers_in w bytes) i 0 ≡ 0
numbers_past w bytes i h = get_or-eq_default (numbers_in w bytes) 0 (rw (length_numbers w bytes) h)

-- ## Written one behind another

length_number : (w x : ℕ) → length (number_bytes w x) ≡ w
unfolding number_bytes
length_number zero x = refl
length_number (suc zero) x = refl
length_number (suc (suc w)) x = ap suc (length_number (suc w) (x / 256))

pub length_bytes : (w : ℕ) (xs : List ℕ) → length (bytes_of w xs) ≡ length xs * w
unfolding bytes_of
length_bytes w [] = omega arith
length_bytes w (x ∷ xs) = omega (arith, length-append (number_bytes w x) (bytes_of w xs), length_number w x, length_bytes w xs, suc-mul (length xs) w)

pub bytes_append : (w : ℕ) (xs ys : List ℕ) → bytes_of w (xs ++ ys) ≡ bytes_of w xs ++ bytes_of w ys
unfolding bytes_of
bytes_append w [] ys = refl
bytes_append w (x ∷ xs) ys =
    ap (λ (l : List ℕ). number_bytes w x ++ l) (bytes_append w xs ys) ∙ sym (append_assoc (number_bytes w x) (bytes_of w xs) (bytes_of w ys))

-- numbers behind numbers
pub put_behind : (w : ℕ) (l xs ys : List ℕ) (at : ℕ) → sets (sets l at (bytes_of w xs)) (at + length xs * w) (bytes_of w ys) ≡ sets l at (bytes_of w (xs ++ ys))
put_behind w l xs ys at =
    ap (λ (n : ℕ). sets (sets l at (bytes_of w xs)) (at + n) (bytes_of w ys)) (sym (length_bytes w xs))
    ∙ sets_sets (bytes_of w xs) (bytes_of w ys) l at ∙ ap (sets l at) (sym (bytes_append w xs ys))

-- a number alone
one_number : (w x : ℕ) → bytes_of w (x ∷ []) ≡ number_bytes w x
unfolding bytes_of
one_number w x = append-nil (number_bytes w x)

pub put_fits : (w : ℕ) (l : List ℕ) (at x : ℕ) → at + w ≤ length l → put_at w l at x ≡ sets l at (number_bytes w x)
unfolding put_at
put_fits w l at x h = rw (le-leb (at + w) (length l) h)

-- what is copied over a part stands there
pub middle_put : (l vs : List ℕ) (at k : ℕ) → k ≡ length vs → at + k ≤ length l → put_mid at k l vs ≡ sets l at vs
middle_put l vs at k e h = grind (arith, common_steps, sets-eq)

pub put_past : (w : ℕ) (l : List ℕ) (at x : ℕ) → length l < at + w → l ≡ put_at w l at x
unfolding put_at
put_past w l at x h = rw (lt-leb (at + w) (length l) h)

pub length_put : (w : ℕ) (l : List ℕ) (at x : ℕ) → length (put_at w l at x) ≡ length l
unfolding put_at
length_put w l at x =
    by_cond (λ (m : List ℕ). length m ≡ length l) (leb (at + w) (length l)) (sets l at (number_bytes w x)) l (λ _. length-sets l at (number_bytes w x)) (λ _. refl)

-- two stores are a number, and four
pub put_none : (w : ℕ) (l xs : List ℕ) (at : ℕ) → l ≡ sets l at (bytes_of w (take 0 xs))
unfolding bytes_of
put_none w l xs at = refl

-- one number more is written
pub put_more : (w : ℕ) (l xs : List ℕ) (at i : ℕ) {middle after : List ℕ} → i < length xs → at + i * w + w ≤ length l → middle ≡ sets l at (bytes_of w (take i xs))
    → after ≡ put_at w middle (at + i * w) (get_or xs i 0) → after ≡ sets l at (bytes_of w (take (i + 1) xs))
put_more w l xs at i {middle} h room so_far next =
    let x = get_or xs i 0 in
    let size : length (take i xs) ≡ i = length-take-le i xs (omega arith) in
    let last : take (i + 1) xs ≡ take i xs ++ (x ∷ []) = rw add-one (take-suc xs i 0 h) in
    next ∙ put_fits w middle (at + i * w) x (omega (arith, ap length so_far, length-sets l at (bytes_of w (take i xs))))
    ∙ ap₂ (λ (f : List ℕ) (b : List ℕ). sets f (at + i * w) b) so_far (sym (one_number w x))
    ∙ ap (λ (n : ℕ). sets (sets l at (bytes_of w (take i xs))) (at + n * w) (bytes_of w (x ∷ []))) (sym size)
    ∙ put_behind w l (take i xs) (x ∷ []) at ∙ ap (λ (ys : List ℕ). sets l at (bytes_of w ys)) (sym last)

-- all are written
pub put_all : (w : ℕ) (l xs : List ℕ) (at i : ℕ) {after : List ℕ} → length xs ≤ i → after ≡ sets l at (bytes_of w (take i xs)) → after ≡ sets l at (bytes_of w xs)
put_all w l xs at i h so_far = so_far ∙ ap (λ (ys : List ℕ). sets l at (bytes_of w ys)) (take_all i xs h)

-- one number more is written behind the front that is there
pub front_more : (w : ℕ) (l xs : List ℕ) (i x : ℕ) → i * w + w ≤ length l → take (i * w) l ≡ bytes_of w xs
    → take ((i + 1) * w) (put_at w l (i * w) x) ≡ bytes_of w (xs ++ (x ∷ []))
front_more w l xs i x h front =
    let size = length_number w x in
    let next : (i + 1) * w ≡ i * w + length (number_bytes w x) = rw (add-one, suc-mul) (omega (arith, size)) in
    ap₂ (λ (n : ℕ) (f : List ℕ). take n f) next (put_fits w l (i * w) x h)
    ∙ take_sets (number_bytes w x) l (i * w) (omega (arith, size))
    ∙ ap₂ (λ (a b : List ℕ). a ++ b) front (sym (one_number w x)) ∙ sym (bytes_append w xs (x ∷ []))

-- ## Read back

number_front : (w x : ℕ) (ys : List ℕ) → 0 < w → number_at w (number_bytes w x ++ ys) 0 ≡ x
unfolding number_at number_bytes
number_front zero x ys h = absurd (not-suc-le-zero h)
number_front (suc zero) x ys h = omega arith
number_front (suc (suc w)) x ys h =
    omega (
      arith,
      number_behind (suc w) (x % 256 ∷ []) (number_bytes (suc w) (x / 256) ++ ys) 0,
      number_front (suc w) (x / 256) ys (omega arith),
    )

number_of_bytes : (w : ℕ) (xs : List ℕ) (i : ℕ) → 0 < w → i < length xs → number_at w (bytes_of w xs) (i * w) ≡ get_or xs i 0
unfolding bytes_of
number_of_bytes w [] i pos h = absurd (not-suc-le-zero h)
number_of_bytes w (x ∷ xs) zero pos h = ap (number_at w (number_bytes w x ++ bytes_of w xs)) (omega arith) ∙ number_front w x (bytes_of w xs) pos
number_of_bytes w (x ∷ xs) (suc i) pos h =
    let next : suc i * w ≡ length (number_bytes w x) + i * w = suc-mul i w ∙ omega (arith, length_number w x) in
    ap (number_at w (number_bytes w x ++ bytes_of w xs)) next ∙ number_behind w (number_bytes w x) (bytes_of w xs) (i * w)
    ∙ number_of_bytes w xs i pos (omega arith)

-- numbers written as bytes are the numbers that the bytes spell
pub numbers_back : (w : ℕ) (xs : List ℕ) → 0 < w → numbers_in w (bytes_of w xs) ≡ xs
unfolding numbers_in
numbers_back w xs pos =
    let count : length (bytes_of w xs) / w ≡ length xs = ap (λ (n : ℕ). n / w) (length_bytes w xs) ∙ mul-div_cancel (length xs) pos in
    ap (λ (n : ℕ). list_from 0 n (λ i. number_at w (bytes_of w xs) (i * w))) count
    ∙ list_same (length xs) (λ i. number_at w (bytes_of w xs) (i * w)) (λ i. get_or xs i 0) (λ k l. number_of_bytes w xs k pos l) ∙ list_of xs

-- what was written as a number is read as that number
pub read_back : (w : ℕ) (l xs : List ℕ) (at i : ℕ) → 0 < w → i < length xs → at + length xs * w ≤ length l
    → number_at w (sets l at (bytes_of w xs)) (at + i * w) ≡ get_or xs i 0
read_back w l xs at i pos h room =
    let bytes = bytes_of w xs in
    let front : length (take at l) ≡ at = length-take-le at l (omega arith) in
    let rest = bytes ++ drop (at + length bytes) l in
    let inside : i * w + w ≤ length bytes = omega (arith, length_bytes w xs, suc-mul i w, mul-le-mul_right w h) in
    ap (λ (f : List ℕ). number_at w f (at + i * w)) (sets-eq bytes l at (omega (arith, length_bytes w xs)) ∙ append_assoc (take at l) bytes (drop (at + length bytes) l))
    ∙ ap (λ (n : ℕ). number_at w (take at l ++ rest) (n + i * w)) (sym front)
    ∙ number_behind w (take at l) rest (i * w)
    ∙ number_before w bytes (drop (at + length bytes) l) (i * w) inside
    ∙ number_of_bytes w xs i pos h

-- the bytes of a number that was read are those that were read, where each is one
number_bytes_law : (w : ℕ) (l : List ℕ) (at : ℕ) → ((i : ℕ) → get_or l i 0 < 256) → at + w ≤ length l → number_bytes w (number_at w l at) ≡ take w (drop at l)
unfolding number_at number_bytes
number_bytes_law zero l at small h = refl
number_bytes_law (suc zero) l at small h =
    let one : get_or l at 0 + 0 * 256 ≡ get_or l at 0 = omega arith in
    rw (drop-cons l at 0 (omega arith)) (ap (λ (x : ℕ). x ∷ []) one)
number_bytes_law (suc (suc w)) l at small h =
    let first = small at in
    let rest = number_at (suc w) l (suc at) in
    let low : (get_or l at 0 + rest * 256) % 256 ≡ get_or l at 0 = omega arith in
    let high : (get_or l at 0 + rest * 256) / 256 ≡ rest = omega arith in
    rw (drop-cons l at 0 (omega arith))
    (ap₂ (λ (x : ℕ) (xs : List ℕ). x ∷ xs) low (ap (number_bytes (suc w)) high ∙ number_bytes_law (suc w) l (suc at) small (omega arith)))

-- the numbers that bytes spell are those bytes again, where each is one and they make whole numbers
pub bytes_back : (w : ℕ) (l : List ℕ) → ((i : ℕ) → get_or l i 0 < 256) → length l % w ≡ 0 → bytes_of w (numbers_in w l) ≡ l
unfolding numbers_in bytes_of list_from
bytes_back w l small none_left =
    let whole : length l / w * w ≡ length l = omega (arith, mul_comm w (length l / w), div-add-mod (length l) w) in
    from 0 (length l / w) (omega arith) ∙ ap₂ (λ (n : ℕ) (k : ℕ). take n (drop k l)) whole (let e : 0 * w ≡ 0 = omega arith in e) ∙ take_all (length l) l (omega arith)
  where
    from : (i n : ℕ) → i * w + n * w ≤ length l → bytes_of w (list_from i n (λ k. number_at w l (k * w))) ≡ take (n * w) (drop (i * w) l)
    from i zero h = ap (λ (n : ℕ). take n (drop (i * w) l)) (let e : 0 ≡ 0 * w = omega arith in e)
    from i (suc n) h =
        let here = suc-mul i w in
        let more : w + n * w ≡ suc n * w = omega (arith, suc-mul n w) in
        ap₂ (λ (a b : List ℕ). a ++ b) (number_bytes_law w l (i * w) small (omega (arith, more))) (from (suc i) n (omega (arith, here, more)))
        ∙ ap (λ (k : List ℕ). take w (drop (i * w) l) ++ take (n * w) k) (ap (λ (k : ℕ). drop k l) here ∙ sym (drop-drop w (i * w) l))
        ∙ sym (take-add w (n * w) (drop (i * w) l)) ∙ ap (λ (k : ℕ). take k (drop (i * w) l)) more
