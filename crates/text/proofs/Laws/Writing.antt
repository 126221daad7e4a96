-- Laws of writing: how many digits there are, and that they are written from the last to the first.
use Prim.Native.Nat.{◌%◌, ◌+◌, ◌-◌, ◌*◌, ◌/◌, ◌<◌, ◌^◌, suc, ℕ, ◌≤◌, zero}
use mathlib.Core.Bool.{Bool, cond, false, true}
use mathlib.Core.List.{◌++◌, List, [], append_assoc, append-nil, ◌∷◌}
use mathlib.Core.Path.{ap, refl, subst, sym, ◌∙◌, ◌≡◌}
use native.Mathlib.Nat.{pow-suc}
use native.Mathlib.Omega.{arith}
use lib.Dec.{ltb}
use lib.ListN.{drop, drop_of_length-le, length, length-append, length-drop, length-set, set, take}
use lib.Seq.{take_all}
use borrow.Author.Tests.{le-ltb, lt-ltb, ltb-false, ltb-true}
use Rattle.text.specs.Decimal.{decimal, digits, size}

pub size_one : (n x : ℕ) → x < 10 → size (suc n) x ≡ 1
unfolding size
size_one n x h = rw (lt-ltb _ _ h)

pub size_more : (n x : ℕ) → 10 ≤ x → size (suc n) x ≡ suc (size n (x / 10))
unfolding size
size_more n x h = rw (le-ltb _ _ h)

pub length_digits : (n x : ℕ) → length (digits n x) ≡ n
unfolding digits
length_digits zero x = refl
length_digits (suc n) x = simp length-append (omega (arith, length_digits n (x / 10)))

pub size_most : (n x : ℕ) → size n x ≤ n
unfolding size
size_most zero x = omega arith
size_most (suc n) x = by_test (ltb x 10) (size_most n (x / 10))
  where
    by_test : (b : Bool) → size n (x / 10) ≤ n → cond b 1 (suc (size n (x / 10))) ≤ suc n
    by_test true h = omega arith
    by_test false h = omega arith

pub size_some : (n x : ℕ) → 1 ≤ size (suc n) x
unfolding size
size_some n x = by_test (ltb x 10)
  where
    by_test : (b : Bool) → 1 ≤ cond b 1 (suc (size n (x / 10)))
    by_test true = omega arith
    by_test false = omega arith

pub decimal_length : (x : ℕ) → length (decimal x) ≤ 10
unfolding decimal
decimal_length x = omega (arith, length_digits (size 10 x) x, size_most 10 x)

-- a number has no more digits than its size, and a size no greater than its bound
pub record Sizes (n m x : ℕ) : Type 0 where
  pub most : size n x ≤ m
  pub enough : x < 10 ^ size n x

sizes_one : (n m x : ℕ) → x < 10 → Sizes (suc n) (suc m) x
sizes_one n m x t =
    let e = size_one n x t in
    let q : 10 ^ size (suc n) x ≡ 10 ^ 1 = ap (λ (k : ℕ). 10 ^ k) e in
    record { most = omega arith; enough = omega arith }

sizes_more : (n m x : ℕ) → 10 ≤ x → Sizes n m (x / 10) → Sizes (suc n) (suc m) x
sizes_more n m x t s =
    let e = size_more n x t in
    let q : 10 ^ size (suc n) x ≡ 10 ^ size n (x / 10) * 10 = ap (λ (k : ℕ). 10 ^ k) e ∙ pow-suc 10 _ in
    let w = s.enough in
    record { most = omega (arith, s.most); enough = omega arith }

pub sizes : (n m x : ℕ) → x < 10 ^ suc m → m ≤ n → Sizes (suc n) (suc m) x
sizes n zero x h l = sizes_one n zero x h
sizes zero (suc m) x h l = absurd (omega arith)
sizes (suc n) (suc m) x h l =
    let p : x < 10 ^ suc m * 10 = rw pow-suc at h in
    by_test (ltb x 10) refl (sizes n m (x / 10) (omega arith) (omega arith))
  where
    by_test : (b : Bool) → ltb x 10 ≡ b → Sizes (suc n) (suc m) (x / 10) → Sizes (suc (suc n)) (suc (suc m)) x
    by_test true e s = sizes_one (suc n) (suc m) x (ltb-true _ _ e)
    by_test false e s = sizes_more (suc n) (suc m) x (ltb-false _ _ e) s

pub decimal_few : (m x : ℕ) → m ≤ 9 → x < 10 ^ suc m → length (decimal x) ≤ suc m
unfolding decimal
decimal_few m x few h = omega (arith, length_digits (size 10 x) x, (sizes 9 m x h few).most)

-- the last digit apart
last_apart : (n x : ℕ) (ds : List ℕ) → digits (size (suc n) x) x ++ ds ≡ digits (size (suc n) x - 1) (x / 10) ++ ((48 + x % 10) ∷ ds)
unfolding digits
last_apart n x ds =
    let e : size (suc n) x ≡ suc (size (suc n) x - 1) = omega (arith, size_some n x) in
    ap (λ (k : ℕ). digits k x ++ ds) e ∙ append_assoc (digits (size (suc n) x - 1) (x / 10)) ((48 + x % 10) ∷ []) ds

drop_set : (l : List ℕ) (i b : ℕ) → i < length l → drop i (set l i b) ≡ b ∷ drop (suc i) l
drop_set [] i b h = absurd (omega arith)
drop_set (x ∷ l) zero b h = refl
drop_set (x ∷ l) (suc i) b h = drop_set l i b (omega arith)

-- what is known when the last digit of `rest` stands at i: those behind it stand, too
pub record Ending (x : ℕ) (room : List ℕ) (i rest : ℕ) : Type 0 where
  pub long : length room ≡ 10
  pub within : i ≤ 9
  pub small : rest < 10 ^ suc i
  pub whole : decimal x ≡ digits (size (suc i) rest - 1) (rest / 10) ++ drop i room

pub ending_first : (l : List ℕ) (x : ℕ) → length l ≡ 10 → x < 10 ^ 10 → Ending x (set l 9 (48 + x % 10)) 9 x
unfolding decimal
ending_first l x long small =
    let last : drop 9 (set l 9 (48 + x % 10)) ≡ (48 + x % 10) ∷ [] = drop_set l 9 (48 + x % 10) (omega arith) ∙ rw (drop_of_length-le l {i = 10} (omega arith)) in
    record {
      long = length-set l 9 (48 + x % 10) ∙ long;
      within = omega arith;
      small = small;
      whole = rw last (sym (append-nil (digits (size 10 x) x)) ∙ last_apart 9 x []);
    }

-- a digit is left only where there is room before this one
pub ending_room : {x i rest : ℕ} {room : List ℕ} → Ending x room i rest → 10 ≤ rest → 0 < i
ending_room {i = zero} e h = let p : _ < 10 = e.small in absurd (omega arith)
ending_room {i = suc i} e h = omega arith

ending_step : {x i rest : ℕ} {room : List ℕ} → Ending x room (suc i) rest → 10 ≤ rest → Ending x (set room i (48 + (rest / 10) % 10)) i (rest / 10)
ending_step {x} {i} {rest} {room} e h =
    let p : rest < 10 ^ suc i * 10 = rw pow-suc at e.small in
    let w = e.within in
    let s : size (suc (suc i)) rest - 1 ≡ size (suc i) (rest / 10) = omega (arith, size_more (suc i) rest h) in
    record {
      long = length-set room i (48 + (rest / 10) % 10) ∙ e.long;
      within = omega arith;
      small = omega arith;
      whole = rw (drop_set room i (48 + (rest / 10) % 10) (omega (arith, e.long))) (rw s at e.whole ∙ last_apart i (rest / 10) (drop (suc i) room));
    }

pub ending_more : {x i rest : ℕ} {room : List ℕ} → Ending x room i rest → 10 ≤ rest → Ending x (set room (i - 1) (48 + (rest / 10) % 10)) (i - 1) (rest / 10)
ending_more {x} {i} {rest} {room} e h =
    let q : i ≡ suc (i - 1) = omega (arith, ending_room e h) in
    ending_step (subst (λ (k : ℕ). Ending x room k rest) q e) h

pub ending_end : {x i rest : ℕ} {room : List ℕ} → Ending x room i rest → rest < 10 → drop i room ≡ decimal x
unfolding digits
ending_end {i = i} {rest = rest} e h =
    let s : size (suc i) rest - 1 ≡ 0 = omega (arith, size_one i rest h) in
    sym (rw s at e.whole)

-- the room's part from there on
pub ending_part : (room : List ℕ) (i x : ℕ) → length room ≡ 10 → drop i room ≡ decimal x → take (10 - i) (drop i room) ≡ decimal x
ending_part room i x long e = take_all (10 - i) (drop i room) (omega (arith, length-drop i room)) ∙ e
