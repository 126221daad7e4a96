-- Laws of the fields and of the numbers in lines: what has been read so far, and what is left.
use Prim.Native.Nat.{ℕ, zero, suc, ◌+◌, ◌-◌, ◌*◌, ◌%◌, ◌≤◌, ◌<◌}
use mathlib.Core.Path.{◌≡◌, refl, sym, ap, ◌∙◌}
use mathlib.Core.List.{List, [], ◌∷◌, ◌++◌, append_assoc, append-nil}
use mathlib.Core.Bool.{Bool, true, false, cond}
use native.Mathlib.Numerals.{add-one}
use native.Mathlib.Omega.{arith}
use native.Mathlib.Nat.{sub-zero}
use lib.ListN.{length, get_or, set, length-append}
use lib.Seq.{sets, length-sets}
use lib.Dec.{eqb}
use borrow.Author.Tests.{eq-eqb, ne_eqb}
use Rattle.std.specs.Prelude.{Option, Some, None}
use Rattle.bits.proofs.Laws.Bools.{apart}
use Rattle.bits.proofs.Laws.Lists.{sets_sets}
use Rattle.text.specs.Decimal.{Number, Value, Malformed}
use Rattle.text.specs.Decimal.{decimal_at}
use Rattle.text.proofs.Laws.Reading.{after_of, number_ends}
use Rattle.sheet.specs.Grammar.{ended_by, field_at, byte_behind, Numbers, got, bad, with_first, with_rest, fields_from}
use Rattle.sheet.specs.Code.{NumbersAre}

module _ (s : List ℕ) (at end v k : ℕ) (p : decimal_at s at ≡ Value v k) where
  pub field_yes : get_or s k 256 ≡ end → field_at s at end ≡ Value v (k + 1)
  unfolding field_at
  field_yes q = rw (p, eq-eqb _ _ q)

  pub field_no : (get_or s k 256 ≡ end → ⊥) → field_at s at end ≡ Malformed
  unfolding field_at
  field_no q = rw (p, ne_eqb _ _ q)

pub field_bad : (s : List ℕ) (at end : ℕ) → decimal_at s at ≡ Malformed → field_at s at end ≡ Malformed
unfolding field_at
field_bad s at end p = rw p

pub end_small : (per i : ℕ) → byte_behind per i < 256
end_small per i = by_test (eqb ((i + 1) % per) 0)
  where
    by_test : (b : Bool) → cond {A = ℕ} b 10 32 < 256
    by_test true = omega arith
    by_test false = omega arith

-- numbers read before others
abbrev pub prefixed : List ℕ → Numbers → Numbers
prefixed vs (got ws k) = got (vs ++ ws) k
prefixed vs bad = bad

before_nil : (f : Numbers) → prefixed [] f ≡ f
before_nil (got vs k) = refl
before_nil bad = refl

before_first : (xs : List ℕ) (v : ℕ) (f : Numbers) → prefixed xs (with_first v f) ≡ prefixed (xs ++ (v ∷ [])) f
before_first xs v (got vs k) = rw append_assoc
before_first xs v bad = refl

module _ (s : List ℕ) (per i n k : ℕ) where
  numbers_step : {m v j : ℕ} → n ≡ suc m → field_at s k (byte_behind per i) ≡ Value v j → fields_from s per i n k ≡ with_first v (fields_from s per (i + 1) m j)
  unfolding fields_from
  numbers_step p e = rw (p, e, add-one)

  numbers_stop : {m : ℕ} → n ≡ suc m → field_at s k (byte_behind per i) ≡ Malformed → fields_from s per i n k ≡ bad
  unfolding fields_from
  numbers_stop p e = rw (p, e)

  numbers_done : n ≡ 0 → fields_from s per i n k ≡ got [] k
  unfolding fields_from
  numbers_done p = rw p

-- what is known before number i: the numbers read, and the position of the next
pub record Filled (s : List ℕ) (per n at : ℕ) (l m : List ℕ) (i k : ℕ) : Type 0 where
  pub within : i ≤ n
  pub done : List ℕ
  pub count : length done ≡ i
  pub filled : m ≡ sets l 0 done
  pub rest : prefixed done (fields_from s per i (n - i) k) ≡ fields_from s per 0 n at

pub filled_none : (s : List ℕ) (per n at : ℕ) (l : List ℕ) → Filled s per n at l l 0 at
filled_none s per n at l =
    record { within = omega arith; done = []; count = refl; filled = refl; rest = rw (sub-zero, before_nil) }

module _ {s : List ℕ} {per n at : ℕ} {l m : List ℕ} {i k : ℕ} (f : Filled s per n at l m i k) where
  pub filled_length : length m ≡ length l
  filled_length = ap length f.filled ∙ length-sets l 0 f.done

  pub filled_more : i < n → {v j : ℕ} → field_at s k (byte_behind per i) ≡ Value v j → Filled s per n at l (set m i v) (i + 1) j
  filled_more h {v} {j} e =
      let d = f.done in
      let c = f.count in
      let p : n - i ≡ suc (n - (i + 1)) = omega arith in
      let z : 0 + length d ≡ i = omega arith in
      record {
        within = omega arith;
        done = d ++ (v ∷ []);
        count = simp length-append (omega arith);
        filled = rw (f.filled, ← z) (sets_sets d (v ∷ []) l 0);
        rest = sym (before_first d v (fields_from s per (i + 1) (n - (i + 1)) j)) ∙ ap (prefixed d) (sym (numbers_step s per i (n - i) k p e)) ∙ f.rest;
      }

  pub filled_bad : i < n → field_at s k (byte_behind per i) ≡ Malformed → (x : List ℕ) → NumbersAre (fields_from s per 0 n at) None l x
  unfolding NumbersAre
  filled_bad h e x =
      let p : n - i ≡ suc (n - (i + 1)) = omega arith in
      let b : fields_from s per 0 n at ≡ bad = sym f.rest ∙ ap (prefixed f.done) (numbers_stop s per i (n - i) k p e) in
      rw b

  pub filled_end : n ≤ i → NumbersAre (fields_from s per 0 n at) (Some k) l m
  unfolding NumbersAre
  filled_end h =
      let p : n - i ≡ 0 = omega arith in
      let g : fields_from s per 0 n at ≡ got (f.done ++ []) k = sym f.rest ∙ ap (prefixed f.done) (numbers_done s per i (n - i) k p) in
      rw (g, append-nil) (refl, f.filled)

-- what a caller learns: the numbers, which are as many as were asked for
pub numbers_read : (f : Numbers) (r : Option ℕ) (l m : List ℕ) (k : ℕ) → NumbersAre f r l m → r ≡ Some k → (vs : List ℕ) × (f ≡ got vs k) × (m ≡ sets l 0 vs)
unfolding NumbersAre
numbers_read (got vs j) r l m k a e =
    let q : j ≡ k = cc (a.0, e) in
    (vs, ap (got vs) q, a.1)
numbers_read bad r l m k a e = apart (cc)

pub numbers_broken : (f : Numbers) (r : Option ℕ) (l m : List ℕ) → NumbersAre f r l m → r ≡ None → f ≡ bad
unfolding NumbersAre
numbers_broken (got vs j) r l m a e = apart (cc (a.0, e))
numbers_broken bad r l m a e = refl

-- numbers that were read: the first of them, and those behind it
first_got : (f : Numbers) (v k : ℕ) (vs : List ℕ) → with_first v f ≡ got vs k → (ws : List ℕ) × (f ≡ got ws k) × (vs ≡ v ∷ ws)
first_got (got ws j) v k vs e =
    let q : j ≡ k = cc in
    (ws, ap (got ws) q, cc)
first_got bad v k vs e = apart (cc)

then_got : (x : Number) (f : ℕ → Numbers) (k : ℕ) (vs : List ℕ) → with_rest x f ≡ got vs k
    → (v : ℕ) × (i : ℕ) × (ws : List ℕ) × (x ≡ Value v i) × (f i ≡ got ws k) × (vs ≡ v ∷ ws)
then_got (Value v i) f k vs e =
    let w = first_got (f i) v k vs e in
    (v, i, w.0, refl, w.1, w.2)
then_got Malformed f k vs e = apart (cc)

pub got_length : (s : List ℕ) (per i n at : ℕ) (vs : List ℕ) (k : ℕ) → fields_from s per i n at ≡ got vs k → length vs ≡ n
unfolding fields_from
got_length s per i zero at vs k e = let q : vs ≡ [] = cc in rw q
got_length s per i (suc n) at vs k e =
    let w = then_got (field_at s at (byte_behind per i)) (λ j. fields_from s per (suc i) n j) k vs e in
    let l = got_length s per (suc i) n w.1 w.2 k w.4 in
    rw w.5 (omega arith)

-- a number and the byte behind it are at most 6 bytes
pub field_ends : (s : List ℕ) (at end v k : ℕ) → field_at s at end ≡ Value v k → k ≤ at + 6
unfolding field_at
field_ends s at end v k = by_number (decimal_at s at) refl
  where
    by_byte : (b : Bool) (u j : ℕ) → decimal_at s at ≡ Value u j → cond b (Value u (j + 1)) Malformed ≡ Value v k → k ≤ at + 6
    by_byte true u j q e =
        let p : j + 1 ≡ k = ap after_of e in
        omega (arith, number_ends 5 s at u j q)
    by_byte false u j q e = apart (cc)

    by_number : (x : Number) → decimal_at s at ≡ x → ended_by s end x ≡ Value v k → k ≤ at + 6
    by_number (Value u j) q e = by_byte (eqb (get_or s j 256) end) u j q e
    by_number Malformed q e = apart (cc)

pub got_ends : (s : List ℕ) (per i n at : ℕ) (vs : List ℕ) (k : ℕ) → fields_from s per i n at ≡ got vs k → k ≤ at + 6 * n
unfolding fields_from
got_ends s per i zero at vs k e = let q : at ≡ k = cc in omega arith
got_ends s per i (suc n) at vs k e =
    let w = then_got (field_at s at (byte_behind per i)) (λ j. fields_from s per (suc i) n j) k vs e in
    omega (arith, field_ends s at (byte_behind per i) w.0 w.1 w.3, got_ends s per (suc i) n w.1 w.2 k w.4)
