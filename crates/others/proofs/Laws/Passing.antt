-- The numbers below a bound that pass, as a list: it holds them all, nothing else, and in order.
use Prim.Native.Nat.{ℕ, zero, suc, ◌<◌}
use mathlib.Core.Bool.{Bool, true, false, cond}
use mathlib.Core.List.{List, [], ◌∷◌, ◌++◌, append-nil}
use mathlib.Core.Logic.{inl, inr, ◌⊎◌}
use mathlib.Core.Path.{ap, ap₂, refl, subst, sym, ◌∙◌, ◌≡◌}
use native.Mathlib.Nat.{not-suc-le-zero}
use native.Mathlib.Omega.{arith}
use lib.ListN.{get_or, length, length-append, get_or-append}
use lib.Seq.{get_or_at}
use Rattle.bits.proofs.Laws.Below.{last_or_below}
use Rattle.bits.proofs.Laws.Bools.{clash, either}
use Rattle.others.specs.Others.{passing}

module _ (f : ℕ → Bool) where
  pub record Listed (n : ℕ) (xs : List ℕ) : Type 0 where
    pub below : (i : ℕ) → i < length xs → get_or xs i 0 < n
    pub passes : (i : ℕ) → i < length xs → f (get_or xs i 0) ≡ true
    pub finds : (j : ℕ) → j < n → f j ≡ true → (i : ℕ) × (i < length xs) × (get_or xs i 0 ≡ j)
    pub order : (i k : ℕ) → i < k → k < length xs → get_or xs i 0 < get_or xs k 0

  -- one number more, that fails, or passes and stands last
  listed_skip : (n : ℕ) (xs : List ℕ) → f n ≡ false → Listed n xs → Listed (suc n) xs
  listed_skip n xs q w =
      record {
        below = λ i l. omega (arith, w.below i l);
        passes = w.passes;
        finds = λ j l p. go j p (last_or_below n j l);
        order = w.order;
      }
    where
      go : (j : ℕ) → f j ≡ true → (j ≡ n) ⊎ (j < n) → (i : ℕ) × (i < length xs) × (get_or xs i 0 ≡ j)
      go j p (inl e) = clash (ap f (sym e) ∙ p) q
      go j p (inr m) = w.finds j m p

  listed_more : (n : ℕ) (xs : List ℕ) → f n ≡ true → Listed n xs → Listed (suc n) (xs ++ (n ∷ []))
  listed_more n xs q w =
      record {
        below = λ i l. at i l (λ x. x < suc n) (λ m. omega (arith, w.below i m)) (omega arith);
        passes = λ i l. at i l (λ x. f x ≡ true) (w.passes i) q;
        finds = λ j l p. go j p (last_or_below n j l);
        order = λ i k b l.
            let m : i < length xs = omega (arith, longer) in
            at k l (λ x. get_or (xs ++ (n ∷ [])) i 0 < x) (λ o. rw (older i m) (w.order i k b o)) (rw (older i m) (w.below i m));
      }
    where
      longer : length (xs ++ (n ∷ [])) ≡ suc (length xs)
      longer = length-append xs (n ∷ []) ∙ omega arith

      older : (i : ℕ) → i < length xs → get_or (xs ++ (n ∷ [])) i 0 ≡ get_or xs i 0
      older i m = get_or-append xs (n ∷ []) 0 i m

      -- a place is an older one, or the last
      at : (i : ℕ) → i < length (xs ++ (n ∷ [])) → (P : ℕ → Type 0) → (i < length xs → P (get_or xs i 0)) → P n → P (get_or (xs ++ (n ∷ [])) i 0)
      at i l P old last = go (last_or_below (length xs) i (omega (arith, longer)))
        where
          go : (i ≡ length xs) ⊎ (i < length xs) → P (get_or (xs ++ (n ∷ [])) i 0)
          go (inl e) = subst P (sym (get_or_at xs n [] 0 i (sym e))) last
          go (inr m) = subst P (sym (older i m)) (old m)

      go : (j : ℕ) → f j ≡ true → (j ≡ n) ⊎ (j < n) → (i : ℕ) × (i < length (xs ++ (n ∷ []))) × (get_or (xs ++ (n ∷ [])) i 0 ≡ j)
      go j p (inl e) = (length xs, omega (arith, longer), get_or_at xs n [] 0 (length xs) refl ∙ sym e)
      go j p (inr m) = let v = w.finds j m p in (v.0, omega (arith, longer, v.1), older v.0 v.1 ∙ v.2)

  pub listed : (n : ℕ) → Listed n (passing n f)
  unfolding passing
  listed zero =
      record {
        below = λ i l. absurd (not-suc-le-zero l);
        passes = λ i l. absurd (not-suc-le-zero l);
        finds = λ j l p. absurd (not-suc-le-zero l);
        order = λ i k b l. absurd (not-suc-le-zero l);
      }
  listed (suc n) = go (either (f n)) (listed n)
    where
      go : (f n ≡ true) ⊎ (f n ≡ false) → Listed n (passing n f) → Listed (suc n) (passing n f ++ cond (f n) (n ∷ []) [])
      go (inl q) w = rw q (listed_more n (passing n f) q w)
      go (inr q) w = rw (q, append-nil) (listed_skip n (passing n f) q w)

-- tests that agree below the bound list the same numbers, and those that list the same numbers agree below it
module _ (f h : ℕ → Bool) where
  pub passing_same : (n : ℕ) → ((k : ℕ) → k < n → f k ≡ h k) → passing n f ≡ passing n h
  unfolding passing
  passing_same zero q = refl
  passing_same (suc n) q =
      ap₂ (λ (xs : List ℕ) (b : Bool). xs ++ cond {A = List ℕ} b (n ∷ []) []) (passing_same n (λ k l. q k (omega arith))) (q n (omega arith))

  pub listed_there : (n : ℕ) → passing n f ≡ passing n h → (k : ℕ) → k < n → f k ≡ true → h k ≡ true
  listed_there n e k l p =
      let v = rw e at ((listed f n).finds k l p) in
      ap h (sym v.2) ∙ (listed h n).passes v.0 v.1
