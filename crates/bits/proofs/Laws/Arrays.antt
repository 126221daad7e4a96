-- An array that an upward loop writes place by place: so far what a function says, from there on what it held.
use Prim.Native.Nat.{◌+◌, ◌<◌, ℕ, ◌≤◌}
use mathlib.Core.Bool.{Bool, cond}
use mathlib.Core.List.{List, map}
use mathlib.Core.Path.{ap, refl, sym, ◌∙◌, ◌≡◌}
use native.Mathlib.Decide.{ℕ_discrete}
use native.Mathlib.Omega.{arith}
use lib.Dec.{ltb}
use lib.ListN.{get_or, length, length-map, length-set, set}
use lib.Seq.{ext_get_or, get_or-set_other, get_or-set_same}
use borrow.Author.Tests.{le-ltb, lt-ltb, ltb-false, ltb-true}
use Rattle.bits.specs.Below.{list_from}
use Rattle.bits.proofs.Laws.Below.{get_or_list, length_list_from}
use Rattle.bits.proofs.Laws.Bools.{by_cond, same_test}

module _ {A : Type 0} (d : A) (f : ℕ → A) (held : List A) where
  pub record Written (l : List A) (n j : ℕ) : Type 0 where
    pub size : length l ≡ n
    pub each : (k : ℕ) → k < n → get_or l k d ≡ cond (ltb k j) (f k) (get_or held k d)

  pub written_none : (n : ℕ) → length held ≡ n → Written held n 0
  written_none n e = record { size = e; each = λ k l. rw (le-ltb k 0 (omega arith)) }

  -- one more place is written
  pub written_more : (l : List A) (n j : ℕ) (v : A) → Written l n j → j < n → v ≡ f j → Written (set l j v) n (j + 1)
  written_more l n j v w b e = record { size = length-set l j v ∙ w.size; each = λ k m. go k m (ℕ_discrete k j) }
    where
      go : (k : ℕ) → k < n → Dec (k ≡ j) → get_or (set l j v) k d ≡ cond (ltb k (j + 1)) (f k) (get_or held k d)
      go k m (yes q) =
          rw (q, lt-ltb j (j + 1) (omega arith)) (get_or-set_same l j v d (omega (arith, w.size)) ∙ e)
      go k m (no q) = get_or-set_other l j k v d q ∙ w.each k m ∙ ap (λ (b : Bool). cond b (f k) (get_or held k d)) (same q)
        where
          same : (k ≡ j → ⊥) → ltb k j ≡ ltb k (j + 1)
          same q =
              same_test (ltb k j) (ltb k (j + 1)) (λ h. lt-ltb k (j + 1) (omega (arith, ltb-true k j h)))
              (λ h. lt-ltb k j (omega (arith, ltb-true k (j + 1) h)))

  -- where the rest already held what the function says, the array is the function's list
  pub written_all : (l : List A) (n j : ℕ) → Written l n j → ((k : ℕ) → j ≤ k → k < n → get_or held k d ≡ f k) → l ≡ list_from 0 n f
  written_all l n j w rest =
      ext_get_or d l (list_from 0 n f) (w.size ∙ sym (length_list_from 0 n f))
      (λ k m. let b : k < n = omega (arith, w.size) in
      w.each k b
      ∙ by_cond (λ x. x ≡ f k) (ltb k j) (f k) (get_or held k d) (λ _. refl) (λ h. rest k (ltb-false k j h) b)
      ∙ sym (get_or_list n f k d b))

-- a list is as long as its image: by this a proof finds an array's length
pub length_of_map : (A B : Type 0) (f : A → B) (l : List A) (n : ℕ) → length (map f l) ≡ n → length l ≡ n
length_of_map A B f l n e = sym (length-map l f) ∙ e
