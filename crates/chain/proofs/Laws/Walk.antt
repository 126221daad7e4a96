-- Laws of the walk: it goes on by one turn at a time, has an end, and is the same over bytes that are the same.
use Prim.Native.Nat.{ℕ, zero, suc, ◌+◌, ◌*◌, ◌/◌, ◌<◌, ◌≤◌}
use mathlib.Core.List.{List, [], ◌∷◌}
use mathlib.Core.Logic.{inl, inr, ◌⊎◌, ⊎_elim}
use mathlib.Core.Path.{ap, refl, sym, ◌∙◌, ◌≡◌}
use native.Mathlib.Decide.{ℕ_discrete}
use native.Mathlib.Numerals.{add-one}
use native.Mathlib.Omega.{arith}
use lib.Dec.{eqb}
use lib.ListN.{get_or, length}
use borrow.Author.Tests.{eq-eqb, eqb-false, ne_eqb}
use Rattle.bits.proofs.Laws.Bools.{by_cond}
use Rattle.chain.specs.declared.answers.Read.{Read}
use Rattle.chain.specs.declared.layout.Layout.{Layout}
use Rattle.chain.specs.Answers.{read_answer}
use Rattle.chain.specs.Trailer.{none}
use Rattle.chain.specs.Walk.{ahead, turns, walk}
use Rattle.chain.proofs.Laws.Same.{goes_back, read_same}

module _ (reader : Layout) (file : List ℕ) (used : ℕ) where
  turns_stop : (n at : ℕ) → at ≡ none → turns reader file used n at ≡ []
  unfolding turns
  turns_stop zero at e = refl
  turns_stop (suc n) at e = rw (eq-eqb at none e, turns)

  turns_zero : (at : ℕ) → turns reader file used zero at ≡ []
  unfolding turns
  turns_zero at = refl

  turns_go : (n at : ℕ) → (at ≡ none → ⊥) → turns reader file used (suc n) at ≡ read_answer reader file used at ∷ turns reader file used n (read_answer reader file used at).before
  unfolding turns
  turns_go n at ne = rw (ne_eqb at none ne, turns)

  -- n turns are enough from a place
  Enough : ℕ → ℕ → Type 0
  Enough n at = (at ≡ none) ⊎ (at < n * 16)

  enough_next : (n at : ℕ) → at < suc n * 16 → Enough n (read_answer reader file used at).before
  unfolding Enough
  enough_next n at h = ⊎_elim (λ e. inl e) (λ back. inr (omega arith)) (goes_back reader file used at)

  enough_some : (n at : ℕ) → (at ≡ none → ⊥) → Enough n at → at < n * 16
  unfolding Enough
  enough_some n at ne w = ⊎_elim (λ e. absurd (ne e)) (λ h. h) w

  enough_none : (at : ℕ) → Enough 0 at → at ≡ none
  unfolding Enough
  enough_none at w = ⊎_elim (λ e. e) (λ h. absurd (omega arith)) w

  turns_enough : (n m at : ℕ) → Enough n at → Enough m at → turns reader file used n at ≡ turns reader file used m at
  turns_enough zero m at p q = turns_stop 0 at (enough_none at p) ∙ sym (turns_stop m at (enough_none at p))
  turns_enough (suc n) zero at p q = turns_stop (suc n) at (enough_none at q) ∙ sym (turns_stop 0 at (enough_none at q))
  turns_enough (suc n) (suc m) at p q = go (ℕ_discrete at none) (turns_enough n m (read_answer reader file used at).before)
    where
      b : ℕ
      b = (read_answer reader file used at).before

      go : Dec (at ≡ none) → (Enough n b → Enough m b → turns reader file used n b ≡ turns reader file used m b)
          → turns reader file used (suc n) at ≡ turns reader file used (suc m) at
      go (yes e) ih = turns_stop (suc n) at e ∙ sym (turns_stop (suc m) at e)
      go (no ne) ih =
          turns_go n at ne
          ∙ ap (λ (rs : List Read). read_answer reader file used at ∷ rs) (ih (enough_next n at (enough_some (suc n) at ne p)) (enough_next m at (enough_some (suc m) at ne q)))
          ∙ sym (turns_go m at ne)

  pub walk_none : walk reader file used none ≡ []
  unfolding walk
  walk_none = turns_stop (none / 16 + 1) none refl

  pub walk_on : (at : ℕ) → (at ≡ none → ⊥) → walk reader file used at ≡ read_answer reader file used at ∷ walk reader file used (read_answer reader file used at).before
  unfolding walk Enough
  walk_on at ne =
      let b = (read_answer reader file used at).before in
      ap (λ (n : ℕ). turns reader file used n at) (add-one (at / 16))
      ∙ turns_go (at / 16) at ne
      ∙ ap (λ (rs : List Read). read_answer reader file used at ∷ rs)
      (turns_enough (at / 16) (b / 16 + 1) b (⊎_elim (λ e. inl e) (λ back. inr (omega arith)) (goes_back reader file used at)) (inr (omega arith)))

  length_turns : (n at : ℕ) → length (turns reader file used n at) ≤ n
  length_turns zero at = omega (arith, ap length (turns_zero at))
  length_turns (suc n) at = go (ℕ_discrete at none) (length_turns n (read_answer reader file used at).before)
    where
      go : Dec (at ≡ none) → length (turns reader file used n (read_answer reader file used at).before) ≤ n → length (turns reader file used (suc n) at) ≤ suc n
      go (yes e) ih = omega (arith, ap length (turns_stop (suc n) at e))
      go (no ne) ih = omega (arith, ap length (turns_go n at ne))

  -- at most one turn for each 16 bytes up to the place
  pub length_walk : (at : ℕ) → length (walk reader file used at) ≤ at / 16 + 1
  unfolding walk
  length_walk at = length_turns (at / 16 + 1) at

  -- fewer bytes are ahead after each turn
  pub ahead_less : (at : ℕ) → (at ≡ none → ⊥) → ahead (read_answer reader file used at).before < ahead at
  unfolding ahead
  ahead_less at ne =
      let b = (read_answer reader file used at).before in
      rw (ne_eqb at none ne)
      (by_cond (λ x. x < at + 16) (eqb b none) 0 (b + 16) (λ _. omega arith)
      (λ some. ⊎_elim (λ (e : b ≡ none). absurd (eqb-false b none some e)) (λ (back : b + 16 ≤ at). omega arith) (goes_back reader file used at)))

-- over bytes that are the same below the used length
module _ (reader : Layout) (f g : List ℕ) (used end : ℕ) (same : (i : ℕ) → i < used → get_or f i 0 ≡ get_or g i 0) (fits : used ≤ length f) (longer : used ≤ end) (room : end ≤ length g) where
  -- a place to go on to
  Within : ℕ → Type 0
  Within at = (at ≡ none) ⊎ (at + 16 ≤ used)

  turns_same : (n at : ℕ) → Within at → turns reader f used n at ≡ turns reader g end n at
  unfolding Within
  turns_same zero at w = turns_zero reader f used at ∙ sym (turns_zero reader g end at)
  turns_same (suc n) at w = go (ℕ_discrete at none) (turns_same n (read_answer reader f used at).before)
    where
      here : at + 16 ≤ used → read_answer reader f used at ≡ read_answer reader g end at
      here h = read_same f g at (λ i l. same i (omega arith)) reader used end h fits (omega arith) room

      b : ℕ
      b = (read_answer reader f used at).before

      there : (at ≡ none → ⊥) → at + 16 ≤ used
      there ne = ⊎_elim (λ e. absurd (ne e)) (λ h. h) w

      go : Dec (at ≡ none) → ((b ≡ none) ⊎ (b + 16 ≤ used) → turns reader f used n b ≡ turns reader g end n b) → turns reader f used (suc n) at ≡ turns reader g end (suc n) at
      go (yes e) ih = turns_stop reader f used (suc n) at e ∙ sym (turns_stop reader g end (suc n) at e)
      go (no ne) ih =
          turns_go reader f used n at ne
          ∙ ap (λ (rs : List Read). read_answer reader f used at ∷ rs) (ih (⊎_elim (λ e. inl e) (λ back. inr (omega (arith, there ne))) (goes_back reader f used at)))
          ∙ ap (λ (r : Read). r ∷ turns reader g end n r.before) (here (there ne))
          ∙ sym (turns_go reader g end n at ne)

  pub walk_same : (at : ℕ) → (at ≡ none) ⊎ (at + 16 ≤ used) → walk reader f used at ≡ walk reader g end at
  unfolding walk Within
  walk_same at w = turns_same (at / 16 + 1) at w
