-- Laws of rows: joining them is commutative and associative, a row without jobs changes nothing, and numbers only grow.
use Prim.Native.Nat.{ℕ, zero, suc, ◌+◌, ◌≤◌, max, min}
use mathlib.Core.Bool.{Bool, true, false, ◌&&◌, ◌||◌, true≢false}
use mathlib.Core.Logic.{inl, inr, ◌⊎◌}
use mathlib.Core.Path.{ap, refl, subst, sym, ◌∙◌, ◌≡◌}
use native.Mathlib.Decide.{dec_le}
use native.Mathlib.Nat.{zero-add}
use native.Mathlib.Omega.{arith}
use lib.Dec.{leb, ltb}
use borrow.Author.Tests.{le-leb, lt-ltb, ltb-true}
use Rattle.bits.proofs.Laws.Bools.{passed}
use Rattle.season.specs.declared.answers.Row.{Row}
use Rattle.season.specs.Code.{Joinable}
use Rattle.season.specs.Rows.{Held, among, fits, join_row, most, empty_row, some_finished}

-- a row by its numbers
abbrev row : ℕ → ℕ → ℕ → ℕ → ℕ → ℕ → ℕ → ℕ → Row
row m l e o n s x y = record { met = m; late = l; ended = e; «open» = o; finished = n; sum = s; least = x; greatest = y }

same : {m m' l l' e e' o o' n n' s s' x x' y y' : ℕ} → m ≡ m' → l ≡ l' → e ≡ e' → o ≡ o' → n ≡ n' → s ≡ s' → x ≡ x' → y ≡ y' → row m l e o n s x y ≡ row m' l' e' o' n' s' x' y'
same a b c d e f g h = rw (a, b, c, d, e, f, g, h)

-- among two sides, either way round; and among three, either two first
among_comm : (p q : Bool) (x y : ℕ) {b c : ℕ} → b ≡ c → among p x q y b ≡ among q y p x c
among_comm true true x y e = e
among_comm true false x y e = refl
among_comm false true x y e = refl
among_comm false false x y e = refl

among_assoc : (f : ℕ → ℕ → ℕ) (p q r : Bool) (x y z : ℕ) → f (f x y) z ≡ f x (f y z)
    → among (p || q) (among p x q y (f x y)) r z (f (among p x q y (f x y)) z) ≡ among p x (q || r) (among q y r z (f y z)) (f x (among q y r z (f y z)))
among_assoc f true true true x y z e = e
among_assoc f true true false x y z e = refl
among_assoc f true false true x y z e = refl
among_assoc f true false false x y z e = refl
among_assoc f false true true x y z e = refl
among_assoc f false true false x y z e = refl
among_assoc f false false true x y z e = refl
among_assoc f false false false x y z e = refl

-- some job of a joined row has finished exactly where one of either side has
some_joined : (n m : ℕ) → ltb 0 (n + m) ≡ (ltb 0 n || ltb 0 m)
some_joined zero m = rw zero-add
some_joined (suc n) m = lt-ltb 0 (suc n + m) (omega arith) ∙ ap (λ (b : Bool). b || ltb 0 m) (sym (lt-ltb 0 (suc n) (omega arith)))

pub join_comm : (a b : Row) → join_row a b ≡ join_row b a
unfolding join_row
join_comm a b =
    same (omega arith) (omega arith) (omega arith) (omega arith) (omega arith) (omega arith)
    (among_comm (some_finished a) (some_finished b) a.least b.least (omega arith))
    (among_comm (some_finished a) (some_finished b) a.greatest b.greatest (omega arith))

pub join_assoc : (a b c : Row) → join_row (join_row a b) c ≡ join_row a (join_row b c)
unfolding join_row
join_assoc a b c =
    same (omega arith) (omega arith) (omega arith) (omega arith) (omega arith) (omega arith)
    (three min a.least b.least c.least (omega arith))
    (three max a.greatest b.greatest c.greatest (omega arith))
  where
    three : (f : ℕ → ℕ → ℕ) (x y z : ℕ) → f (f x y) z ≡ f x (f y z)
        → among (ltb 0 (a.finished + b.finished)) (among (some_finished a) x (some_finished b) y (f x y)) (some_finished c) z (f (among (some_finished a) x (some_finished b) y (f x y)) z)
        ≡ among (some_finished a) x (ltb 0 (b.finished + c.finished)) (among (some_finished b) y (some_finished c) z (f y z)) (f x (among (some_finished b) y (some_finished c) z (f y z)))
    three f x y z e =
        ap (λ (p : Bool). among p (among (some_finished a) x (some_finished b) y (f x y)) (some_finished c) z (f (among (some_finished a) x (some_finished b) y (f x y)) z))
        (some_joined a.finished b.finished)
        ∙ among_assoc f (some_finished a) (some_finished b) (some_finished c) x y z e
        ∙ ap (λ (p : Bool). among (some_finished a) x p (among (some_finished b) y (some_finished c) z (f y z)) (f x (among (some_finished b) y (some_finished c) z (f y z))))
        (sym (some_joined b.finished c.finished))

-- Least and greatest are 0 where no job has finished.
abbrev pub Tidy : Row → Type 0
Tidy r = ltb 0 r.finished ≡ false → (r.least ≡ 0) × (r.greatest ≡ 0)

pub join_tidy : (a b : Row) → Tidy (join_row a b)
unfolding join_row
join_tidy a b h =
    let e = sym (some_joined a.finished b.finished) ∙ h in
    (none (some_finished a) (some_finished b) a.least b.least (min a.least b.least) e, none (some_finished a) (some_finished b) a.greatest b.greatest (max a.greatest b.greatest) e)
  where
    none : (p q : Bool) (x y both : ℕ) → (p || q) ≡ false → among p x q y both ≡ 0
    none true q x y both e = absurd (true≢false e)
    none false true x y both e = absurd (true≢false e)
    none false false x y both e = refl

-- A row without jobs changes no other such row.
pub join_none : (r : Row) → Tidy r → join_row r empty_row ≡ r
unfolding join_row
join_none r tidy =
    same (omega arith) (omega arith) (omega arith) (omega arith) (omega arith) (omega arith)
    (kept (some_finished r) r.least (min r.least 0) (λ h. (tidy h).0)) (kept (some_finished r) r.greatest (max r.greatest 0) (λ h. (tidy h).1))
  where
    kept : (p : Bool) (x both : ℕ) → (p ≡ false → x ≡ 0) → among p x false 0 both ≡ x
    kept true x both h = refl
    kept false x both h = sym (h refl)

pub none_join : (r : Row) → Tidy r → join_row empty_row r ≡ r
none_join r tidy = join_comm empty_row r ∙ join_none r tidy

-- the tests as the code makes them
pub fits_tests : (a b : Row) {m l e o n s : Bool} → m ≡ leb (a.met + b.met) most → l ≡ leb (a.late + b.late) most → e ≡ leb (a.ended + b.ended) most
    → o ≡ leb (a.«open» + b.«open») most → n ≡ leb (a.finished + b.finished) most → s ≡ leb (a.sum + b.sum) most
    → (m && l && e && o && n && s) ≡ fits (join_row a b)
unfolding fits join_row
fits_tests a b p q r t u v = rw (p, q, r, t, u, v)

-- as it is tested, and as it is said
pub fits_held : (r : Row) → fits r ≡ true → Held r
unfolding fits
fits_held r h =
    record { met = search passed depth 7; late = search passed depth 7; ended = search passed depth 7; «open» = search passed depth 7; finished = search passed depth 7; sum = search passed depth 7 }

pub held_fits : (r : Row) → Held r → fits r ≡ true
unfolding fits
held_fits r w =
    rw (
      le-leb r.met most w.met,
      le-leb r.late most w.late,
      le-leb r.ended most w.ended,
      le-leb r.«open» most w.«open»,
      le-leb r.finished most w.finished,
      le-leb r.sum most w.sum,
    )

-- counts and sums only grow
pub fits_left : (a b : Row) → fits (join_row a b) ≡ true → fits a ≡ true
unfolding join_row
fits_left a b h =
    let w = fits_held (join_row a b) h in
    held_fits a (record { met = omega arith; late = omega arith; ended = omega arith; «open» = omega arith; finished = omega arith; sum = omega arith })

pub fits_right : (a b : Row) → fits (join_row a b) ≡ true → fits b ≡ true
fits_right a b h = fits_left b a (ap fits (join_comm b a) ∙ h)

pub joinable : (a b : Row) → fits (join_row a b) ≡ true → Joinable a b
unfolding join_row
joinable a b h =
    let w = fits_held (join_row a b) h in
    record { met = w.met; late = w.late; ended = w.ended; «open» = w.«open»; finished = w.finished; sum = w.sum }

-- the joined row as the code makes it
pub join_made : (a b : Row) {low high x y : ℕ} → low ≡ min a.least b.least → high ≡ max a.greatest b.greatest
    → x ≡ among (some_finished a) a.least (some_finished b) b.least low → y ≡ among (some_finished a) a.greatest (some_finished b) b.greatest high
    → row (a.met + b.met) (a.late + b.late) (a.ended + b.ended) (a.«open» + b.«open») (a.finished + b.finished) (a.sum + b.sum) x y ≡ join_row a b
unfolding join_row
join_made a b p q r s = rw (r, s, p, q)

-- ## Least and greatest

pub some_left : (a b : Row) → some_finished a ≡ true → some_finished (join_row a b) ≡ true
unfolding join_row
some_left a b h = lt-ltb 0 (a.finished + b.finished) (omega (arith, ltb-true 0 a.finished h))

-- some job of the row has finished, and v lies from the least to the greatest
pub record Reach (x : Row) (v : ℕ) : Type 0 where
  pub some : some_finished x ≡ true
  pub low : x.least ≤ v
  pub high : v ≤ x.greatest

pub reach_left : (a b : Row) (v : ℕ) → Reach a v → Reach (join_row a b) v
unfolding join_row
reach_left a b v w =
    record {
      some = some_left a b w.some;
      low = subst (λ (p : Bool). among p a.least (some_finished b) b.least (min a.least b.least) ≤ v) (sym w.some) (low (some_finished b));
      high = subst (λ (p : Bool). v ≤ among p a.greatest (some_finished b) b.greatest (max a.greatest b.greatest)) (sym w.some) (high (some_finished b));
    }
  where
    low : (q : Bool) → among true a.least q b.least (min a.least b.least) ≤ v
    low true = omega (arith, w.low)
    low false = w.low

    high : (q : Bool) → v ≤ among true a.greatest q b.greatest (max a.greatest b.greatest)
    high true = omega (arith, w.high)
    high false = w.high

pub reach_right : (a b : Row) (v : ℕ) → Reach b v → Reach (join_row a b) v
reach_right a b v w = rw (join_comm a b) (reach_left b a v w)

-- what is taken among two sides is one side's, which has a finished job
taken : (f : ℕ → ℕ → ℕ) (p q : Bool) (x y : ℕ) → (f x y ≡ x) ⊎ (f x y ≡ y) → (p || q) ≡ true
    → ((p ≡ true) × (among p x q y (f x y) ≡ x)) ⊎ ((q ≡ true) × (among p x q y (f x y) ≡ y))
taken f true true x y (inl e) h = inl (refl, e)
taken f true true x y (inr e) h = inr (refl, e)
taken f true false x y e h = inl (refl, refl)
taken f false true x y e h = inr (refl, refl)
taken f false false x y e h = absurd (true≢false (sym h))

module _ (a b : Row) (h : some_finished (join_row a b) ≡ true) where
  either_some : (some_finished a || some_finished b) ≡ true
  unfolding join_row
  either_some = sym (some_joined a.finished b.finished) ∙ h

  pub least_taken : ((some_finished a ≡ true) × ((join_row a b).least ≡ a.least)) ⊎ ((some_finished b ≡ true) × ((join_row a b).least ≡ b.least))
  unfolding join_row
  least_taken = taken min (some_finished a) (some_finished b) a.least b.least (go (dec_le a.least b.least)) either_some
    where
      go : Dec (a.least ≤ b.least) → (min a.least b.least ≡ a.least) ⊎ (min a.least b.least ≡ b.least)
      go (yes l) = inl (omega arith)
      go (no l) = inr (omega arith)

  pub greatest_taken : ((some_finished a ≡ true) × ((join_row a b).greatest ≡ a.greatest)) ⊎ ((some_finished b ≡ true) × ((join_row a b).greatest ≡ b.greatest))
  unfolding join_row
  greatest_taken = taken max (some_finished a) (some_finished b) a.greatest b.greatest (go (dec_le a.greatest b.greatest)) either_some
    where
      go : Dec (a.greatest ≤ b.greatest) → (max a.greatest b.greatest ≡ a.greatest) ⊎ (max a.greatest b.greatest ≡ b.greatest)
      go (yes l) = inr (omega arith)
      go (no l) = inl (omega arith)
