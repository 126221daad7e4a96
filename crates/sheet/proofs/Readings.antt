-- Document 01, "The listing": "Each longest stretch of equal entries follows: first tick, tick after the last, job or `-` for idle." Here
-- stands what makes a list of stretches the longest ones, said by quantifiers, and at the end that `longest` computes that list and no
-- other, and that the listing has its lines.
use Prim.Native.Nat.{◌+◌, ◌<◌, suc, zero, ℕ, ◌≤◌}
use mathlib.Core.List.{◌++◌, List, [], ◌∷◌}
use mathlib.Core.Logic.{◌↔◌, ◌≢◌, ⊎_elim}
use mathlib.Core.Path.{ap, ap₂, refl, subst, sym, ◌∙◌, ◌≡◌}
use native.Mathlib.Decide.{dec_lt}
use native.Mathlib.Omega.{arith}
use lib.Dec.{eqb}
use lib.ListN.{get_or, length}
use borrow.Author.Tests.{eqb-false, eqb-true}
use Rattle.bits.proofs.Laws.Below.{last_or_below}
use Rattle.bits.proofs.Laws.Bools.{by_cond}
use Rattle.tables.specs.Outcomes.{Done}
use Rattle.tables.specs.Refusals.{before, check9, check_lists}
use Rattle.zsrm.specs.declared.tie.Tie.TheVariants.{Lowest}
use Rattle.zsrm.specs.Run.{run_entries, run_record}
use Rattle.tables.specs.Tables.{idle, job_count}
use Rattle.zsrm.proofs.Laws.Run.{length_run}
use Rattle.sheet.specs.Grammar.{parsed, parsed_of}
use Rattle.sheet.specs.Listing.{Stretch, given_listing, job_lines, listing, longest, longest_from, printed, refused_line, run_line, run_listing, stretch_lines, stretches}
use Rattle.zsrm.specs.Given.{Given}
use Rattle.tables.proofs.Laws.Refusals.{unless_done}

-- stretch k of a list, from 0
abbrev pub stretch_at : List Stretch → ℕ → Stretch
stretch_at ss k = get_or ss k (record { first = 0; next = 0; entry = idle })

-- tick t lies in a stretch
abbrev pub Lies : ℕ → Stretch → Type 0
Lies t s = (s.first ≤ t) × (t < s.next)

-- stretches that follow on one another from tick a to tick b
abbrev pub Follow : ℕ → List Stretch → ℕ → Type 0
Follow a [] b = a ≡ b
Follow a (s ∷ ss) b = (s.first ≡ a) × Follow s.next ss b

-- Entry t lies in stretch k, which shows it, and in no other.
pub record InStretch (es : List ℕ) (ss : List Stretch) (t k : ℕ) : Type 0 where
  pub place : k < length ss
  pub lies : Lies t (stretch_at ss k)
  pub shows : (stretch_at ss k).entry ≡ get_or es t idle
  pub alone : (i : ℕ) → i < length ss → Lies t (stretch_at ss i) → i ≡ k

-- The longest stretches of equal entries from tick a to tick b: they follow on one another from a to b, none is empty, neighbours differ,
-- and each entry lies in exactly the stretch that shows it.
pub record Longest (es : List ℕ) (a : ℕ) (ss : List Stretch) (b : ℕ) : Type 0 where
  pub follow : Follow a ss b
  pub filled : (k : ℕ) → k < length ss → (stretch_at ss k).first < (stretch_at ss k).next
  pub differ : (k : ℕ) → suc k < length ss → (stretch_at ss k).entry ≢ (stretch_at ss (suc k)).entry
  pub shown : (t : ℕ) → a ≤ t → t < b → (k : ℕ) × InStretch es ss t k

-- ## Laws of the longest stretches, by the first of them

-- the first that `longest_from` computes is the one that stands
first_entry : (ds : List ℕ) (first e t : ℕ) → (stretch_at (longest_from first e t ds) 0).entry ≡ e
unfolding longest_from
first_entry [] first e t = refl
first_entry (d ∷ ds) first e t = by_cond (λ ss. (stretch_at ss 0).entry ≡ e) (eqb d e) _ _ (λ h. first_entry ds first e (suc t)) (λ h. refl)

module _ (es : List ℕ) where
  none : (a b : ℕ) → a ≡ b → Longest es a [] b
  none a b e =
      record { follow = e; filled = λ k l. absurd (omega arith); differ = λ k l. absurd (omega arith); shown = λ t l m. absurd (omega arith) }

  -- those behind the first
  rest : {a b : ℕ} {s : Stretch} {ss : List Stretch} → Longest es a (s ∷ ss) b → Longest es s.next ss b
  rest {a} {b} {s} {ss} v =
      record {
        follow = v.follow.1;
        filled = λ k l. v.filled (suc k) (omega arith);
        differ = λ k l. v.differ (suc k) (omega arith);
        shown = λ t l m. let w = v.shown t (omega (arith, v.follow.0, v.filled 0 (omega arith))) m in go t l w.0 w.1;
      }
    where
      go : (t : ℕ) → s.next ≤ t → (k : ℕ) → InStretch es (s ∷ ss) t k → (k : ℕ) × InStretch es ss t k
      go t l zero w = absurd (omega (arith, w.lies.1))
      go t l (suc k) w =
          (k, record { place = omega (arith, w.place); lies = w.lies; shows = w.shows; alone = λ i p x. omega (arith, w.alone (suc i) (omega arith) x) })

  -- none begins before a, and b is not before a
  begins : (a b : ℕ) (ss : List Stretch) → Longest es a ss b → (k : ℕ) → k < length ss → a ≤ (stretch_at ss k).first
  begins a b [] v k l = absurd (omega arith)
  begins a b (s ∷ ss) v zero l = omega (arith, v.follow.0)
  begins a b (s ∷ ss) v (suc k) l = omega (arith, v.follow.0, v.filled 0 (omega arith), begins s.next b ss (rest v) k (omega arith))

  ends : (a b : ℕ) (ss : List Stretch) → Longest es a ss b → a ≤ b
  ends a b [] v = omega (arith, v.follow)
  ends a b (s ∷ ss) v = omega (arith, v.follow.0, v.filled 0 (omega arith), ends s.next b ss (rest v))

  -- where the first lies
  lies_first : {a b : ℕ} {s : Stretch} {ss : List Stretch} → Longest es a (s ∷ ss) b → (s.first ≡ a) × (a < s.next) × (s.next ≤ b)
  lies_first {a} {b} {s} {ss} v = omega (arith, v.follow.0, v.filled 0 (omega arith), ends s.next b ss (rest v))

  -- it shows the entries that lie in it, and the entry behind it is another
  shows_within : {a b : ℕ} {s : Stretch} {ss : List Stretch} → Longest es a (s ∷ ss) b → (t : ℕ) → a ≤ t → t < s.next → s.entry ≡ get_or es t idle
  shows_within v t l m =
      let w = v.shown t l (omega (arith, lies_first v)) in
      let z : w.0 ≡ 0 = omega (arith, w.1.alone 0 (omega arith) (omega (arith, lies_first v))) in
      rw z at w.1.shows

  other_behind : {a b : ℕ} {s : Stretch} (ss : List Stretch) → Longest es a (s ∷ ss) b → s.next < b → s.entry ≢ get_or es s.next idle
  other_behind [] v l e = omega (arith, v.follow.1)
  other_behind {s} (x ∷ ss) v l e =
      v.differ 0 (omega arith) (e ∙ sym (shows_within (rest v) s.next (omega arith) (omega (arith, lies_first (rest v)))))

  -- So two lists are one: of two first stretches none ends sooner, for the entry behind it would be another and the same.
  sooner : {a b : ℕ} {s r : Stretch} {ss rr : List Stretch} → Longest es a (s ∷ ss) b → Longest es a (r ∷ rr) b → s.next < r.next → ⊥
  sooner {a} {b} {s} {r} {ss} {rr} v w l =
      let p = lies_first v in
      let q = lies_first w in
      other_behind ss v (omega arith)
      (shows_within v a (omega arith) (omega arith) ∙ sym (shows_within w a (omega arith) (omega arith)) ∙ shows_within w s.next (omega arith) l)

  one : (a b : ℕ) (ss rr : List Stretch) → Longest es a ss b → Longest es a rr b → ss ≡ rr
  one a b [] [] v w = refl
  one a b [] (r ∷ rr) v w = absurd (omega (arith, v.follow, lies_first w))
  one a b (s ∷ ss) [] v w = absurd (omega (arith, w.follow, lies_first v))
  one a b (s ∷ ss) (r ∷ rr) v w =
      let p = lies_first v in
      let q = lies_first w in
      let first : s.first ≡ r.first = omega arith in
      let next : s.next ≡ r.next = omega (arith, sooner v w, sooner w v) in
      let entry : s.entry ≡ r.entry = shows_within v a (omega arith) (omega arith) ∙ sym (shows_within w a (omega arith) (omega arith)) in
      ap₂ (λ (x : Stretch) (xs : List Stretch). x ∷ xs) (λ i. record { first = first i; next = next i; entry = entry i })
      (one s.next b ss rr (rest v) (rw next (rest w)))

  -- one more in front
  more : {a b : ℕ} {s : Stretch} {ss : List Stretch} → s.first ≡ a → a < s.next → ((t : ℕ) → Lies t s → s.entry ≡ get_or es t idle)
      → (0 < length ss → s.entry ≢ (stretch_at ss 0).entry) → Longest es s.next ss b → Longest es a (s ∷ ss) b
  more {a} {b} {s} {ss} q l h d v =
      record { follow = (q, v.follow); filled = filled; differ = differ; shown = λ t m n. shown t m n (dec_lt t s.next) }
    where
      filled : (k : ℕ) → k < suc (length ss) → (stretch_at (s ∷ ss) k).first < (stretch_at (s ∷ ss) k).next
      filled zero m = omega arith
      filled (suc k) m = v.filled k (omega arith)

      differ : (k : ℕ) → suc k < suc (length ss) → (stretch_at (s ∷ ss) k).entry ≢ (stretch_at ss k).entry
      differ zero m = d (omega arith)
      differ (suc k) m = v.differ k (omega arith)

      shown : (t : ℕ) → a ≤ t → t < b → Dec (t < s.next) → (k : ℕ) × InStretch es (s ∷ ss) t k
      shown t m n (yes y) = (0, record { place = omega arith; lies = (omega arith, y); shows = h t (omega arith, y); alone = alone })
        where
          alone : (i : ℕ) → i < suc (length ss) → Lies t (stretch_at (s ∷ ss) i) → i ≡ 0
          alone zero p w = refl
          alone (suc i) p w = absurd (omega (arith, begins s.next b ss v i (omega arith)))
      shown t m n (no y) =
          (suc w.0, record { place = omega (arith, w.1.place); lies = w.1.lies; shows = w.1.shows; alone = alone })
        where
          w : (k : ℕ) × InStretch es ss t k
          w = v.shown t (omega arith) n

          alone : (i : ℕ) → i < suc (length ss) → Lies t (stretch_at (s ∷ ss) i) → i ≡ suc w.0
          alone zero p x = absurd (y x.1)
          alone (suc i) p x = ap suc (w.1.alone i (omega arith) x)

  -- what `longest_from` computes: e has stood from `first` to t, and the entries ds stand from t to b
  cut : (ds : List ℕ) (first e t b : ℕ) → first < t → t + length ds ≡ b → ((u : ℕ) → first ≤ u → u < t → get_or es u idle ≡ e)
      → ((i : ℕ) → i < length ds → get_or es (t + i) idle ≡ get_or ds i idle) → Longest es first (longest_from first e t ds) b
  unfolding longest_from
  cut [] first e t b l q since then =
      more refl l (λ u m. sym (since u m.0 m.1)) (λ m. absurd (omega arith)) (none t b (omega arith))
  cut (d ∷ ds) first e t b l q since then =
      by_cond (λ ss. Longest es first ss b) (eqb d e) _ _
      (λ h. cut ds first e (suc t) b (omega arith) (omega arith) (λ u m n. ⊎_elim (λ z. here u z ∙ eqb-true d e h) (since u m) (last_or_below t u n)) later)
      (λ h. more refl l (λ u m. sym (since u m.0 m.1)) (λ m z. eqb-false d e h (sym (z ∙ first_entry ds t d (suc t))))
      (cut ds t d (suc t) b (omega arith) (omega arith) (λ u m n. here u (omega arith)) later))
    where
      here : (u : ℕ) → u ≡ t → get_or es u idle ≡ d
      here u z = ap (λ (n : ℕ). get_or es n idle) (let y : u ≡ t + 0 = omega arith in y) ∙ then 0 (omega arith)

      later : (i : ℕ) → i < length ds → get_or es (suc t + i) idle ≡ get_or ds i idle
      later i m = ap (λ (n : ℕ). get_or es n idle) (let y : suc t + i ≡ t + suc i = omega arith in y) ∙ then (suc i) (omega arith)

holds : (es : List ℕ) → Longest es 0 (longest es) (length es)
unfolding longest
holds [] = none [] 0 0 refl
holds (e ∷ es) =
    cut (e ∷ es) es 0 e 1 (suc (length es)) (omega arith) (omega arith)
    (λ u m n. ap (λ (k : ℕ). get_or (e ∷ es) k idle) (let z : u ≡ 0 = omega arith in z))
    (λ i m. ap (λ (k : ℕ). get_or (e ∷ es) k idle) (let z : 1 + i ≡ suc i = omega arith in z))

-- ## The readings

-- "Each longest stretch of equal entries": of the entries of a list, from 0 to its end; `longest` computes them and nothing else.
pub longest_reads : (es : List ℕ) (ss : List Stretch) → longest es ≡ ss ↔ Longest es 0 ss (length es)
longest_reads es ss = (λ e. subst (λ (x : List Stretch). Longest es 0 x (length es)) e (holds es), one es 0 (length es) (longest es) ss (holds es))

-- of our run: from 0 to the horizon
pub run_reads : (g : Given) (horizon : ℕ) (ss : List Stretch) → longest (run_entries g Lowest horizon) ≡ ss ↔ Longest (run_entries g Lowest horizon) 0 ss horizon
run_reads g horizon ss =
    subst (λ (b : ℕ). longest (run_entries g Lowest horizon) ≡ ss ↔ Longest (run_entries g Lowest horizon) 0 ss b) (length_run g Lowest horizon) (longest_reads (run_entries g Lowest horizon) ss)

-- Of a text that is not refused the listing is line 1, then the lines of these stretches in their order, then the jobs.
pub listing_reads : (text : List ℕ) (g : Given) (horizon : ℕ) → parsed_of text ≡ parsed g.mode horizon g.lists.tasks g.lists.jobs
    → before (check_lists g.lists) (check9 horizon) ≡ Done
    → (ss : List Stretch)
    × Longest (run_entries g Lowest horizon) 0 ss horizon
    × (listing text ≡ run_line g.mode horizon ++ (stretch_lines ss ++ job_lines g.lists (run_record g Lowest horizon) (job_count g.lists.jobs)))
unfolding listing given_listing run_listing printed stretches
listing_reads text g horizon p accepts =
    let runs = unless_done refused_line (run_listing g horizon) (before (check_lists g.lists) (check9 horizon)) accepts in
    (longest (run_entries g Lowest horizon), (run_reads g horizon _).0 refl, rw (p, runs))
