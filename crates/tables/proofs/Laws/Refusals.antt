-- The laws of checks: what one that is fine says, which refusal goes first, the checks as a loop makes them, ascending, and those of a list:
-- done exactly when all are, else the first that is not; and which numbers they refuse with.
use Prim.Native.Nat.{◌+◌, ◌<◌, suc, zero, ℕ, ◌≤◌}
use mathlib.Core.Bool.{Bool, false, true}
use mathlib.Core.Logic.{inl, inr, ◌⊎◌, ◌↔◌}
use mathlib.Core.Path.{ap, refl, sym, ◌∙◌, ◌≡◌}
use mathlib.Core.List.{◌++◌, List, [], ◌∷◌}
use native.Mathlib.Nat.{le_antisymm, not-suc-le-zero}
use native.Mathlib.Numerals.{add-one}
use native.Mathlib.Omega.{arith}
use lib.Dec.{lit≤}
use borrow.Author.Tests.{ltb-false, not-false}
use Rattle.bits.proofs.Laws.Below.{last_or_below}
use Rattle.bits.proofs.Laws.Bools.{or_left_false, or_right_false, apart}
use Rattle.std.specs.Prelude.{Result, Ok, Err, IsErr, IsErrAnd, ⊤}
use Rattle.tables.specs.declared.answers.Refusal.{Refusal}
use Rattle.tables.specs.Outcomes.{Outcome, Done, Refused}
use Rattle.tables.specs.Refusals.{ascending, before, refuse, unless, check2, check3, check4, check5, check6, check7, check8, check_jobs, check_lists, check_tasks}
use Rattle.tables.specs.Tables.{Lists, job_count, task_count}

-- an answer is one
pub same_ok : {A : Type 0} {a b : A} → ◌≡◌ {A = Result A Refusal} (Ok a) (Ok b) → a ≡ b
same_ok e = cc

-- a refusal has one number and one place
pub refused_same : {A : Type 0} (n p number place : ℕ) → ◌≡◌ {A = Result A Refusal} (Refused n p) (Refused number place) → (n ≡ number) × (p ≡ place)
refused_same {A} n p number place e = (ap numbered e, ap placed e)
  where
    numbered : Result A Refusal → ℕ
    numbered (Ok u) = 0
    numbered (Err w) = w.number

    placed : Result A Refusal → ℕ
    placed (Ok u) = 0
    placed (Err w) = w.place

-- and they are all of it
pub same_refusal : (v w : Refusal) → v.number ≡ w.number → v.place ≡ w.place → ◌≡◌ {A = Refusal} v w
same_refusal v w a b =
    ap (λ (n : ℕ). at n v.place) a ∙ ap (λ (p : ℕ). at w.number p) b
  where
    at : ℕ → ℕ → Refusal
    at number place = record { number = number; place = place }

pub refuse_fine : (b : Bool) (number place : ℕ) → refuse b number place ≡ Done → b ≡ false
unfolding refuse
refuse_fine true n p e = apart (cc)
refuse_fine false n p e = refl

-- one that refuses has its own number and place, and its test passed
pub refused_number : (b : Bool) (n p number place : ℕ) → refuse b n p ≡ Refused number place → (b ≡ true) × (number ≡ n) × (place ≡ p)
unfolding refuse
refused_number true n p number place e = let w = refused_same n p number place e in (refl, sym w.0, sym w.1)
refused_number false n p number place e = apart (cc)

pub before_first : (a b : Outcome) → before a b ≡ Done → a ≡ Done
unfolding before
before_first (Ok u) b e = refl
before_first (Err w) b e = e

pub before_second : (a b : Outcome) → before a b ≡ Done → b ≡ Done
unfolding before
before_second (Ok u) b e = e
before_second (Err w) b e = apart (cc)

-- the first check decides, or leaves it to the later
pub before_passes : (a b : Outcome) → a ≡ Done → before a b ≡ b
unfolding before
before_passes a b e = rw e

pub before_stops : (a b : Outcome) (number place : ℕ) → a ≡ Refused number place → before a b ≡ Refused number place
unfolding before
before_stops a b number place e = rw e

-- the same as `?` meets them: what it hands back is the first check's refusal itself, and past it that check is done
module _ (first later : Outcome) {a r : Outcome} where
  pub stops : {w : Refusal} → a ≡ first → a ≡ Err w → IsErrAnd r (λ x. x ≡ w) → r ≡ before first later
  unfolding before
  stops {w = w} e q h = rw (← e, q) (at r h)
    where
      at : (o : Outcome) → IsErrAnd o (λ x. x ≡ w) → o ≡ Err w
      at (Ok u) h = absurd h
      at (Err x) h = rw h

  pub goes_on : {u : ⊤} → a ≡ first → a ≡ Ok u → r ≡ later → r ≡ before first later
  unfolding before
  goes_on e q h = rw (← e, q, h)

-- what is handed back is what was found, and not done
pub handed_back : {a r : Outcome} {w : Refusal} → a ≡ Err w → IsErrAnd r (λ x. x ≡ w) → r ≡ a
handed_back {r = Ok u} q h = absurd h
handed_back {r = Err x} q h = rw (q, h)

pub stop_apart : {A : Type 0} {o : Outcome} → o ≡ Done → IsErr o → A
stop_apart {o = Ok u} e h = apart (cc)
stop_apart {o = Err w} e h = apart (cc)

pub before_assoc : (a b c : Outcome) → before (before a b) c ≡ before a (before b c)
unfolding before
before_assoc (Ok u) b c = refl
before_assoc (Err w) b c = refl

-- the later check matters only where the first is done
pub before_same : (a : Outcome) {b c : Outcome} → (a ≡ Done → b ≡ c) → before a b ≡ before a c
unfolding before
before_same (Ok u) h = h refl
before_same (Err w) h = refl

pub before_last : (a : Outcome) → before a Done ≡ a
unfolding before
before_last (Ok u) = refl
before_last (Err w) = refl

pub ascending_at : (f : ℕ → Outcome) (n k : ℕ) → k < n → ascending n f ≡ Done → f k ≡ Done
unfolding ascending
ascending_at f zero k l e = absurd (not-suc-le-zero l)
ascending_at f (suc n) k l e = go (last_or_below n k l) (ascending_at f n k)
  where
    go : (k ≡ n) ⊎ (k < n) → (k < n → ascending n f ≡ Done → f k ≡ Done) → f k ≡ Done
    go (inl q) ih = ap f q ∙ before_second (ascending n f) (f n) e
    go (inr m) ih = ih m (before_first (ascending n f) (f n) e)

-- `search fine` reads a check, and a test of a check, out of checks that all are fine
pub ruleset fine = (refuse_fine, before_first, before_second, or_left_false, or_right_false, ltb-false, not-false)

module _ (f : ℕ → Outcome) where
  -- a loop makes no check, and then each after those before it
  pub ascending_none : ascending 0 f ≡ Done
  unfolding ascending
  ascending_none = refl

  pub ascending_more : (k : ℕ) → ascending (k + 1) f ≡ before (ascending k f) (f k)
  unfolding ascending
  ascending_more k = rw (add-one, ascending)

  -- the checks stop at the first that refuses
  pub refused_first : (n i : ℕ) → i < n → ascending i f ≡ Done → (f i ≡ Done → ⊥) → ascending n f ≡ f i
  unfolding ascending before
  refused_first zero i l q p = absurd (not-suc-le-zero l)
  refused_first (suc n) i l q p = go (last_or_below n i l) (refused_first n i)
    where
      stop : (c : Outcome) → (c ≡ Done → ⊥) → before c (f n) ≡ c
      stop (Ok u) h = absurd (h refl)
      stop (Err w) h = refl

      go : (i ≡ n) ⊎ (i < n) → (i < n → ascending i f ≡ Done → (f i ≡ Done → ⊥) → ascending n f ≡ f i) → before (ascending n f) (f n) ≡ f i
      go (inl e) ih = ap (λ (c : Outcome). before c (f n)) (ap (λ (k : ℕ). ascending k f) (sym e) ∙ q) ∙ ap f (sym e)
      go (inr m) ih = ap (λ (c : Outcome). before c (f n)) (ih m q p) ∙ stop (f i) p

  pub refused_here : (n i : ℕ) (c : Outcome) (x y : ℕ) → i < n → ascending i f ≡ Done → c ≡ f i → c ≡ Refused x y → Refused x y ≡ ascending n f
  refused_here n i c x y l q p r = sym (refused_first n i l q (λ z. apart (cc)) ∙ sym p ∙ r)

  -- with `?` it goes on only while all are done, behind a first check: one more, the first that refuses, and the end
  pub still_done : (k : ℕ) {o : Outcome} {u : ⊤} → ascending k f ≡ Done → o ≡ f k → o ≡ Ok u → ascending (k + 1) f ≡ Done
  unfolding before
  still_done k w e q = rw (ascending_more k, w, ← e, q)

  pub stops_at : (n k : ℕ) (first : Outcome) {a o r : Outcome} {u : ⊤} {w : Refusal} → a ≡ first → a ≡ Ok u → k < n → ascending k f ≡ Done → o ≡ f k → o ≡ Err w
      → IsErrAnd r (λ x. x ≡ w) → r ≡ before first (ascending n f)
  stops_at n k first e p l d g q h =
      goes_on first _ e p (stops (f k) Done g q h ∙ before_last (f k) ∙ sym (refused_first n k l d (λ z. let x = sym g ∙ q in apart (cc))))

  pub all_passed : (n k : ℕ) (first : Outcome) {a : Outcome} {u : ⊤} → a ≡ first → a ≡ Ok u → k ≤ n → n ≤ k → ascending k f ≡ Done → Done ≡ before first (ascending n f)
  all_passed n k first e p l m d = goes_on first _ e p (sym d ∙ ap (λ (i : ℕ). ascending i f) (le_antisymm l m))

-- a check that refuses has a number that P holds of
abbrev pub Numbered : (ℕ → Type 0) → Outcome → Type 0
Numbered P (Ok u) = Unit {0}
Numbered P (Err w) = P w.number

module _ (P : ℕ → Type 0) where
  pub numbered_refuse : (b : Bool) (number place : ℕ) → P number → Numbered P (refuse b number place)
  unfolding refuse
  numbered_refuse true number place p = p
  numbered_refuse false number place p = tt

  pub numbered_before : (a b : Outcome) → Numbered P a → Numbered P b → Numbered P (before a b)
  unfolding before
  numbered_before (Ok u) b p q = q
  numbered_before (Err w) b p q = p

  pub numbered_ascending : (f : ℕ → Outcome) (n : ℕ) → ((k : ℕ) → Numbered P (f k)) → Numbered P (ascending n f)
  unfolding ascending
  numbered_ascending f zero each = tt
  numbered_ascending f (suc n) each = numbered_before (ascending n f) (f n) (numbered_ascending f n each) (each n)

  -- the lists are refused with 2 to 8: their tasks with 2 to 4, their jobs with 5 to 8
  pub tasks_numbered : ((number : ℕ) → 2 ≤ number → number ≤ 4 → P number) → (tasks : List ℕ) → Numbered P (check_tasks tasks)
  unfolding check_tasks check2 check3 check4
  tasks_numbered among tasks =
      numbered_before (check2 tasks) _ (numbered_refuse _ 2 0 (among 2 (lit≤ tt) (lit≤ tt)))
      (numbered_ascending _ (task_count tasks) (λ k.
      numbered_before (check3 tasks k) (check4 tasks k) (numbered_refuse _ 3 k (among 3 (lit≤ tt) (lit≤ tt))) (numbered_refuse _ 4 k (among 4 (lit≤ tt) (lit≤ tt)))))

  pub jobs_numbered : ((number : ℕ) → 5 ≤ number → number ≤ 8 → P number) → (tasks jobs : List ℕ) → Numbered P (check_jobs tasks jobs)
  unfolding check_jobs check5 check6 check7 check8
  jobs_numbered among tasks jobs =
      numbered_before (check5 jobs) _ (numbered_refuse _ 5 0 (among 5 (lit≤ tt) (lit≤ tt)))
      (numbered_ascending _ (job_count jobs) (λ j.
      numbered_before (check6 tasks jobs j) _ (numbered_refuse _ 6 j (among 6 (lit≤ tt) (lit≤ tt)))
      (numbered_before (check7 jobs j) (check8 tasks jobs j) (numbered_refuse _ 7 j (among 7 (lit≤ tt) (lit≤ tt))) (numbered_refuse _ 8 j (among 8 (lit≤ tt) (lit≤ tt))))))

  pub lists_numbered : ((number : ℕ) → 2 ≤ number → number ≤ 8 → P number) → (l : Lists) → Numbered P (check_lists l)
  unfolding check_lists
  lists_numbered among l =
      numbered_before (check_tasks l.tasks) _ (tasks_numbered (λ n a b. among n a (omega arith)) l.tasks)
      (jobs_numbered (λ n a b. among n (omega arith) b) l.tasks l.jobs)

-- where it is not done, it refuses with this number and place: so does a check that is done, one test's, and two such in a row
abbrev pub Only : ℕ → ℕ → Outcome → Type 0
Only number place o = (o ≡ Done → ⊥) → o ≡ Refused number place

pub only_done : (number place : ℕ) (o : Outcome) → o ≡ Done → Only number place o
only_done number place o e never = absurd (never e)

pub only_refuse : (b : Bool) (number place : ℕ) → Only number place (refuse b number place)
unfolding refuse
only_refuse true number place never = refl
only_refuse false number place never = absurd (never refl)

pub only_before : (number place : ℕ) (a b : Outcome) → Only number place a → Only number place b → Only number place (before a b)
unfolding before
only_before number place (Ok u) b p q never = q never
only_before number place (Err w) b p q never = p never

-- one such, done exactly where A holds, refuses exactly where it does not
pub only_exactly : {A : Type 0} (number place : ℕ) (o : Outcome) → Only number place o → (o ≡ Done ↔ A) → o ≡ Refused number place ↔ (A → ⊥)
only_exactly number place o only exactly = (λ e w. let q = exactly.1 w in apart (cc), λ never. only (λ ok. never (exactly.0 ok)))

-- ## A list of checks, in their order

unfoldable pub first_of : List Outcome → Outcome
first_of [] = Done
first_of (c ∷ []) = c
first_of (c ∷ d ∷ cs) = before c (first_of (d ∷ cs))

first_more : (c : Outcome) (cs : List Outcome) → first_of (c ∷ cs) ≡ before c (first_of cs)
unfolding first_of
first_more c [] = sym (before_last c)
first_more c (d ∷ cs) = refl

abbrev pub AllDone : List Outcome → Type 0
AllDone [] = Unit {0}
AllDone (c ∷ cs) = (c ≡ Done) × AllDone cs

-- none of them refuses with the number
abbrev pub Other : ℕ → Outcome → Type 0
Other number = Numbered (λ n. n ≡ number → ⊥)

pub other_none : (number : ℕ) (o : Outcome) → ((place : ℕ) → o ≡ Refused number place → ⊥) → Other number o
other_none number (Ok u) never = tt
other_none number (Err w) never = λ e. never w.place (ap (λ (x : ℕ). Refused x w.place) e)

abbrev pub Others : ℕ → List Outcome → Type 0
Others number [] = Unit {0}
Others number (c ∷ cs) = Other number c × Others number cs

-- done exactly when all are ..
pub all_done : (cs : List Outcome) → first_of cs ≡ Done ↔ AllDone cs
unfolding first_of
all_done [] = (λ e. tt, λ w. refl)
all_done (c ∷ cs) = (
  λ e. let q = sym (first_more c cs) ∙ e in (before_first c (first_of cs) q, (all_done cs).0 (before_second c (first_of cs) q)),
  λ w. first_more c cs ∙ before_passes c (first_of cs) w.0 ∙ (all_done cs).1 w.1,
)

-- .. else the first that is not
pub first_refused : (cs : List Outcome) (c : Outcome) (ds : List Outcome) (number place : ℕ) → AllDone cs → c ≡ Refused number place
    → first_of (cs ++ (c ∷ ds)) ≡ Refused number place
first_refused [] c ds number place w e = first_more c ds ∙ before_stops c (first_of ds) number place e
first_refused (d ∷ cs) c ds number place w e =
    first_more d (cs ++ (c ∷ ds)) ∙ before_passes d (first_of (cs ++ (c ∷ ds))) w.0 ∙ first_refused cs c ds number place w.1 e

-- and where the number is one's own, it is given exactly where that one refuses and all before it are done
pub own_refused : (cs : List Outcome) (c : Outcome) (ds : List Outcome) (number place : ℕ) → Others number cs → Others number ds
    → first_of (cs ++ (c ∷ ds)) ≡ Refused number place ↔ AllDone cs × (c ≡ Refused number place)
unfolding first_of before
own_refused cs c ds number place before-it behind = (there cs before-it, λ w. first_refused cs c ds number place w.0 w.1)
  where
    none : (o : Outcome) → Other number o → o ≡ Refused number place → ⊥
    none (Ok u) w e = apart (cc)
    none (Err r) w e = w (cc)

    behind_none : (ds : List Outcome) → Others number ds → Other number (first_of ds)
    behind_none [] w = tt
    behind_none (d ∷ ds) w = rw (first_more d ds) (numbered_before _ d (first_of ds) w.0 (behind_none ds w.1))

    own : (o : Outcome) → c ≡ o → before o (first_of ds) ≡ Refused number place → c ≡ Refused number place
    own (Ok u) q e = absurd (none (first_of ds) (behind_none ds behind) e)
    own (Err w) q e = q ∙ e

    there : (cs : List Outcome) → Others number cs → first_of (cs ++ (c ∷ ds)) ≡ Refused number place → AllDone cs × (c ≡ Refused number place)
    there [] w e = (tt, own c refl (sym (first_more c ds) ∙ e))
    there (d ∷ cs) w e = go d refl w.0 (sym (first_more d (cs ++ (c ∷ ds))) ∙ e) (there cs w.1)
      where
        go : (o : Outcome) → d ≡ o → Other number o → before o (first_of (cs ++ (c ∷ ds))) ≡ Refused number place
            → (first_of (cs ++ (c ∷ ds)) ≡ Refused number place → AllDone cs × (c ≡ Refused number place)) → ((d ≡ Done) × AllDone cs) × (c ≡ Refused number place)
        go (Ok v) q u e ih = let r = ih e in ((q, r.0), r.1)
        go (Err w) q u e ih = absurd (none (Err w) u e)

-- what is answered where nothing is refused, and where something is
module _ {A : Type 0} (refused : ℕ → ℕ → A) (answer : A) where
  pub unless_done : (o : Outcome) → o ≡ Done → unless o refused answer ≡ answer
  unfolding unless
  unless_done o e = ap (λ (x : Outcome). unless x refused answer) e

  pub unless_refused : (o : Outcome) (number place : ℕ) → o ≡ Refused number place → unless o refused answer ≡ refused number place
  unfolding unless
  unless_refused o n p e = ap (λ (x : Outcome). unless x refused answer) e

  -- an answer that is none of the refusals says that nothing was refused ..
  pub answered : (x : A) → ((number place : ℕ) → refused number place ≡ x → ⊥) → (o : Outcome) → unless o refused answer ≡ x ↔ (o ≡ Done) × (answer ≡ x)
  unfolding unless
  answered x never (Ok u) = (λ e. (refl, e), λ w. w.1)
  answered x never (Err w) = (λ e. absurd (never w.number w.place e), λ v. let q = v.0 in apart (cc))

-- an answer that may be refused is refused exactly as its checks are, and given exactly where they are done
module _ {A : Type 0} (answer : A) where
  pub refused_by : (o : Outcome) (number place : ℕ) → unless o Refused (Ok answer) ≡ Refused number place ↔ o ≡ Refused number place
  unfolding unless
  refused_by Done number place = (λ e. apart (cc), λ e. apart (cc))
  refused_by (Err w) number place = (
    λ e. let q = refused_same w.number w.place number place e in ap (λ (r : Refusal). Err r) (same_refusal w (record { number = number; place = place }) q.0 q.1),
    λ e. unless_refused Refused (Ok answer) (Err w) number place e,
  )

  -- by `?`: what it hands back is the refusal itself, and past it there is the answer
  pub stops_answer : (first : Outcome) {a : Outcome} {r : Result A Refusal} {w : Refusal} → a ≡ first → a ≡ Err w → IsErrAnd r (λ x. x ≡ w) → r ≡ unless first Refused (Ok answer)
  unfolding unless
  stops_answer first {r = Ok u} e q h = absurd h
  stops_answer first {r = Err x} e q h = rw (← e, q, h)

  pub gives_answer : (first : Outcome) {a : Outcome} {u : ⊤} {x : A} → a ≡ first → a ≡ Ok u → x ≡ answer → Ok x ≡ unless first Refused (Ok answer)
  unfolding unless
  gives_answer first e q h = rw (← e, q, h)

  pub given_by : (o : Outcome) (a : A) → unless o Refused (Ok answer) ≡ Ok a ↔ (o ≡ Done) × (answer ≡ a)
  unfolding unless
  given_by Done a = (λ e. (refl, cc), λ w. ap (λ (x : A). Ok x) w.1)
  given_by (Err w) a = (λ e. apart (cc), λ v. let q = v.0 in apart (cc))
