-- A loop joins words one by one; so the masks hold the jobs of each priority and, of each task, the jobs less critical than it. The level
-- at which a set is first met is that of its highest priority, as more tasks exceed a lower one: what is met there are the candidates.
use Prim.Native.Nat.{◌+◌, ◌*◌, ◌%◌, ◌<◌, ◌^◌, ℕ, ◌≤◌, suc, zero}
use mathlib.Core.Bool.{◌&&◌, Bool, cond, false, not, true, ◌||◌}
use mathlib.Core.List.{List}
use mathlib.Core.Logic.{inl, inr, ◌⊎◌}
use mathlib.Core.Path.{ap, ap₂, refl, sym, subst, ◌∙◌, ◌≡◌}
use native.Mathlib.Decide.{ℕ_discrete}
use native.Mathlib.Nat.{le_of_eq, not-suc-le-zero}
use native.Mathlib.Numerals.{add-one}
use native.Mathlib.Omega.{arith}
use lib.Bits.{bit_and, bit_or}
use lib.Dec.{eqb, ltb}
use lib.ListN.{get_or, length, length-set, replicate, set}
use lib.Seq.{get_or-set_other, get_or-set_same}
use borrow.Author.Tests.{eq-eqb, eqb-false, eqb-true, le-ltb, lt-ltb, ltb-false, ltb-true, ne_eqb, not-true}
use Rattle.bits.specs.Below.{bit, count, least, some, word}
use Rattle.bits.specs.Word.{without, without_lowest}
use Rattle.bits.proofs.Laws.Below.{count_most, count_next, count_nothing, count_same, last_or_below, least_found, least_is, least_none, least_same}
use Rattle.bits.proofs.Laws.Below.{least_skip, none_passes, scan_on, some_false, some_found, some_same, some_skip, some_true}
use Rattle.bits.proofs.Laws.Bools.{and_false, and_left, and_right, and_true, by_cond, clash, either, never_true, not_of, same_test}
use Rattle.bits.proofs.Laws.Sweep.{stays, Swept, swept_all, swept_here, swept_next, swept_none, swept_set}
use Rattle.bits.proofs.Laws.Word.{and_words, bit_above, bit_word, lowest_set, or_words, word_bits, word_lt, word_none, word_same}
use Rattle.bits.proofs.Readings.{least_reads}
use Rattle.tables.specs.Outcomes.{Done}
use Rattle.tables.specs.Refusals.{check_lists}
use Rattle.tables.specs.Tables.{criticality, idle, job_count, job_criticality, job_priority, Lists, priority, task_count, task_of}
use Rattle.tables.proofs.Laws.Accepted.{accepted_job, few_tasks, lists_few, lists_jobs, lists_tasks}
use Rattle.zsrm.specs.declared.record.Record.{Record}
use Rattle.zsrm.specs.Given.{Given, is_se}
use Rattle.zsrm.specs.Record.{done_at}
use Rattle.zsrm.specs.Tick.{alive, candidate, candidate_or_idle, done_after, eligible, ended_word, ends, higher_priority}
use Rattle.zsrm.specs.Tick.{job_word, lowest, more_critical, over, past_zero_slack, some_job, suspended}
use Rattle.zsrm.specs.Code.Gathered.{nominal_in}
use Rattle.zsrm.specs.Code.Masks.{below_some, criticality_at, ended_of, first_level, held_by, higher, join, joined, less_of, less_than, Masks}
use Rattle.zsrm.specs.Code.Masks.{lowest_of, MasksTo, may_stand, meet, meets_at, over_in, priority_at, rank, Scales, task_in, Tasks, top_of, Words}
use Rattle.zsrm.proofs.Laws.View.{job_word_bit, job_word_same}

-- the machine's words are those
pub or_join : (v w : ℕ) → v < 2 ^ 64 → w < 2 ^ 64 → bit_or v w ≡ join v w
unfolding join
or_join v w a b = ap₂ bit_or (sym (word_bits v 64 a)) (sym (word_bits w 64 b)) ∙ or_words (bit v) (bit w) 64

pub and_meet : (v w : ℕ) → v < 2 ^ 64 → w < 2 ^ 64 → bit_and v w ≡ meet v w
unfolding meet
and_meet v w a b = ap₂ bit_and (sym (word_bits v 64 a)) (sym (word_bits w 64 b)) ∙ and_words (bit v) (bit w) 64

-- the words of the numbers below k that are ok, joined one by one
module _ (ok : ℕ → Bool) (ws : ℕ → ℕ) where
  abbrev pub union_to : ℕ → ℕ
  union_to k = word 64 (λ i. some k (λ m. ok m && bit (ws m) i))

  pub union_none : 0 ≡ union_to 0
  unfolding some
  union_none = sym (word_none (λ i. some 0 (λ m. ok m && bit (ws m) i)) 64 (λ i _. refl))

  pub union_skip : (k : ℕ) → ok k ≡ false → union_to (suc k) ≡ union_to k
  union_skip k e = word_same _ _ 64 (λ i _. some_skip (λ m. ok m && bit (ws m) i) k (ap (λ (b : Bool). b && bit (ws k) i) e))

  union_with : (k : ℕ) → ok k ≡ true → join (union_to k) (ws k) ≡ union_to (suc k)
  unfolding join some
  union_with k e = word_same _ _ 64 (λ i l. ap (λ (b : Bool). b || bit (ws k) i) (bit_word _ 64 i l) ∙ rw e (swap (some k (λ m. ok m && bit (ws m) i)) (bit (ws k) i)))
    where
      swap : (a b : Bool) → (a || b) ≡ (b || a)
      swap true true = refl
      swap true false = refl
      swap false true = refl
      swap false false = refl

  pub union_more : (k v v' x : ℕ) (b : Bool) → v ≡ union_to k → b ≡ ok k → x ≡ ws k → v' ≡ cond b (join v x) v → v' ≡ union_to (k + 1)
  union_more k v v' x b p q y r =
      rw (add-one, r, q, p, y) (by_cond (λ x. x ≡ union_to (suc k)) (ok k) (join (union_to k) (ws k)) (union_to k) (union_with k) (λ e. sym (union_skip k e)))

-- the same from set bit to set bit
module _ (P : ℕ → Bool) (ws : ℕ → ℕ) (w : ℕ) where
  abbrev pub sweep_to : ℕ → ℕ
  sweep_to = union_to (λ m. bit w m && P m) ws

  pub union_start : w < 2 ^ 64 → Swept sweep_to w w 0
  union_start h = swept_none sweep_to w 0 h (union_none (λ m. bit w m && P m) ws)

  passed_by_law : (k : ℕ) → bit w k ≡ false → sweep_to (suc k) ≡ sweep_to k
  passed_by_law k e = union_skip (λ m. bit w m && P m) ws k (ap (λ (b : Bool). b && P k) e)

  pub union_on : (rest j acc rest' v x : ℕ) (b : Bool) → Swept sweep_to w rest acc → 0 < rest → j ≡ least 64 (bit rest) 64 → rest' ≡ without_lowest rest
      → b ≡ P j → x ≡ ws j → v ≡ cond b (join acc x) acc → Swept sweep_to w rest' v
  union_on rest j acc rest' v x b at l q e p y r =
      swept_next sweep_to w rest j acc at l q rest' v e
      (union_more (λ m. bit w m && P m) ws j acc v x b (swept_here sweep_to w rest j acc at l q passed_by_law)
      (p ∙ sym (ap (λ (x : Bool). x && P j) (swept_set sweep_to w rest j acc at l q))) y r)

  pub union_end : (rest acc : ℕ) → Swept sweep_to w rest acc → rest ≤ 0 → acc ≡ sweep_to 64
  union_end rest acc at z = swept_all sweep_to w rest acc at z passed_by_law

-- what passes the one test passes the other: no more pass, and fewer where the other passes once more
module _ (f h : ℕ → Bool) where
  count_within : (n : ℕ) → ((k : ℕ) → k < n → f k ≡ true → h k ≡ true) → count n f ≤ count n h
  unfolding count
  count_within zero s = omega arith
  count_within (suc n) s = go (f n) (h n) (s n (omega arith)) (count_within n (λ k l. s k (omega arith)))
    where
      go : (b c : Bool) → (b ≡ true → c ≡ true) → count n f ≤ count n h → cond b 1 0 + count n f ≤ cond c 1 0 + count n h
      go true c k m = rw (k refl) (omega arith)
      go false true k m = omega arith
      go false false k m = omega arith

  count_fewer : (n p : ℕ) → p < n → f p ≡ false → h p ≡ true → ((k : ℕ) → k < n → f k ≡ true → h k ≡ true) → count n f < count n h
  unfolding count
  count_fewer zero p l a b s = absurd (not-suc-le-zero l)
  count_fewer (suc n) p l a b s = go (last_or_below n p l) (λ m. count_fewer n p m a b (λ k i. s k (omega arith)))
    where
      on : (b c : Bool) → (b ≡ true → c ≡ true) → count n f < count n h → cond b 1 0 + count n f < cond c 1 0 + count n h
      on true c k m = rw (k refl) (omega arith)
      on false true k m = omega arith
      on false false k m = omega arith

      go : (p ≡ n) ⊎ (p < n) → (p < n → count n f < count n h) → cond (f n) 1 0 + count n f < cond (h n) 1 0 + count n h
      go (inl e) ih = rw (ap f (sym e) ∙ a, ap h (sym e) ∙ b) (omega (arith, count_within n (λ k i. s k (omega arith))))
      go (inr m) ih = on (f n) (h n) (s n (omega arith)) (ih m)

-- a test that fails once does not pass everywhere
count_short : (f : ℕ → Bool) (n k : ℕ) → k < n → f k ≡ false → count n f < n
count_short f n k l e = omega (arith, count_fewer f (λ _. true) n k l e refl (λ _ _ _. refl), count_most (λ _. true) n)

-- higher priorities, counted one task more
pub higher_none : (of : List ℕ) (p : ℕ) → 0 ≡ higher of 0 p
unfolding higher
higher_none of p = sym (count_nothing (λ m. ltb p (priority_at of m)))

pub higher_more : (of : List ℕ) (m p found its one : ℕ) → found ≡ higher of m p → its ≡ priority_at of m → one ≡ cond (ltb p its) 1 0 → found + one ≡ higher of (m + 1) p
unfolding higher
higher_more of m p found its one a b c =
    let n = count_next (λ m. ltb p (priority_at of m)) m in
    rw add-one (omega (arith, a, n, c ∙ ap (λ (x : ℕ). cond (ltb p x) 1 0) b))

pub higher_most : (of : List ℕ) (m p : ℕ) → higher of m p ≤ m
unfolding higher
higher_most of m p = count_most (λ m. ltb p (priority_at of m)) m

higher_below : (of : List ℕ) (n k : ℕ) → k < n → higher of n (priority_at of k) < n
unfolding higher
higher_below of n k l = count_short (λ m. ltb (priority_at of k) (priority_at of m)) n k l (le-ltb (priority_at of k) (priority_at of k) (omega arith))

pub level_below : (of : List ℕ) (n k p q : ℕ) → k < n → p ≡ priority_at of k → q ≡ higher of n p → q < n
level_below of n k p q l a b = rw (b, a) (higher_below of n k l)

-- the words of the less critical tasks, one task more
pub less_none : (of words : List ℕ) (c : ℕ) → 0 ≡ less_than of words 0 c
unfolding less_than joined
less_none of words c = union_none (λ m. ltb (criticality_at of m) c) (λ m. get_or words m 0)

pub less_more : (of words : List ℕ) (c m v v' its x : ℕ) → v ≡ less_than of words m c → its ≡ criticality_at of m → x ≡ get_or words m 0 → v' ≡ cond (ltb its c) (join v x) v
    → v' ≡ less_than of words (m + 1) c
unfolding less_than joined
less_more of words c m v v' its x a b y r = union_more (λ m. ltb (criticality_at of m) c) (λ m. get_or words m 0) m v v' x (ltb its c) a (ap (λ (x : ℕ). ltb x c) b) y r

-- the masks, word by word
module _ (of words : List ℕ) (n : ℕ) where
  pub masks_none : (masks : List ℕ) → length masks ≡ 32 → ((q : ℕ) → q < 16 → get_or masks q 0 ≡ 0) → MasksTo of words n 0 0 masks
  unfolding joined
  masks_none masks size blank =
      record {
        size = size;
        levels = λ q l. blank q l ∙ union_none (λ m. eqb (higher of n (priority_at of m)) q) (λ m. get_or words m 0);
        less = λ k l. absurd (omega arith);
      }

  pub masks_level : (k : ℕ) (masks : List ℕ) (p q x : ℕ) → MasksTo of words n k 0 masks → p ≡ priority_at of k → q ≡ higher of n p → q < 16
      → x ≡ get_or words k 0 → MasksTo of words n (k + 1) 0 (set masks q (join (get_or masks q 0) x))
  unfolding joined
  masks_level k masks p q x w ep eq few ex =
      record { size = length-set masks q v ∙ w.size; levels = λ i l. go i l (ℕ_discrete i q); less = λ i l. absurd (omega arith) }
    where
      v : ℕ
      v = join (get_or masks q 0) x

      at : q ≡ higher of n (priority_at of k)
      at = eq ∙ ap (higher of n) ep

      more : (i v' : ℕ) → i < 16 → v' ≡ cond (eqb (higher of n (priority_at of k)) i) (join (get_or masks i 0) (get_or words k 0)) (get_or masks i 0)
          → v' ≡ union_to (λ m. eqb (higher of n (priority_at of m)) i) (λ m. get_or words m 0) (k + 1)
      more i v' l r = union_more (λ m. eqb (higher of n (priority_at of m)) i) (λ m. get_or words m 0) k (get_or masks i 0) v' (get_or words k 0) _ (w.levels i l) refl refl r

      go : (i : ℕ) → i < 16 → Dec (i ≡ q) → get_or (set masks q v) i 0 ≡ union_to (λ m. eqb (higher of n (priority_at of m)) i) (λ m. get_or words m 0) (k + 1)
      go i l (yes e) =
          more i _ l (ap (λ (y : ℕ). get_or (set masks q v) y 0) e ∙ get_or-set_same masks q v 0 (omega (arith, w.size)) ∙ ap (join (get_or masks q 0)) ex
          ∙ ap (λ (y : ℕ). join (get_or masks y 0) (get_or words k 0)) (sym e)
          ∙ sym (ap (λ (b : Bool). cond b (join (get_or masks i 0) (get_or words k 0)) (get_or masks i 0)) (eq-eqb (higher of n (priority_at of k)) i (sym at ∙ sym e))))
      go i l (no ne) =
          more i _ l (get_or-set_other masks q i v 0 (λ e. absurd (omega (arith, ne)))
          ∙ sym (ap (λ (b : Bool). cond b (join (get_or masks i 0) (get_or words k 0)) (get_or masks i 0)) (ne_eqb (higher of n (priority_at of k)) i (λ e. absurd (omega (arith, ne, at))))))

  pub masks_less : (k : ℕ) (masks : List ℕ) (c v : ℕ) → MasksTo of words n n k masks → k < 16 → c ≡ criticality_at of k → v ≡ less_than of words n c
      → MasksTo of words n n (k + 1) (set masks (16 + k) v)
  masks_less k masks c v w few ec ev =
      record {
        size = length-set masks (16 + k) v ∙ w.size;
        levels = λ q l. get_or-set_other masks (16 + k) q v 0 (λ e. omega arith) ∙ w.levels q l;
        less = λ i l. go i (last_or_below k i (omega arith));
      }
    where
      go : (i : ℕ) → (i ≡ k) ⊎ (i < k) → get_or (set masks (16 + k) v) (16 + i) 0 ≡ less_than of words n (criticality_at of i)
      go i (inl e) =
          ap (λ (x : ℕ). get_or (set masks (16 + k) v) (16 + x) 0) e ∙ get_or-set_same masks (16 + k) v 0 (omega (arith, w.size)) ∙ ev
          ∙ ap (less_than of words n) (ec ∙ ap (criticality_at of) (sym e))
      go i (inr l) = get_or-set_other masks (16 + k) (16 + i) v 0 (λ e. omega arith) ∙ w.less i l

  pub masks_all : (k : ℕ) (masks : List ℕ) → k ≤ n → n ≤ k → MasksTo of words n k 0 masks → MasksTo of words n n 0 masks
  masks_all k masks a b w = subst (λ (x : ℕ). MasksTo of words n x 0 masks) (let e : k ≡ n = omega arith in e) w

  pub less_all : (k : ℕ) (masks : List ℕ) → k ≤ n → n ≤ k → MasksTo of words n n k masks → MasksTo of words n n n masks
  less_all k masks a b w = subst (λ (x : ℕ). MasksTo of words n n x masks) (let e : k ≡ n = omega arith in e) w

-- the level at which a set is first met, as a loop looks for it
module _ (masks : List ℕ) (among : ℕ) where
  pub top_on : (q found : ℕ) → some q (meets_at masks among) ≡ false → found ≡ meet among (get_or masks q 0) → found ≤ 0 → some (q + 1) (meets_at masks among) ≡ false
  unfolding meets_at
  top_on q found p e z = scan_on (meets_at masks among) q (ltb 0 found) p (ap (λ (x : ℕ). ltb 0 x) e) (le-ltb 0 found z)

  pub top_met : (q found : ℕ) → q < 16 → some q (meets_at masks among) ≡ false → found ≡ meet among (get_or masks q 0) → 0 < found → found ≡ top_of masks among
  unfolding top_of first_level
  top_met q found l p e z =
      let at : meets_at masks among q ≡ true = unfold meets_at in ap (λ (x : ℕ). ltb 0 x) (sym e) ∙ lt-ltb 0 found z in
      rw (least_is (meets_at masks among) 16 16 q l p at, lt-ltb q 16 l) e

  pub top_end : some 16 (meets_at masks among) ≡ false → 0 ≡ top_of masks among
  unfolding top_of first_level
  top_end p = rw (least_none (meets_at masks among) 16 16 p)

-- no level meets the empty set
pub top_empty : (masks : List ℕ) → 0 ≡ top_of masks 0
top_empty masks = top_end masks 0 (none_passes (meets_at masks 0) 16 (λ q _. unfold meets_at meet in ap (λ (x : ℕ). ltb 0 x) (nothing q)))
  where
    nothing : (q : ℕ) → word 64 (λ p. bit 0 p && bit (get_or masks q 0) p) ≡ 0
    nothing q = word_none _ 64 (λ p _. ap (λ (b : Bool). b && bit (get_or masks q 0) p) (bit_above 0 0 p (omega arith) (omega arith)))

-- whether an entry may stand, as the code tests it
pub stands_none : (masks : List ℕ) (among e : ℕ) → among ≡ 0 → eqb e idle ≡ may_stand masks among e
unfolding may_stand
stands_none masks among e z = rw z

pub stands_some : (masks : List ℕ) (among e top : ℕ) (b : Bool) → (among ≡ 0 → ⊥) → top ≡ top_of masks among → b ≡ bit top e → b ≡ may_stand masks among e
unfolding may_stand
stands_some masks among e top b n t q = rw (ne_eqb among 0 n) (q ∙ ap (λ (x : ℕ). bit x e) t)

-- a list of zeros reads 0
pub lowest_none : (masks : List ℕ) (among : ℕ) → among ≡ 0 → idle ≡ lowest_of masks among
unfolding lowest_of
lowest_none masks among z = rw (eq-eqb among 0 z)

pub lowest_some : (masks : List ℕ) (among top e : ℕ) → (among ≡ 0 → ⊥) → top ≡ top_of masks among → e ≡ least 64 (bit top) 64 → e ≡ lowest_of masks among
unfolding lowest_of
lowest_some masks among top e n q p = rw (ne_eqb among 0 n) (p ∙ ap (λ (x : ℕ). least 64 (bit x) 64) q)

pub lowest_small : (w : ℕ) → least 64 (bit w) 64 < 65536
lowest_small w = go (either (some 64 (bit w)))
  where
    go : (some 64 (bit w) ≡ true) ⊎ (some 64 (bit w) ≡ false) → least 64 (bit w) 64 < 65536
    go (inl t) = omega (arith, (least_found (bit w) 64 64 t).0)
    go (inr f) = omega (arith, least_none (bit w) 64 64 f)

pub zeros_read : (n q : ℕ) → ◌≡◌ {A = ℕ} (get_or (replicate n 0) q 0) 0
zeros_read zero q = refl
zeros_read (suc n) zero = refl
zeros_read (suc n) (suc q) = zeros_read n q

-- what is gathered of a job's task, and what the loops collect
pub task_few : (g : List ℕ) (j : ℕ) → task_in g j < 16
unfolding task_in
task_few g j = omega arith

pub over_in_law : (g done : List ℕ) (e j had ticks nominal : ℕ) → had ≡ get_or done j 0 → ticks ≡ had + cond (eqb e j) 1 0 → nominal ≡ nominal_in g j
    → ltb nominal ticks ≡ over_in g done e j
unfolding over_in
over_in_law g done e j had ticks nominal a b c = ap₂ ltb c (b ∙ ap (λ (x : ℕ). x + cond (eqb e j) 1 0) a)

module _ (masks g : List ℕ) (among : ℕ) where
  pub held_end : (rest acc : ℕ) → Swept (sweep_to (λ _. true) (less_of masks g) among) among rest acc → rest ≤ 0 → acc ≡ held_by masks g among
  unfolding held_by below_some
  held_end rest acc at z = union_end (λ _. true) (less_of masks g) among rest acc at z

  pub ended_end : (done : List ℕ) (e rest acc : ℕ) → Swept (sweep_to (over_in g done e) (less_of masks g) among) among rest acc → rest ≤ 0 → acc ≡ ended_of masks g done among e
  unfolding ended_of below_some
  ended_end done e rest acc at z = union_end (over_in g done e) (less_of masks g) among rest acc at z

-- a word of jobs, bit by bit
pub job_word_at : (jobs : List ℕ) (f : ℕ → Bool) (j : ℕ) → job_count jobs ≤ 64 → bit (job_word jobs f) j ≡ (ltb j (job_count jobs) && f j)
unfolding job_word
job_word_at jobs f j few = go (either (ltb j 64))
  where
    go : (ltb j 64 ≡ true) ⊎ (ltb j 64 ≡ false) → bit (word 64 (λ i. ltb i (job_count jobs) && f i)) j ≡ (ltb j (job_count jobs) && f j)
    go (inl l) = bit_word (λ i. ltb i (job_count jobs) && f i) 64 j (ltb-true j 64 l)
    go (inr l) =
        let b = ltb-false j 64 l in
        bit_above (word 64 (λ i. ltb i (job_count jobs) && f i)) 64 j (word_lt (λ i. ltb i (job_count jobs) && f i) 64) b
        ∙ sym (ap (λ (x : Bool). x && f j) (le-ltb j (job_count jobs) (omega arith)))

-- the words of the tasks that pass, joined, are the word of the jobs whose task does
module _ (l : Lists) (ok : check_lists l ≡ Done) where
  known : (j : ℕ) → j < job_count l.jobs → task_of l.jobs j < task_count l.tasks
  known j b = (accepted_job l.tasks l.jobs (lists_jobs l ok) j b).known

  few_of : task_count l.tasks ≤ 16
  few_of = few_tasks l.tasks (lists_tasks l ok)

  joined_jobs : (words : List ℕ) (P Q : ℕ → Bool) → Words l words → ((m : ℕ) → m < task_count l.tasks → P m ≡ Q m)
      → joined words (task_count l.tasks) P ≡ job_word l.jobs (λ j. Q (task_of l.jobs j))
  unfolding joined job_word
  joined_jobs words P Q ws same = words_same
    where
      n : ℕ
      n = task_count l.tasks

      at : (m j : ℕ) → m < n → bit (get_or words m 0) j ≡ (ltb j (job_count l.jobs) && eqb (task_of l.jobs j) m)
      at m j b = ap (λ (x : ℕ). bit x j) (ws m b) ∙ job_word_at l.jobs (λ j. eqb (task_of l.jobs j) m) j (lists_few l ok)

      there : (j : ℕ) → some n (λ m. P m && bit (get_or words m 0) j) ≡ true → (ltb j (job_count l.jobs) && Q (task_of l.jobs j)) ≡ true
      there j t =
          let w = some_found (λ m. P m && bit (get_or words m 0) j) n t in
          let p : P w.0 ≡ true = and_left (P w.0) (bit (get_or words w.0 0) j) w.2 in
          let q : (ltb j (job_count l.jobs) && eqb (task_of l.jobs j) w.0) ≡ true = sym (at w.0 j w.1) ∙ and_right (P w.0) (bit (get_or words w.0 0) j) w.2 in
          let e : task_of l.jobs j ≡ w.0 = eqb-true (task_of l.jobs j) w.0 (and_right (ltb j (job_count l.jobs)) (eqb (task_of l.jobs j) w.0) q) in
          and_true (and_left (ltb j (job_count l.jobs)) (eqb (task_of l.jobs j) w.0) q) (ap Q e ∙ sym (same w.0 w.1) ∙ p)

      back : (j : ℕ) → (ltb j (job_count l.jobs) && Q (task_of l.jobs j)) ≡ true → some n (λ m. P m && bit (get_or words m 0) j) ≡ true
      back j t =
          let b = and_left (ltb j (job_count l.jobs)) (Q (task_of l.jobs j)) t in
          let m = task_of l.jobs j in
          let k = known j (ltb-true j (job_count l.jobs) b) in
          some_true (λ m. P m && bit (get_or words m 0) j) n m k
          (and_true (same m k ∙ and_right (ltb j (job_count l.jobs)) (Q m) t) (at m j k ∙ and_true b (eq-eqb m m refl)))

      words_same : word 64 (λ j. some n (λ m. P m && bit (get_or words m 0) j)) ≡ job_word l.jobs (λ j. Q (task_of l.jobs j))
      words_same = word_same _ _ 64 (λ j _. same_test _ _ (there j) (back j))

  rank_of : (of : List ℕ) → Scales l of → (m : ℕ) → m < task_count l.tasks → higher of (task_count l.tasks) (priority_at of m) ≡ rank l.tasks (priority l.tasks m)
  unfolding higher rank
  rank_of of s m b = count_same _ _ (task_count l.tasks) (λ k i. ap₂ ltb (s.priorities m b) (s.priorities k i))

  -- the masks that are made are those of the lists
  pub masks_of : (of words masks : List ℕ) (n : ℕ) → n ≡ task_count l.tasks → Scales l of → Words l words → MasksTo of words n n n masks → Masks l masks
  unfolding less_than job_priority job_criticality
  masks_of of words masks n q s ws w =
      record {
        size = w.size;
        levels = λ i b. levels i (w.levels i b);
        less = λ k b. less k b (w.less k (rw q b));
      }
    where
      N : ℕ
      N = task_count l.tasks

      levels : (i : ℕ) → get_or masks i 0 ≡ joined words n (λ m. eqb (higher of n (priority_at of m)) i) → get_or masks i 0 ≡ job_word l.jobs (λ j. eqb (rank l.tasks (job_priority l j)) i)
      levels i e =
          e ∙ ap (λ (x : ℕ). joined words x (λ m. eqb (higher of x (priority_at of m)) i)) q
          ∙ joined_jobs words (λ m. eqb (higher of N (priority_at of m)) i) (λ m. eqb (rank l.tasks (priority l.tasks m)) i) ws (λ m b. ap (λ (x : ℕ). eqb x i) (rank_of of s m b))

      less : (k : ℕ) → k < N → get_or masks (16 + k) 0 ≡ less_than of words n (criticality_at of k) → get_or masks (16 + k) 0 ≡ job_word l.jobs (λ j. ltb (job_criticality l j) (criticality l.tasks k))
      less k b e =
          e ∙ ap₂ (λ (x c : ℕ). joined words x (λ m. ltb (criticality_at of m) c)) q (s.criticalities k b)
          ∙ joined_jobs words (λ m. ltb (criticality_at of m) (criticality l.tasks k)) (λ m. ltb (criticality l.tasks m) (criticality l.tasks k)) ws
          (λ m i. ap (λ (x : ℕ). ltb x (criticality l.tasks k)) (s.criticalities m i))

  -- no task exceeds the priority of all, so each job has a level
  rank_few : (j : ℕ) → j < job_count l.jobs → rank l.tasks (job_priority l j) < 16
  unfolding rank job_priority
  rank_few j b =
      omega (
        arith,
        few_of,
        count_short (λ m. ltb (priority l.tasks (task_of l.jobs j)) (priority l.tasks m)) (task_count l.tasks) (task_of l.jobs j) (known j b)
            (le-ltb (priority l.tasks (task_of l.jobs j)) (priority l.tasks (task_of l.jobs j)) (omega arith)),
      )

  -- a lower priority is exceeded by all that exceed a higher one, and by that
  rank_less : (i j : ℕ) → i < job_count l.jobs → job_priority l j < job_priority l i → rank l.tasks (job_priority l i) < rank l.tasks (job_priority l j)
  unfolding rank job_priority
  rank_less i j b h =
      count_fewer _ _ (task_count l.tasks) (task_of l.jobs i) (known i b) (le-ltb _ (priority l.tasks (task_of l.jobs i)) (omega arith)) (lt-ltb _ _ h)
      (λ k _ t. lt-ltb (priority l.tasks (task_of l.jobs j)) (priority l.tasks k) (omega (arith, h, ltb-true (priority l.tasks (task_of l.jobs i)) (priority l.tasks k) t)))

  rank_within : (i j : ℕ) → job_priority l i ≤ job_priority l j → rank l.tasks (job_priority l j) ≤ rank l.tasks (job_priority l i)
  unfolding rank
  rank_within i j h =
      count_within _ _ (task_count l.tasks) (λ k _ t. lt-ltb (job_priority l i) (priority l.tasks k) (omega (arith, h, ltb-true (job_priority l j) (priority l.tasks k) t)))

-- a set of jobs is empty exactly where its word is 0
pub job_word_some : (jobs : List ℕ) (f : ℕ → Bool) → job_count jobs ≤ 64 → ltb 0 (job_word jobs f) ≡ some_job jobs f
unfolding some_job
job_word_some jobs f few = same_test (ltb 0 (job_word jobs f)) (some (job_count jobs) f) there back
  where
    small : job_word jobs f < 2 ^ 64
    small = unfold job_word in word_lt (λ j. ltb j (job_count jobs) && f j) 64

    there : ltb 0 (job_word jobs f) ≡ true → some (job_count jobs) f ≡ true
    there t =
        let j = least 64 (bit (job_word jobs f)) 64 in
        let w : (ltb j (job_count jobs) && f j) ≡ true = sym (job_word_at jobs f j few) ∙ (lowest_set (job_word jobs f) small (ltb-true 0 (job_word jobs f) t)).1 in
        some_true f (job_count jobs) j (ltb-true j (job_count jobs) (and_left (ltb j (job_count jobs)) (f j) w)) (and_right (ltb j (job_count jobs)) (f j) w)

    none : job_word jobs f ≤ 0 → (j : ℕ) → j < job_count jobs → f j ≡ true → ltb 0 (job_word jobs f) ≡ true
    none z j b t =
        let e : job_word jobs f ≡ 0 = omega arith in
        clash (job_word_bit jobs f j few b ∙ t) (ap (λ (x : ℕ). bit x j) e ∙ bit_above 0 0 j (omega arith) (omega arith))

    go : (ltb 0 (job_word jobs f) ≡ true) ⊎ (ltb 0 (job_word jobs f) ≡ false) → some (job_count jobs) f ≡ true → ltb 0 (job_word jobs f) ≡ true
    go (inl t) s = t
    go (inr z) s = let w = some_found f (job_count jobs) s in none (ltb-false 0 (job_word jobs f) z) w.0 w.1 w.2

    back : some (job_count jobs) f ≡ true → ltb 0 (job_word jobs f) ≡ true
    back = go (either (ltb 0 (job_word jobs f)))

-- what two sets of jobs have in common
meet_jobs : (jobs : List ℕ) (f h : ℕ → Bool) → job_count jobs ≤ 64 → meet (job_word jobs f) (job_word jobs h) ≡ job_word jobs (λ j. f j && h j)
unfolding meet job_word
meet_jobs jobs f h few =
    word_same _ _ 64 (λ j l. ap₂ (λ (a b : Bool). a && b) (bit_word (λ j. ltb j (job_count jobs) && f j) 64 j l) (bit_word (λ j. ltb j (job_count jobs) && h j) 64 j l)
    ∙ go (ltb j (job_count jobs)) (f j) (h j))
  where
    go : (x a b : Bool) → ((x && a) && (x && b)) ≡ (x && (a && b))
    go true a b = refl
    go false a b = refl

-- the set's jobs of its highest priority
module _ (g : Given) (masks : List ℕ) (ok : check_lists g.lists ≡ Done) (w : Masks g.lists masks) (F : ℕ → Bool) where
  few : job_count g.lists.jobs ≤ 64
  few = lists_few g.lists ok

  level : ℕ → ℕ
  level j = rank g.lists.tasks (job_priority g.lists j)

  -- with none of strictly higher priority
  abbrev tops : ℕ → Bool
  tops j = F j && not (some_job g.lists.jobs (λ i. F i && higher_priority g i j))

  met : (q : ℕ) → q < 16 → meet (job_word g.lists.jobs F) (get_or masks q 0) ≡ job_word g.lists.jobs (λ j. F j && eqb (level j) q)
  unfolding level
  met q b = ap (meet (job_word g.lists.jobs F)) (w.levels q b) ∙ meet_jobs g.lists.jobs F (λ j. eqb (level j) q) few

  meets : (q : ℕ) → q < 16 → meets_at masks (job_word g.lists.jobs F) q ≡ some_job g.lists.jobs (λ j. F j && eqb (level j) q)
  unfolding meets_at
  meets q b = ap (λ (x : ℕ). ltb 0 x) (met q b) ∙ job_word_some g.lists.jobs (λ j. F j && eqb (level j) q) few

  meets_there : (j : ℕ) → j < job_count g.lists.jobs → F j ≡ true → meets_at masks (job_word g.lists.jobs F) (level j) ≡ true
  unfolding some_job level
  meets_there j b t =
      meets (level j) (rank_few g.lists ok j b)
      ∙ some_true (λ i. F i && eqb (level i) (level j)) (job_count g.lists.jobs) j b (and_true t (eq-eqb (level j) (level j) refl))

  -- at the first level that meets it
  module _ (q : ℕ) (b : q < 16) (here : meets_at masks (job_word g.lists.jobs F) q ≡ true) (first : (i : ℕ) → i < q → meets_at masks (job_word g.lists.jobs F) i ≡ false) where
    none_higher : (j : ℕ) → level j ≡ q → some_job g.lists.jobs (λ i. F i && higher_priority g i j) ≡ false
    unfolding some_job higher_priority level
    none_higher j e =
        never_true _ (λ t. let x = some_found (λ i. F i && ltb (job_priority g.lists j) (job_priority g.lists i)) (job_count g.lists.jobs) t in
        let i = x.0 in
        let p = and_left (F i) (ltb (job_priority g.lists j) (job_priority g.lists i)) x.2 in
        let h = ltb-true (job_priority g.lists j) (job_priority g.lists i) (and_right (F i) (ltb (job_priority g.lists j) (job_priority g.lists i)) x.2) in
        clash (meets_there i x.1 p) (first (level i) (omega (arith, rank_less g.lists ok i j x.1 h, e))))

    at_level : (j : ℕ) → j < job_count g.lists.jobs → tops j ≡ true → level j ≡ q
    unfolding some_job higher_priority level
    at_level j c t =
        let x = some_found (λ i. F i && eqb (level i) q) (job_count g.lists.jobs) (sym (meets q b) ∙ here) in
        let i = x.0 in
        let p = and_left (F i) (eqb (level i) q) x.2 in
        let e : level i ≡ q = eqb-true (level i) q (and_right (F i) (eqb (level i) q) x.2) in
        let f = and_left (F j) _ t in
        let none = some_false (λ i. F i && ltb (job_priority g.lists j) (job_priority g.lists i)) (job_count g.lists.jobs) i x.1 (not-true _ (and_right (F j) _ t)) in
        let low : job_priority g.lists i ≤ job_priority g.lists j = ltb-false (job_priority g.lists j) (job_priority g.lists i) (and_false p none) in
        let most = rank_within g.lists ok i j low in
        not_before (either (ltb (level j) q)) (meets_there j c f) (omega (arith, most, e))
      where
        not_before : (ltb (level j) q ≡ true) ⊎ (ltb (level j) q ≡ false) → meets_at masks (job_word g.lists.jobs F) (level j) ≡ true → level j ≤ q → level j ≡ q
        not_before (inl h) m le = clash m (first (level j) (ltb-true (level j) q h))
        not_before (inr h) m le = omega (arith, ltb-false (level j) q h)

    at_first : meet (job_word g.lists.jobs F) (get_or masks q 0) ≡ job_word g.lists.jobs tops
    at_first =
        met q b ∙ job_word_same g.lists.jobs (λ j. F j && eqb (level j) q) tops
        (λ j c. same_test (F j && eqb (level j) q) (tops j)
        (λ t. and_true (and_left (F j) (eqb (level j) q) t) (not_of (none_higher j (eqb-true (level j) q (and_right (F j) (eqb (level j) q) t)))))
        (λ t. and_true (and_left (F j) _ t) (eq-eqb (level j) q (at_level j c t))))

  pub top_set : top_of masks (job_word g.lists.jobs F) ≡ job_word g.lists.jobs tops
  unfolding top_of first_level level
  top_set = go (either (some 16 (meets_at masks (job_word g.lists.jobs F))))
    where
      A : ℕ
      A = job_word g.lists.jobs F

      go : (some 16 (meets_at masks A) ≡ true) ⊎ (some 16 (meets_at masks A) ≡ false)
          → cond (ltb (least 16 (meets_at masks A) 16) 16) (meet A (get_or masks (least 16 (meets_at masks A) 16) 0)) 0 ≡ job_word g.lists.jobs tops
      go (inl t) =
          let x = least_found (meets_at masks A) 16 16 t in
          ap (λ (b : Bool). cond b (meet A (get_or masks (least 16 (meets_at masks A) 16) 0)) 0) (lt-ltb (least 16 (meets_at masks A) 16) 16 x.0)
          ∙ at_first (least 16 (meets_at masks A) 16) x.0 x.1
          ((least_reads (meets_at masks A) 16 16 (least 16 (meets_at masks A) 16) x.0 (omega arith)).0 refl).1
      go (inr f) =
          sym (top_end masks A f)
          ∙ sym (unfold job_word in word_none _ 64 (λ j _. never_true _ (λ t. let b = ltb-true j (job_count g.lists.jobs) (and_left (ltb j (job_count g.lists.jobs)) (tops j) t) in
          clash (meets_there j b (and_left (F j) _ (and_right (ltb j (job_count g.lists.jobs)) (tops j) t)))
          (some_false (meets_at masks A) 16 (level j) (rank_few g.lists ok j b) f))))

  -- a set that is not empty has a top
  pub top_more : (j : ℕ) → j < job_count g.lists.jobs → F j ≡ true → ltb 0 (top_of masks (job_word g.lists.jobs F)) ≡ true
  unfolding top_of first_level level meets_at
  top_more j b t =
      let A = job_word g.lists.jobs F in
      let x = least_found (meets_at masks A) 16 16 (some_true (meets_at masks A) 16 (level j) (rank_few g.lists ok j b) (meets_there j b t)) in
      ap (λ (y : Bool). ltb 0 (cond y (meet A (get_or masks (least 16 (meets_at masks A) 16) 0)) 0)) (lt-ltb (least 16 (meets_at masks A) 16) 16 x.0) ∙ x.1

-- the least job of a set
least_jobs : (jobs : List ℕ) (f : ℕ → Bool) (d : ℕ) → job_count jobs ≤ 64 → least 64 (bit (job_word jobs f)) d ≡ least (job_count jobs) f d
least_jobs jobs f d few =
    stays (λ k. least k (bit (job_word jobs f)) d) (job_count jobs) 64 few
    (λ k a _. least_skip (bit (job_word jobs f)) k d (job_word_at jobs f k few ∙ ap (λ (x : Bool). x && f k) (le-ltb k (job_count jobs) a)))
    ∙ least_same (bit (job_word jobs f)) f (job_count jobs) d (λ k b. job_word_bit jobs f k few b)

-- where one passes it does not matter what the least is else
least_any : (f : ℕ → Bool) (n d e : ℕ) → n ≤ d → some n f ≡ true → least n f d ≡ least n f e
least_any f n d e b t =
    let x = least_found f n d t in
    sym (least_is f n e (least n f d) x.0 (none_passes f (least n f d) ((least_reads f n d (least n f d) x.0 b).0 refl).1) x.1)

module _ (g : Given) (r : Record) (masks : List ℕ) (ok : check_lists g.lists ≡ Done) (w : Masks g.lists masks) where
  -- the top of the eligible jobs are the candidates
  pub top_candidates : top_of masks (job_word g.lists.jobs (eligible g r)) ≡ job_word g.lists.jobs (candidate g r)
  unfolding candidate
  top_candidates = top_set g masks ok w (eligible g r)

  module _ (top : ℕ) (q : top ≡ job_word g.lists.jobs (candidate g r)) where
    pub top_some : ltb 0 top ≡ some_job g.lists.jobs (candidate g r)
    top_some = ap (λ (x : ℕ). ltb 0 x) q ∙ job_word_some g.lists.jobs (candidate g r) (lists_few g.lists ok)

    -- its lowest bit is the lowest candidate
    pub top_lowest : 0 < top → least 64 (bit top) 64 ≡ lowest g r
    unfolding lowest some_job
    top_lowest l =
        ap (λ (x : ℕ). least 64 (bit x) 64) q ∙ least_jobs g.lists.jobs (candidate g r) 64 (lists_few g.lists ok)
        ∙ least_any (candidate g r) (job_count g.lists.jobs) 64 idle (lists_few g.lists ok) (sym top_some ∙ lt-ltb 0 top l)

    -- and where it is 0 there is none
    pub top_none : top ≤ 0 → idle ≡ lowest g r
    unfolding lowest some_job
    top_none z = sym (least_none (candidate g r) (job_count g.lists.jobs) idle (sym top_some ∙ le-ltb 0 top z))

  -- where some job is eligible, some is a candidate
  some_candidate : 0 < job_word g.lists.jobs (eligible g r) → some_job g.lists.jobs (candidate g r) ≡ true
  unfolding some_job
  some_candidate l =
      let x = some_found (eligible g r) (job_count g.lists.jobs) (sym (job_word_some g.lists.jobs (eligible g r) (lists_few g.lists ok)) ∙ lt-ltb 0 _ l) in
      sym (top_some _ top_candidates) ∙ top_more g masks ok w (eligible g r) x.0 x.1 x.2

  -- the entry of our run is the lowest candidate, or idle with none
  pub lowest_entry : lowest_of masks (job_word g.lists.jobs (eligible g r)) ≡ lowest g r
  unfolding lowest_of
  lowest_entry =
      by_cond (λ x. x ≡ lowest g r) (eqb A 0) idle (least 64 (bit (top_of masks A)) 64)
      (λ z. top_none (top_of masks A) top_candidates (le_of_eq (ap (top_of masks) (eqb-true A 0 z) ∙ sym (top_empty masks))))
      (λ n. top_lowest (top_of masks A) top_candidates (ltb-true 0 (top_of masks A) (top_some (top_of masks A) top_candidates ∙ some_candidate (omega (arith, eqb-false A 0 n)))))
    where
      A : ℕ
      A = job_word g.lists.jobs (eligible g r)

  -- an entry may stand exactly where it is a candidate, or idle with none
  pub top_stands : (e : ℕ) → may_stand masks (job_word g.lists.jobs (eligible g r)) e ≡ candidate_or_idle g r e
  unfolding may_stand candidate_or_idle
  top_stands e = go (either (eqb A 0))
    where
      A : ℕ
      A = job_word g.lists.jobs (eligible g r)

      there : bit (top_of masks A) e ≡ (ltb e (job_count g.lists.jobs) && candidate g r e)
      there = ap (λ (x : ℕ). bit x e) top_candidates ∙ job_word_at g.lists.jobs (candidate g r) e (lists_few g.lists ok)

      none : A ≡ 0 → top_of masks A ≡ 0
      none z = ap (top_of masks) z ∙ sym (top_empty masks)

      both : (a b c d : Bool) → c ≡ false → d ≡ false → a ≡ b → (a ≡ (c || (b && not d)))
      both a true c d p q h = rw (p, q) h
      both a false c d p q h = rw p h

      left : (a b c d : Bool) → a ≡ c → d ≡ true → a ≡ (c || (b && not d))
      left true b c d p q = rw (sym p)
      left false true c d p q = rw (sym p, q)
      left false false c d p q = rw (sym p)

      go : (eqb A 0 ≡ true) ⊎ (eqb A 0 ≡ false)
          → cond (eqb A 0) (eqb e idle) (bit (top_of masks A) e)
          ≡ ((ltb e (job_count g.lists.jobs) && candidate g r e) || (eqb e idle && not (some_job g.lists.jobs (candidate g r))))
      go (inl z) =
          let t = none (eqb-true A 0 z) in
          ap (λ (x : Bool). cond x (eqb e idle) (bit (top_of masks A) e)) z
          ∙ both (eqb e idle) (eqb e idle) _ _ (sym there ∙ ap (λ (x : ℕ). bit x e) t ∙ bit_above 0 0 e (omega arith) (omega arith))
          (sym (top_some _ top_candidates) ∙ ap (λ (x : ℕ). ltb 0 x) t) refl
      go (inr n) =
          ap (λ (x : Bool). cond x (eqb e idle) (bit (top_of masks A) e)) n
          ∙ left _ (eqb e idle) _ _ there (some_candidate (omega (arith, eqb-false A 0 n)))

-- the jobs less critical than some job of a set that passes
module _ (g : Given) (r : Record) (masks gathered : List ℕ) (ok : check_lists g.lists ≡ Done) (w : Masks g.lists masks) (t : Tasks g.lists gathered) where
  -- of each job, those less critical than it
  less_of_law : (i j : ℕ) → i < job_count g.lists.jobs → j < job_count g.lists.jobs → bit (less_of masks gathered j) i ≡ more_critical g j i
  unfolding less_of task_in more_critical job_criticality
  less_of_law i j a b =
      let k = known g.lists ok j b in
      let at : get_or gathered (5 * j + 4) 0 % 16 ≡ task_of g.lists.jobs j = omega (arith, t.tasks_of j b, k, few_of g.lists ok) in
      ap (λ (x : ℕ). bit (get_or masks (16 + x) 0) i) at ∙ ap (λ (x : ℕ). bit x i) (w.less (task_of g.lists.jobs j) k)
      ∙ job_word_bit g.lists.jobs _ i (lists_few g.lists ok) a

  below_some_law : (F f : ℕ → Bool) (i : ℕ) → i < job_count g.lists.jobs
      → bit (below_some masks gathered (job_word g.lists.jobs F) f) i ≡ some_job g.lists.jobs (λ j. (F j && f j) && more_critical g j i)
  unfolding below_some some_job
  below_some_law F f i b =
      let few = lists_few g.lists ok in
      bit_word _ 64 i (omega (arith, few))
      ∙ stays (λ k. some k (λ j. (bit (job_word g.lists.jobs F) j && f j) && bit (less_of masks gathered j) i)) (job_count g.lists.jobs) 64 few
      (λ k a _. some_skip _ k (ap (λ (x : Bool). (x && f k) && bit (less_of masks gathered k) i)
      (job_word_at g.lists.jobs F k few ∙ ap (λ (x : Bool). x && F k) (le-ltb k (job_count g.lists.jobs) a))))
      ∙ some_same _ (λ j. (F j && f j) && more_critical g j i) (job_count g.lists.jobs)
      (λ j c. ap₂ (λ (x y : Bool). (x && f j) && y) (job_word_bit g.lists.jobs F j few c) (less_of_law i j b c))

  -- the jobs alive that are in a word, and those that are not
  meet_alive : (v : ℕ) (h : ℕ → Bool) → ((i : ℕ) → i < job_count g.lists.jobs → bit v i ≡ h i)
      → meet (job_word g.lists.jobs (alive r)) v ≡ job_word g.lists.jobs (λ j. alive r j && h j)
  unfolding meet job_word
  meet_alive v h same =
      word_same _ _ 64 (λ j l. ap (λ (x : Bool). x && bit v j) (bit_word _ 64 j l) ∙ go j (either (ltb j (job_count g.lists.jobs))))
    where
      go : (j : ℕ) → (ltb j (job_count g.lists.jobs) ≡ true) ⊎ (ltb j (job_count g.lists.jobs) ≡ false)
          → ((ltb j (job_count g.lists.jobs) && alive r j) && bit v j) ≡ (ltb j (job_count g.lists.jobs) && (alive r j && h j))
      go j (inl b) = rw b (ap (λ (x : Bool). alive r j && x) (same j (ltb-true j (job_count g.lists.jobs) b)))
      go j (inr b) = rw b

  without_alive : (v : ℕ) (h : ℕ → Bool) → ((i : ℕ) → i < job_count g.lists.jobs → bit v i ≡ h i)
      → without (job_word g.lists.jobs (alive r)) v ≡ job_word g.lists.jobs (λ j. alive r j && not (h j))
  unfolding without job_word
  without_alive v h same =
      word_same _ _ 64 (λ j l. ap (λ (x : Bool). x && not (bit v j)) (bit_word _ 64 j l) ∙ go j (either (ltb j (job_count g.lists.jobs))))
    where
      go : (j : ℕ) → (ltb j (job_count g.lists.jobs) ≡ true) ⊎ (ltb j (job_count g.lists.jobs) ≡ false)
          → ((ltb j (job_count g.lists.jobs) && alive r j) && not (bit v j)) ≡ (ltb j (job_count g.lists.jobs) && (alive r j && not (h j)))
      go j (inl b) = rw b (ap (λ (x : Bool). alive r j && not x) (same j (ltb-true j (job_count g.lists.jobs) b)))
      go j (inr b) = rw b

  -- by the jobs past zero slack: the suspended and the eligible
  held_bit : (i : ℕ) → i < job_count g.lists.jobs
      → bit (held_by masks gathered (job_word g.lists.jobs (past_zero_slack g r))) i ≡ some_job g.lists.jobs (λ j. past_zero_slack g r j && more_critical g j i)
  unfolding held_by some_job
  held_bit i b = below_some_law (past_zero_slack g r) (λ _. true) i b ∙ some_same _ _ (job_count g.lists.jobs) (λ j _. ap (λ (x : Bool). x && more_critical g j i) (go (past_zero_slack g r j)))
    where
      go : (a : Bool) → (a && true) ≡ a
      go true = refl
      go false = refl

  pub held_eligible : without (job_word g.lists.jobs (alive r)) (held_by masks gathered (job_word g.lists.jobs (past_zero_slack g r))) ≡ job_word g.lists.jobs (eligible g r)
  unfolding eligible suspended
  held_eligible = without_alive _ _ held_bit ∙ job_word_same g.lists.jobs _ _ (λ j _. go (alive r j) _)
    where
      go : (a b : Bool) → (a && not b) ≡ (a && not (a && b))
      go true b = refl
      go false b = refl

  -- in SE, by those of them that are over: the ended
  module _ (done : List ℕ) (e : ℕ) (se : is_se g.mode ≡ true) (had : (j : ℕ) → j < job_count g.lists.jobs → get_or done j 0 ≡ done_at r j) where
    ended_bit : (i : ℕ) → i < job_count g.lists.jobs
        → bit (ended_of masks gathered done (job_word g.lists.jobs (past_zero_slack g r)) e) i ≡ some_job g.lists.jobs (λ j. over g r e j && more_critical g j i)
    unfolding ended_of over_in some_job over done_after
    ended_bit i b =
        below_some_law (past_zero_slack g r) (over_in gathered done e) i b
        ∙ some_same _ _ (job_count g.lists.jobs) (λ j c. rw se (ap₂ (λ (x y : ℕ). (past_zero_slack g r j && ltb x (y + cond (eqb e j) 1 0)) && more_critical g j i) (t.nominals j c) (had j c)))

    -- and who is left
    pub ended_left : without (job_word g.lists.jobs (alive r)) (ended_of masks gathered done (job_word g.lists.jobs (past_zero_slack g r)) e)
        ≡ without (job_word g.lists.jobs (alive r)) (ended_word g r e)
    ended_left = without_alive _ _ ended_bit ∙ sym (without_alive _ _ ends_bit ∙ job_word_same g.lists.jobs _ _ (λ j _. go (alive r j) _))
      where
        ends_bit : (i : ℕ) → i < job_count g.lists.jobs → bit (ended_word g r e) i ≡ (alive r i && some_job g.lists.jobs (λ j. over g r e j && more_critical g j i))
        ends_bit i b = unfold ended_word ends in job_word_bit g.lists.jobs _ i (lists_few g.lists ok) b

        go : (a b : Bool) → (a && not (a && b)) ≡ (a && not b)
        go true b = refl
        go false b = refl
