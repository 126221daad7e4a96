-- Mending underway: what a loop by leaps has chosen, written and compared by the tick it has come to, and what the whole makes of a claim
-- that was replayed.
use Prim.Native.Nat.{◌+◌, ◌-◌, ◌<◌, suc, zero, ℕ, ◌≤◌}
use mathlib.Core.Bool.{◌&&◌, Bool, cond, false, not, true}
use mathlib.Core.List.{◌++◌, append-nil, List, []}
use mathlib.Core.Path.{ap, ap₂, subst, sym, ◌∙◌, ◌≡◌}
use native.Mathlib.Numerals.{add-one}
use native.Mathlib.Omega.{arith}
use lib.Dec.{eqb, ltb}
use lib.ListN.{drop, drop_of_length-le, get_or, get_or-replicate, length, length-drop, replicate, take}
use lib.Seq.{length-take-le, sets, take-add, take_all}
use borrow.Rule.Slice.PartMut.{put_mid}
use Rattle.bits.specs.Below.{count, word}
use Rattle.bits.proofs.Laws.Below.{count_most, count_next, count_nothing}
use Rattle.bits.proofs.Laws.Bools.{and_false_right}
use Rattle.bits.proofs.Laws.Lists.{get_or_any}
use Rattle.tables.specs.Tables.{idle, job_count}
use Rattle.tables.proofs.Laws.Accepted.{lists_few}
use Rattle.zsrm.specs.declared.claims.Walked.{Walked}
use Rattle.zsrm.specs.declared.leap.Underway.{Underway}
use Rattle.zsrm.specs.declared.record.Record.{Record}
use Rattle.zsrm.specs.declared.look.View.{View}
use Rattle.zsrm.specs.declared.tie.Tie.TheVariants.{Lowest}
use Rattle.zsrm.specs.declared.answers.Mended.TheVariants.{Whole, Changed}
use Rattle.zsrm.specs.Code.Claims.{Mendable, WalkedAs}
use Rattle.zsrm.specs.Code.Gathered.{ahead_in, chosen_in, gap_in, view_in}
use Rattle.zsrm.specs.Code.Leap.{leapt}
use Rattle.zsrm.specs.Code.Underway.{done_in, Kept, leap_in}
use Rattle.zsrm.specs.Given.{Given}
use Rattle.zsrm.specs.Legal.{is_legal, legal_length, scheduling_instant}
use Rattle.zsrm.specs.Mend.{differing, differs, keeps_previous, mend, mend_choice, mended}
use Rattle.zsrm.specs.Record.{place_at, spent}
use Rattle.zsrm.specs.Run.{entries_by, final_by, record_before}
use Rattle.zsrm.specs.Tick.{advanced, candidate_or_idle, choice}
use Rattle.zsrm.proofs.Laws.Choice.{choice_lowest}
use Rattle.zsrm.proofs.Laws.Going.{Going, final_more, final_none}
use Rattle.zsrm.proofs.Laws.Leap.{leap_reaches, previous_leapt}
use Rattle.zsrm.proofs.Laws.Leaps.{Takes}
use Rattle.zsrm.proofs.Laws.Mend.{differing_append, differing_most, differing_rest, first_within, mendable_behind, mendable_next}
use Rattle.zsrm.proofs.Laws.Replay.{legal_may, tick_record_before, tick_replay}
use Rattle.zsrm.proofs.Laws.Run.{length_entries}
use Rattle.zsrm.proofs.Laws.Turns.{Setup, turn_chosen, turn_entries, turn_fills, turn_fits, turn_going, turn_kept, turn_mends}
use Rattle.zsrm.proofs.Laws.Turns.{turn_one, turn_reaches, turn_record, turn_within}

-- what the code chooses
module _ (g : Given) where
  pub keeps_by_law : (r : Record) (b : Bool) → b ≡ scheduling_instant g r r.previous → (ltb 0 r.tick && not b) ≡ keeps_previous g r
  unfolding keeps_previous
  keeps_by_law r b q = ap (λ (x : Bool). ltb 0 r.tick && not x) q

  pub keeps_not : (r : Record) → scheduling_instant g r r.previous ≡ true → keeps_previous g r ≡ false
  unfolding keeps_previous
  keeps_not r q = and_false_right (ltb 0 r.tick) (ap not q)

  pub mend_chosen : (r : Record) (b : Bool) (low x : ℕ) → b ≡ keeps_previous g r → low ≡ choice g Lowest r → x ≡ cond b r.previous low → x ≡ mend_choice g r
  unfolding mend_choice
  mend_chosen r b low x k q e = e ∙ ap₂ (λ (y : Bool) (z : ℕ). cond y r.previous z) k (q ∙ choice_lowest g r)

  -- mending may go on from every record that it comes to, so what it chooses there may run
  mendable_final : job_count g.lists.jobs ≤ 64 → (start : Record) → Mendable g start → (n : ℕ) → start.tick + n ≤ 16384 → Mendable g (final_by g (mend_choice g) start n)
  mendable_final few start w zero b = subst (Mendable g) (sym (final_none g (mend_choice g) start)) w
  mendable_final few start w (suc n) b =
      let r = final_by g (mend_choice g) start n in
      let before = mendable_final few start w n (omega arith) in
      let next : final_by g (mend_choice g) start (suc n) ≡ advanced g r (mend_choice g r) =
      ap (final_by g (mend_choice g) start) (sym (add-one n)) ∙ final_more g (mend_choice g) start n in
      let time : r.tick ≡ start.tick + n =
      unfold final_by in tick_replay g start (entries_by g (mend_choice g) start n) ∙ ap (λ (m : ℕ). start.tick + m) (length_entries g (mend_choice g) n start) in
      subst (Mendable g) (sym next) (mendable_next g few r r.previous (mend_choice g r) (omega (arith, time)) before.first before)

  pub mending_may : job_count g.lists.jobs ≤ 64 → (start r : Record) (t x : ℕ) → Mendable g start → Going g (mend_choice g) start r t → start.tick + t ≤ 16384 → x ≡ mend_choice g r
      → candidate_or_idle g r x ≡ true
  mending_may few start r t x w going b q =
      let here : Mendable g r = subst (Mendable g) (sym going.is) (mendable_final few start w t b) in
      ap (candidate_or_idle g r) q ∙ legal_may g r r.previous (mend_choice g r) here.first

-- the entries of a list that are not x, counted
module _ (l : List ℕ) (x : ℕ) where
  pub others_none : 0 ≡ count 0 (differs l (replicate (length l) x))
  others_none = sym (count_nothing (differs l (replicate (length l) x)))

  pub others_more : (i n m : ℕ) → i < length l → n ≡ count i (differs l (replicate (length l) x)) → m ≡ cond (not (eqb (get_or l i 0) x)) 1 0 + n
      → m ≡ count (i + 1) (differs l (replicate (length l) x))
  unfolding differs
  others_more i n m b q e =
      let here : not (eqb (get_or l i 0) x) ≡ differs l (replicate (length l) x) i =
      ap₂ (λ (y z : ℕ). not (eqb y z)) (get_or_any l i 0 idle b) (sym (get_or-replicate (length l) i x idle b)) in
      rw add-one (e ∙ ap₂ (λ (y : Bool) (k : ℕ). cond y 1 0 + k) here q ∙ sym (count_next (differs l (replicate (length l) x)) i))

  pub others_most : (i n : ℕ) → n ≡ count i (differs l (replicate (length l) x)) → n ≤ i
  others_most i n q = rw q (count_most (differs l (replicate (length l) x)) i)

  pub others_all : (i n : ℕ) → n ≡ count i (differs l (replicate (length l) x)) → i ≡ length l → n ≡ differing l (replicate (length l) x)
  unfolding differing
  others_all i n q all = q ∙ ap (λ (k : ℕ). count k (differs l (replicate (length l) x))) all

-- the part of a list from a to b, and how long it is
abbrev part : ℕ → ℕ → List ℕ → List ℕ
part a b l = take (b - a) (drop a l)

pub length_part : (t k : ℕ) (l : List ℕ) → t + k ≤ length l → length (part t (t + k) l) ≡ k
length_part t k l b = length-take-le (t + k - t) (drop t l) (omega (arith, length-drop t l)) ∙ omega arith

-- mending underway: so many of the entries of t ticks are not the claimed ones
abbrev pub Compared : Given → Record → List ℕ → ℕ → ℕ → Type 0
Compared x start claimed changed t = changed ≡ differing (take t claimed) (entries_by x (mend_choice x) start t)

module _ (x : Given) (start : Record) (claimed : List ℕ) where
  pub compared_none : Compared x start claimed 0 0
  unfolding differing
  compared_none = sym (count_nothing _)

  pub compared_most : (changed t : ℕ) → Compared x start claimed changed t → t ≤ length claimed → changed ≤ t
  compared_most changed t w b = omega (arith, w, differing_most (take t claimed) (entries_by x (mend_choice x) start t), length-take-le t claimed b)

-- one turn of mending by leaps: the entry e may run, and is what mending takes for the k ticks that nothing happens in
pub record Stretch (x : Given) (start : Record) (t : ℕ) (g : List ℕ) (n : ℕ) (se : Bool) (s : Underway) (v : View) (e most k : ℕ) : Type 0 where
  pub setup : Setup x g n se
  pub going : Going x (mend_choice x) start s.«record» t
  pub kept : Kept x.lists s
  pub seen : v ≡ view_in g s.alive s.«record».tick
  pub may : candidate_or_idle x s.«record» e ≡ true
  pub some : 1 ≤ most
  pub limit : start.tick + (t + most) ≤ 16384
  pub far : k ≡ gap_in g n se s.«record».tick e (done_in s.«record» n e) s.came s.early most
  pub one : 1 ≤ k
  pub within : k ≤ most
  pub takes : Takes x s.«record» e (mend_choice x) k

module _ (x : Given) (start : Record) (t : ℕ) (g : List ℕ) (n : ℕ) (se : Bool) (s : Underway) (v : View) (e most k : ℕ) where
  pub made_stretch : Setup x g n se → Mendable x start → Going x (mend_choice x) start s.«record» t → Kept x.lists s → v ≡ view_in g s.alive s.«record».tick
      → (low : ℕ) → low ≡ chosen_in g n Lowest v s.«record».previous → (b : Bool) → b ≡ keeps_previous x s.«record» → e ≡ cond b s.«record».previous low → 1 ≤ most
      → start.tick + (t + most) ≤ 16384 → k ≡ gap_in g n se s.«record».tick e (done_in s.«record» n e) s.came s.early most → Stretch x start t g n se s v e most k
  made_stretch z m going kept seen low ql b qb qe some limit far =
      let chose = mend_chosen x s.«record» b low e qb (turn_chosen x g n se z s kept v seen Lowest low ql) qe in
      let may = mending_may x (lists_few x.lists z.ok) start s.«record» t e m going (omega arith) chose in
      let within = turn_within x g n se z s kept v seen going.sound e may most k some far in
      record {
        setup = z;
        going = going;
        kept = kept;
        seen = seen;
        may = may;
        some = some;
        limit = limit;
        far = far;
        one = turn_one x g n se z s kept v seen going.sound e may most k some far;
        within = within;
        takes = turn_mends x g n se z s kept v seen going.sound e may most k some far (omega (arith, within, going.time)) chose;
      }

  module _ (w : Stretch x start t g n se s v e most k) where
    -- what a leap asks for
    pub stretch_fits : ((n ≤ 64) × (s.came ≤ n))
        × ((s.«record».tick + k ≤ 16384) × ((j : ℕ) → j < 64 → spent (place_at s.«record» j) ≤ s.«record».tick))
    stretch_fits = turn_fits x g n se w.setup s w.kept v w.seen w.going.sound e w.may k (omega (arith, w.within, w.limit, w.going.time))

    -- what is kept beside the record is true after it, and mending has gone on
    pub stretch_next : (left : ℕ) → left ≡ word 64 (ahead_in g s.early s.«record».tick) → (next : Underway) → next ≡ leap_in g n se s v e k left
        → Kept x.lists next × Going x (mend_choice x) start next.«record» (t + k)
    stretch_next left ql next made = (
      turn_kept x g n se w.setup s w.kept v w.seen w.going.sound e w.may k left ql next made,
      turn_going x g n se w.setup s w.kept v w.seen w.going.sound e w.may most k w.some w.far (mend_choice x) start t w.going w.limit w.takes left ql next made,
    )

    -- where it is not the last, it ends at a scheduling instant, and so the next entry is the lowest candidate
    pub stretch_ends : (left : ℕ) → left ≡ word 64 (ahead_in g s.early s.«record».tick) → (next : Underway) → next ≡ leap_in g n se s v e k left
        → k < most → false ≡ keeps_previous x next.«record»
    stretch_ends left ql next made b =
        let r = s.«record» in
        let few = lists_few x.lists w.setup.ok in
        let to : next.«record» ≡ leapt x r e k = turn_record x g n se w.setup s w.kept v w.seen w.going.sound e w.may k left ql next made in
        let reaches = turn_reaches x g n se w.setup s w.kept v w.seen w.going.sound e w.may most k w.some w.far b in
        sym (keeps_not x next.«record»
        (ap (λ (y : Record). scheduling_instant x y y.previous) to ∙ ap (scheduling_instant x (leapt x r e k)) (previous_leapt x r e k) ∙ leap_reaches x r e few w.may k reaches))

    -- the entries are written, and those of the claim that are not e counted
    pub stretch_fills : (l after : List ℕ) → take t l ≡ entries_by x (mend_choice x) start t → t + k ≤ length l → after ≡ sets l t (replicate k e)
        → take (t + k) after ≡ entries_by x (mend_choice x) start (t + k)
    stretch_fills =
        turn_fills x g n se w.setup s w.kept v w.seen w.going.sound e w.may most k w.some w.far (mend_choice x) start t w.going w.limit w.takes

    pub stretch_counts : (claimed : List ℕ) (changed others : ℕ) → Compared x start claimed changed t → t + k ≤ length claimed
        → others ≡ differing (part t (t + k) claimed) (replicate (length (part t (t + k) claimed)) e) → Compared x start claimed (changed + others) (t + k)
    stretch_counts claimed changed others before room q =
        let more = turn_entries x g n se w.setup s w.kept v w.seen w.going.sound e w.may most k w.some w.far (mend_choice x) start t w.going w.limit w.takes in
        let here : others ≡ differing (part t (t + k) claimed) (replicate k e) = q ∙ ap (λ (m : ℕ). differing (part t (t + k) claimed) (replicate m e)) (length_part t k claimed room) in
        let all : t + k - t ≡ k = omega arith in
        ap₂ (λ (y z : ℕ). y + z) before here
        ∙ sym (differing_append (take t claimed) (part t (t + k) claimed) (entries_by x (mend_choice x) start t) (replicate k e)
        (length-take-le t claimed (omega arith) ∙ sym (length_entries x (mend_choice x) t start)))
        ∙ sym (ap₂ differing (take-add t k claimed ∙ ap (λ (m : ℕ). take t claimed ++ take m (drop t claimed)) (sym all)) more)

-- the mended schedule: the claim's legal beginning was copied, and the rest written behind it
module _ (g : Given) (schedule : List ℕ) (x : Walked) (p : WalkedAs g schedule x) where
  pub ticks_within : x.ticks ≤ length schedule
  ticks_within = omega (arith, p.ticks, first_within g schedule)

  pub mendable_replayed : job_count g.lists.jobs ≤ 64 → length schedule ≤ 16384 → Mendable g x.«record»
  mendable_replayed few limit = rw p.here (mendable_behind g few schedule limit)

  module _ (into : List ℕ) (long : length into ≡ length schedule) where
    abbrev rest : List ℕ → List ℕ
    rest l = take (length l - x.ticks) (drop x.ticks l)

    rest_is : (l : List ℕ) → rest l ≡ drop x.ticks l
    rest_is l = take_all (length l - x.ticks) (drop x.ticks l) (omega (arith, length-drop x.ticks l))

    length_rest : (l : List ℕ) → length (rest l) ≡ length l - x.ticks
    length_rest l = ap (λ (m : List ℕ). length m) (rest_is l) ∙ length-drop x.ticks l

    pub rest_same : length (rest schedule) ≡ length (rest into)
    rest_same = omega (arith, length_rest schedule, length_rest into)

    pub rest_fits : length schedule ≤ 16384 → x.«record».tick + length (rest into) ≤ 16384
    rest_fits limit =
        let time : x.«record».tick ≡ x.ticks =
        ap (λ (r : Record). r.tick) p.here ∙ tick_record_before g schedule (legal_length g schedule) (omega (arith, p.ticks, ticks_within)) ∙ sym p.ticks in
        omega (arith, time, length_rest into, ticks_within)

    pub mended_made : (n : ℕ) (es : List ℕ) → take x.ticks into ≡ take x.ticks schedule
        → n ≡ differing (rest schedule) (entries_by g (mend_choice g) x.«record» (length (rest into))) → es ≡ entries_by g (mend_choice g) x.«record» (length (rest into))
        → (n ≡ differing schedule (mended g schedule)) × (put_mid x.ticks (length into - x.ticks) into es ≡ mended g schedule)
    unfolding mended
    mended_made n es front counts writes =
        let k = p.ticks in
        let more : length (rest into) ≡ length schedule - legal_length g schedule = omega (arith, length_rest into, k) in
        let made = ap₂ (entries_by g (mend_choice g)) p.here more in
        let none : drop (length into - x.ticks) (drop x.ticks into) ≡ [] = drop_of_length-le (drop x.ticks into) {i = length into - x.ticks} (omega (arith, length-drop x.ticks into)) in (
          counts ∙ ap₂ differing (rest_is schedule ∙ ap (λ (i : ℕ). drop i schedule) k) made
              ∙ sym (differing_rest schedule (entries_by g (mend_choice g) (record_before g schedule (legal_length g schedule)) (length schedule - legal_length g schedule))
              (legal_length g schedule)),
          ap₂ (λ (l m : List ℕ). l ++ m) (front ∙ ap (λ (i : ℕ). take i schedule) k) (ap (λ (l : List ℕ). es ++ l) none ∙ append-nil es ∙ writes ∙ made),
        )

-- what a replay's count answers
pub mend_answer_law : (g : Given) (schedule : List ℕ) (x : Walked) → WalkedAs g schedule x → (n : ℕ) → n ≡ differing schedule (mended g schedule)
    → cond (eqb x.ticks (length schedule)) Whole (Changed x.ticks n) ≡ mend g schedule
unfolding mend is_legal
mend_answer_law g schedule x p n q = ap₂ (λ (k m : ℕ). cond (eqb k (length schedule)) Whole (Changed k m)) p.ticks q
