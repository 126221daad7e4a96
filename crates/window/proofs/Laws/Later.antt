-- Laws of one task's jobs judged later. No window has fewer misses later. An earlier window than the first that fails has no more: if the job
-- after its last is open, all jobs from there on are, the failing window's misses lie before them, and the earlier window would have as many;
-- if that job is not open, none before it is, and the window's verdicts are final. So the first window that fails stays the first.
use Prim.Native.Nat.{ℕ, ◌+◌, ◌-◌, ◌<◌, ◌≤◌}
use mathlib.Core.Bool.{Bool, false, true}
use mathlib.Core.List.{List}
use mathlib.Core.Logic.{inl, inr, ◌⊎◌, ⊎_elim}
use mathlib.Core.Path.{ap, ap₂, refl, subst, sym, ◌∙◌, ◌≡◌}
use native.Mathlib.Nat.{eq-or-lt_of_le}
use native.Mathlib.Omega.{arith}
use lib.ListN.{get_or-map, get_or, length, length-map, take}
use Rattle.bits.proofs.Laws.Bools.{clash, either, never_true}
use Rattle.std.specs.Prelude.{Result, Ok, Err}
use Rattle.tables.specs.declared.answers.Refusal.{Refusal}
use Rattle.tables.specs.Outcomes.{Done}
use Rattle.tables.specs.Refusals.{check_lists}
use Rattle.tables.proofs.Laws.Accepted.{lists_few}
use Rattle.zsrm.specs.declared.answers.Verdict.{Verdict}
use Rattle.zsrm.specs.declared.answers.Verdict.TheVariants as verdicts
use Rattle.zsrm.specs.declared.record.Record.{Record}
use Rattle.zsrm.specs.Answers.{verdict_answer}
use Rattle.zsrm.specs.Given.{Given}
use Rattle.zsrm.specs.Record.{consistent}
use Rattle.zsrm.specs.Run.{replay}
use Rattle.zsrm.specs.Verdict.{is_open, missed, verdict, verdict_is}
use Rattle.zsrm.proofs.Laws.Verdicts.{final_stays, is_open_law, missed_final, open_last, verdict_answered}
use Rattle.window.specs.declared.answers.Windows.{Windows}
use Rattle.window.specs.declared.answers.Windows.TheVariants.{Fails, Passes}
use Rattle.window.specs.Windows.{activations, windows_of, misses, opens, verdicts_on, window}
use Rattle.window.proofs.Laws.Counts.{many_rise, misses_rise, misses_window, none_counted, window_none, window_rise}
use Rattle.window.proofs.Laws.Jobs.{own_each, own_order}
use Rattle.window.proofs.Laws.Windows.{FirstOver, WindowCases, each_passes, fails_reads, windows_fail, windows_pass, one_fails_law, window_cases}

-- an answer that is no open verdict, and is a missed one or not as b says
abbrev Final : Bool → Result Verdict Refusal → Type 0
Final b v = (verdict_is is_open v ≡ false) × (verdict_is missed v ≡ b)

missed_closed : (v : Result Verdict Refusal) → verdict_is missed v ≡ true → verdict_is is_open v ≡ false
missed_closed (Err w) h = refl
missed_closed (Ok v) h = missed_final v h

open_law : (v : Result Verdict Refusal) → verdict_is is_open v ≡ true → v ≡ Ok verdicts.Open
open_law (Err w) h = clash h refl
open_law (Ok v) h = ap (λ (x : Verdict). Ok x) (is_open_law v h)

-- vs are the verdicts on a task's jobs, vs' those on the same jobs later, place by place; d and d' stand past their ends
pub record Later (d d' : Result Verdict Refusal) (vs vs' : List (Result Verdict Refusal)) : Type 0 where
  pub same : length vs ≡ length vs'
  pub final : (p : ℕ) → p < length vs → verdict_is is_open (get_or vs p d) ≡ false → Final (verdict_is missed (get_or vs p d)) (get_or vs' p d')
  pub last : (p q : ℕ) → p < q → q < length vs → verdict_is is_open (get_or vs p d) ≡ true → verdict_is is_open (get_or vs q d) ≡ true

module _ (d d' : Result Verdict Refusal) (vs vs' : List (Result Verdict Refusal)) (later : Later d d' vs vs') where
  -- no job becomes open
  opens_fall : opens vs' ≤ opens vs
  unfolding opens
  opens_fall =
      many_rise is_open d' d vs' vs (sym later.same)
      (λ p l h. ⊎_elim (λ o. o) (λ c. clash h (later.final p (omega (arith, later.same)) c).0) (either (verdict_is is_open (get_or vs p d))))

  -- no window has fewer misses, and one whose jobs and those before it are not open has no more
  module _ (k i : ℕ) (there : i + k ≤ length vs) where
    misses_grow : misses (window vs k i) ≤ misses (window vs' k i)
    misses_grow =
        window_rise d d' vs vs' k i there (omega (arith, later.same))
        (λ p l h. (later.final p (omega arith) (missed_closed (get_or vs p d) h)).1 ∙ h)

    misses_final : ((p : ℕ) → p < i + k → verdict_is is_open (get_or vs p d) ≡ false) → misses (window vs' k i) ≤ misses (window vs k i)
    misses_final closed =
        window_rise d' d vs' vs k i (omega (arith, later.same)) there (λ p l h. sym (later.final p (omega arith) (closed p l)).1 ∙ h)

  -- where the job after a window is open, no later window has more misses
  open_after : (k e i : ℕ) → e < i → i + k ≤ length vs → verdict_is is_open (get_or vs (e + k) d) ≡ true → misses (window vs k i) ≤ misses (window vs k e)
  open_after k e i less there h =
      let none = window_none d vs (i - e) (e + k) (omega arith) unmissed in
      let end : e + k + (i - e) ≡ i + k = omega arith in
      let by = subst (λ (n : ℕ). misses (take n vs) ≡ misses (take (e + k) vs) + misses (window vs (i - e) (e + k))) end (misses_window vs (i - e) (e + k)) in
      omega (arith, misses_window vs k i, misses_window vs k e, misses_rise vs e i (omega arith))
    where
      unmissed : (p : ℕ) → e + k ≤ p → p < e + k + (i - e) → verdict_is missed (get_or vs p d) ≡ false
      unmissed p a b =
          let open-there = ⊎_elim (λ q. subst (λ (n : ℕ). verdict_is is_open (get_or vs n d) ≡ true) q h) (λ q. later.last (e + k) p q (omega arith) h) (eq-or-lt_of_le a) in
          never_true (verdict_is missed (get_or vs p d)) (λ w. clash open-there (missed_closed (get_or vs p d) w))

  -- the first window that fails stays the first
  first_stays : (m k i : ℕ) → FirstOver vs m k i → FirstOver vs' m k i
  first_stays m k i w =
      record {
        there = omega (arith, w.there, later.same);
        over = omega (arith, w.over, misses_grow k i w.there);
        earlier = λ e l. go e l (either (verdict_is is_open (get_or vs (e + k) d)));
      }
    where
      go : (e : ℕ) → e < i → (verdict_is is_open (get_or vs (e + k) d) ≡ true) ⊎ (verdict_is is_open (get_or vs (e + k) d) ≡ false) → misses (window vs' k e) ≤ m
      go e l (inl o) = absurd (omega (arith, w.over, w.earlier e l, open_after k e i l w.there o))
      go e l (inr c) =
          let closed : (p : ℕ) → p < e + k → verdict_is is_open (get_or vs p d) ≡ false = λ p b. never_true (verdict_is is_open (get_or vs p d)) (λ o. clash (later.last p (e + k) b (omega (arith, w.there)) o) c) in
          omega (arith, w.earlier e l, misses_final k e (omega (arith, w.there)) closed)

  -- so a failure stays one, with the same job
  pub judged_stays : (own : List ℕ) (m k job number n : ℕ) → windows_of own vs m k ≡ Fails job number n
      → (number' : ℕ) × (n' : ℕ) × (windows_of own vs' m k ≡ Fails job number' n') × (number ≤ number') × (n' ≤ n)
  judged_stays own m k job number n says =
      let w = (fails_reads own vs m k job number n).0 says in
      let i = w.0 in
      let first = w.1 in (
        misses (window vs' k i),
        opens vs',
        (fails_reads own vs' m k job _ _).1 (i, first_stays m k i first, w.2, refl, refl),
        omega (arith, w.3, misses_grow k i first.there),
        omega (arith, w.4, opens_fall),
      )

  -- with no open job the answer is final
  pub judged_final : (own : List ℕ) (m k : ℕ) → opens vs ≡ 0 → windows_of own vs' m k ≡ windows_of own vs m k
  unfolding opens
  judged_final own m k none = go (windows_of own vs m k) (window_cases own vs m k)
    where
      closed : (p : ℕ) → p < length vs → verdict_is is_open (get_or vs p d) ≡ false
      closed = none_counted is_open d vs none

      same_opens : opens vs' ≡ opens vs
      same_opens = omega (arith, opens_fall)

      same_misses : (i : ℕ) → i + k ≤ length vs → misses (window vs' k i) ≡ misses (window vs k i)
      same_misses i l = omega (arith, misses_grow k i l, misses_final k i l (λ p b. closed p (omega arith)))

      go : (x : Windows) → WindowCases own vs m k x → windows_of own vs' m k ≡ x
      go _ (each_passes h) =
          windows_pass own vs' m k (λ i l. let b : i + k ≤ length vs = omega (arith, later.same) in omega (arith, h i b, same_misses i b)) ∙ ap Passes same_opens
      go _ (one_fails_law i w) =
          windows_fail own vs' m k i (first_stays m k i w) ∙ ap₂ (Fails (get_or own i 0)) (same_misses i w.there) same_opens

-- the verdicts on a task's jobs
module _ (g : Given) (lists : check_lists g.lists ≡ Done) (task : ℕ) where
  own : List ℕ
  own = activations g.lists.jobs task

  as_many : (r : Record) → length (verdicts_on g r task) ≡ length own
  unfolding own verdicts_on
  as_many r = length-map own (verdict_answer g r)

  -- the p-th is that on the task's p-th job
  verdict_at : (r : Record) → consistent g r ≡ true → (p : ℕ) → p < length own → get_or (verdicts_on g r task) p (verdict_answer g r 0) ≡ Ok (verdict g.lists r (get_or own p 0))
  unfolding own verdicts_on
  verdict_at r sound p l =
      get_or-map (verdict_answer g r) own p 0 ∙ verdict_answered g lists r sound (get_or own p 0) (own_each g.lists.jobs task p l).0

  -- from a consistent record, and from a consistent one that any entries lead to
  module _ (r : Record) (sound : consistent g r ≡ true) (entries : List ℕ) (sound' : consistent g (replay g r entries) ≡ true) where
    stays_final : (p : ℕ) → p < length own → verdict_is is_open (get_or (verdicts_on g r task) p (verdict_answer g r 0)) ≡ false
        → Final (verdict_is missed (get_or (verdicts_on g r task) p (verdict_answer g r 0))) (get_or (verdicts_on g (replay g r entries) task) p (verdict_answer g (replay g r entries) 0))
    unfolding own
    stays_final p l =
        rw (verdict_at r sound p l, verdict_at (replay g r entries) sound' p l)
        (λ h. final_stays g (get_or own p 0) (omega (arith, (own_each g.lists.jobs task p l).0, lists_few g.lists lists)) _ entries r (h, refl))

    opens_last : (p q : ℕ) → p < q → q < length own → verdict_is is_open (get_or (verdicts_on g r task) p (verdict_answer g r 0)) ≡ true
        → verdict_is is_open (get_or (verdicts_on g r task) q (verdict_answer g r 0)) ≡ true
    unfolding own verdicts_on
    opens_last p q less l =
        let its = own_each g.lists.jobs task in
        rw (get_or-map (verdict_answer g r) own p 0, get_or-map (verdict_answer g r) own q 0)
        (λ h. ap (verdict_is is_open) (open_last g r (get_or own p 0) (get_or own q 0) (own_order g.lists.jobs task p q less l) (its q l).0 ((its q l).1 ∙ sym (its p (omega arith)).1)
        (open_law (verdict_answer g r (get_or own p 0)) h)))

    pub verdicts_later : Later (verdict_answer g r 0) (verdict_answer g (replay g r entries) 0) (verdicts_on g r task) (verdicts_on g (replay g r entries) task)
    verdicts_later =
        record {
          same = as_many r ∙ sym (as_many (replay g r entries));
          final = λ p l. stays_final p (omega (arith, as_many r));
          last = λ p q less l. opens_last p q less (omega (arith, as_many r));
        }
