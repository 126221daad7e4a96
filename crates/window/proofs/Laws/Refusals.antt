-- Laws of what `judge` checks: behind what the verdicts are refused with its own checks, and which check decides.
use Prim.Native.Nat.{ℕ, ◌<◌, ◌≤◌}
use mathlib.Core.Bool.{Bool, false, not, true, ◌||◌}
use mathlib.Core.List.{List, [], ◌∷◌}
use mathlib.Core.Logic.Iff
use mathlib.Core.Logic.{◌↔◌}
use mathlib.Core.Path.{ap, sym, ◌∙◌, ◌≡◌}
use native.Mathlib.Omega.{arith}
use lib.Dec.{eqb, ltb}
use borrow.Author.Tests.{eqb-false, le-ltb, lt-ltb, ltb-true, ne_eqb, not-false}
use Rattle.bits.proofs.Laws.Bools.{apart}
use Rattle.bits.proofs.Readings.{lt_fails, not_reads}
use Rattle.std.specs.Prelude.{Err}
use Rattle.tables.specs.Outcomes.{Outcome, Done, Refused}
use Rattle.tables.specs.Refusals.{before, check13, check_lists, refuse}
use Rattle.tables.specs.Tables.{job_count, task_count}
use Rattle.tables.proofs.Laws.Accepted.{lists_few}
use Rattle.tables.proofs.Laws.Refusals.{fine, numbered_refuse, refuse_fine, before_assoc, lists_numbered, only_exactly, only_refuse, first_of, all_done, own_refused, Other, before_stops, refused_same}
use Rattle.tables.proofs.Readings.{refuse_done, refuse_reads}
use Rattle.zsrm.specs.declared.answers.Verdicts.{Verdicts}
use Rattle.zsrm.specs.declared.record.Record.{Record}
use Rattle.zsrm.specs.Answers.{check_verdict, check_verdicts, verdicts_answer}
use Rattle.zsrm.specs.Given.{Given}
use Rattle.zsrm.specs.Record.{check11, consistent}
use Rattle.zsrm.proofs.Laws.Verdicts.{verdict_checked}
use Rattle.window.specs.Refusals.{check19, check20, check_judge}

module _ (g : Given) (r : Record) (task m k : ℕ) where
  pub all_checked : (all : Verdicts) → all ≡ verdicts_answer g r → before all.outcome (before (check19 m k) (check20 g.lists.tasks task)) ≡ check_judge g r task m k
  unfolding check_judge verdicts_answer
  all_checked all e = ap (λ (x : Verdicts). before x.outcome (before (check19 m k) (check20 g.lists.tasks task))) e

  -- what `verdict` refuses for any job, but for 13, is refused here
  pub verdict_refuses : (j number place : ℕ) → (number ≡ 13 → ⊥) → check_verdict g r j ≡ Refused number place → check_judge g r task m k ≡ Refused number place
  unfolding check13 check_judge before refuse
  verdict_refuses j number place other says = go (check_verdicts g r) (not (ltb j (job_count g.lists.jobs))) (verdict_checked g r j ∙ says)
    where
      go : (a : Outcome) (t : Bool) → before a (refuse t 13 0) ≡ Refused number place
          → before a (before (check19 m k) (check20 g.lists.tasks task)) ≡ Refused number place
      go (Err w) t e = e
      go Done true e = absurd (other (sym (refused_same 13 0 number place e).0))
      go Done false e = apart (cc)

-- the pair is accepted
pub record Pair (m k : ℕ) : Type 0 where
  pub least : 0 < k
  pub most : k ≤ 64
  pub within : m ≤ k

pub pair_exactly : (m k : ℕ) → check19 m k ≡ Done ↔ Pair m k
unfolding check19 refuse
pair_exactly m k = (
  λ ok. let tests = refuse_fine (eqb k 0 || ltb 64 k || ltb k m) 19 0 ok in
      record { least = let h = eqb-false k 0 (search fine) in omega arith; most = search fine; within = search fine },
  λ w. rw (ne_eqb k 0 (λ e. omega (arith, w.least)), le-ltb 64 k w.most, le-ltb k m w.within),
)

pub pair_refused : (m k : ℕ) → check19 m k ≡ Refused 19 0 ↔ (Pair m k → ⊥)
unfolding check19
pair_refused m k = only_exactly 19 0 _ (only_refuse _ 19 0) (pair_exactly m k)

pub known_exactly : (tasks : List ℕ) (task : ℕ) → check20 tasks task ≡ Done ↔ task < task_count tasks
unfolding check20 refuse
known_exactly tasks task = (
  λ ok. ltb-true task (task_count tasks) (not-false (ltb task (task_count tasks)) (refuse_fine (not (ltb task (task_count tasks))) 20 0 ok)),
  λ l. rw (lt-ltb task (task_count tasks) l),
)

pub unknown_refused : (tasks : List ℕ) (task : ℕ) → check20 tasks task ≡ Refused 20 0 ↔ task_count tasks ≤ task
unfolding check20
unknown_refused tasks task = Iff.trans (refuse_reads _ 20 0) (Iff.trans (not_reads _) (lt_fails task (task_count tasks)))

sound_exactly : (b : Bool) → check11 b ≡ Done ↔ b ≡ true
unfolding check11
sound_exactly b = Iff.trans (refuse_done (not b) 11 0) (not-false b, ap not)

unsound_exactly : (b : Bool) → check11 b ≡ Refused 11 0 ↔ b ≡ false
unfolding check11
unsound_exactly b = Iff.trans (refuse_reads (not b) 11 0) (not_reads b)

module _ (g : Given) (r : Record) (task m k : ℕ) where
  -- the checks one behind another
  in_order : (o : Outcome) → check_judge g r task m k ≡ o
      ↔ first_of (check_lists g.lists ∷ check11 (consistent g r) ∷ check19 m k ∷ check20 g.lists.tasks task ∷ []) ≡ o
  unfolding check_judge check_verdicts first_of
  in_order o =
      let e = before_assoc (check_lists g.lists) (check11 (consistent g r)) (before (check19 m k) (check20 g.lists.tasks task)) in
      (λ q. sym e ∙ q, λ q. e ∙ q)

  -- what is accepted
  pub record Accepted : Type 0 where
    pub lists : check_lists g.lists ≡ Done
    pub sound : consistent g r ≡ true
    pub pair : Pair m k
    pub known : task < task_count g.lists.tasks

  pub accepted_exactly : check_judge g r task m k ≡ Done ↔ Accepted
  accepted_exactly =
      Iff.trans (Iff.trans (in_order Done) (all_done (check_lists g.lists ∷ check11 (consistent g r) ∷ check19 m k ∷ check20 g.lists.tasks task ∷ []))) (
        λ w. record {
          lists = w.0;
          sound = (sound_exactly (consistent g r)).0 w.1.0;
          pair = (pair_exactly m k).0 w.1.1.0;
          known = (known_exactly g.lists.tasks task).0 w.1.1.1.0;
        },
        λ w. (w.lists, ((sound_exactly (consistent g r)).1 w.sound, ((pair_exactly m k).1 w.pair, ((known_exactly g.lists.tasks task).1 w.known, tt)))),
      )

  pub accepted_few : Accepted → job_count g.lists.jobs ≤ 64
  accepted_few w = lists_few g.lists w.lists

  -- no list is refused with 9 or more
  lists_other : (number : ℕ) → 9 ≤ number → Other number (check_lists g.lists)
  lists_other number l = lists_numbered _ (λ n least most e. omega arith) g.lists

  pub lists_refuse : (number place : ℕ) → check_lists g.lists ≡ Refused number place → check_judge g r task m k ≡ Refused number place
  unfolding check_judge check_verdicts
  lists_refuse number place e = before_stops _ _ number place (before_stops (check_lists g.lists) _ number place e)

  pub lists_only : (number place : ℕ) → number < 9 → check_judge g r task m k ≡ Refused number place → check_lists g.lists ≡ Refused number place
  unfolding check11 check19 check20
  lists_only number place l e =
      ((own_refused [] (check_lists g.lists) (check11 (consistent g r) ∷ check19 m k ∷ check20 g.lists.tasks task ∷ []) number place tt
      (numbered_refuse _ _ 11 0 (λ q. omega arith), (numbered_refuse _ _ 19 0 (λ q. omega arith), (numbered_refuse _ _ 20 0 (λ q. omega arith), tt)))).0 ((in_order (Refused number place)).0 e)).1

  pub record_refuses : check_judge g r task m k ≡ Refused 11 0 ↔ (check_lists g.lists ≡ Done) × (consistent g r ≡ false)
  unfolding check19 check20
  record_refuses =
      Iff.trans (Iff.trans (in_order (Refused 11 0))
      (own_refused (check_lists g.lists ∷ []) (check11 (consistent g r)) (check19 m k ∷ check20 g.lists.tasks task ∷ []) 11 0
      (lists_other 11 (omega arith), tt) (numbered_refuse _ _ 19 0 (λ q. omega arith), (numbered_refuse _ _ 20 0 (λ q. omega arith), tt))))
      (λ w. (w.0.0, (unsound_exactly (consistent g r)).0 w.1), λ w. ((w.0, tt), (unsound_exactly (consistent g r)).1 w.1))

  pub pair_refuses : check_judge g r task m k ≡ Refused 19 0 ↔ (check_lists g.lists ≡ Done) × (consistent g r ≡ true) × (Pair m k → ⊥)
  unfolding check11 check20
  pair_refuses =
      Iff.trans (Iff.trans (in_order (Refused 19 0))
      (own_refused (check_lists g.lists ∷ check11 (consistent g r) ∷ []) (check19 m k) (check20 g.lists.tasks task ∷ []) 19 0
      (lists_other 19 (omega arith), (numbered_refuse _ _ 11 0 (λ q. omega arith), tt)) (numbered_refuse _ _ 20 0 (λ q. omega arith), tt)))
      (λ w. (w.0.0, (sound_exactly (consistent g r)).0 w.0.1.0, (pair_refused m k).0 w.1), λ w. ((w.0, ((sound_exactly (consistent g r)).1 w.1, tt)), (pair_refused m k).1 w.2))

  pub task_refuses : check_judge g r task m k ≡ Refused 20 0 ↔ (check_lists g.lists ≡ Done) × (consistent g r ≡ true) × Pair m k × (task_count g.lists.tasks ≤ task)
  unfolding check11 check19
  task_refuses =
      Iff.trans (Iff.trans (in_order (Refused 20 0))
      (own_refused (check_lists g.lists ∷ check11 (consistent g r) ∷ check19 m k ∷ []) (check20 g.lists.tasks task) [] 20 0
      (lists_other 20 (omega arith), (numbered_refuse _ _ 11 0 (λ q. omega arith), (numbered_refuse _ _ 19 0 (λ q. omega arith), tt))) tt)) (
        λ w. (w.0.0, (sound_exactly (consistent g r)).0 w.0.1.0, (pair_exactly m k).0 w.0.1.1.0, (unknown_refused g.lists.tasks task).0 w.1),
        λ w. ((w.0, ((sound_exactly (consistent g r)).1 w.1, ((pair_exactly m k).1 w.2, tt))), (unknown_refused g.lists.tasks task).1 w.3),
      )
