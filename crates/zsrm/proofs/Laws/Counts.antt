-- What a record counts for a job is counted over the schedule, legal or not: each of its three numbers is 0 in the fresh record, and each
-- tick raises it by 1 exactly where a test of the record and the entry passes. The tick in which a job is ended is one that is suspended.
use Prim.Native.Nat.{◌+◌, ◌<◌, suc, zero, ℕ, ◌≤◌}
use mathlib.Core.Bool.{Bool, cond, true}
use mathlib.Core.List.{List}
use mathlib.Core.Path.{ap, refl, subst, sym, ◌∙◌, ◌≡◌}
use native.Mathlib.Omega.{arith}
use lib.ListN.{get_or, length}
use Rattle.bits.specs.Below.{count}
use Rattle.bits.proofs.Laws.Below.{count_next, count_nothing}
use Rattle.bits.proofs.Laws.Bools.{apart}
use Rattle.zsrm.specs.declared.record.Record.{Record}
use Rattle.zsrm.specs.declared.record.Standing.{Standing}
use Rattle.zsrm.specs.declared.record.Standing.TheVariants.{Ended, Finished, NotArrived, Unfinished}
use Rattle.zsrm.specs.Given.{Given}
use Rattle.zsrm.specs.Record.{fresh, standing_at}
use Rattle.zsrm.specs.Run.{record_at, record_before, replay}
use Rattle.tables.specs.Tables.{idle}
use Rattle.zsrm.specs.Tick.{advanced, standing_after, suspended}
use Rattle.zsrm.proofs.Laws.Places.{opening_unended, standing_advanced, standing_fresh}
use Rattle.zsrm.proofs.Laws.Replay.{tick_record_before, record_more}
use Rattle.zsrm.proofs.Laws.Tick.{ended_suspended, goes_on_cases}

module _ (g : Given) (schedule : List ℕ) where
  -- what the fresh record has, and each tick hands on, the record before each tick has, and so has the one at the end
  along : (P : ℕ → Record → Type 0) → P 0 (fresh g.lists.jobs)
      → ((t : ℕ) → t < length schedule → P t (record_before g schedule t) → P (suc t) (advanced g (record_before g schedule t) (get_or schedule t idle)))
      → (t : ℕ) → t ≤ length schedule → P t (record_before g schedule t)
  unfolding record_before record_at replay
  along P first more zero b = first
  along P first more (suc t) b = subst (P (suc t)) (sym (record_more g schedule t idle b)) (more t b (along P first more t (omega arith)))

  -- a number of the record that is 0 in the fresh one, and that each tick raises by 1 exactly where a test passes, counts the test
  pub counted : (number : Record → ℕ) (test : Record → ℕ → Bool) → number (fresh g.lists.jobs) ≡ 0
      → ((r : Record) (e : ℕ) → number (advanced g r e) ≡ number r + cond (test r e) 1 0)
      → (t : ℕ) → t ≤ length schedule → number (record_before g schedule t) ≡ count t (λ i. test (record_before g schedule i) (get_or schedule i idle))
  counted number test none more =
      along (λ t r. number r ≡ count t passes) (none ∙ sym (count_nothing passes))
      (λ t b sofar. omega (arith, more (record_before g schedule t) (get_or schedule t idle), sofar, count_next passes t))
    where
      passes : ℕ → Bool
      passes i = test (record_before g schedule i) (get_or schedule i idle)

  -- a job that stands as ended before tick t was ended in an earlier tick, and was suspended in it
  module _ (j : ℕ) where
    abbrev EndedBefore : ℕ → Record → Type 0
    EndedBefore t r = (e : ℕ) → standing_at r j ≡ Ended e → (e < t) × (suspended g (record_before g schedule e) j ≡ true)

    ended_more : j < 64 → (t : ℕ) → t < length schedule → EndedBefore t (record_before g schedule t)
        → EndedBefore (suc t) (advanced g (record_before g schedule t) (get_or schedule t idle))
    unfolding standing_after
    ended_more l t b sofar x at = go (standing_at r j) refl (sym (standing_advanced g r e j l) ∙ at)
      where
        r : Record
        r = record_before g schedule t

        e : ℕ
        e = get_or schedule t idle

        same : {y z : ℕ} → Ended y ≡ Ended z → z ≡ y
        same q = cc

        here : Ended r.tick ≡ Ended x → x ≡ t
        here q = same q ∙ tick_record_before g schedule t (omega arith)

        go : (s : Standing) → standing_at r j ≡ s → standing_after g r e j s ≡ Ended x → (x < suc t) × (suspended g (record_before g schedule x) j ≡ true)
        go NotArrived p q = absurd (opening_unended g.lists.jobs (suc r.tick) j x q)
        go Unfinished p q =
            goes_on_cases g r e (λ s. s ≡ Ended x → (x < suc t) × (suspended g (record_before g schedule x) j ≡ true)) j (λ y z a. apart (cc))
            (λ y z a. (omega (arith, here a), ap (λ (i : ℕ). suspended g (record_before g schedule i) j) (here a) ∙ ended_suspended g r e j z)) (λ y z a. apart (cc)) q
        go (Finished f) p q = apart (cc)
        go (Ended y) p q = let w = sofar x (p ∙ q) in (omega (arith, w.0), w.1)

  pub ended_in_law : (t j : ℕ) → t ≤ length schedule → j < 64 → (e : ℕ) → standing_at (record_before g schedule t) j ≡ Ended e
      → (e < t) × (suspended g (record_before g schedule e) j ≡ true)
  ended_in_law t j b l =
      along (EndedBefore j) (λ x p. absurd (opening_unended g.lists.jobs 0 j x (sym (standing_fresh g.lists.jobs j l) ∙ p))) (ended_more j l) t b
