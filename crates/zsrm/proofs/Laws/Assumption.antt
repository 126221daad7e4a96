-- The assumption of a witness: how the code comes to the first job that breaks it, and that nothing else ends a job. A job that is over in a
-- tick has less than c done before it and more than C after it, so its c exceeds its C: in a legal schedule whatever ended a job is strictly
-- more critical and breaks the assumption.
use Prim.Native.Nat.{◌<◌, suc, ℕ, ◌≤◌}
use mathlib.Core.Bool.{Bool, false, true}
use mathlib.Core.List.{List}
use mathlib.Core.Logic.{inl, inr, ◌⊎◌}
use mathlib.Core.Path.{refl, subst, sym, ◌∙◌, ◌≡◌}
use native.Mathlib.Omega.{arith}
use lib.Dec.{ltb}
use lib.ListN.{length}
use borrow.Author.Tests.{lt-ltb, le-ltb}
use Rattle.bits.specs.Below.{least, some}
use Rattle.bits.proofs.Laws.Below.{least_found, least_is, least_none}
use Rattle.bits.proofs.Laws.Bools.{either, apart}
use Rattle.zsrm.specs.declared.record.Record.{Record}
use Rattle.zsrm.specs.declared.record.Standing.{Standing}
use Rattle.zsrm.specs.declared.record.Standing.TheVariants.{Ended, Finished, NotArrived, Unfinished}
use Rattle.zsrm.specs.Given.{Given}
use Rattle.zsrm.specs.Record.{consistent, done_at, fresh, standing_at}
use Rattle.zsrm.specs.Run.{record_before, replayed}
use Rattle.zsrm.specs.Tick.{advanced, candidate_or_idle, ends, over, some_job, standing_after}
use Rattle.zsrm.specs.Verdict.{breaks, is_outside, outsider}
use Rattle.tables.specs.Tables.{execution, idle, job_count, job_nominal, Lists}
use Rattle.zsrm.proofs.Laws.Consistent.{Sound, advanced_consistent, fresh_consistent, sound_at_law}
use Rattle.zsrm.proofs.Laws.Places.{opening_unended, standing_advanced, standing_fresh, tick_fresh}
use Rattle.zsrm.proofs.Laws.Replay.{AllLegal, kept_at, legal_may, replayed_is}
use Rattle.zsrm.proofs.Laws.Tick.{done_most, goes_on_cases, past_exactly}
use Rattle.zsrm.proofs.Readings.{Breaks, FirstOutside, SomeJob, alive_reads, ends_reads, outside_reads, over_reads, within_reads}

module _ (l : Lists) (j : ℕ) where
  -- a job that breaks it, where none below does, is the first; and where none does it is the number of jobs
  pub first_found : (i : ℕ) (b : Bool) → i < job_count l.jobs → some i (breaks l j) ≡ false → b ≡ breaks l j i → b ≡ true → i ≡ outsider l j
  unfolding outsider
  first_found i b few none q t = sym (least_is (breaks l j) (job_count l.jobs) (job_count l.jobs) i few none (sym q ∙ t))

  pub none_found : some (job_count l.jobs) (breaks l j) ≡ false → job_count l.jobs ≡ outsider l j
  unfolding outsider
  none_found none = sym (least_none (breaks l j) (job_count l.jobs) (job_count l.jobs) none)

  -- a job is named exactly where there is one to name
  pub named_outside : ltb (outsider l j) (job_count l.jobs) ≡ is_outside l j
  unfolding outsider is_outside some_job
  named_outside = go (either (some n (breaks l j)))
    where
      n : ℕ
      n = job_count l.jobs

      go : (some n (breaks l j) ≡ true) ⊎ (some n (breaks l j) ≡ false) → ltb (least n (breaks l j) n) n ≡ some n (breaks l j)
      go (inl s) = lt-ltb _ _ (least_found (breaks l j) n n s).0 ∙ sym s
      go (inr s) = le-ltb (least n (breaks l j) n) n (omega (arith, least_none (breaks l j) n n s)) ∙ sym s

module _ (g : Given) (few : job_count g.lists.jobs ≤ 64) where
  -- a job that is over runs past its C
  module _ (r : Record) (sound : consistent g r ≡ true) (e : ℕ) where
    over_long : (i : ℕ) → i < job_count g.lists.jobs → over g r e i ≡ true → job_nominal g.lists i < execution g.lists.jobs i
    over_long i l h =
        let w = (over_reads g r e i).0 h in
        let s : Sound g r.tick i (done_at r i) Unfinished =
        subst (Sound g r.tick i (done_at r i)) ((alive_reads r i).0 ((past_exactly g r i).0 w.past).0) (sound_at_law g r sound i (omega arith)) in
        omega (arith, s.short, w.exceeds, done_most g r e i)

    ends_broken : (j : ℕ) → ends g r e j ≡ true → SomeJob g (Breaks g j)
    ends_broken j h = let w = ((ends_reads g r e j).0 h).1 in (w.0, w.1, (w.2.1, over_long w.0 w.1 w.2.0))

  -- the invariant: consistent, and for every job that is ended some job breaks the assumption
  record Explained (r : Record) : Type 0 where
    sound : consistent g r ≡ true
    broken : (j e : ℕ) → j < 64 → standing_at r j ≡ Ended e → SomeJob g (Breaks g j)

  fresh_explained : Explained (fresh g.lists.jobs)
  fresh_explained =
      record { sound = fresh_consistent g; broken = λ j e l q. absurd (opening_unended g.lists.jobs 0 j e (sym (standing_fresh g.lists.jobs j l) ∙ q)) }

  advanced_explained : (r : Record) (e : ℕ) → r.tick < 16384 → candidate_or_idle g r e ≡ true → Explained r → Explained (advanced g r e)
  unfolding standing_after
  advanced_explained r e b may h =
      record {
        sound = advanced_consistent g r e b may h.sound;
        broken = λ j x l q. go j x l (standing_at r j) refl (sym (standing_advanced g r e j l) ∙ q);
      }
    where
      go : (j x : ℕ) → j < 64 → (s : Standing) → standing_at r j ≡ s → standing_after g r e j s ≡ Ended x → SomeJob g (Breaks g j)
      go j x l NotArrived p q = absurd (opening_unended g.lists.jobs (suc r.tick) j x q)
      go j x l Unfinished p q =
          goes_on_cases g r e (λ s. s ≡ Ended x → SomeJob g (Breaks g j)) j (λ y z a. apart (cc)) (λ y z a. ends_broken r h.sound e j z) (λ y z a. apart (cc)) q
      go j x l (Finished f) p q = apart (cc)
      go j x l (Ended y) p q = h.broken j y l p

  -- at the end of a legal schedule
  pub ended_broken : (es : List ℕ) → length es ≤ 16384 → AllLegal g (fresh g.lists.jobs) idle es → (j e : ℕ) → j < 64
      → standing_at (replayed g es) j ≡ Ended e → SomeJob g (Breaks g j)
  unfolding record_before
  ended_broken es limit legal j e l q =
      let end : Explained (replayed g es) =
      subst Explained (replayed_is g es (length es) refl)
      (kept_at g 16384 Explained (λ r p e b c w. advanced_explained r e b (legal_may g r p e c) w) (fresh g.lists.jobs) idle es (rw tick_fresh (omega arith)) legal
      fresh_explained (length es)) in
      end.broken j e l q

-- where some job breaks the assumption, there is a first
pub first_outside : (g : Given) (j : ℕ) → SomeJob g (Breaks g j) → (i : ℕ) × FirstOutside g j i
first_outside g j w = go (either (is_outside g.lists j))
  where
    go : (is_outside g.lists j ≡ true) ⊎ (is_outside g.lists j ≡ false) → (i : ℕ) × FirstOutside g j i
    go (inl t) = (outsider g.lists j, (outside_reads g j (outsider g.lists j)).0 (t, refl))
    go (inr f) = absurd (omega (arith, w.2.1, (within_reads g j).0 f w.0 w.1 w.2.0))
