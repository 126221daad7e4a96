-- Laws of verdicts: what the checks say of the job named, what is judged, and all verdicts at once; then two things that follow.
-- A task's open jobs are its last ones: the deadline of an open job lies ahead of the record's tick; D ≤ T, and two jobs of a task lie at
-- least T apart, so a later job of the task arrives at that deadline or after it: at the tick it has not arrived.
-- A verdict that is not open is final: whatever entries follow, a job that is finished or ended stays so, and one that is alive past its
-- deadline is late or ended wherever it comes to stand.
use Prim.Native.Nat.{◌<◌, ℕ, ◌≤◌, suc}
use mathlib.Core.Bool.{true, false, Bool}
use mathlib.Core.List.{List, [], ◌∷◌}
use mathlib.Core.Path.{ap, ap₂, sym, ◌∙◌, ◌≡◌, refl, subst}
use native.Mathlib.Omega.{arith}
use lib.Dec.{ltb, leb}
use borrow.Author.Tests.{ltb-true, not-false, leb-false, leb-true, le-leb, lt-ltb}
use Rattle.bits.proofs.Laws.Arrays.{Written, written_all}
use Rattle.bits.proofs.Laws.Below.{list_same}
use Rattle.std.specs.Prelude.{Result, Ok, get_or, length}
use Rattle.std.proofs.lemmas.List.{get_or_default, get_or_past}
use Rattle.tables.specs.declared.answers.Refusal.{Refusal}
use Rattle.tables.specs.Outcomes.{Outcome, Done, Refused}
use Rattle.zsrm.specs.declared.answers.Verdict.{Verdict}
use Rattle.zsrm.specs.declared.answers.Verdicts.{Verdicts}
use Rattle.zsrm.specs.declared.record.Record.{Record}
use Rattle.zsrm.specs.Answers.{check_verdict, check_verdicts, verdict_answer, verdict_of, verdicts_answer}
use Rattle.zsrm.specs.Given.{Given}
use Rattle.tables.specs.Tables.{job_count, Lists, arrival, deadline_instant, task_of}
use Rattle.zsrm.specs.Record.{consistent, check11, done_at, standing_at}
use Rattle.tables.specs.Refusals.{before, check13, check_lists, unless, refuse}
use Rattle.zsrm.specs.Verdict.{verdict, missed, is_open, judged}
use Rattle.tables.proofs.Laws.Refusals.{before_assoc, before_first, before_second, refuse_fine, given_by}
use Rattle.tables.proofs.Laws.Accepted.{lists_few, apart, accepted_job, lists_jobs, lists_tasks, accepted_task}
use mathlib.Core.Logic.Iff
use mathlib.Core.Logic.{inl, inr, ◌↔◌, ◌⊎◌, ⊎_elim}
use Rattle.bits.proofs.Laws.Bools.{clash, by_cond}
use Rattle.tables.specs.Said.{done, outcome_said}
use Rattle.zsrm.proofs.Laws.Said.{verdict_said_law}
use Rattle.tables.proofs.Laws.Said.{given_exactly}
use Rattle.zsrm.proofs.Readings.{Judged as Judges, verdict_reads, is_open_reads}
use Rattle.zsrm.specs.Said.{verdict_said}
use Rattle.zsrm.specs.declared.record.Standing.{Standing}
use Rattle.zsrm.specs.declared.record.Standing.TheVariants.{Ended, Finished, NotArrived, Unfinished}
use Rattle.zsrm.proofs.Laws.Consistent.{Sound, sound_at_law}
use Rattle.zsrm.specs.Run.{replay}
use Rattle.zsrm.specs.Tick.{advanced, standing_after}
use Rattle.zsrm.proofs.Laws.Places.{standing_advanced, tick_advanced}
use Rattle.zsrm.proofs.Laws.Tick.{goes_on_cases}
use Rattle.zsrm.specs.declared.answers.Verdict.TheVariants as verdicts

-- a job that the list has
pub record Named (l : Lists) (j : ℕ) : Type 0 where
  pub lists : check_lists l ≡ Done
  pub job : j < job_count l.jobs
  pub few : job_count l.jobs ≤ 64

pub listed : (l : Lists) (j : ℕ) → check_lists l ≡ Done → check13 l.jobs j ≡ Done → Named l j
unfolding check13
listed l j ok h =
    record {
      lists = ok;
      job = ltb-true j (job_count l.jobs) (not-false (ltb j (job_count l.jobs)) (refuse_fine _ _ _ h));
      few = lists_few l ok;
    }

pub verdict_named : (g : Given) (r : Record) (j : ℕ) → check_verdict g r j ≡ Done → Named g.lists j
unfolding check_verdict
verdict_named g r j ok =
    listed g.lists j (before_first (check_lists g.lists) _ ok)
    (before_second (check11 (consistent g r)) _ (before_second (check_lists g.lists) _ ok))

pub verdict_sound : (g : Given) (r : Record) (j : ℕ) → check_verdict g r j ≡ Done → consistent g r ≡ true
unfolding check_verdict check11
verdict_sound g r j ok =
    not-false (consistent g r) (refuse_fine _ _ _ (before_first (check11 (consistent g r)) _ (before_second (check_lists g.lists) _ ok)))

-- the verdict on a job of the list, from a consistent record, is no refusal
pub verdict_answered : (g : Given) → check_lists g.lists ≡ Done → (r : Record) → consistent g r ≡ true → (j : ℕ) → j < job_count g.lists.jobs → verdict_answer g r j ≡ Ok (verdict g.lists r j)
unfolding verdict_answer check_verdict check11 check13 refuse before unless
verdict_answered g lists r sound j l = rw (lists, sound, lt-ltb j (job_count g.lists.jobs) l)

-- a job that is finished by its deadline is judged met
pub met_answer : (g : Given) → check_lists g.lists ≡ Done → (r : Record) → consistent g r ≡ true → (j : ℕ) → j < job_count g.lists.jobs
    → (f : ℕ) → standing_at r j ≡ Finished f → f ≤ deadline_instant g.lists j → verdict_answer g r j ≡ Ok verdicts.Met
unfolding verdict
met_answer g lists r sound j l f q b = verdict_answered g lists r sound j l ∙ rw (q, le-leb f (deadline_instant g.lists j) b)

-- a verdict is given exactly where the checks pass and it is the judgement
pub judged_exactly : (g : Given) (r : Record) (j : ℕ) (v : Verdict)
    → verdict_said (verdict_answer g r j) ≡ verdict_said (Ok v) ↔ (outcome_said (check_verdict g r j) ≡ done) × Judges g r j v
unfolding verdict_answer
judged_exactly g r j v =
    Iff.trans (given_exactly verdict_said verdict_said_law (verdict g.lists r j) (check_verdict g r j) v)
    (λ w. (w.0, (verdict_reads g r j v).0 w.1), λ w. (w.0, (verdict_reads g r j v).1 w.1))

-- a judgement that is not missed is met or open
pub not_missed_law : (g : Given) (r : Record) (j : ℕ) → missed (verdict g.lists r j) ≡ false → (verdict g.lists r j ≡ verdicts.Met) ⊎ (verdict g.lists r j ≡ verdicts.Open)
not_missed_law g r j = go (verdict g.lists r j) refl
  where
    go : (v : Verdict) → verdict g.lists r j ≡ v → missed v ≡ false → (v ≡ verdicts.Met) ⊎ (v ≡ verdicts.Open)
    go verdicts.Met q h = inl refl
    go (verdicts.Late n is_exact) q h = clash refl h
    go verdicts.Ended q h = clash refl h
    go verdicts.Open q h = inr refl

-- all verdicts: what is checked once and what is checked of each job are the verdict's checks
pub verdict_checked : (g : Given) (r : Record) (j : ℕ) → before (check_verdicts g r) (check13 g.lists.jobs j) ≡ check_verdict g r j
unfolding check_verdicts check_verdict
verdict_checked g r j = before_assoc (check_lists g.lists) (check11 (consistent g r)) (check13 g.lists.jobs j)

pub verdicts_refuse : (g : Given) (r : Record) (j number place : ℕ) → check_verdicts g r ≡ Refused number place → check_verdict g r j ≡ Refused number place
unfolding before
verdicts_refuse g r j number place e = sym (verdict_checked g r j) ∙ rw e

abbrev pub judged_by : Lists → Record → Outcome → ℕ → Result Verdict Refusal
judged_by l r checked j = unless (before checked (check13 l.jobs j)) Refused (Ok (verdict l r j))

pub verdicts_made : (g : Given) (r : Record) (checked : Outcome) (d : Result Verdict Refusal) (held : List (Result Verdict Refusal)) (out : Verdicts) (j : ℕ) → checked ≡ check_verdicts g r → out.outcome ≡ checked
    → Written d (judged_by g.lists r checked) held out.of 64 j → 64 ≤ j → out ≡ verdicts_answer g r
unfolding verdicts_answer verdict_answer
verdicts_made g r checked d held out j p told w m =
    ap₂ (λ (o : Outcome) (l : List (Result Verdict Refusal)). let y : Verdicts = record { outcome = o; of = l } in y) (told ∙ p)
    (written_all d (judged_by g.lists r checked) held out.of 64 j w (λ k x y. absurd (omega arith))
    ∙ list_same 64 (judged_by g.lists r checked) (verdict_answer g r) (λ k x. same k))
  where
    same : (k : ℕ) → unless (before checked (check13 g.lists.jobs k)) Refused (Ok (verdict g.lists r k)) ≡ unless (check_verdict g r k) Refused (Ok (verdict g.lists r k))
    same k =
        ap (λ (o : Outcome). unless o Refused (Ok (verdict g.lists r k)))
        (ap (λ (o : Outcome). before o (check13 g.lists.jobs k)) p ∙ verdict_checked g r k)

-- one of all verdicts is what stands at its place in the array, with whatever an array is read; past the last place it is a refusal
module _ (all : Verdicts) (long : length all.of ≡ 64) (j : ℕ) where
  pub verdict_there : (d : Result Verdict Refusal) → j < 64 → get_or all.of j d ≡ verdict_of all j
  verdict_there d l = get_or_default all.of j d _ (omega (arith, long))

  pub verdict_past : 64 ≤ j → verdict_of all j ≡ Refused 0 0
  verdict_past l = get_or_past all.of j _ (omega (arith, long))

-- a later job of a task arrives at an earlier one's deadline or after it
due_before : (l : Lists) → check_lists l ≡ Done → (i j : ℕ) → i < j → j < job_count l.jobs → task_of l.jobs j ≡ task_of l.jobs i
    → deadline_instant l i ≤ arrival l.jobs j
unfolding deadline_instant
due_before l ok i j m b its =
    let t = accepted_task l.tasks (lists_tasks l ok) (task_of l.jobs j) (accepted_job l.tasks l.jobs (lists_jobs l ok) j b).known in
    let far = apart l.tasks l.jobs (lists_jobs l ok) i j m b (sym its) in
    rw (sym its) (omega (arith, t.deadline_period, far))

module _ (g : Given) (lists : check_lists g.lists ≡ Done) (r : Record) (sound : consistent g r ≡ true) (j : ℕ) (l : j < job_count g.lists.jobs) where
  sound_job : Sound g r.tick j (done_at r j) (standing_at r j)
  sound_job = let few = lists_few g.lists lists in sound_at_law g r sound j (omega arith)

  -- a job is not arrived where its arrival lies ahead
  ahead_waits : r.tick < arrival g.lists.jobs j → standing_at r j ≡ NotArrived
  ahead_waits away = go (standing_at r j) sound_job
    where
      go : (s : Standing) → Sound g r.tick j (done_at r j) s → s ≡ NotArrived
      go NotArrived w = refl
      go Unfinished w = absurd (omega (arith, w.here.room))
      go (Finished f) w = absurd (omega (arith, w.here.room))
      go (Ended e) w = absurd (omega (arith, w.here.room))

  -- the deadline of an open job lies ahead
  open_ahead : verdict g.lists r j ≡ verdicts.Open → r.tick < deadline_instant g.lists j
  unfolding deadline_instant
  open_ahead says =
      ⊎_elim (λ q. let w : Sound g r.tick j (done_at r j) NotArrived = subst (Sound g r.tick j (done_at r j)) q sound_job in omega (arith, w.away l))
      (λ w. w.1) ((verdict_reads g r j verdicts.Open).0 says)

-- an answer that a job is open is no refusal: the lists are accepted and the record is consistent
pub open_last : (g : Given) (r : Record) (i j : ℕ) → i < j → j < job_count g.lists.jobs → task_of g.lists.jobs j ≡ task_of g.lists.jobs i
    → verdict_answer g r i ≡ Ok verdicts.Open → verdict_answer g r j ≡ Ok verdicts.Open
unfolding verdict_answer
open_last g r i j m l its says =
    let w = (given_by (verdict g.lists r i) (check_verdict g r i) verdicts.Open).0 says in
    let lists = (verdict_named g r i w.0).lists in
    let sound = verdict_sound g r i w.0 in
    let due = due_before g.lists lists i j m l its in
    let ahead = open_ahead g lists r sound i (omega arith) w.1 in
    let none = ahead_waits g lists r sound j l (omega arith) in
    verdict_answered g lists r sound j l ∙ ap (λ (v : Verdict). Ok v) ((verdict_reads g r j verdicts.Open).1 (inl none))

-- a verdict that is not open, and is missed or not as b says
abbrev pub Final : Bool → Verdict → Type 0
Final b v = (is_open v ≡ false) × (missed v ≡ b)

-- a verdict that is missed is not open
pub missed_final : (v : Verdict) → missed v ≡ true → is_open v ≡ false
missed_final verdicts.Met h = refl
missed_final (verdicts.Late n is_exact) h = refl
missed_final verdicts.Ended h = refl
missed_final verdicts.Open h = clash h refl

pub is_open_law : (v : Verdict) → is_open v ≡ true → v ≡ verdicts.Open
unfolding verdict_said
is_open_law v h = let same = verdict_said_law (Ok v) (Ok verdicts.Open) ((is_open_reads (Ok v)).0 h) in cc

module _ (due : ℕ) (b : Bool) where
  -- an unfinished job whose verdict is final is past its deadline, and missed
  overdue : (t : ℕ) → Final b (judged due t Unfinished) → (due ≤ t) × (true ≡ b)
  overdue t =
      by_cond (λ v. Final b v → (due ≤ t) × (true ≡ b)) (leb due t) _ verdicts.Open (λ h w. (leb-true due t h, w.1)) (λ h w. clash refl w.0)

  -- so is an unfinished job past its deadline, and one that finishes past it
  late_unfinished : (t : ℕ) → due ≤ t → true ≡ b → Final b (judged due t Unfinished)
  late_unfinished t l q = by_cond (Final b) (leb due t) _ verdicts.Open (λ h. (refl, q)) (λ h. absurd (omega (arith, leb-false due t h)))

  late_finished : (t f : ℕ) → due < f → true ≡ b → Final b (judged due t (Finished f))
  late_finished t f l q = by_cond (Final b) (leb f due) verdicts.Met _ (λ h. absurd (omega (arith, leb-true f due h))) (λ h. (refl, q))

-- each tick keeps it, and so do all
module _ (g : Given) (j : ℕ) (l : j < 64) (b : Bool) where
  final_ticks : (r : Record) (e : ℕ) → Final b (verdict g.lists r j) → Final b (verdict g.lists (advanced g r e) j)
  unfolding verdict standing_after
  final_ticks r e w = rw (standing_advanced g r e j l, tick_advanced) (go (standing_at r j) w)
    where
      due : ℕ
      due = deadline_instant g.lists j

      go : (s : Standing) → Final b (judged due r.tick s) → Final b (judged due (suc r.tick) (standing_after g r e j s))
      go NotArrived w = clash refl w.0
      go Unfinished w =
          let past = overdue due b r.tick w in
          goes_on_cases g r e (λ s. Final b (judged due (suc r.tick) s)) j (λ _ _. late_finished due b (suc r.tick) (suc r.tick) (omega arith) past.1)
          (λ _ _. (refl, past.1)) (λ _ _. late_unfinished due b (suc r.tick) (omega arith) past.1)
      go (Finished f) w = w
      go (Ended t) w = w

  pub final_stays : (entries : List ℕ) (r : Record) → Final b (verdict g.lists r j) → Final b (verdict g.lists (replay g r entries) j)
  unfolding replay
  final_stays [] r w = w
  final_stays (e ∷ es) r w = final_stays es (advanced g r e) (final_ticks r e w)
