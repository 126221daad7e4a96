-- The promises of many runs in one call, for every input. Read this file first.
--
-- `batch_answer o lent` is what the call answers and `batch_schedule o lent` what the lent list holds afterwards: together they are the whole
-- contract of `run_each`. `o` is what it is given: mode, tasks, the flat list, the counts, the horizon. `given_of o r` is the mode, the tasks
-- and list r, of which `run_answer .. Lowest` and `run_schedule .. Lowest` say what the library's own run answers and writes, lent any list of
-- horizon entries. `check_call` is what is checked of the call as a whole: the table's refusals, 9 and 17; `Fits` is what 17 asks for.
use Prim.Native.Nat.{ℕ, suc, ◌*◌, ◌<◌, ◌≤◌}
use mathlib.Core.List.{List, [], ◌++◌}
use mathlib.Core.Logic.{◌↔◌, ⊎_elim}
use mathlib.Core.Path.{ap, refl, sym, ◌∙◌, ◌≡◌}
use native.Mathlib.Nat.{le_of_eq, zero-mul}
use native.Mathlib.Omega.{arith}
use lib.ListN.{drop, get_or, length, length-replicate, replicate, take}
use Rattle.std.specs.Prelude.{Ok, Err}
use Rattle.tables.specs.Outcomes.{Outcome, Done, Refused}
use Rattle.tables.specs.Refusals.{check_tasks}
use Rattle.tables.specs.Said.{done, outcome_said, refused}
use Rattle.tables.proofs.Laws.Said.{outcome_said_law}
use Rattle.tables.proofs.Laws.Small.{small_jobs}
use Rattle.zsrm.specs.declared.mode.Mode.{Mode}
use Rattle.zsrm.specs.declared.answers.Ran.{Ran}
use Rattle.zsrm.specs.declared.record.Record.{Record}
use Rattle.zsrm.specs.declared.tie.Tie.TheVariants.{Lowest}
use Rattle.zsrm.specs.Answers.{run_answer, run_schedule}
use Rattle.zsrm.specs.Record.{blank}
use Rattle.batch.specs.declared.answers.Batch.{Batch}
use Rattle.batch.specs.Answers.{batch_answer, batch_schedule, checked}
use Rattle.batch.specs.Refusals.{Found, check_call, check_runs, outcome_of, run_of, with_run}
use Rattle.batch.specs.Runs.{Offer, given_of, jobs_before, list_of, offer, place_of, record_of, records_of, schedule_of, schedules_of}
use Rattle.batch.proofs.Laws.Answers.{answer_done, answer_refused, own_checked, own_outcome, ran_same, schedule_done, schedule_kept, wrote_same}
use Rattle.tables.proofs.Laws.Refusals.{Numbered}
use Rattle.batch.proofs.Laws.Refusals.{Fits, CallNumber, batch_call, batch_passes, batch_runs, call_exactly, call_fits, found_done, found_refused}
use Rattle.batch.proofs.Laws.Refusals.{call_numbered, call_seventeen, call_unfit, checks_each, checks_pass, checks_run, checks_zero}
use Rattle.batch.proofs.Laws.Runs.{length_list, length_place, length_schedules, lists_all, lists_behind, place_ends, record_or_blank_law, record_none, schedule_part}

module _ (o : Offer) (lent : List ℕ) where
  -- what is checked of the call as a whole
  abbrev pub call : Outcome
  call = check_call o.tasks o.jobs o.counts o.horizon (length lent)

  passes : outcome_said (batch_answer o lent).outcome ≡ done → outcome_of (checked o lent) ≡ Done
  unfolding batch_answer outcome_said
  passes says = outcome_said_law (outcome_of (checked o lent)) Done says

  refuses : (number place : ℕ) → outcome_said (batch_answer o lent).outcome ≡ refused number place → outcome_of (checked o lent) ≡ Refused number place
  unfolding batch_answer outcome_said
  refuses number place says = outcome_said_law (outcome_of (checked o lent)) (Refused number place) says

  -- ## Refusals

  -- What is refused of the call as a whole comes first, with run 0.
  pub call_refused : (number place : ℕ) → outcome_said call ≡ refused number place
      → (outcome_said (batch_answer o lent).outcome ≡ refused number place) × ((batch_answer o lent).run ≡ 0)
  unfolding batch_answer checked outcome_said with_run
  call_refused number place says =
      let e = batch_call o.tasks o.jobs o.counts o.horizon (length lent) number place (outcome_said_law call (Refused number place) says) in
      (ap (λ (x : Found). outcome_said (outcome_of x)) e, ap run_of e)

  -- It passes exactly where the table is accepted, the horizon is at most 16,384, and there are at most 32 runs, counts whose sum times three
  -- is the flat list's length, and a lent list of runs times horizon entries.
  pub call_done : outcome_said call ≡ done ↔ (outcome_said (check_tasks o.tasks) ≡ done) × (o.horizon ≤ 16384) × Fits o.jobs o.counts o.horizon (length lent)
  unfolding outcome_said
  call_done =
      let w = call_exactly o.tasks o.jobs o.counts o.horizon (length lent) in (
        λ fine. let p = w.0 (outcome_said_law call Done fine) in (ap outcome_said p.0, p.1, p.2),
        λ p. ap outcome_said (w.1 (outcome_said_law _ Done p.0, p.1, p.2)),
      )

  -- Where the table and the horizon are accepted, and the lists do not fit so, 17 is given, with run 0.
  pub seventeen : outcome_said (check_tasks o.tasks) ≡ done → o.horizon ≤ 16384 → (Fits o.jobs o.counts o.horizon (length lent) → ⊥)
      → (outcome_said (batch_answer o lent).outcome ≡ refused 17 0) × ((batch_answer o lent).run ≡ 0)
  unfolding outcome_said
  seventeen table few never =
      call_refused 17 0 (ap outcome_said (call_unfit o.tasks o.jobs o.counts o.horizon (length lent) (outcome_said_law (check_tasks o.tasks) Done table) few never))

  -- Run r by itself, lent any list of horizon entries, is done; or is refused so.
  abbrev pub Accepted : ℕ → Type 0
  Accepted r = (own : List ℕ) → length own ≡ o.horizon → outcome_said (run_answer (given_of o r) Lowest o.horizon own).outcome ≡ done

  abbrev pub RefusedSo : ℕ → ℕ → ℕ → Type 0
  RefusedSo number place r = (own : List ℕ) → length own ≡ o.horizon → outcome_said (run_answer (given_of o r) Lowest o.horizon own).outcome ≡ refused number place

  -- The run that the answer names is one of the batch, and by itself is refused so; by itself, no earlier run would be refused.
  pub record FirstRefused (number place r : ℕ) : Type 0 where
    pub there : r < length o.counts
    pub here : RefusedSo number place r
    pub earlier : (i : ℕ) → i < r → Accepted i

  -- Every other refusal is the first refused run's own ..
  pub run_refused : (number place : ℕ) → outcome_said call ≡ done → outcome_said (batch_answer o lent).outcome ≡ refused number place
      → FirstRefused number place (batch_answer o lent).run
  unfolding batch_answer checked outcome_said
  run_refused number place fine says =
      let ok = outcome_said_law call Done fine in
      let e = batch_runs o.tasks o.jobs o.counts o.horizon (length lent) ok in
      let w = checks_run o.tasks o.jobs o.counts (length o.counts) number place (ap outcome_of (sym e) ∙ refuses number place says) in
      rw e
      (record {
        there = w.there;
        here = λ own size. ap outcome_said (own_outcome o (length lent) ok _ own size ∙ w.here);
        earlier = λ i l own size. ap outcome_said (own_outcome o (length lent) ok i own size ∙ w.earlier i l);
      })

  -- .. and so is every refusal from 5 to 8.
  pub own_refused : (number place : ℕ) → 5 ≤ number → number ≤ 8 → outcome_said (batch_answer o lent).outcome ≡ refused number place
      → FirstRefused number place (batch_answer o lent).run
  unfolding outcome_said
  own_refused number place least most says = run_refused number place (go call refl (call_numbered o.tasks o.jobs o.counts o.horizon (length lent))) says
    where
      go : (x : Outcome) → call ≡ x → Numbered CallNumber x → outcome_said x ≡ done
      go (Ok u) e w = refl
      go (Err r) e w =
          let same : r.number ≡ number = cc (call_refused r.number r.place (ap outcome_said e)).0 in
          ⊎_elim (λ (l : r.number ≤ 4). absurd (omega arith)) (λ (l : 9 ≤ r.number). absurd (omega arith)) w

  -- 17 is given for nothing else: no run by itself is refused so.
  pub seventeen_only : (place : ℕ) → outcome_said (batch_answer o lent).outcome ≡ refused 17 place
      → (outcome_said (check_tasks o.tasks) ≡ done) × (o.horizon ≤ 16384) × (Fits o.jobs o.counts o.horizon (length lent) → ⊥)
  unfolding batch_answer checked outcome_said
  seventeen_only place says = go call refl
    where
      go : (x : Outcome) → call ≡ x → (outcome_said (check_tasks o.tasks) ≡ done) × (o.horizon ≤ 16384) × (Fits o.jobs o.counts o.horizon (length lent) → ⊥)
      go (Ok u) e =
          let found = batch_runs o.tasks o.jobs o.counts o.horizon (length lent) e in
          let w = checks_run o.tasks o.jobs o.counts (length o.counts) 17 place (ap outcome_of (sym found) ∙ refuses 17 place says) in
          let small = rw w.here at (small_jobs o.tasks (list_of o.jobs o.counts (run_of (check_runs o.tasks o.jobs o.counts (length o.counts))))) in
          absurd (omega (arith, small.1))
      go (Err r) e =
          let same : r.number ≡ 17 = cc (call_refused r.number r.place (ap outcome_said e)).0 in
          let w = call_seventeen o.tasks o.jobs o.counts o.horizon (length lent) r.place (e ∙ ap (λ (x : ℕ). Refused x r.place) same) in
          (ap outcome_said w.0, w.1, w.2)

  -- The call is done exactly where it is not refused as a whole, and no run would be refused by itself.
  pub done_exactly : outcome_said (batch_answer o lent).outcome ≡ done ↔ (outcome_said call ≡ done) × ((r : ℕ) → r < length o.counts → Accepted r)
  unfolding batch_answer checked outcome_said
  done_exactly = (there, back)
    where
      there : outcome_said (batch_answer o lent).outcome ≡ done → (outcome_said call ≡ done) × ((r : ℕ) → r < length o.counts → Accepted r)
      there says =
          let ok = batch_passes o.tasks o.jobs o.counts o.horizon (length lent) (passes says) in
          let e = batch_runs o.tasks o.jobs o.counts o.horizon (length lent) ok in
          let each = checks_each o.tasks o.jobs o.counts (length o.counts) (ap outcome_of (sym e) ∙ passes says) in
          (ap outcome_said ok, λ r l own size. ap outcome_said (own_outcome o (length lent) ok r own size ∙ each r l))

      back : (outcome_said call ≡ done) × ((r : ℕ) → r < length o.counts → Accepted r) → outcome_said (batch_answer o lent).outcome ≡ done
      back w =
          let ok = outcome_said_law call Done w.0 in
          let e = batch_runs o.tasks o.jobs o.counts o.horizon (length lent) ok in
          let lot : List ℕ = replicate o.horizon 0 in
          let size : length lot ≡ o.horizon = length-replicate o.horizon 0 in
          ap (λ (x : Found). outcome_said (outcome_of x)) e
          ∙ ap outcome_said (checks_pass o.tasks o.jobs o.counts (length o.counts)
          (λ r l. outcome_said_law _ Done (ap outcome_said (sym (own_outcome o (length lent) ok r lot size)) ∙ w.1 r l lot size)))

  -- Where the call is refused, nothing is written, and every record is blank.
  pub refused_keeps : (number place : ℕ) → outcome_said (batch_answer o lent).outcome ≡ refused number place
      → (batch_schedule o lent ≡ lent) × ((batch_answer o lent).records ≡ replicate 32 blank)
  unfolding checked
  refused_keeps number place says =
      let w = found_refused (checked o lent) number place (refuses number place says) in (
        sym (schedule_kept o lent (checked o lent) refl w.1),
        ap (λ (x : Batch). x.records) (sym (answer_refused o lent (checked o lent) refl w.1 (replicate 32 blank) refl)),
      )

  -- ## Every run's result equals that of a call by itself, where the call is done

  module _ (ok : outcome_said (batch_answer o lent).outcome ≡ done) where
    fits : Fits o.jobs o.counts o.horizon (length lent)
    unfolding checked
    fits = call_fits o.tasks o.jobs o.counts o.horizon (length lent) (batch_passes o.tasks o.jobs o.counts o.horizon (length lent) (passes ok))

    wrote : batch_schedule o lent ≡ schedules_of o lent (length o.counts)
    unfolding checked
    wrote = sym (schedule_done o lent (checked o lent) refl (found_done (checked o lent) (passes ok)) (schedules_of o lent (length o.counts)) refl)

    kept : (batch_answer o lent).records ≡ records_of o lent (length o.counts)
    unfolding checked
    kept = ap (λ (x : Batch). x.records) (sym (answer_done o lent (checked o lent) refl (found_done (checked o lent) (passes ok)) (records_of o lent (length o.counts)) refl))

    -- what run r by itself answers and writes, lent any list of horizon entries: the record at its number, the part of the schedule at its place
    pub record ByItself (r : ℕ) (own : List ℕ) : Type 0 where
      pub is_done : outcome_said (run_answer (given_of o r) Lowest o.horizon own).outcome ≡ done
      pub its_record : (d : Record) → get_or (batch_answer o lent).records r d ≡ (run_answer (given_of o r) Lowest o.horizon own).«record»
      pub its_schedule : take o.horizon (drop (r * o.horizon) (batch_schedule o lent)) ≡ run_schedule (given_of o r) Lowest o.horizon own

    pub each_run : (r : ℕ) → r < length o.counts → (own : List ℕ) → length own ≡ o.horizon → ByItself r own
    unfolding checked record_of schedule_of outcome_said
    each_run r l own size =
        let alone = (done_exactly.0 ok).1 r l own size in
        let whole = batch_passes o.tasks o.jobs o.counts o.horizon (length lent) (passes ok) in
        let room = place_ends (length o.counts) o.horizon (length lent) r l (le_of_eq (sym fits.placed)) in
        let same : length (place_of o.horizon lent r) ≡ length own = length_place o lent r room ∙ sym size in
        record {
          is_done = alone;
          its_record = λ d.
              ap (λ (x : List Record). get_or x r d) kept ∙ record_or_blank_law o lent (length o.counts) r d l (omega (arith, fits.few))
              ∙ ap (λ (x : Ran). x.«record») (ran_same (given_of o r) Lowest o.horizon (place_of o.horizon lent r) own same);
          its_schedule =
              ap (λ (x : List ℕ). take o.horizon (drop (r * o.horizon) x)) wrote
              ∙ schedule_part o lent (length o.counts) r l (le_of_eq (sym fits.placed))
              ∙ wrote_same (given_of o r) Lowest o.horizon (place_of o.horizon lent r) own same
              (own_checked o (length lent) whole r own size ∙ outcome_said_law _ Done (ap outcome_said (sym (own_outcome o (length lent) whole r own size)) ∙ alone));
        }

    -- The records of runs that there are not are blank, and no run is named.
    pub others_blank : (r : ℕ) (d : Record) → length o.counts ≤ r → r < 32 → get_or (batch_answer o lent).records r d ≡ blank
    others_blank r d l m = ap (λ (x : List Record). get_or x r d) kept ∙ record_none o lent (length o.counts) r d l m

    pub run_zero : (batch_answer o lent).run ≡ 0
    unfolding batch_answer checked
    run_zero =
        let whole = batch_passes o.tasks o.jobs o.counts o.horizon (length lent) (passes ok) in
        let e = batch_runs o.tasks o.jobs o.counts o.horizon (length lent) whole in
        ap run_of e ∙ checks_zero o.tasks o.jobs o.counts (length o.counts) (ap outcome_of (sym e) ∙ passes ok)

    -- The schedules are the whole list: runs times horizon entries.
    pub schedule_whole : length (batch_schedule o lent) ≡ length o.counts * o.horizon
    schedule_whole = ap length wrote ∙ length_schedules o lent (length o.counts) (le_of_eq (sym fits.placed))

  -- The lists that the runs are given, one behind another, are the flat list, each with three numbers for each of its jobs.
  module _ (fine : outcome_said call ≡ done) where
    room : Fits o.jobs o.counts o.horizon (length lent)
    unfolding outcome_said
    room = call_fits o.tasks o.jobs o.counts o.horizon (length lent) (outcome_said_law call Done fine)

    pub each_list : (r : ℕ) → r < length o.counts → length (list_of o.jobs o.counts r) ≡ get_or o.counts r 0 * 3
    each_list r l = length_list o.jobs o.counts room.listed r l

    pub lists_in_order : (r : ℕ) → take (jobs_before o.counts (suc r) * 3) o.jobs ≡ take (jobs_before o.counts r * 3) o.jobs ++ list_of o.jobs o.counts r
    lists_in_order r = lists_behind o.jobs o.counts r

    pub lists_to_the_end : take (jobs_before o.counts (length o.counts) * 3) o.jobs ≡ o.jobs
    lists_to_the_end = lists_all o.jobs o.counts room.listed

-- No runs with empty lists are done, where the table and the horizon are accepted.
pub none_done : (mode : Mode) (tasks : List ℕ) (horizon : ℕ) → outcome_said (check_tasks tasks) ≡ done → horizon ≤ 16384
    → outcome_said (batch_answer (offer mode tasks [] [] horizon) []).outcome ≡ done
unfolding jobs_before
none_done mode tasks horizon fine few =
    let o = offer mode tasks [] [] horizon in
    let fitting : Fits [] [] horizon 0 = record { few = omega arith; listed = refl; placed = sym (zero-mul horizon) } in
    (done_exactly o []).1 ((call_done o []).1 (fine, few, fitting), λ r l. absurd (omega arith))
