-- The promises of deadline misses over a window, for every input. Read this file first.
--
-- `judge_answer g r task m k` is what `judge` answers, its whole contract: g is the mode, the tasks and the jobs, r the record, (m, k) the
-- pair. `windows_said` says an answer in numbers, and Said gives each its name: `refused number place`, `all_pass n` and `one_fails job count n`,
-- n being the number of open jobs. `check_judge` is what is checked, in the order of the numbers; `Pair m k` is what 19 asks for: 0 < k,
-- k ≤ 64 and m ≤ k. `activations jobs task` are the task's jobs by their numbers, `verdicts_on g r task` what the library's `verdict` answers
-- for them in the same order, `window vs k i` is k of these from the i-th on, `misses` how many are missed, `opens` how many are open
-- (`is_open_reads` in zsrm's Readings).
-- `replay g r entries` is the record that entries lead to from r, `replayed g schedule` the one at a schedule's end, `claim_answer` what the
-- claim check answers: the library's.
-- `smaller_window_fails` in Example shows that `smaller_window` is false without "the task has at least the larger k jobs".
use Prim.Native.Nat.{ℕ, ◌+◌, ◌<◌, ◌≤◌}
use mathlib.Core.Bool.{Bool, false, true, ◌&&◌}
use mathlib.Core.List.{List, ◌++◌}
use mathlib.Core.Logic.Iff
use mathlib.Core.Logic.{inl, inr, ◌↔◌, ◌⊎◌, ⊎_elim}
use mathlib.Core.Path.{ap, refl, subst, sym, ◌∙◌, ◌≡◌}
use native.Mathlib.Omega.{arith}
use lib.Dec.{eqb}
use lib.ListN.{get_or-map, get_or, length, length-map}
use Rattle.bits.specs.Below.{count}
use Rattle.bits.proofs.Laws.Bools.{apart}
use Rattle.std.specs.Prelude.{Result, Err, Ok}
use Rattle.tables.specs.declared.answers.Refusal.{Refusal}
use Rattle.tables.specs.Outcomes.{Done, Refused}
use Rattle.tables.specs.Refusals.{check_lists}
use Rattle.tables.specs.Said.{done, outcome_said, refused}
use Rattle.tables.specs.Tables.{job_count, task_count, task_of}
use Rattle.tables.proofs.Laws.Said.{given_exactly, outcome_said_law, refusal_exactly, said_done, said_refused}
use Rattle.tables.proofs.Laws.Refusals.{same_ok}
use Rattle.zsrm.specs.declared.answers.Verdict.{Verdict}
use Rattle.zsrm.specs.declared.answers.Verdict.TheVariants as verdicts
use Rattle.zsrm.specs.declared.record.Record.{Record}
use Rattle.zsrm.specs.Answers.{check_verdict, claim_answer, verdict_answer}
use Rattle.zsrm.specs.Given.{Given}
use Rattle.zsrm.specs.Record.{consistent, fresh}
use Rattle.zsrm.specs.Run.{replay, replayed}
use Rattle.zsrm.specs.Said.{claim_said, ended, late, legal, verdict_said}
use Rattle.zsrm.specs.Verdict.{is_open, missed, verdict_is}
use Rattle.zsrm.proofs.Laws.Answers.{is_legal_law}
use Rattle.zsrm.proofs.Laws.Said.{verdict_said_law}
use Rattle.zsrm.proofs.Laws.Consistent.{replayed_consistent}
use Rattle.zsrm.proofs.Promise.{verdict_refused}
use Rattle.window.specs.declared.answers.Windows.{Windows}
use Rattle.window.specs.declared.answers.Windows.TheVariants as windows
use Rattle.window.specs.Answers.{judge_answer}
use Rattle.window.specs.Refusals.{check_judge}
use Rattle.window.specs.Said.{one_fails, all_pass, windows_said}
use Rattle.window.specs.Windows.{activations, windows_of, misses, opens, verdicts_on, window}
use Rattle.window.proofs.Laws.Answers.{answer_done}
use Rattle.window.proofs.Laws.Jobs.{own_all, own_each, own_many, own_order}
use Rattle.window.proofs.Laws.Later.{Later, judged_final, judged_stays, verdicts_later}
use Rattle.window.proofs.Laws.Refusals.{Pair, accepted_exactly, lists_only, lists_refuse, pair_refuses, record_refuses, task_refuses, verdict_refuses}
use Rattle.window.proofs.Laws.Said.{windows_said_law}
use Rattle.window.proofs.Laws.Windows.{fails_reads, holds_shorter, passes_reads}
use Rattle.zsrm.proofs.Readings.{missed_reads}
use Rattle.zsrm.proofs.Laws.Replay.{replay_append}

-- ## The words

-- A job is missed exactly where its verdict is late or ended, so an open job is not.
pub missed_exactly : (v : Result Verdict Refusal)
    → verdict_is missed v ≡ true ↔ ((n : ℕ) × (is_exact : Bool) × (verdict_said v ≡ late n is_exact)) ⊎ (verdict_said v ≡ ended)
unfolding verdict_said
missed_exactly (Err w) = (λ e. apart (cc), ⊎_elim (λ w. let e = w.2 in apart (cc)) (λ e. apart (cc)))
missed_exactly (Ok v) =
    Iff.trans (missed_reads v) (
      ⊎_elim (λ w. inl (w.0, w.1, ap (λ (x : Verdict). verdict_said (Ok x)) w.2)) (λ e. inr (ap (λ (x : Verdict). verdict_said (Ok x)) e)),
      ⊎_elim (λ w. inl (w.0, w.1, same_ok (verdict_said_law (Ok v) (Ok (verdicts.Late w.0 w.1)) w.2))) (λ e. inr (same_ok (verdict_said_law (Ok v) (Ok verdicts.Ended) e))),
    )

-- The activations of a task are jobs of the list, and the task's ..
module _ (jobs : List ℕ) (task : ℕ) where
  pub each_own : (i : ℕ) → i < length (activations jobs task) → (get_or (activations jobs task) i 0 < job_count jobs) × (task_of jobs (get_or (activations jobs task) i 0) ≡ task)
  each_own = own_each jobs task

  -- .. in the list's order ..
  pub in_order : (i e : ℕ) → i < e → e < length (activations jobs task) → get_or (activations jobs task) i 0 < get_or (activations jobs task) e 0
  in_order = own_order jobs task

  -- .. and every one of them.
  pub every_own : (j : ℕ) → j < job_count jobs → task_of jobs j ≡ task → (i : ℕ) × (i < length (activations jobs task)) × (get_or (activations jobs task) i 0 ≡ j)
  every_own = own_all jobs task

module _ (g : Given) (r : Record) (task : ℕ) where
  -- the task's jobs, and the verdicts on them
  abbrev pub own : List ℕ
  own = activations g.lists.jobs task

  abbrev pub vs : List (Result Verdict Refusal)
  vs = verdicts_on g r task

  -- There is a verdict on each ..
  pub own_verdicts : length vs ≡ length own
  unfolding verdicts_on
  own_verdicts = length-map own (verdict_answer g r)

  -- .. the library's own.
  pub own_verdict : (i : ℕ) → get_or vs i (verdict_answer g r 0) ≡ verdict_answer g r (get_or own i 0)
  unfolding verdicts_on
  own_verdict i = get_or-map (verdict_answer g r) own i 0

  -- `opens` counts the jobs of the list that are the task's and whose verdict is open.
  pub opens_exactly : opens vs ≡ count (job_count g.lists.jobs) (λ j. eqb (task_of g.lists.jobs j) task && verdict_is is_open (verdict_answer g r j))
  unfolding opens verdicts_on
  opens_exactly = own_many g.lists.jobs task is_open (verdict_answer g r)

  module _ (m k : ℕ) where
    -- what is said of the pair, and of its checks
    abbrev pub said : List ℕ
    said = windows_said (judge_answer g r task m k)

    abbrev pub checks : List ℕ
    checks = outcome_said (check_judge g r task m k)

    passed : checks ≡ done → check_judge g r task m k ≡ Done
    passed = (said_done (check_judge g r task m k)).0

    -- ## Refusals

    -- `judge` is refused exactly where its checks refuse, and then with their number and place.
    pub refused_exactly : (number place : ℕ) → said ≡ refused number place ↔ checks ≡ refused number place
    unfolding windows_said judge_answer
    refused_exactly number place =
        refusal_exactly windows_said windows_said_law (windows_of own vs m k) (check_judge g r task m k) (λ n p. refl) number place

    -- They pass exactly where the lists are accepted, the record is consistent, the pair is one, and the task is in the table.
    pub done_exactly : checks ≡ done ↔ (outcome_said (check_lists g.lists) ≡ done) × (consistent g r ≡ true) × Pair m k × (task < task_count g.lists.tasks)
    unfolding outcome_said
    done_exactly =
        let w = accepted_exactly g r task m k in (
          λ ok. let a = w.0 (passed ok) in (ap outcome_said a.lists, a.sound, a.pair, a.known),
          λ a. ap outcome_said (w.1 (record { lists = outcome_said_law (check_lists g.lists) Done a.0; sound = a.1; pair = a.2; known = a.3 })),
        )

    -- what a refusal of the checks says, in numbers
    refused_by : (number place : ℕ) → said ≡ refused number place ↔ check_judge g r task m k ≡ Refused number place
    refused_by number place = Iff.trans (refused_exactly number place) (said_refused (check_judge g r task m k) number place)

    lists_done : outcome_said (check_lists g.lists) ≡ done ↔ check_lists g.lists ≡ Done
    lists_done = said_done (check_lists g.lists)

    -- First comes what the lists are refused with, 2 to 8 ..
    pub lists_first : (number place : ℕ) → outcome_said (check_lists g.lists) ≡ refused number place → said ≡ refused number place
    unfolding outcome_said
    lists_first number place e = (refused_by number place).1 (lists_refuse g r task m k number place (outcome_said_law (check_lists g.lists) (Refused number place) e))

    pub lists_exactly : (number place : ℕ) → number ≤ 8 → said ≡ refused number place ↔ outcome_said (check_lists g.lists) ≡ refused number place
    unfolding outcome_said
    lists_exactly number place l = (λ e. ap outcome_said (lists_only g r task m k number place (omega arith) ((refused_by number place).0 e)), lists_first number place)

    -- .. then 11, exactly where the record is not consistent ..
    pub inconsistent_exactly : said ≡ refused 11 0 ↔ (outcome_said (check_lists g.lists) ≡ done) × (consistent g r ≡ false)
    inconsistent_exactly =
        Iff.trans (refused_by 11 0) (
          λ e. let w = (record_refuses g r task m k).0 e in (lists_done.1 w.0, w.1),
          λ w. (record_refuses g r task m k).1 (lists_done.0 w.0, w.1),
        )

    -- .. then 19, exactly where the pair is none, whatever the task ..
    pub no_pair_exactly : said ≡ refused 19 0 ↔ (outcome_said (check_lists g.lists) ≡ done) × (consistent g r ≡ true) × (Pair m k → ⊥)
    no_pair_exactly =
        Iff.trans (refused_by 19 0) (
          λ e. let w = (pair_refuses g r task m k).0 e in (lists_done.1 w.0, w.1, w.2),
          λ w. (pair_refuses g r task m k).1 (lists_done.0 w.0, w.1, w.2),
        )

    -- .. and last 20, exactly where the task is not in the table.
    pub no_task_exactly : said ≡ refused 20 0 ↔ (outcome_said (check_lists g.lists) ≡ done) × (consistent g r ≡ true) × Pair m k × (task_count g.lists.tasks ≤ task)
    no_task_exactly =
        Iff.trans (refused_by 20 0) (
          λ e. let w = (task_refuses g r task m k).0 e in (lists_done.1 w.0, w.1, w.2, w.3),
          λ w. (task_refuses g r task m k).1 (lists_done.0 w.0, w.1, w.2, w.3),
        )

    -- What the library's `verdict` is refused with for any job, but for 13, is what `judge` is refused with.
    pub as_verdict : (j number place : ℕ) → (number ≡ 13 → ⊥) → verdict_said (verdict_answer g r j) ≡ refused number place → said ≡ refused number place
    unfolding outcome_said
    as_verdict j number place other e =
        (refused_by number place).1 (verdict_refuses g r task m k j number place other (outcome_said_law (check_verdict g r j) (Refused number place) ((verdict_refused g r j number place).0 e)))

    -- ## Windows

    -- an answer that is no refusal is given where nothing is refused
    answered : (x : Windows) → said ≡ windows_said (Ok x) ↔ (checks ≡ done) × (windows_of own vs m k ≡ x)
    unfolding judge_answer
    answered x = given_exactly windows_said windows_said_law (windows_of own vs m k) (check_judge g r task m k) x

    fails_answered : (job number n : ℕ) → said ≡ one_fails job number n ↔ (checks ≡ done) × (windows_of own vs m k ≡ windows.Fails job number n)
    unfolding windows_said
    fails_answered job number n = answered (windows.Fails job number n)

    -- It passes exactly where every k consecutive of the task's jobs contain at most m misses; the answer has the number of open jobs.
    pub passes_exactly : (n : ℕ) → said ≡ all_pass n ↔ (checks ≡ done) × ((i : ℕ) → i + k ≤ length own → misses (window vs k i) ≤ m) × (n ≡ opens vs)
    unfolding windows_said
    passes_exactly n =
        let reads = passes_reads own vs m k n in
        Iff.trans (answered (windows.Passes n)) (
          λ w. let all = reads.0 w.1 in (w.0, λ i l. all.0 i (omega (arith, own_verdicts)), all.1),
          λ w. (w.0, reads.1 (λ i l. w.1 i (omega (arith, own_verdicts)), w.2)),
        )

    -- It fails exactly where some window contains more. The answer is about the first such window: it has its first job's number, its misses,
    -- which are more than m, and the number of open jobs; every earlier window contains at most m misses.
    pub record FirstFails (i job number n : ℕ) : Type 0 where
      pub there : i + k ≤ length own
      pub named : job ≡ get_or own i 0
      pub counted : number ≡ misses (window vs k i)
      pub over : m < number
      pub earlier : (e : ℕ) → e < i → misses (window vs k e) ≤ m
      pub open_jobs : n ≡ opens vs

    pub fails_exactly : (job number n : ℕ) → said ≡ one_fails job number n ↔ (checks ≡ done) × ((i : ℕ) × FirstFails i job number n)
    fails_exactly job number n =
        let reads = fails_reads own vs m k job number n in
        Iff.trans (fails_answered job number n) (
          λ w. let f = reads.0 w.1 in (
            w.0,
            (
              f.0,
              record {
                there = omega (arith, f.1.there, own_verdicts);
                named = f.2;
                counted = f.3;
                over = omega (arith, f.1.over, f.3);
                earlier = f.1.earlier;
                open_jobs = f.4;
              },
            ),
          ),
          λ w. let f = w.1.1 in
              (w.0, reads.1 (w.1.0, record { there = omega (arith, f.there, own_verdicts); over = omega (arith, f.over, f.counted); earlier = f.earlier }, f.named, f.counted, f.open_jobs)),
        )

    -- Fewer than k jobs pass.
    pub few_pass : checks ≡ done → length own < k → said ≡ all_pass (opens vs)
    few_pass ok few = (passes_exactly (opens vs)).1 (ok, λ i l. absurd (omega arith), refl)

-- ## From one pair to another

module _ (g : Given) (r : Record) (task m k n : ℕ) (passes : said g r task m k ≡ all_pass n) where
  -- another pair that is accepted, with the same lists, record and task
  other : (m' k' : ℕ) → Pair m' k' → checks g r task m' k' ≡ done
  other m' k' pair =
      let w = (done_exactly g r task m k).0 ((passes_exactly g r task m k n).0 passes).0 in
      (done_exactly g r task m' k').1 (w.0, w.1, pair, w.3)

  -- Raising m never turns a pass into a failure, where the new pair is accepted ..
  pub more_misses : (m' : ℕ) → m ≤ m' → Pair m' k → said g r task m' k ≡ all_pass n
  more_misses m' more pair =
      let w = (passes_exactly g r task m k n).0 passes in
      (passes_exactly g r task m' k n).1 (other m' k pair, λ i l. omega (arith, w.1 i l), w.2)

  -- .. nor does a smaller k, where the task has at least the larger k jobs, and the new pair is accepted.
  pub smaller_window : (k' : ℕ) → k' ≤ k → k ≤ length (own g r task) → Pair m k' → said g r task m k' ≡ all_pass n
  smaller_window k' less enough pair =
      let same = own_verdicts g r task in
      let w = (passes_exactly g r task m k n).0 passes in
      let all = holds_shorter (vs g r task) m k k' less (omega arith) (λ i l. w.1 i (omega arith)) in
      (passes_exactly g r task m k' n).1 (other m k' pair, λ i l. all i (omega arith), w.2)

-- ## From one record to a later one

-- Whatever entries follow, where the record that they lead to is consistent. A task's open jobs are its last ones, so the windows before the
-- first that fails have no open job, and what is missed in them is final.
module _ (g : Given) (r : Record) (task m k : ℕ) (entries : List ℕ) (sound : consistent g (replay g r entries) ≡ true) where
  -- the same pair and task are accepted there
  still : checks g r task m k ≡ done → checks g (replay g r entries) task m k ≡ done
  still ok = let w = (done_exactly g r task m k).0 ok in (done_exactly g (replay g r entries) task m k).1 (w.0, sound, w.2, w.3)

  onward : checks g r task m k ≡ done → Later (verdict_answer g r 0) (verdict_answer g (replay g r entries) 0) (vs g r task) (vs g (replay g r entries) task)
  onward ok = let a = (accepted_exactly g r task m k).0 (passed g r task m k ok) in verdicts_later g a.lists task r a.sound entries sound

  -- A failure stays one, with the same job: its count never falls, and the open jobs never become more ..
  pub failing_stays : (job number n : ℕ) → said g r task m k ≡ one_fails job number n
      → (number' : ℕ) × (n' : ℕ) × (said g (replay g r entries) task m k ≡ one_fails job number' n') × (number ≤ number') × (n' ≤ n)
  failing_stays job number n says =
      let w = (fails_answered g r task m k job number n).0 says in
      let x = judged_stays _ _ _ _ (onward w.0) (own g r task) m k job number n w.1 in
      (x.0, x.1, (fails_answered g (replay g r entries) task m k job x.0 x.1).1 (still w.0, x.2), x.3, x.4)

  -- .. and with no open job the answer is final.
  pub settled : checks g r task m k ≡ done → opens (vs g r task) ≡ 0 → said g (replay g r entries) task m k ≡ said g r task m k
  settled ok none =
      ap windows_said
      (answer_done g (replay g r entries) task m k (passed g (replay g r entries) task m k (still ok))
      ∙ ap (λ (x : Windows). Ok x) (judged_final _ _ _ _ (onward ok) (own g r task) m k none) ∙ sym (answer_done g r task m k (passed g r task m k ok)))

-- So it is over every legal continuation: the claim check answers legal on a schedule with more entries after it.
module _ (g : Given) (horizon : ℕ) (schedule more : List ℕ) (ok : claim_said (claim_answer g horizon (schedule ++ more)) ≡ legal) (task m k : ℕ) where
  -- the record at the end of both is the one that the entries lead to, and is consistent
  together : replayed g (schedule ++ more) ≡ replay g (replayed g schedule) more
  unfolding replayed
  together = replay_append g (fresh g.lists.jobs) schedule more

  at_end : consistent g (replay g (replayed g schedule) more) ≡ true
  at_end =
      let c = is_legal_law g horizon (schedule ++ more) ok in
      let a = c.input in
      subst (λ (r : Record). consistent g r ≡ true) together (replayed_consistent g (schedule ++ more) (omega (arith, a.bounded, a.whole)) c.legal)

  -- A failure at the schedule's end is one at the end of both, with the same job ..
  pub legal_failing_stays : (job number n : ℕ) → said g (replayed g schedule) task m k ≡ one_fails job number n
      → (number' : ℕ) × (n' : ℕ) × (said g (replayed g (schedule ++ more)) task m k ≡ one_fails job number' n') × (number ≤ number') × (n' ≤ n)
  legal_failing_stays job number n says = rw together (failing_stays g (replayed g schedule) task m k more at_end job number n says)

  -- .. and with no open job at the schedule's end the answer there is the answer at the end of both.
  pub legal_settled : checks g (replayed g schedule) task m k ≡ done → opens (vs g (replayed g schedule) task) ≡ 0
      → said g (replayed g (schedule ++ more)) task m k ≡ said g (replayed g schedule) task m k
  legal_settled passes none = rw together (settled g (replayed g schedule) task m k more at_end passes none)
