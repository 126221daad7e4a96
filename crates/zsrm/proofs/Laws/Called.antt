-- What a call from C says, where its checks pass and where they refuse, and what its result says of the lists that the bytes spell.
use Prim.Native.Nat.{◌%◌, ◌*◌, ◌+◌, ◌/◌, ℕ, ◌≤◌}
use mathlib.Core.Bool.{cond}
use mathlib.Core.List.{List}
use mathlib.Core.Logic.{inl, inr, ⊎_elim, ◌⊎◌, ◌↔◌}
use mathlib.Core.Path.{ap, refl, subst, sym, ◌∙◌, ◌≡◌}
use native.Mathlib.Decide.{ℕ_discrete}
use native.Mathlib.Omega.{arith}
use lib.Dec.{eqb}
use lib.ListN.{length}
use borrow.Author.Tests.{eq-eqb, eqb-true, le-ltb, ne_eqb}
use Rattle.tables.specs.Bytes.{bytes_of, check_lists_in, numbers_in, uneven}
use Rattle.std.specs.Prelude.{Result, Ok, Err}
use Rattle.tables.specs.declared.answers.Refusal.{Refusal}
use Rattle.tables.specs.Outcomes.{Outcome, Done, Refused}
use Rattle.tables.specs.Refusals.{before, check10, check9, check_lists, check_schedule, refuse, unless}
use Rattle.tables.specs.Tables.{lists}
use Rattle.tables.proofs.Laws.Bytes.{length_numbers}
use Rattle.tables.proofs.Laws.InBytes.{small_lists_in, spelled_lists, whole_lists}
use Rattle.tables.proofs.Laws.Accepted.{accepted, few_tasks, lists_tasks}
use Rattle.tables.proofs.Laws.Refusals.{fine, unless_done}
use Rattle.tables.proofs.Laws.Small.{Small, small}
use Rattle.zsrm.specs.declared.answers.Claim.{Claim}
use Rattle.zsrm.specs.declared.tie.Tie.TheVariants.{Stay}
use Rattle.zsrm.specs.declared.mode.Mode.TheVariants.{S, SE}
use Rattle.zsrm.specs.Answers.{claim_answer}
use Rattle.zsrm.specs.Bytes.{packed_answer, check1, check_bytes, claim_result, given_bytes, mode_of, packed_claim, packed_outcome, run_bytes, run_result}
use Rattle.zsrm.specs.Code.Calls.{Call}
use Rattle.zsrm.specs.Code.Masks.{MasksTo}
use Rattle.zsrm.specs.Code.Reading.{Jobbed, Tasked}
use Rattle.zsrm.specs.Given.{given, is_se}
use Rattle.zsrm.specs.Legal.{claim}
use Rattle.zsrm.specs.Run.{run_entries}
use Rattle.zsrm.proofs.Laws.Calls.{call_made}
use Rattle.zsrm.proofs.Laws.Reading.{jobs_number, tasks_number}
use Rattle.zsrm.proofs.Laws.Said.{claim_said_law}
use Rattle.zsrm.specs.Said.{claim_said}
use Rattle.tables.specs.Said.{done, outcome_said}
use Rattle.tables.proofs.Laws.Said.{outcome_said_law}
use Rattle.zsrm.specs.declared.answers.Claim.TheVariants as claims

module _ (mode : ℕ) (tasks jobs : List ℕ) (horizon count : ℕ) where
  -- where nothing is refused: the lists that the bytes spell pass their checks, and so do horizon and count
  pub record Passed : Type 0 where
    pub checked : check_bytes mode tasks jobs horizon count ≡ Done
    pub lists : check_lists (lists (numbers_in 4 tasks) (numbers_in 4 jobs)) ≡ Done
    pub even : count % 2 ≡ 0
    pub short : count ≤ 32768
    pub schedule : check_schedule (given_bytes mode tasks jobs).lists horizon (count / 2) ≡ Done

  pub call_passed : check_bytes mode tasks jobs horizon count ≡ Done → Passed
  unfolding check_bytes given_bytes uneven check_schedule
  call_passed checked =
      let lists-in : check_lists_in tasks jobs ≡ Done = search fine depth 9 in
      let both = spelled_lists tasks jobs lists-in in
      let nine : check9 horizon ≡ Done = search fine depth 9 in
      let ten : check10 (count / 2) horizon ≡ Done = search fine depth 9 in
      let even = eqb-true (count % 2) 0 (search fine depth 9) in
      let whole : check_schedule (lists (numbers_in 4 tasks) (numbers_in 4 jobs)) horizon (count / 2) ≡ Done = rw (both, nine, ten) (unfold before in refl) in
      let a = accepted (lists (numbers_in 4 tasks) (numbers_in 4 jobs)) horizon (count / 2) whole in
      record { checked = checked; lists = both; even = even; short = omega (arith, a.whole, a.bounded); schedule = whole }

  refusals_small : Small (check_bytes mode tasks jobs horizon count)
  unfolding check_bytes check1 uneven check9 check10
  refusals_small = search (small, small_lists_in) depth 12

  -- of a mode 0 or 1 and of whole byte counts the checks of the bytes are those of the lists that they spell
  pub bytes_checked : mode ≤ 1 → length tasks % 4 ≡ 0 → length jobs % 4 ≡ 0 → count % 2 ≡ 0
      → check_bytes mode tasks jobs horizon count ≡ check_schedule (given_bytes mode tasks jobs).lists horizon (count / 2)
  unfolding check_bytes check1 uneven given_bytes check_schedule refuse before
  bytes_checked known whole_tasks whole_jobs whole-entries =
      rw (le-ltb 1 mode known, whole_lists tasks jobs whole_tasks whole_jobs, eq-eqb (count % 2) 0 whole-entries)

-- what is read of lists that pass, and the masks made of it
module _ (mode : ℕ) (tasks jobs : List ℕ) (horizon count : ℕ) (found : Outcome) (p : found ≡ check_bytes mode tasks jobs horizon count) (e : found ≡ Done) where
  w : Passed mode tasks jobs horizon count
  w = call_passed mode tasks jobs horizon count (sym p ∙ e)

  pub call_tasks : length tasks / 28 ≤ 16
  call_tasks = omega (arith, tasks_number tasks, few_tasks (numbers_in 4 tasks) (lists_tasks (lists (numbers_in 4 tasks) (numbers_in 4 jobs)) w.lists))

  known : mode ≤ 1
  unfolding check_bytes check1
  known = let q : check_bytes mode tasks jobs horizon count ≡ Done = sym p ∙ e in search fine depth 9

  mode_read : eqb mode 1 ≡ is_se (mode_of mode)
  unfolding mode_of is_se
  mode_read = go (ℕ_discrete mode 0)
    where
      go : Dec (mode ≡ 0) → eqb mode 1 ≡ is_se (cond (eqb mode 0) S SE)
      go (yes z) = rw (ne_eqb mode 1 (λ o. omega arith), eq-eqb mode 0 z)
      go (no z) = rw (eq-eqb mode 1 (omega (arith, known)), ne_eqb mode 0 z)

  pub made_call : (of words g masks : List ℕ) → Tasked (numbers_in 4 tasks) of → Jobbed (lists (numbers_in 4 tasks) (numbers_in 4 jobs)) g words
      → MasksTo of words (length tasks / 28) (length tasks / 28) (length tasks / 28) masks → Call (given_bytes mode tasks jobs) g masks (length jobs / 12) (eqb mode 1)
  unfolding given_bytes
  made_call of words g masks t j m =
      call_made (given (mode_of mode) (numbers_in 4 tasks) (numbers_in 4 jobs)) of words g masks (length tasks / 28) (length jobs / 12) (eqb mode 1) w.lists t j
      (tasks_number tasks) m (jobs_number jobs)
      mode_read

-- packed claims are told apart
unpacked : (c d : Claim) → packed_claim c ≡ packed_claim d → c ≡ d
unfolding packed_claim
unpacked claims.Legal claims.Legal e = refl
unpacked claims.Legal (claims.NotLegal t) e = absurd (omega arith)
unpacked (claims.NotLegal t) claims.Legal e = absurd (omega arith)
unpacked (claims.NotLegal t) (claims.NotLegal u) e = ap claims.NotLegal (omega arith)

same_packed : (c d : Claim) → ◌≡◌ {A = Result Claim Refusal} (Ok c) (Ok d) → packed_claim c ≡ packed_claim d
same_packed c d e = ap packed_claim (cc)

-- the calls' results, where the checks pass and where they refuse
module _ (mode : ℕ) (tasks jobs : List ℕ) (horizon : ℕ) (schedule : List ℕ) where
  module _ (w : Passed mode tasks jobs horizon (length schedule)) where
    pub c_runs : (after : List ℕ) → after ≡ bytes_of 2 (run_entries (given_bytes mode tasks jobs) Stay (length schedule / 2))
        → (0 ≡ run_result mode tasks jobs horizon schedule) × (after ≡ run_bytes mode tasks jobs horizon schedule)
    unfolding run_result run_bytes packed_outcome
    c_runs after q = (
      rw w.checked,
      q ∙ ap (λ (n : ℕ). bytes_of 2 (run_entries (given_bytes mode tasks jobs) Stay n)) (accepted _ _ _ w.schedule).whole ∙ sym (unless_done _ _ _ w.checked),
    )

    pub c_claims : (x : ℕ) → x ≡ packed_claim (claim (given_bytes mode tasks jobs) (numbers_in 2 schedule)) → x ≡ claim_result mode tasks jobs horizon schedule
    unfolding claim_result packed_answer
    c_claims x q = q ∙ ap packed_answer (sym (unless_done _ _ _ w.checked))

  pub record RefusedCall (number place : ℕ) : Type 0 where
    pub small : (1 ≤ number) × (number ≤ 13) × (place ≤ 64)
    pub run : number + 256 * place ≡ run_result mode tasks jobs horizon schedule
    pub kept : schedule ≡ run_bytes mode tasks jobs horizon schedule
    pub claimed : number + 256 * place ≡ claim_result mode tasks jobs horizon schedule

  pub stopped : (number place : ℕ) → check_bytes mode tasks jobs horizon (length schedule) ≡ Refused number place → RefusedCall number place
  unfolding run_result run_bytes claim_result packed_outcome packed_answer unless
  stopped number place found =
      record { small = subst Small found (refusals_small mode tasks jobs horizon (length schedule)); run = rw found; kept = rw found; claimed = rw found }

  pub decided : Passed mode tasks jobs horizon (length schedule) ⊎ ((number : ℕ) × (place : ℕ) × RefusedCall number place)
  decided = go (check_bytes mode tasks jobs horizon (length schedule)) refl
    where
      go : (o : Outcome) → check_bytes mode tasks jobs horizon (length schedule) ≡ o
          → Passed mode tasks jobs horizon (length schedule) ⊎ ((number : ℕ) × (place : ℕ) × RefusedCall number place)
      go Done e = inl (call_passed mode tasks jobs horizon (length schedule) e)
      go (Err w) e = inr (w.number, w.place, stopped w.number w.place e)

  -- a run's result of 0 is "done" of the lists that the bytes spell, and the bytes are then the entries of our run
  pub run_passed : run_result mode tasks jobs horizon schedule ≡ 0 → Passed mode tasks jobs horizon (length schedule)
  run_passed e = ⊎_elim (λ w. w) (λ s. absurd (omega (arith, s.2.small, s.2.run))) decided

  -- where nothing is refused, the result is the packed answer to the claim of the lists that the bytes spell
  claim_packed : Passed mode tasks jobs horizon (length schedule)
      → (claim_result mode tasks jobs horizon schedule ≡ packed_claim (claim (given_bytes mode tasks jobs) (numbers_in 2 schedule)))
      × (claim_answer (given_bytes mode tasks jobs) horizon (numbers_in 2 schedule) ≡ Ok (claim (given_bytes mode tasks jobs) (numbers_in 2 schedule)))
  unfolding claim_result claim_answer packed_answer
  claim_packed w = (ap packed_answer (unless_done _ _ _ w.checked), unless_done _ _ _ (rw (length_numbers 2) w.schedule))

  pub c_claim_exactly : (c : Claim)
      → ((number place : ℕ) → (1 ≤ number) × (number ≤ 13) × (place ≤ 64) → number + 256 * place ≡ packed_claim c → ⊥)
      → claim_result mode tasks jobs horizon schedule ≡ packed_claim c
      ↔ (outcome_said (check_bytes mode tasks jobs horizon (length schedule)) ≡ done) × (claim_said (claim_answer (given_bytes mode tasks jobs) horizon (numbers_in 2 schedule)) ≡ claim_said (Ok c))
  unfolding outcome_said run_result packed_outcome
  c_claim_exactly c far = (
    λ e. ⊎_elim (λ w. let p = claim_packed w in
        (ap outcome_said w.checked, ap claim_said (p.1 ∙ ap (λ (d : Claim). Ok d) (unpacked _ c (sym p.0 ∙ e)))))
        (λ s. absurd (far s.0 s.1 s.2.small (s.2.claimed ∙ e))) decided,
    λ w. ⊎_elim (λ x. let p = claim_packed x in p.0 ∙ same_packed _ c (sym p.1 ∙ claim_said_law _ (Ok c) w.1))
        (λ s. clashes s.0 s.1 s.2 w.0) decided,
  )
    where
      clashes : (number place : ℕ) → RefusedCall number place → outcome_said (check_bytes mode tasks jobs horizon (length schedule)) ≡ done
          → claim_result mode tasks jobs horizon schedule ≡ packed_claim c
      clashes number place s e =
          let z : run_result mode tasks jobs horizon schedule ≡ 0 = ap packed_outcome (outcome_said_law (check_bytes mode tasks jobs horizon (length schedule)) Done e) in
          absurd (omega (arith, s.small, s.run))
