-- What our run gives to the members' jobs of two accepted lists that hold the same ones: the same.
use Prim.Native.Nat.{ℕ, zero, suc, ◌<◌, ◌≤◌}
use mathlib.Core.Bool.{Bool, true}
use mathlib.Core.List.{List, [], ◌∷◌, map}
use mathlib.Core.Logic.{inl}
use mathlib.Core.Path.{ap, refl, sym, ◌∙◌, ◌≡◌}
use native.Mathlib.Nat.{not-suc-le-zero}
use native.Mathlib.Omega.{arith}
use lib.Dec.{eqb}
use lib.ListN.{get_or, length, length-map}
use lib.Seq.{ext_get_or}
use borrow.Author.Tests.{le-ltb}
use Rattle.std.specs.Prelude.{Ok}
use Rattle.zsrm.specs.declared.answers.Verdict.{Verdict}
use Rattle.tables.specs.Outcomes.{Done}
use Rattle.tables.specs.Fields.{job_at}
use Rattle.tables.specs.Refusals.{before, check9, check_lists, refuse, check_schedule}
use Rattle.tables.specs.Said.{done, outcome_said}
use Rattle.tables.specs.Tables.{Lists, idle, job_count, lists}
use Rattle.tables.proofs.Laws.Said.{outcome_said_law}
use Rattle.tables.proofs.Laws.Accepted.{accepted, schedule_checked}
use Rattle.zsrm.specs.declared.mode.Mode.{Mode}
use Rattle.zsrm.specs.declared.tie.Tie.{Tie}
use Rattle.zsrm.specs.declared.tie.Tie.TheVariants.{Lowest, Stay}
use Rattle.zsrm.specs.Answers.{run_answer, run_schedule, verdict_answer}
use Rattle.zsrm.specs.Given.{Given, given}
use Rattle.zsrm.specs.Record.{place_at}
use Rattle.zsrm.specs.Verdict.{verdict}
use Rattle.zsrm.proofs.Laws.Answers.{run_given_law}
use Rattle.zsrm.proofs.Laws.Verdicts.{verdict_answered}
use Rattle.zsrm.proofs.Laws.GoOn.{ran_consistent}
use Rattle.zsrm.proofs.Laws.Ties.{run_ties}
use Rattle.others.specs.Others.{held, member, members_jobs, outside_lower, outside_no_more_critical, share, shares, ticks_of}
use Rattle.others.proofs.Laws.Alike.{Matched, SameForMembers, entries_alike, run_alike, verdict_alike}
use Rattle.others.proofs.Laws.Passing.{passing_same}
use Rattle.others.proofs.Laws.Members.{members_uppermost}

module _ {A : Type 0} where
  at_map : (f : ℕ → A) (xs : List ℕ) (i : ℕ) (d : A) → i < length xs → get_or (map f xs) i d ≡ f (get_or xs i 0)
  at_map f [] i d l = absurd (not-suc-le-zero l)
  at_map f (x ∷ xs) zero d l = refl
  at_map f (x ∷ xs) (suc i) d l = at_map f xs i d (omega arith)

  module _ (f h : ℕ → A) (xs ys : List ℕ) where
    pub maps_long : map f xs ≡ map h ys → length xs ≡ length ys
    maps_long e = sym (length-map xs f) ∙ ap length e ∙ length-map ys h

    pub maps_at : map f xs ≡ map h ys → (i : ℕ) → i < length xs → f (get_or xs i 0) ≡ h (get_or ys i 0)
    maps_at e i l =
        sym (at_map f xs i (f 0) l) ∙ ap (λ (zs : List A). get_or zs i (f 0)) e ∙ at_map h ys i (f 0) (omega (arith, maps_long e))

    pub maps_same : length xs ≡ length ys → ((i : ℕ) → i < length xs → f (get_or xs i 0) ≡ h (get_or ys i 0)) → map f xs ≡ map h ys
    maps_same e q =
        ext_get_or (f 0) (map f xs) (map h ys) (length-map xs f ∙ e ∙ sym (length-map ys h))
        (λ i l. let m : i < length xs = omega (arith, length-map xs f) in at_map f xs i (f 0) m ∙ q i m ∙ sym (at_map h ys i (f 0) (omega arith)))

-- an accepted list, with a horizon and a list lent for it, is run
pub run_fits : (l : Lists) → outcome_said (check_lists l) ≡ done → (horizon : ℕ) → horizon ≤ 16384 → (entries : ℕ) → entries ≡ horizon → check_schedule l horizon entries ≡ Done
unfolding outcome_said check9 refuse before
run_fits l ok horizon within entries whole =
    rw (schedule_checked l horizon entries (inl whole), outcome_said_law (check_lists l) Done ok, le-ltb 16384 horizon within)

-- from the fresh record either tie choice gives the same
share_ties : (g : Given) (tie : Tie) (horizon : ℕ) (lent : List ℕ) (j : ℕ) → share g tie horizon lent j ≡ share g Lowest horizon lent j
unfolding share
share_ties g Lowest horizon lent j = refl
share_ties g Stay horizon lent j =
    let w = run_ties g horizon lent in
    λ z. record { ticks = ticks_of horizon (w.1 z) j; place = place_at (w.0 z).«record» j; verdict = verdict_answer g (w.0 z).«record» j }

-- the verdict on a job of an accepted list is not refused
judged : (g : Given) (horizon : ℕ) (lent : List ℕ) → check_schedule g.lists horizon (length lent) ≡ Done → (j : ℕ) → j < job_count g.lists.jobs
    → verdict_answer g (run_answer g Lowest horizon lent).«record» j ≡ Ok (verdict g.lists (run_answer g Lowest horizon lent).«record» j)
judged g horizon lent ok j l = verdict_answered g (accepted g.lists horizon (length lent) ok).lists _ (ran_consistent g Lowest horizon lent ok) j l

module _ (set : ℕ → Bool) (tasks : List ℕ) (lower : outside_lower set tasks ≡ true) (no-more-critical : outside_no_more_critical set tasks ≡ true)
    (a b : List ℕ) (same : held set a ≡ held set b) (mode : Mode) (horizon : ℕ) (lent-a lent-b : List ℕ)
    (ok-a : check_schedule (lists tasks a) horizon (length lent-a) ≡ Done) (ok-b : check_schedule (lists tasks b) horizon (length lent-b) ≡ Done) where
  abbrev g : Given
  g = given mode tasks a

  abbrev h : Given
  h = given mode tasks b

  as_many : length (members_jobs set a) ≡ length (members_jobs set b)
  unfolding held
  as_many = maps_long (job_at a) (job_at b) (members_jobs set a) (members_jobs set b) same

  matched : Matched tasks a b (length (members_jobs set a)) (member set a) (member set b)
  unfolding held
  matched =
      record {
        one = members_uppermost set tasks a lower no-more-critical (accepted (lists tasks a) horizon (length lent-a) ok-a).lists;
        other = rw as_many (members_uppermost set tasks b lower no-more-critical (accepted (lists tasks b) horizon (length lent-b) ok-b).lists);
        jobs = maps_at (job_at a) (job_at b) (members_jobs set a) (members_jobs set b) same;
      }

  records_same : SameForMembers (length (members_jobs set a)) (member set a) (member set b) (run_answer g Lowest horizon lent-a).«record» (run_answer h Lowest horizon lent-b).«record»
  records_same = rw ((run_given_law g Lowest horizon lent-a ok-a).0, (run_given_law h Lowest horizon lent-b ok-b).0) (run_alike matched mode horizon)

  runs_same : (i : ℕ) → i < length (members_jobs set a) → (t : ℕ) → t < horizon
      → eqb (get_or (run_schedule g Lowest horizon lent-a) t idle) (member set a i) ≡ eqb (get_or (run_schedule h Lowest horizon lent-b) t idle) (member set b i)
  runs_same i l t n = rw ((run_given_law g Lowest horizon lent-a ok-a).1, (run_given_law h Lowest horizon lent-b ok-b).1) (entries_alike matched mode horizon i l t n)

  share_same : (tie : Tie) (i : ℕ) → i < length (members_jobs set a) → share g tie horizon lent-a (member set a i) ≡ share h tie horizon lent-b (member set b i)
  unfolding share ticks_of
  share_same tie i l =
      let who = passing_same _ _ horizon (runs_same i l) in
      let says =
      judged g horizon lent-a ok-a (member set a i) (matched.one.known i l) ∙ ap (λ (v : Verdict). Ok v) (verdict_alike matched mode _ _ records_same i l)
      ∙ sym (judged h horizon lent-b ok-b (member set b i) (matched.other.known i l)) in
      share_ties g tie horizon lent-a (member set a i) ∙ (λ z. record { ticks = who z; place = records_same.place i l z; verdict = says z })
      ∙ sym (share_ties h tie horizon lent-b (member set b i))

  pub shares_same : (tie : Tie) → shares g tie horizon lent-a set ≡ shares h tie horizon lent-b set
  unfolding shares
  shares_same tie = maps_same (share g tie horizon lent-a) (share h tie horizon lent-b) (members_jobs set a) (members_jobs set b) as_many (share_same tie)
