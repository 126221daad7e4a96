-- Laws of what is printed of a run: the lines of its jobs, and the whole.
use Prim.Native.Nat.{◌*◌, ◌+◌, ◌<◌, suc, zero, ℕ, ◌≤◌}
use mathlib.Core.List.{List}
use mathlib.Core.Logic.{◌⊎◌}
use mathlib.Core.Path.{ap, refl, sym, ◌∙◌, ◌≡◌}
use native.Mathlib.Numerals.{add-one}
use native.Mathlib.Omega.{arith}
use lib.ListN.{length, length-append}
use borrow.Author.Tests.{ltb-false}
use Rattle.std.specs.Prelude.{Ok, Err}
use Rattle.tables.specs.Outcomes.{Outcome, Done, Refused}
use Rattle.zsrm.specs.declared.answers.Ran.{Ran}
use Rattle.zsrm.specs.declared.answers.Verdict.{Verdict}
use Rattle.zsrm.specs.declared.answers.Verdicts.{Verdicts}
use Rattle.zsrm.specs.declared.record.Record.{Record}
use Rattle.zsrm.specs.declared.record.Place.{Place}
use Rattle.zsrm.specs.declared.mode.Mode.{Mode}
use Rattle.zsrm.specs.declared.tie.Tie.TheVariants.{Lowest}
use Rattle.zsrm.specs.Answers.{run_answer, run_schedule, verdict_of, verdicts_answer}
use Rattle.zsrm.specs.Record.{consistent, place_at}
use Rattle.tables.specs.Refusals.{before, check9, check_lists, unless, check_schedule}
use Rattle.zsrm.specs.Run.{run_entries, run_record}
use Rattle.tables.specs.Tables.{Lists, job_count, lists}
use Rattle.zsrm.specs.Verdict.{verdict}
use Rattle.zsrm.proofs.Laws.Answers.{run_given_law, run_outcome}
use Rattle.zsrm.proofs.Laws.Verdicts.{verdict_answered}
use Rattle.zsrm.proofs.Laws.GoOn.{ran_consistent}
use Rattle.zsrm.proofs.Promise.{verdicts_each}
use Rattle.tables.proofs.Laws.Refusals.{before_first, before_second, refuse_fine, unless_done, unless_refused}
use Rattle.zsrm.proofs.Laws.Run.{length_run}
use Rattle.sheet.specs.Listing.{behind_first, given_listing, job_line, job_lines, verdict_line, line, printed, refused_line, run_listing}
use Rattle.text.specs.Wrote.{Put}
use Rattle.sheet.specs.Code.{Judgeable}
use Rattle.sheet.proofs.Laws.Lines.{head_length, job_length, stretches_length}
use Rattle.zsrm.specs.Given.{Given, given}
use Rattle.tables.proofs.Laws.Accepted.{lists_few, accepted, schedule_checked}
use Rattle.text.proofs.Laws.Put.{put_more}
use Rattle.text.proofs.Laws.Writing.{decimal_length}

module _ {mode : Mode} {tasks jobs : List ℕ} {r : Record} (w : Judgeable mode tasks jobs r) where
  pub few : job_count jobs ≤ 64
  few = lists_few (lists tasks jobs) w.lists

  -- all verdicts that the library answers are the verdicts
  pub all_judged : {all : Verdicts} → all ≡ verdicts_answer (given mode tasks jobs) r → (j : ℕ) → j < job_count jobs → verdict_of all j ≡ Ok (verdict (lists tasks jobs) r j)
  all_judged p j l =
      ap (λ (x : Verdicts). verdict_of x j) p ∙ verdicts_each (given mode tasks jobs) r j _ (omega (arith, few))
      ∙ verdict_answered (given mode tasks jobs) w.lists r w.sound j l

module _ (l : Lists) (r : Record) where
  pub put_jobs : {v : Verdict} {p : Place} {before m n : List ℕ} {at k i : ℕ} (j : ℕ) → v ≡ verdict l r j → p ≡ place_at r j
      → Put before at (job_lines l r j) m k → Put m k (verdict_line j v p) n i → Put before at (job_lines l r (j + 1)) n i
  unfolding job_lines job_line
  put_jobs j e q x y = rw (add-one, ← e, ← q) (put_more x y)

  pub jobs_length : (n : ℕ) → length (job_lines l r n) ≤ 67 * n
  unfolding job_lines job_line
  jobs_length zero = omega arith
  jobs_length (suc n) = simp length-append (omega (arith, jobs_length n, job_length n (verdict l r n) (place_at r n)))

-- what the library's run answers, and what is printed for it
module _ (g : Given) (horizon : ℕ) (lent : List ℕ) {r : Ran} (is : r ≡ run_answer g Lowest horizon lent) where
  checked : r.outcome ≡ check_schedule g.lists horizon (length lent)
  checked = ap (λ (x : Ran). x.outcome) is ∙ run_outcome g Lowest horizon lent

  module _ (done : r.outcome ≡ Done) where
    accepts : check_schedule g.lists horizon (length lent) ≡ Done
    accepts = sym checked ∙ done

    recorded : r.«record» ≡ run_record g Lowest horizon
    recorded = ap (λ (x : Ran). x.«record») is ∙ (run_given_law g Lowest horizon lent accepts).0

    pub ran_judged : Judgeable g.mode g.lists.tasks g.lists.jobs r.«record»
    ran_judged =
        record {
          lists = (accepted g.lists horizon (length lent) accepts).lists;
          sound = ap (λ (x : Ran). consistent g x.«record») is ∙ ran_consistent g Lowest horizon lent accepts;
        }

    module _ {es : List ℕ} (writes : es ≡ run_schedule g Lowest horizon lent) where
      wrote_entries : es ≡ run_entries g Lowest horizon
      wrote_entries = writes ∙ (run_given_law g Lowest horizon lent accepts).1

      pub ran_short : length es ≤ 16384
      ran_short = omega (arith, ap length wrote_entries, length_run g Lowest horizon, (accepted g.lists horizon (length lent) accepts).bounded)

      pub ran_listing : (length lent ≡ horizon) ⊎ (16384 < horizon)
          → printed g horizon es r.«record» ≡ given_listing g horizon
      unfolding given_listing run_listing
      ran_listing fits =
          let e = unless_done refused_line (run_listing g horizon) (before (check_lists g.lists) (check9 horizon)) (sym (schedule_checked g.lists horizon (length lent) fits) ∙ accepts) in
          rw (e, wrote_entries, recorded)

  pub refused_listing : (number place : ℕ) → r.outcome ≡ Refused number place → (length lent ≡ horizon) ⊎ (16384 < horizon) → refused_line number place ≡ given_listing g horizon
  unfolding given_listing
  refused_listing number place e fits =
      sym (unless_refused refused_line (run_listing g horizon) (before (check_lists g.lists) (check9 horizon)) number place
      (sym (schedule_checked g.lists horizon (length lent) fits) ∙ sym checked ∙ e))

-- how long a listing is
pub refused_length : (number place : ℕ) → length (refused_line number place) ≤ 30
unfolding refused_line line behind_first
refused_length number place = simp length-append (omega (arith, decimal_length number, decimal_length place))

run_length : (g : Given) (horizon : ℕ) → horizon ≤ 16384 → job_count g.lists.jobs ≤ 64 → length (run_listing g horizon) ≤ 544977
unfolding run_listing printed
run_length g horizon h j =
    simp length-append
    (omega (
      arith,
      head_length g.mode horizon,
      stretches_length (run_entries g Lowest horizon),
      length_run g Lowest horizon,
      jobs_length g.lists (run_record g Lowest horizon) (job_count g.lists.jobs),
    ))

pub given_length : (g : Given) (horizon : ℕ) → length (given_listing g horizon) ≤ 544977
unfolding given_listing unless check9
given_length g horizon = by_check (before (check_lists g.lists) (check9 horizon)) refl
  where
    by_check : (o : Outcome) → before (check_lists g.lists) (check9 horizon) ≡ o → length (unless o refused_line (run_listing g horizon)) ≤ 544977
    by_check Done e =
        run_length g horizon (ltb-false 16384 horizon (refuse_fine _ _ _ (before_second (check_lists g.lists) _ e)))
        (lists_few g.lists (before_first (check_lists g.lists) _ e))
    by_check (Err w) e = omega (arith, refused_length w.number w.place)
