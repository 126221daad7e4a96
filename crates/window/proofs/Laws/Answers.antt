-- Laws of the answer: what the checks found decides it.
use Prim.Native.Nat.{ℕ}
use mathlib.Core.List.{List, map}
use mathlib.Core.Path.{ap, sym, ◌∙◌, ◌≡◌}
use native.Mathlib.Omega.{arith}
use Rattle.std.specs.Prelude.{Result, Ok, Err, IsErrAnd, ⊤}
use Rattle.tables.specs.declared.answers.Refusal.{Refusal}
use Rattle.tables.specs.Outcomes.{Outcome, Done, Refused}
use Rattle.tables.specs.Refusals.{before}
use Rattle.tables.proofs.Laws.Refusals.{gives_answer, stops_answer, unless_done}
use Rattle.zsrm.specs.declared.answers.Verdict.{Verdict}
use Rattle.zsrm.specs.declared.answers.Verdicts.{Verdicts}
use Rattle.zsrm.specs.declared.record.Record.{Record}
use Rattle.zsrm.specs.Answers.{verdict_answer, verdict_of, verdicts_answer}
use Rattle.zsrm.specs.Given.{Given}
use Rattle.zsrm.proofs.Promise.{verdicts_each}
use Rattle.window.specs.declared.jobs.Gathered.{Gathered}
use Rattle.window.specs.declared.answers.Windows.{Windows}
use Rattle.window.specs.Answers.{judge_answer}
use Rattle.window.specs.Code.{GatheredAs, windows_from}
use Rattle.window.specs.Refusals.{check19, check20, check_judge}
use Rattle.window.specs.Windows.{activations, windows_of, verdicts_on}
use Rattle.window.proofs.Laws.Gathered.{gathered_windows}
use Rattle.window.proofs.Laws.Jobs.{own_same}
use Rattle.window.proofs.Laws.Refusals.{Accepted, accepted_exactly, accepted_few, all_checked}

module _ (g : Given) (r : Record) (task m k : ℕ) where
  pub answer_done : check_judge g r task m k ≡ Done → judge_answer g r task m k ≡ Ok (windows_of (activations g.lists.jobs task) (verdicts_on g r task) m k)
  unfolding judge_answer
  answer_done ok = unless_done Refused _ (check_judge g r task m k) ok

  -- as the code comes to it, all verdicts asked once
  module _ (all : Verdicts) (asked : all ≡ verdicts_answer g r) (checked : Outcome)
      (found : checked ≡ before all.outcome (before (check19 m k) (check20 g.lists.tasks task))) where
    is_found : checked ≡ check_judge g r task m k
    is_found = found ∙ all_checked g r task m k all asked

    pub made_refused : {answer : Result Windows Refusal} {w : Refusal} → checked ≡ Err w → IsErrAnd answer (λ x. x ≡ w) → answer ≡ judge_answer g r task m k
    unfolding judge_answer
    made_refused e h = stops_answer _ (check_judge g r task m k) is_found e h

    module _ {u : ⊤} (ok : checked ≡ Ok u) where
      pub made_accepted : Accepted g r task m k
      made_accepted = (accepted_exactly g r task m k).0 (sym is_found ∙ ok)

      own_verdicts : map (verdict_of all) (activations g.lists.jobs task) ≡ verdicts_on g r task
      unfolding verdicts_on
      own_verdicts =
          own_same g.lists.jobs task (verdict_of all) (verdict_answer g r)
          (λ j l. ap (λ (x : Verdicts). verdict_of x j) asked ∙ verdicts_each g r j _ (omega (arith, accepted_few g r task m k made_accepted)))

      pub made_answer : (x : Gathered) → GatheredAs (activations g.lists.jobs task) (map (verdict_of all) (activations g.lists.jobs task)) x
          → (made : Windows) → made ≡ windows_from x m k → Ok made ≡ judge_answer g r task m k
      unfolding judge_answer
      made_answer x w made e =
          gives_answer _ (check_judge g r task m k) is_found ok
          (e ∙ gathered_windows (activations g.lists.jobs task) (map (verdict_of all) (activations g.lists.jobs task)) x w m k made_accepted.pair.least
          ∙ ap (λ (vs : List (Result Verdict Refusal)). windows_of (activations g.lists.jobs task) vs m k) own_verdicts)
