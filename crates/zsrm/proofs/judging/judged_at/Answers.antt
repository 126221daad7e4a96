-- What the checks answer decides: the verdict by the standing, or the refusal.
use Prim.Native.Nat.{ℕ}
use mathlib.Core.Path.{ap, refl, sym, ◌∙◌}
use Rattle.zsrm.specs.Verdict.{judged}
use Rattle.tables.proofs.Laws.Refusals.{before_passes, before_stops, gives_answer, stops_answer}
use Rattle.zsrm.proofs.judging.judged_at.Goals as goal

pub returns-in_err-checked : goal.returns-in_err-checked
returns-in_err-checked c = stops_answer _ _ refl (before_stops _ _ _ _ c.in_err-checked.was) c.from_residual.ensures.1

pub returns-in_err-check13 : goal.returns-in_err-check13
returns-in_err-check13 c =
    stops_answer _ _ refl (before_passes _ _ c.in_ok-checked.was ∙ sym c.check13.ensures ∙ c.in_err-check13.was) c.from_residual-in_err-check13.ensures.1

pub returns : goal.returns
returns c =
    let a = c.args in
    gives_answer _ _ refl (before_passes _ _ c.in_ok-checked.was ∙ sym c.check13.ensures ∙ c.in_ok-check13.was)
    (c.judge_standing.ensures ∙ ap (λ (due : ℕ). judged due a.t a.standing) c.deadline_instant.ensures)
