-- What the checks answer decides: the verdict, or the refusal.
use mathlib.Core.Path.{sym, ◌∙◌}
use native.Mathlib.Omega.{arith}
use Rattle.tables.proofs.Laws.Refusals.{gives_answer, stops_answer}
use Rattle.zsrm.specs.Answers.{verdict_answer}
use Rattle.zsrm.proofs.Laws.Verdicts.{verdict_named}
use Rattle.zsrm.proofs.judging.verdict.Goals as goal

pub returns-in_err-check_verdict : goal.returns-in_err-check_verdict
unfolding verdict_answer
returns-in_err-check_verdict c = stops_answer _ _ c.check_verdict.ensures c.in_err-check_verdict.was c.from_residual.ensures.1

pub judge_at-requires : goal.judge_at-requires
judge_at-requires c =
    let w = verdict_named _ _ _ (sym c.check_verdict.ensures ∙ c.in_ok-check_verdict.was) in
    omega (arith, w.job, w.few)

pub returns : goal.returns
unfolding verdict_answer
returns c = gives_answer _ _ c.check_verdict.ensures c.in_ok-check_verdict.was c.judge_at.ensures
