-- What the checks answer decides: the replay's answer, or the refusal.
use mathlib.Core.Path.{sym, ◌∙◌}
use native.Mathlib.Omega.{arith}
use Rattle.tables.proofs.Laws.Refusals.{gives_answer, stops_answer}
use Rattle.zsrm.specs.Answers.{witness_answer}
use Rattle.zsrm.proofs.Laws.Witnesses.{witness_answer_law, witnessed}
use Rattle.zsrm.proofs.witnesses.witness.Goals as goal

pub walk-walked-requires : goal.walk-walked-requires
walk-walked-requires c =
    let w = witnessed _ _ _ _ (sym c.check_witness.ensures ∙ c.in_ok-check_witness.was) in
    (w.named.lists, w.limit)

pub judge_at-verdict-requires : goal.judge_at-verdict-requires
judge_at-verdict-requires c =
    let w = witnessed _ _ _ _ (sym c.check_witness.ensures ∙ c.in_ok-check_witness.was) in
    omega (arith, w.named.job, w.named.few)

pub first_breaking-first-requires : goal.first_breaking-first-requires
first_breaking-first-requires c = (witnessed _ _ _ _ (sym c.check_witness.ensures ∙ c.in_ok-check_witness.was)).named.few

pub returns-in_err-check_witness : goal.returns-in_err-check_witness
unfolding witness_answer
returns-in_err-check_witness c = stops_answer _ _ c.check_witness.ensures c.in_err-check_witness.was c.from_residual.ensures.1

pub returns : goal.returns
unfolding witness_answer
returns c =
    gives_answer _ _ c.check_witness.ensures c.in_ok-check_witness.was
    (witness_answer_law _ _ _ _ _ _ _ _ c.walk-walked.ensures c.judge_at-verdict.ensures c.first_breaking-first.ensures c.job_count.ensures c.answer_witness.ensures)
