-- In each case the definition's own; against a job that has not missed no witness is accepted.
use mathlib.Core.Path.{sym, ◌∙◌}
use Rattle.zsrm.proofs.Laws.Witnesses.{answers_illegal, answers_outside, answers_spared, answers_within}
use Rattle.zsrm.proofs.witnesses.answer_witness.Goals as goal

pub returns-then-not-legal : goal.returns-then-not-legal
returns-then-not-legal c = let a = c.args in answers_illegal a.legal a.ticks a.outside a.first a.verdict c.if-not-legal.true-raw

pub returns-then-outside : goal.returns-then-outside
returns-then-outside c =
    let a = c.args in
    answers_outside a.legal a.ticks a.outside a.first a.verdict c.if-not-legal.false-raw c.if-outside.true

pub returns-then-missed : goal.returns-then-missed
returns-then-missed c =
    let a = c.args in
    c.blame.ensures ∙ answers_within a.legal a.ticks a.outside a.first a.verdict c.if-not-legal.false-raw c.if-outside.false

pub returns-else-missed : goal.returns-else-missed
returns-else-missed c =
    let a = c.args in
    answers_spared a.legal a.ticks a.outside a.first a.verdict c.if-not-legal.false-raw c.if-outside.false
    (sym c.is_missed-missed.ensures ∙ c.if-missed.false)
