use mathlib.Core.Path.{sym, ◌∙◌}
use borrow.Author.Rules.{rules}
use Rattle.tables.proofs.Laws.Noted.{soonest_down, soonest_none, soonest_stop}
use Rattle.tables.proofs.refusals.looked_back.Goals as goal

pub returns-then-job-k : goal.returns-then-job-k
returns-then-job-k g c =
    let at = c in
    let same = rw c.job-job.ensures at c.if-job-k.true in
    rw (c.job-job.ensures, at.task.ensures) (sym (at.loop-i.invariant ∙ soonest_stop _ _ _ _ (search rules) same))

pub loop-i-preserved : goal.loop-i-preserved
loop-i-preserved g c =
    let other = rw c.job-job.ensures at c.if-job-k.false in
    c.loop-i.invariant ∙ soonest_down _ _ _ _ (search rules) other

pub returns : goal.returns
returns g c = sym (c.loop-i.invariant ∙ soonest_none _ _ _ _ c.loop-i-test.false)
