use mathlib.Core.Path.{refl, ◌∙◌}
use native.Mathlib.Omega.{arith}
use Rattle.bits.specs.Below.{some}
use Rattle.bits.proofs.Laws.Below.{scan_end, scan_on}
use Rattle.tables.specs.Tables.{job_count, lists}
use Rattle.zsrm.specs.Verdict.{breaks}
use Rattle.zsrm.proofs.Laws.Assumption.{first_found, none_found}
use Rattle.zsrm.proofs.witnesses.first_breaking.Goals as goal

pub loop-i-init : goal.loop-i-init
loop-i-init c = unfold some in refl

pub returns-then-is_breaking : goal.returns-then-is_breaking
returns-then-is_breaking c =
    let a = c.args in
    first_found (lists a.tasks.now a.jobs.now) a.j c.loop-i.i _ (omega (arith, c.job_count-n.ensures)) c.loop-i.invariant c.is_breaking.ensures c.if-is_breaking.true

pub loop-i-preserved : goal.loop-i-preserved
loop-i-preserved c =
    let a = c.args in
    scan_on (breaks (lists a.tasks.now a.jobs.now) a.j) c.loop-i.i _ c.loop-i.invariant c.is_breaking.ensures c.if-is_breaking.false

pub returns : goal.returns
returns c =
    let a = c.args in
    c.job_count-n.ensures ∙ none_found (lists a.tasks.now a.jobs.now) a.j
    (scan_end (breaks (lists a.tasks.now a.jobs.now) a.j) (job_count a.jobs.now) c.loop-i.i (omega (arith, c.job_count-n.ensures)) (omega (arith, c.job_count-n.ensures)) c.loop-i.invariant)
