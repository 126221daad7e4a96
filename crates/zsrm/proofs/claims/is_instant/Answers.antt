use mathlib.Core.Path.{refl, sym, ◌∙◌}
use native.Mathlib.Omega.{arith}
use Rattle.bits.specs.Below.{some}
use Rattle.bits.proofs.Laws.Below.{some_true, scan_on, scan_end}
use Rattle.tables.specs.Tables.{lists}
use Rattle.zsrm.specs.Record.{place_at}
use Rattle.zsrm.specs.Given.{given}
use Rattle.zsrm.proofs.Laws.Claims.{instant_by_law, instant_in}
use Rattle.zsrm.proofs.claims.is_instant.Goals as goal

pub loop-j-init : goal.loop-j-init
loop-j-init c = unfold some in refl

pub returns-then-is_instant_by : goal.returns-then-is_instant_by
unfolding place_at
returns-then-is_instant_by c =
    let se = c.is_se-se.result in
    sym (some_true (instant_in (lists c.args.tasks.now c.args.jobs.now) se c.args.rec.previous c.args.rec)
    _ c.loop-j.j c.loop-j-test.true (sym c.is_instant_by.ensures ∙ c.if-is_instant_by.true))
    ∙ instant_by_law (given c.args.mode c.args.tasks.now c.args.jobs.now) se
    c.args.rec.previous c.args.rec _ c.is_se-se.ensures c.job_count-n.ensures

pub loop-j-preserved : goal.loop-j-preserved
unfolding place_at
loop-j-preserved c =
    scan_on (instant_in (lists c.args.tasks.now c.args.jobs.now) c.is_se-se.result c.args.rec.previous c.args.rec)
    c.loop-j.j _ c.loop-j.invariant c.is_instant_by.ensures c.if-is_instant_by.false

pub returns : goal.returns
returns c =
    let se = c.is_se-se.result in
    sym (scan_end (instant_in (lists c.args.tasks.now c.args.jobs.now) se c.args.rec.previous c.args.rec)
    _ c.loop-j.j (omega arith) (omega arith) c.loop-j.invariant)
    ∙ instant_by_law (given c.args.mode c.args.tasks.now c.args.jobs.now) se
    c.args.rec.previous c.args.rec _ c.is_se-se.ensures c.job_count-n.ensures
