use mathlib.Core.Path.{refl, ◌∙◌}
use native.Mathlib.Omega.{arith}
use Rattle.bits.proofs.Laws.Arrays.{written_more, written_none}
use Rattle.tables.specs.Tables.{lists}
use Rattle.zsrm.specs.Given.{given}
use Rattle.zsrm.specs.Record.{place_at, standing_at}
use Rattle.zsrm.specs.Verdict.{verdict}
use Rattle.std.specs.Prelude.{Result, Ok}
use Rattle.tables.specs.declared.answers.Refusal.{Refusal}
use Rattle.zsrm.specs.declared.answers.Verdict.{Verdict}
use Rattle.zsrm.specs.declared.answers.Verdict.TheVariants.{Open}
use Rattle.zsrm.proofs.Laws.Verdicts.{judged_by, verdicts_made}
use Rattle.zsrm.proofs.judging.verdicts.Goals as goal

abbrev room : Result Verdict Refusal
room = Ok Open

pub loop-j-init : goal.loop-j-init
loop-j-init c = (refl, written_none room _ _ 64 c.no_verdicts-all.ensures.long)

pub loop-j-preserved : goal.loop-j-preserved
unfolding verdict standing_at place_at
loop-j-preserved c =
    let a = c.args in (
      c.loop-j.invariant.0,
      written_more room (judged_by (lists a.tasks.now a.jobs.now) a.rec _) _ c.loop-j.all.of 64 c.loop-j.j _ c.loop-j.invariant.1 (omega arith)
          c.judged_at.ensures,
    )

pub returns : goal.returns
returns c =
    let a = c.args in
    verdicts_made (given a.mode a.tasks.now a.jobs.now) a.rec _ room _ c.loop-j.all c.loop-j.j c.check_verdicts-checked.ensures
    (c.loop-j.invariant.0 ∙ c.no_verdicts-all.ensures.told) c.loop-j.invariant.1 (omega arith)
