-- What the checks answer decides: the tick, in which what is seen, chosen, ended and advanced to is the definition's, or the blank answer.
use mathlib.Core.Path.{sym, ◌∙◌}
use native.Mathlib.Omega.{arith}
use Rattle.tables.proofs.Laws.Accepted.{lists_few}
use Rattle.tables.proofs.Laws.Refusals.{unless_done, unless_refused}
use Rattle.zsrm.specs.Given.{given}
use Rattle.zsrm.specs.Answers.{refused_step, stepped, check_step, step_answer}
use Rattle.zsrm.proofs.Laws.Answers.{Steps, steps}
use Rattle.zsrm.proofs.Laws.Consistent.{spent_tick}
use Rattle.zsrm.proofs.Laws.Turns.{step_made}
use Rattle.zsrm.proofs.record.Record.step.Goals as goal

pub gathered-g-requires : goal.gathered-g-requires
gathered-g-requires c = ((let lemma_passed : let a = c.args in Steps (given a.mode a.tasks.now a.jobs.now) a.self = steps _ _ (sym c.check_step.ensures ∙ c.in-Ok.is) in lemma_passed)).lists

pub alive_in-requires : goal.alive_in-requires
alive_in-requires c = (omega arith, omega (arith, c.job_count-n.ensures, lists_few _ ((let lemma_passed : let a = c.args in Steps (given a.mode a.tasks.now a.jobs.now) a.self = steps _ _ (sym c.check_step.ensures ∙ c.in-Ok.is) in lemma_passed)).lists))

pub choice-entry-requires : goal.choice-entry-requires
choice-entry-requires c = omega (arith, c.job_count-n.ensures, lists_few _ ((let lemma_passed : let a = c.args in Steps (given a.mode a.tasks.now a.jobs.now) a.self = steps _ _ (sym c.check_step.ensures ∙ c.in-Ok.is) in lemma_passed)).lists)

pub after-record-requires : goal.after-record-requires
after-record-requires c =
    let a = c.args in
    let w = (let lemma_passed : let a = c.args in Steps (given a.mode a.tasks.now a.jobs.now) a.self = steps _ _ (sym c.check_step.ensures ∙ c.in-Ok.is) in lemma_passed) in
    let few = lists_few _ w.lists in
    let early = w.time in record { last_bound = omega (arith, c.job_count-n.ensures); k_bound = (omega arith, spent_tick (given a.mode a.tasks.now a.jobs.now) a.self w.sound) }

pub returns-in-Ok : goal.returns-in-Ok
unfolding step_answer
returns-in-Ok c =
    let a = c.args in
    let w = (let lemma_passed : let a = c.args in Steps (given a.mode a.tasks.now a.jobs.now) a.self = steps _ _ (sym c.check_step.ensures ∙ c.in-Ok.is) in lemma_passed) in
    let g = given a.mode a.tasks.now a.jobs.now in
    step_made g _ _ _
    (record { ok = w.lists; gathers = c.gathered-g.ensures; count = c.job_count-n.ensures; mode = c.is_se.ensures })
    a.tie a.self _ _ _ _ _ _ _ w.sound c.alive_in.ensures c.look-seen.ensures c.choice-entry.ensures c.ended_in-ended.ensures
    c.ticked.ensures c.after-record.ensures c.ones-ones.ensures
    ∙ sym (unless_done refused_step (stepped g a.tie a.self) (check_step g a.self) (sym c.check_step.ensures ∙ c.in-Ok.is))

pub returns-in-Err : goal.returns-in-Err
unfolding step_answer
returns-in-Err c =
    let g = given c.args.mode c.args.tasks.now c.args.jobs.now in
    c.refused_step.ensures
    ∙ sym (unless_refused refused_step (stepped g c.args.tie c.args.self) (check_step g c.args.self)
    _ _ (sym c.check_step.ensures ∙ c.in-Err.is))
