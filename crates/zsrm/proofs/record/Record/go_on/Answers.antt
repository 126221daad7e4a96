-- What the checks answer decides: the run from this record on, or the blank answer and the list as it was.
use mathlib.Core.Path.{ap, sym, ◌∙◌}
use Rattle.tables.specs.Outcomes.{Outcome}
use Rattle.zsrm.specs.Answers.{ran}
use Rattle.zsrm.specs.Given.{given}
use Rattle.zsrm.proofs.Laws.GoOn.{goes_on_law, go_on_done, go_on_writes, go_on_refused, go_on_keeps}
use Rattle.zsrm.proofs.record.Record.go_on.Goals as goal

pub run_from-made-requires : goal.run_from-made-requires
run_from-made-requires c =
    let g = given c.args.mode c.args.tasks.now c.args.jobs.now in
    let ok = sym c.check_go_on-outcome.ensures ∙ c.in-Ok.is in
    let w = goes_on_law g c.args.self c.args.ticks _ ok in
    record { jobs_value = w.lists; start_value = (w.sound, w.fits) }

pub returns-in-Ok : goal.returns-in-Ok
returns-in-Ok c =
    let g = given c.args.mode c.args.tasks.now c.args.jobs.now in
    let ok = sym c.check_go_on-outcome.ensures ∙ c.in-Ok.is in record { answers = c.or_blank.ensures ∙ ap (λ (o : Outcome). ran o c.run_from-made.result) c.in-Ok.is ∙ go_on_done g c.args.tie c.args.self c.args.ticks c.args.schedule.now ok _ c.run_from-made.ensures.ends; writes = go_on_writes g c.args.tie c.args.self c.args.ticks c.args.schedule.now ok _ c.run_from-made.ensures.writes }

pub returns-in-Err : goal.returns-in-Err
returns-in-Err c =
    let g = given c.args.mode c.args.tasks.now c.args.jobs.now in
    let e = sym c.check_go_on-outcome.ensures ∙ c.in-Err.is in record { answers = c.or_blank-in-Err.ensures ∙ ap (λ (o : Outcome). ran o c.blank.result) c.in-Err.is ∙ go_on_refused g c.args.tie c.args.self c.args.ticks c.args.schedule.now _ _ e _; writes = go_on_keeps g c.args.tie c.args.self c.args.ticks c.args.schedule.now _ _ e }
