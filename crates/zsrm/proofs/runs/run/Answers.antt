-- What the checks answer decides: the run, or the blank answer and the list as it was.
use mathlib.Core.Path.{sym, ap, ◌∙◌}
use lib.ListN.{length}
use Rattle.zsrm.specs.declared.record.Record.{Record}
use Rattle.tables.specs.Outcomes.{Outcome}
use Rattle.zsrm.specs.Answers.{ran}
use Rattle.zsrm.specs.Given.{given}
use Rattle.zsrm.proofs.Laws.Answers.{run_done, run_writes, run_refused, run_keeps, starts}
use Rattle.zsrm.specs.Tick.{choice}
use Rattle.zsrm.specs.Run.{entries_by, final_by}
use Rattle.zsrm.proofs.runs.run.Goals as goal

pub run_from-made-requires : goal.run_from-made-requires
run_from-made-requires c =
    let ok = sym c.check_schedule-outcome.ensures ∙ c.in-Ok.is in
    let w = starts (given c.args.mode c.args.tasks.now c.args.jobs.now) c.args.horizon c.args.schedule.now _ ok c.fresh_record.ensures in
    record { jobs_value = w.lists; start_value = (w.sound, w.room) }

pub returns-in-Ok : goal.returns-in-Ok
returns-in-Ok c =
    let g = given c.args.mode c.args.tasks.now c.args.jobs.now in
    let ok = sym c.check_schedule-outcome.ensures ∙ c.in-Ok.is in
    let n = length c.args.schedule.now in record {
      answers = c.or_blank.ensures ∙ ap (λ (o : Outcome). ran o c.run_from-made.result) c.in-Ok.is ∙ run_done g c.args.tie c.args.horizon c.args.schedule.now ok _
          (c.run_from-made.ensures.ends ∙ ap (λ (r : Record). final_by g (choice g c.args.tie) r n) c.fresh_record.ensures);
      writes = run_writes g c.args.tie c.args.horizon c.args.schedule.now ok _
          (c.run_from-made.ensures.writes ∙ ap (λ (r : Record). entries_by g (choice g c.args.tie) r n) c.fresh_record.ensures);
    }

pub returns-in-Err : goal.returns-in-Err
returns-in-Err c =
    let g = given c.args.mode c.args.tasks.now c.args.jobs.now in
    let e = sym c.check_schedule-outcome.ensures ∙ c.in-Err.is in record { answers = c.or_blank-in-Err.ensures ∙ ap (λ (o : Outcome). ran o c.blank.result) c.in-Err.is ∙ run_refused g c.args.tie c.args.horizon c.args.schedule.now _ _ e _; writes = run_keeps g c.args.tie c.args.horizon c.args.schedule.now _ _ e }
