-- What the checks answer decides: the replay's beginning mended, or the refusal and the second list as it was.
use mathlib.Core.Path.{ap, sym, ◌∙◌}
use borrow.Author.Tests.{eq-eqb, ne_eqb}
use Rattle.std.specs.Prelude.{Ok}
use Rattle.tables.proofs.Laws.Refusals.{stops_answer, unless_refused}
use Rattle.zsrm.specs.declared.answers.Mended.{Mended}
use Rattle.zsrm.specs.Answers.{mend_answer, mend_schedule}
use Rattle.zsrm.specs.Given.{given}
use Rattle.zsrm.proofs.Laws.Mend.{accepts, answer_is, schedule_is}
use Rattle.zsrm.proofs.Laws.Mending.{mend_answer_law}
use Rattle.zsrm.proofs.mending.mend.Goals as goal

pub walk-walked-requires : goal.walk-walked-requires
walk-walked-requires c =
    let w = accepts _ _ _ _ (sym c.check_mend.ensures ∙ c.in_ok-check_mend.was) in
    (w.input.lists, w.limit)

pub write_mended-changed-requires : goal.write_mended-changed-requires
write_mended-changed-requires c =
    let w = accepts _ _ _ _ (sym c.check_mend.ensures ∙ c.in_ok-check_mend.was) in
    record { jobs_value = (w.input.lists, c.walk-walked.ensures); schedule_len_bound = (w.limit, w.room ∙ sym w.input.whole) }

pub returns-then-first-schedule : goal.returns-then-first-schedule
returns-then-first-schedule c =
    let a = c.args in
    let g = given a.mode a.tasks.now a.jobs.now in
    let ok = sym c.check_mend.ensures ∙ c.in_ok-check_mend.was in
    record {
      answers = ap (λ (m : Mended). Ok m) (rw (eq-eqb _ _ c.if-first-schedule.true) at (mend_answer_law g a.schedule.now _ c.walk-walked.ensures _ c.write_mended-changed.ensures.counts))
          ∙ sym (answer_is g a.horizon a.schedule.now a.mended.now ok);
      writes = c.write_mended-changed.ensures.writes ∙ sym (schedule_is g a.horizon a.schedule.now a.mended.now ok);
    }

pub returns-else-first-schedule : goal.returns-else-first-schedule
returns-else-first-schedule c =
    let a = c.args in
    let g = given a.mode a.tasks.now a.jobs.now in
    let ok = sym c.check_mend.ensures ∙ c.in_ok-check_mend.was in
    record {
      answers = ap (λ (m : Mended). Ok m) (rw (ne_eqb _ _ c.if-first-schedule.false) at (mend_answer_law g a.schedule.now _ c.walk-walked.ensures _ c.write_mended-changed.ensures.counts))
          ∙ sym (answer_is g a.horizon a.schedule.now a.mended.now ok);
      writes = c.write_mended-changed.ensures.writes ∙ sym (schedule_is g a.horizon a.schedule.now a.mended.now ok);
    }

pub returns-in_err-check_mend : goal.returns-in_err-check_mend
unfolding mend_answer mend_schedule
returns-in_err-check_mend c =
    record {
      answers = stops_answer _ _ c.check_mend.ensures c.in_err-check_mend.was c.from_residual.ensures.1;
      writes = sym (unless_refused _ _ _ _ _ (sym c.check_mend.ensures ∙ c.in_err-check_mend.was));
    }
