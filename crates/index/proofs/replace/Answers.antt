-- What the checks find decides: the rows past the tick are changed and the entry is written, or both lists are as they were.
use Prim.Native.Nat.{ℕ}
use mathlib.Core.Path.{ap₂, sym, ◌∙◌, ◌≡◌}
use native.Mathlib.Omega.{arith}
use Rattle.tables.specs.Outcomes.{Done}
use Rattle.tables.proofs.Laws.Refusals.{handed_back}
use Rattle.index.specs.Answers.{moved, replace_answer}
use Rattle.index.specs.Counts.{plan}
use Rattle.index.specs.Refusals.{strays}
use Rattle.index.specs.Rows.{row_count, row_by_row, row_width}
use Rattle.index.proofs.Laws.Answers.{change_fits, change_stays, replace_change, replace_checked}
use Rattle.index.proofs.Laws.Answers.{replace_indexes, replace_keeps_index, replace_keeps_schedule, replace_schedules, replace_sized, replace_tick}
use Rattle.index.proofs.replace.Goals as goal

-- something is refused
pub returns-in_err-check_replace : goal.returns-in_err-check_replace
returns-in_err-check_replace c =
    let e = sym c.check_replace.ensures ∙ c.in_err-check_replace.was in
    record {
      answers = handed_back c.in_err-check_replace.was c.from_residual.ensures.1 ∙ c.check_replace.ensures;
      schedules = sym (replace_keeps_schedule _ _ _ _ _ _ _ e);
      indexes = sym (replace_keeps_index _ _ _ _ _ _ _ e);
    }

pub bounds-schedule-at : goal.bounds-schedule-at
bounds-schedule-at c = replace_tick _ _ _ _ _ (sym c.check_replace.ensures ∙ c.in_ok-check_replace.was)

pub move_rows-requires : goal.move_rows-requires
move_rows-requires c =
    let a = c.args in
    let ok : replace_answer (plan a.tasks.now a.jobs.now a.horizon) a.schedule.now a.index.now a.tick a.entry ≡ Done = sym c.check_replace.ensures ∙ c.in_ok-check_replace.was in
    let change = replace_change _ _ _ _ _ ok in
    let fits = change_fits _ _ _ _ _ change in
    let within = (replace_checked _ _ _ _ _ ok).within in
    record {
      sized = replace_sized _ _ _ _ _ ok;
      bound = (omega (arith, c.column-old.ensures, within _ fits.old_known), omega (arith, c.column-new.ensures, within _ fits.new_known));
      value = ap₂ (strays a.tasks.now a.horizon a.index.now a.tick) c.column-old.ensures c.column-new.ensures ∙ change_stays _ _ _ _ _ change;
    }

pub bounds-schedule-at-2 : goal.bounds-schedule-at-2
bounds-schedule-at-2 c = replace_tick _ _ _ _ _ (sym c.check_replace.ensures ∙ c.in_ok-check_replace.was)

pub returns : goal.returns
returns c =
    let a = c.args in
    let ok : replace_answer (plan a.tasks.now a.jobs.now a.horizon) a.schedule.now a.index.now a.tick a.entry ≡ Done = sym c.check_replace.ensures ∙ c.in_ok-check_replace.was in
    record {
      answers = sym ok;
      schedules = sym (replace_schedules _ _ _ _ _ ok);
      indexes = c.move_rows.ensures
          ∙ ap₂ (λ (o n : ℕ). row_by_row (row_width a.tasks.now) (row_count a.horizon) (moved a.tasks.now a.index.now a.tick o n)) c.column-old.ensures c.column-new.ensures
          ∙ sym (replace_indexes _ _ _ _ _ ok);
    }
