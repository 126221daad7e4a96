-- Each part of the line is what the definition asks for there, or the definition says with the code that there is no first line.
use mathlib.Core.Path.{◌≡◌, sym, ◌∙◌}
use mathlib.Core.Bool.{true, ◌&&◌}
use lib.ListN.{get_or}
use lib.Dec.{eqb}
use borrow.Author.Tests.{not-true, not-false}
use Rattle.sheet.specs.Grammar.{is_mode, field_at}
use Rattle.sheet.proofs.Laws.Sheets.{counts_few, head_test, head_no_mode, head_no_horizon, head_no_tasks, head_no_jobs, head_too_many, head_all}
use Rattle.sheet.proofs.input.first_line.Goals as goal

pub returns-then-not-mode-space : goal.returns-then-not-mode-space
returns-then-not-mode-space c =
    let test = head_test c.args.text.now c.byte_at-letter.ensures
    c.is_mode-mode.ensures c.byte_at-space.ensures (not-true _ c.if-not-mode-space.true-raw) in
    record { is = sym (head_no_mode _ test); few = tt }

pub returns-in_err-horizon : goal.returns-in_err-horizon
returns-in_err-horizon c =
    rw c.from_residual.ensures
    (record {
      is = sym (head_no_horizon _ (head_test c.args.text.now c.byte_at-letter.ensures c.is_mode-mode.ensures c.byte_at-space.ensures (not-false _ c.if-not-mode-space.false-raw))
          (sym c.field.ensures ∙ c.in_err-horizon.was));
      few = tt;
    })

pub returns-in_err-tasks : goal.returns-in_err-tasks
returns-in_err-tasks c =
    rw c.from_residual-in_err-tasks.ensures
    (record {
      is = sym (head_no_tasks _ (head_test c.args.text.now c.byte_at-letter.ensures c.is_mode-mode.ensures c.byte_at-space.ensures (not-false _ c.if-not-mode-space.false-raw))
          (sym c.field.ensures ∙ c.in_ok-horizon.was) (sym c.field-2.ensures ∙ c.in_err-tasks.was));
      few = tt;
    })

pub returns-in_err-jobs : goal.returns-in_err-jobs
returns-in_err-jobs c =
    rw c.from_residual-in_err-jobs.ensures
    (record {
      is = sym (head_no_jobs _ (head_test c.args.text.now c.byte_at-letter.ensures c.is_mode-mode.ensures c.byte_at-space.ensures (not-false _ c.if-not-mode-space.false-raw))
          (sym c.field.ensures ∙ c.in_ok-horizon.was) (sym c.field-2.ensures ∙ c.in_ok-tasks.was) (sym c.field-3.ensures ∙ c.in_err-jobs.was));
      few = tt;
    })

pub returns-then-not-tasks-jobs : goal.returns-then-not-tasks-jobs
returns-then-not-tasks-jobs c =
    record {
      is = sym (head_too_many _ (head_test c.args.text.now c.byte_at-letter.ensures c.is_mode-mode.ensures c.byte_at-space.ensures (not-false _ c.if-not-mode-space.false-raw))
          (sym c.field.ensures ∙ c.in_ok-horizon.was) (sym c.field-2.ensures ∙ c.in_ok-tasks.was) (sym c.field-3.ensures ∙ c.in_ok-jobs.was)
          (not-true _ c.if-not-tasks-jobs.true-raw));
      few = tt;
    }

pub returns : goal.returns
returns c =
    let few = not-false _ c.if-not-tasks-jobs.false-raw in
    record {
      is = head_all _ (head_test c.args.text.now c.byte_at-letter.ensures c.is_mode-mode.ensures c.byte_at-space.ensures (not-false _ c.if-not-mode-space.false-raw))
          (sym c.field.ensures ∙ c.in_ok-horizon.was) (sym c.field-2.ensures ∙ c.in_ok-tasks.was) (sym c.field-3.ensures ∙ c.in_ok-jobs.was) few
          c.byte_at-letter.ensures;
      few = counts_few _ _ few;
    }
