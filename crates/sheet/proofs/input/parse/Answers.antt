-- Each part of the text is what the definition asks for there, or the definition says with the code that the text is malformed.
use Prim.Native.Nat.{ℕ}
use mathlib.Core.Path.{sym, ap, ◌∙◌, subst}
use mathlib.Core.List.{List}
use native.Mathlib.Omega.{arith}
use lib.Seq.{sets}
use Rattle.sheet.specs.Code.{Few, no_jobs, no_tasks}
use Rattle.sheet.proofs.Laws.Numbers.{numbers_read, numbers_broken}
use Rattle.sheet.proofs.Laws.Sheets.{room_tasks, room_jobs, sheet_no_head, sheet_no_tasks, sheet_no_jobs, sheet_more, sheet_all}
use Rattle.sheet.proofs.input.parse.Goals as goal

pub returns-in_err-head : goal.returns-in_err-head
returns-in_err-head c = c.from_residual.ensures ∙ sheet_no_head _ (sym c.first_line.ensures.is ∙ c.in_err-head.was)

pub numbers-requires : goal.numbers-requires
unfolding no_tasks no_jobs
numbers-requires c = omega (arith, subst Few c.in_ok-head.was c.first_line.ensures.few, room_tasks c.room-table.ensures)

pub returns-in_err-b : goal.returns-in_err-b
returns-in_err-b c =
    c.from_residual-in_err-b.ensures
    ∙ sheet_no_tasks _ (sym c.first_line.ensures.is ∙ c.in_ok-head.was) (numbers_broken _ _ _ _ c.numbers.ensures c.in_err-b.was)

pub numbers-requires-2 : goal.numbers-requires-2
unfolding no_tasks no_jobs
numbers-requires-2 c = omega (arith, subst Few c.in_ok-head.was c.first_line.ensures.few, room_jobs c.room-list.ensures)

pub returns-in_err-e : goal.returns-in_err-e
returns-in_err-e c =
    let ts = numbers_read _ _ _ _ _ c.numbers.ensures c.in_ok-b.was in
    c.from_residual-in_err-e.ensures
    ∙ sheet_no_jobs _ (sym c.first_line.ensures.is ∙ c.in_ok-head.was) ts.1 (numbers_broken _ _ _ _ c.numbers-2.ensures c.in_err-e.was)

pub returns-then-e-text : goal.returns-then-e-text
returns-then-e-text c =
    let ts = numbers_read _ _ _ _ _ c.numbers.ensures c.in_ok-b.was in
    let js = numbers_read _ _ _ _ _ c.numbers-2.ensures c.in_ok-e.was in
    sheet_more _ (sym c.first_line.ensures.is ∙ c.in_ok-head.was) ts.1 js.1 c.if-e-text.true

pub returns : goal.returns
unfolding no_tasks no_jobs
returns c =
    let ts = numbers_read _ _ _ _ _ c.numbers.ensures c.in_ok-b.was in
    let js = numbers_read _ _ _ _ _ c.numbers-2.ensures c.in_ok-e.was in
    sheet_all _ (sym c.first_line.ensures.is ∙ c.in_ok-head.was) ts.1 js.1 c.if-e-text.false c.mode_of_letter.ensures
    (ts.2 ∙ ap (λ (c : List ℕ). sets c 0 ts.0) c.room-table.ensures)
    (js.2 ∙ ap (λ (c : List ℕ). sets c 0 js.0) c.room-list.ensures)
