-- The rows are asked one after another, from the first.
use borrow.Author.Rules.{rules}
use borrow.Author.Tests.{tests}
use mathlib.Core.Bool.{false, true}
use mathlib.Core.Path.{◌≡◌}
use native.Mathlib.Omega.{arith}
use Rattle.std.proofs.lemmas.Iterator.{YieldsList-from_range, cases_from_all}
use Rattle.season.specs.Reports.{all_fit, joined_row, row_at, task_rows}
use Rattle.season.specs.Rows.{fits}
use Rattle.season.proofs.Laws.Ranges.{every_of}
use Rattle.season.proofs.joins.all_fit.Goals as goal

pub returns : goal.returns
unfolding all_fit joined_row row_at
returns c =
    let a = c.args in
    every_of (task_rows a.a.tasks) (λ k. fits (joined_row a.a a.b k)) _
    (cases_from_all _ _ _ (λ k. fits (joined_row a.a a.b k) ≡ true) (λ k. fits (joined_row a.a a.b k) ≡ false) c.all.ensures.ran
    (YieldsList-from_range 0 (task_rows a.a.tasks) (task_rows a.a.tasks) (cc) (omega arith)) (λ x q k. search (rules, tests)) (λ x q k. search (rules, tests)))
