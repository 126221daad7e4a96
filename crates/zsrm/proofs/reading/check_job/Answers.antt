-- Each test decides, or leaves it to the next.
use mathlib.Core.Path.{sym, ◌∙◌}
use native.Mathlib.Omega.{arith}
use borrow.Author.Tests.{leb-false}
use Rattle.tables.proofs.Laws.Refusals.{goes_on, refuse_fine, stops}
use Rattle.zsrm.proofs.Laws.Reading.{tested_in_order}
use Rattle.zsrm.proofs.reading.check_job.Goals as goal

pub returns-in_err-refuse : goal.returns-in_err-refuse
returns-in_err-refuse c = rw tested_in_order (stops _ _ c.refuse.ensures c.in_err-refuse.was c.from_residual.ensures.1)

pub bounds-of-k : goal.bounds-of-k
bounds-of-k c = let known = leb-false _ _ (refuse_fine _ _ _ (sym c.refuse.ensures ∙ c.in_ok-refuse.was)) in omega (arith, known, c.requires)

pub returns-in_err-refuse-2 : goal.returns-in_err-refuse-2
returns-in_err-refuse-2 c =
    rw tested_in_order
    (goes_on _ _ c.refuse.ensures c.in_ok-refuse.was (stops _ _ c.refuse-2.ensures c.in_err-refuse-2.was c.from_residual-in_err-refuse-2.ensures.1))

pub returns-in_err-refuse-3 : goal.returns-in_err-refuse-3
returns-in_err-refuse-3 c =
    rw tested_in_order
    (goes_on _ _ c.refuse.ensures c.in_ok-refuse.was
    (goes_on _ _ c.refuse-2.ensures c.in_ok-refuse-2.was (stops _ _ c.refuse-3.ensures c.in_err-refuse-3.was c.from_residual-in_err-refuse-3.ensures.1)))

pub bounds-noted-k : goal.bounds-noted-k
bounds-noted-k c = let known = leb-false _ _ (refuse_fine _ _ _ (sym c.refuse.ensures ∙ c.in_ok-refuse.was)) in omega (arith, known, c.requires)

pub returns : goal.returns
returns c =
    rw tested_in_order
    (goes_on _ _ c.refuse.ensures c.in_ok-refuse.was
    (goes_on _ _ c.refuse-2.ensures c.in_ok-refuse-2.was (goes_on _ _ c.refuse-3.ensures c.in_ok-refuse-3.was c.refuse-4.ensures)))
