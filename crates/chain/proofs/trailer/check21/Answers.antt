-- Where fewer than 16 bytes are used there is no whole trailer; else its end is compared from the other side.
use mathlib.Core.Path.{sym, ◌∙◌}
use borrow.Author.Tests.{ltb-false}
use Rattle.tables.proofs.Laws.Refusals.{goes_on, refuse_fine, stops}
use Rattle.chain.proofs.Laws.Refusals.{code_21}
use Rattle.chain.proofs.trailer.check21.Goals as goal

pub returns-in_err-refuse : goal.returns-in_err-refuse
returns-in_err-refuse c = stops _ _ c.refuse.ensures c.in_err-refuse.was c.from_residual.ensures.1 ∙ code_21 _ _ _

pub overflow_sub-used : goal.overflow_sub-used
overflow_sub-used c = ltb-false _ 16 (refuse_fine _ 21 0 (sym c.refuse.ensures ∙ c.in_ok-refuse.was))

pub returns : goal.returns
returns c = goes_on _ _ c.refuse.ensures c.in_ok-refuse.was c.refuse-2.ensures ∙ code_21 _ _ _
