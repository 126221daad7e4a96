use mathlib.Core.Path.{sym, ◌∙◌}
use borrow.Author.Rules.{rules}
use borrow.Author.Tests.{eqb-false, eqb-true}
use Rattle.sheet.proofs.Laws.Lines.{stretched_end, stretched_first, stretches_none}
use Rattle.text.proofs.Laws.Put.{put_length}
use Rattle.sheet.proofs.output.put_stretches.Goals as goal

pub returns-then-is_empty : goal.returns-then-is_empty
returns-then-is_empty c = stretches_none _ _ _ (eqb-true _ _ (sym c.is_empty.ensures ∙ c.if-is_empty.true))

pub loop-t-init : goal.loop-t-init
loop-t-init c = stretched_first _ _ _ (eqb-false _ _ (sym c.is_empty.ensures ∙ c.if-is_empty.false))

pub shape_of-out : goal.shape_of-out
shape_of-out c = c.put_stretch.auto.out ∙ put_length c.loop-t.invariant.wrote

pub returns : goal.returns
returns c = stretched_end c.loop-t.invariant (search rules) c.put_stretch.ensures
