-- The number's own cases, and behind a number the byte wanted or another. A byte below 256 stands within the text, so the position
-- after it does not wrap.
use mathlib.Core.Path.{sym, ◌∙◌}
use native.Mathlib.Omega.{arith}
use Rattle.text.proofs.Laws.Reading.{in_range}
use Rattle.sheet.proofs.Laws.Numbers.{field_yes, field_no, field_bad}
use Rattle.sheet.proofs.input.field.Goals as goal

pub returns-in_err-v : goal.returns-in_err-v
returns-in_err-v c = c.from_residual.ensures ∙ sym (field_bad _ _ _ (sym c.read.ensures ∙ c.in_err-v.was))

pub overflow_add-result : goal.overflow_add-result
overflow_add-result c = omega (arith, in_range c.args.text.now c.in_ok-v.behind (omega arith))

pub returns-then-byte_at-end : goal.returns-then-byte_at-end
returns-then-byte_at-end c =
    let is = sym c.read.ensures ∙ c.in_ok-v.was in
    sym (field_yes _ _ _ _ _ is (sym c.byte_at.ensures ∙ c.if-byte_at-end.true))

pub returns-else-byte_at-end : goal.returns-else-byte_at-end
returns-else-byte_at-end c =
    let is = sym c.read.ensures ∙ c.in_ok-v.was in
    sym (field_no _ _ _ _ _ is (λ q. c.if-byte_at-end.false (c.byte_at.ensures ∙ q)))
