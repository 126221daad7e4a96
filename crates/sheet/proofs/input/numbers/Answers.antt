use Prim.Native.Nat.{ℕ}
use mathlib.Core.Path.{◌≡◌, sym, ap, ◌∙◌}
use native.Mathlib.Omega.{arith}
use borrow.Author.Rules.{rules}
use Rattle.sheet.specs.Grammar.{field_at, byte_behind}
use Rattle.sheet.proofs.Laws.Numbers.{end_small, filled_none, filled_length, filled_more, filled_bad, filled_end}
use Rattle.sheet.proofs.input.numbers.Goals as goal

pub loop-i-init : goal.loop-i-init
loop-i-init c = filled_none _ _ _ _ _

pub field-requires : goal.field-requires
field-requires c = omega (arith, end_small c.args.per c.loop-i.i, c.byte_behind.ensures)

pub shape_of-list-in_err-v : goal.shape_of-list-in_err-v
shape_of-list-in_err-v c = filled_length c.loop-i.invariant

pub returns-in_err-v : goal.returns-in_err-v
returns-in_err-v c = rw c.from_residual.ensures (filled_bad c.loop-i.invariant (search rules) ((ap (λ (e : ℕ). field_at c.args.text.now c.loop-i.k e) (sym c.byte_behind.ensures) ∙ sym c.field.ensures) ∙ c.in_err-v.was) _)

pub bounds-list-i : goal.bounds-list-i
bounds-list-i c = omega (arith, filled_length c.loop-i.invariant)

pub loop-i-preserved : goal.loop-i-preserved
loop-i-preserved c = filled_more c.loop-i.invariant (search rules) ((ap (λ (e : ℕ). field_at c.args.text.now c.loop-i.k e) (sym c.byte_behind.ensures) ∙ sym c.field.ensures) ∙ c.in_ok-v.was)

pub shape_of-list : goal.shape_of-list
shape_of-list c = filled_length c.loop-i.invariant

pub returns : goal.returns
returns c = filled_end c.loop-i.invariant (search rules)
