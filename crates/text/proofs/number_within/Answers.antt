use mathlib.Core.Path.{◌≡◌, sym}
use mathlib.Core.Bool.{false}
use native.Mathlib.Omega.{arith}
use lib.ListN.{get_or}
use borrow.Author.Rules.{rules}
use borrow.Author.Tests.{leb-true}
use Rattle.text.specs.Decimal.{is_digit}
use Rattle.text.proofs.Laws.Reading.{digit_low, digit_high, in_range, read_none, read_small, read_more, read_long, read_large, read_end, read_nothing}
use Rattle.text.proofs.number_within.Goals as goal
use Rattle.text.proofs.number_within.Goals.{then-loop-b-test+else-b-le57, else-loop-b-test}

pub loop-b-init : goal.loop-b-init
loop-b-init c = (read_none _ _ _, c.byte_at-b.ensures)

pub returns-then-most-n : goal.returns-then-most-n
returns-then-most-n c = sym (read_long c.loop-b.invariant.0 _ (search rules) c.loop-b.invariant.1 (search rules) (search rules))

pub overflow_mul-value : goal.overflow_mul-value
overflow_mul-value c = omega (arith, read_small c.loop-b.value c.loop-b.n c.loop-b.invariant.0.small (search rules))

pub overflow_cast-value : goal.overflow_cast-value
overflow_cast-value c = omega (arith, leb-true)

pub overflow_add-value : goal.overflow_add-value
overflow_add-value c = omega (arith, read_small c.loop-b.value c.loop-b.n c.loop-b.invariant.0.small (search rules), leb-true)

pub overflow_add-k : goal.overflow_add-k
overflow_add-k c = omega (arith, in_range c.args.text.now c.loop-b.k (omega (arith, c.loop-b.invariant.1, leb-true)))

pub loop-b-smaller : goal.loop-b-smaller
loop-b-smaller c = omega (arith, in_range c.args.text.now c.loop-b.k (omega (arith, c.loop-b.invariant.1, leb-true)))

pub loop-b-preserved : goal.loop-b-preserved
loop-b-preserved c = (read_more c.loop-b.invariant.0 _ (search rules) c.loop-b.invariant.1 (search rules) (search rules), c.byte_at-b-in-loop-b.ensures)

-- the byte at which the loop stops is no digit
pub returns-then-n-lt1 : goal.returns-then-n-lt1
returns-then-n-lt1 c =
    let stops : is_digit (get_or c.args.text.now c.loop-b.k 256) ≡ false =
    rw (← c.loop-b.invariant.1)
    (elim c.loop-b-test.branch [ then-loop-b-test+else-b-le57 w ↦ digit_high _ w.loop-b-test.true w.if-b-le57.false | else-loop-b-test w ↦ digit_low _ w.loop-b-test.false ]) in
    sym (read_nothing c.loop-b.invariant.0 stops (search rules))

pub returns-then-value-gt4294967295 : goal.returns-then-value-gt4294967295
returns-then-value-gt4294967295 c =
    let stops : is_digit (get_or c.args.text.now c.loop-b.k 256) ≡ false =
    rw (← c.loop-b.invariant.1)
    (elim c.loop-b-test.branch [ then-loop-b-test+else-b-le57 w ↦ digit_high _ w.loop-b-test.true w.if-b-le57.false | else-loop-b-test w ↦ digit_low _ w.loop-b-test.false ]) in
    sym (read_large c.loop-b.invariant.0 stops (search rules) (search rules))

pub returns : goal.returns
returns c =
    let stops : is_digit (get_or c.args.text.now c.loop-b.k 256) ≡ false =
    rw (← c.loop-b.invariant.1)
    (elim c.loop-b-test.branch [ then-loop-b-test+else-b-le57 w ↦ digit_high _ w.loop-b-test.true w.if-b-le57.false | else-loop-b-test w ↦ digit_low _ w.loop-b-test.false ]) in
    sym (read_end c.loop-b.invariant.0 stops (search rules) (search rules))
