-- Each branch is the one that the test picks.
use mathlib.Core.Path.{ap, ◌∙◌}
use borrow.Author.Tests.{le-ltb, lt-ltb}
use Rattle.bits.specs.Word.{without}
use Rattle.zsrm.specs.Code.Gathered.{waiting_in}
use Rattle.zsrm.proofs.look.waiting_word.Goals as goal

pub returns-then-entry-n : goal.returns-then-entry-n
unfolding waiting_in
returns-then-entry-n c = rw (lt-ltb _ _ c.if-entry-n.true) (c.without.ensures ∙ ap (without c.args.among) c.with_bit.ensures)

pub returns-else-entry-n : goal.returns-else-entry-n
unfolding waiting_in
returns-else-entry-n c = rw (le-ltb _ _ c.if-entry-n.false)
