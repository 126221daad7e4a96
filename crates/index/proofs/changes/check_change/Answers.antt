-- Where an entry is neither job nor idle, that decides; else both columns are of the index, and the rows do.
use mathlib.Core.Bool.{not}
use mathlib.Core.Path.{sym, ◌∙◌}
use native.Mathlib.Omega.{arith}
use borrow.Author.Tests.{not-false}
use Rattle.bits.proofs.Laws.Bools.{or_left_false, or_right_false}
use Rattle.tables.proofs.Laws.Refusals.{refuse_fine}
use Rattle.index.proofs.changes.check_change.Goals as goal

pub strays-requires : goal.strays-requires
strays-requires c =
    let a = c.args in
    let known = refuse_fine _ 16 0 (sym c.refuse.ensures ∙ c.in_ok-refuse.was) in
    let stands = sym c.job_or_idle.ensures ∙ not-false _ (or_left_false (not c.job_or_idle.result) (not c.job_or_idle-2.result) known) in
    let new = sym c.job_or_idle-2.ensures ∙ not-false _ (or_right_false (not c.job_or_idle.result) (not c.job_or_idle-2.result) known) in
    record { sized = c.requires.sized; bound = (omega (arith, c.column-old.ensures, c.requires.checked.within a.stands stands), omega (arith, c.column-new.ensures, c.requires.checked.within a.entry new)) }
