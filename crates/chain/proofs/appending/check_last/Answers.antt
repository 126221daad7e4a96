-- A file with no used bytes has no last trailer.
use mathlib.Core.Path.{ap, sym, ◌∙◌}
use Rattle.chain.specs.declared.layout.Layout.TheVariants.{Two}
use Rattle.chain.specs.Refusals.{check_trailer}
use Rattle.chain.proofs.Laws.Appending.{last_checked, new_checked}
use Rattle.chain.proofs.appending.check_last.Goals as goal

pub returns-then-used-eq0 : goal.returns-then-used-eq0
returns-then-used-eq0 c = let a = c.args in sym (new_checked a.file.now a.used c.if-used-eq0.true)

pub returns : goal.returns
returns c =
    let a = c.args in
    c.check_trailer.ensures ∙ ap (check_trailer Two a.file.now a.used) c.last_place.ensures
    ∙ sym (last_checked a.file.now a.used c.if-used-eq0.false)
