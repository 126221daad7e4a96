-- By whether the reader knows the layout.
use mathlib.Core.Path.{◌∙◌}
use Rattle.chain.proofs.Laws.Reading.{trailer_known, trailer_unknown}
use Rattle.chain.proofs.reading.read_trailer.Goals as goal

pub returns-in_default : goal.returns-in_default
returns-in_default c =
    let a = c.args in
    c.passed_by.ensures ∙ trailer_unknown a.reader a.file.now a.trailer _ c.known_to.ensures c.in_default.is

pub returns : goal.returns
returns c =
    let a = c.args in
    c.read_table.ensures ∙ trailer_known a.reader a.file.now a.trailer _ c.known_to.ensures _ c.in-Some.is
