-- Where 21 and 22 are not given, the trailer is whole, and is read.
use mathlib.Core.Path.{ap, sym, ◌∙◌}
use native.Mathlib.Omega.{arith}
use Rattle.chain.specs.Answers.{read_trailer}
use Rattle.chain.proofs.Laws.Reading.{read_nothing, read_trailer_law}
use Rattle.chain.proofs.Laws.Refusals.{trailer_whole}
use Rattle.chain.proofs.reading.read_at.Goals as goal

pub trailer_at-requires : goal.trailer_at-requires
trailer_at-requires c =
    let a = c.args in
    let w = trailer_whole a.reader a.file.now a.used a.at (sym c.check_trailer.ensures ∙ c.in-Ok.is) in
    omega (arith, w.fits, w.ends)

pub returns-in-Ok : goal.returns-in-Ok
returns-in-Ok c =
    let a = c.args in
    c.read_trailer.ensures ∙ ap (read_trailer a.reader a.file.now) c.trailer_at.ensures
    ∙ sym (read_trailer_law a.reader a.file.now a.used a.at _ c.check_trailer.ensures c.in-Ok.is)

pub returns-in-Err : goal.returns-in-Err
returns-in-Err c =
    let a = c.args in
    c.nothing.ensures ∙ sym (read_nothing a.reader a.file.now a.used a.at _ c.check_trailer.ensures _ _ c.in-Err.is)
