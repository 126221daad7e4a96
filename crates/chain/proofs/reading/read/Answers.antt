-- At none there is no trailer.
use mathlib.Core.Path.{sym, ◌∙◌}
use Rattle.chain.proofs.Laws.Reading.{read_none, read_there}
use Rattle.chain.proofs.reading.read.Goals as goal

pub returns-then-at : goal.returns-then-at
returns-then-at c =
    let a = c.args in
    c.nothing.ensures ∙ sym (read_none a.reader a.file.now a.used a.at c.if-at.true)

pub returns : goal.returns
returns c =
    let a = c.args in
    c.read_at.ensures ∙ sym (read_there a.reader a.file.now a.used a.at c.if-at.false)
