-- Where fewer than 16 bytes are used, no trailer is whole at byte 0 either.
use mathlib.Core.Path.{sym, ◌∙◌}
use Rattle.chain.specs.Answers.{last_answer}
use Rattle.chain.proofs.Laws.Reading.{last_short}
use Rattle.chain.proofs.reading.last.Goals as goal

pub returns-then-used-lt16 : goal.returns-then-used-lt16
unfolding last_answer
returns-then-used-lt16 c = let a = c.args in c.nothing.ensures ∙ sym (last_short a.reader a.file.now a.used c.if-used-lt16.true)

pub returns : goal.returns
unfolding last_answer
returns c = c.read_at.ensures
