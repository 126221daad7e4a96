-- The room up to the limit, less the trailer's 16 bytes, is compared in numbers of four bytes.
use Rattle.chain.proofs.Laws.Appending.{passes_used}
use Rattle.chain.proofs.appending.passes.Goals as goal

pub returns-then-limit-used : goal.returns-then-limit-used
returns-then-limit-used c = let a = c.args in passes_used a.limit a.used a.numbers c.if-limit-used.true
