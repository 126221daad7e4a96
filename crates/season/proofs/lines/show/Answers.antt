-- The lines are short of the buffer's end, so all of them are written.
use borrow.Author.Rules.{rules}
use Rattle.season.proofs.Laws.Lines.{shown_all}
use Rattle.season.proofs.lines.show.Goals as goal

pub returns : goal.returns
returns c = record { writes = shown_all c.args.report c.put_rows.ensures.puts (search rules) c.put_rows.ensures.few; few = c.put_rows.ensures.few }
