-- Either the position has a place in the buffer, or there is no room.
use borrow.Author.Rules.{rules}
use Rattle.text.proofs.Laws.Put.{put_past, put_stored}
use Rattle.text.proofs.put_byte.Goals as goal

pub returns-then-at-out : goal.returns-then-at-out
returns-then-at-out c = put_stored _ _ _ (search rules)

pub returns : goal.returns
returns c = put_past _ _ _ (search rules)
