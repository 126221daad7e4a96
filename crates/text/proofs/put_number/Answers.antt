-- The digits are written into a room of their own, and its part with them is put as a text.
use Rattle.text.proofs.Laws.Writing.{ending_part}
use Rattle.text.proofs.put_number.Goals as goal

pub returns : goal.returns
returns c =
    let digits = c.put_digits-first in
    rw (ending_part _ _ _ digits.auto.room digits.ensures.1) at c.put_text.ensures
