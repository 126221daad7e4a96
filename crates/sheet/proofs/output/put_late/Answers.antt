-- A late job's number; nothing for the other verdicts.
use mathlib.Core.List.{append-nil}
use Rattle.text.specs.Decimal.{spaced}
use Rattle.sheet.specs.Listing.{lateness}
use Rattle.sheet.proofs.output.put_late.Goals as goal

pub returns-in-Late : goal.returns-in-Late
unfolding spaced lateness
returns-in-Late c = rw (c.in-Late.is, append-nil) c.put_by.ensures
