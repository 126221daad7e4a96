-- Document 02, Ten: the mean response as a whole quotient, a remainder and the count.
use Rattle.std.specs.Prelude.{◌/◌, ◌%◌, cond, Option, Some, None}
use Rattle.season.specs.declared.answers.Mean.{Mean}
use Rattle.season.specs.declared.answers.Row.{Row}
use Rattle.season.specs.Rows.{some_finished}

-- Tasks without a finished job have no mean.
unfoldable pub mean_of : Row → Option Mean
mean_of r =
    cond (some_finished r) (Some (record { quotient = r.sum / r.finished; remainder = r.sum % r.finished; count = r.finished })) None
