-- Document 02, Ten: the least and the greatest response of a task.
use Rattle.std.specs.Prelude.{cond, Option, Some, None}
use Rattle.season.specs.declared.answers.Extremes.{Extremes}
use Rattle.season.specs.declared.answers.Row.{Row}
use Rattle.season.specs.Rows.{some_finished}

-- Tasks without a finished job have no least and no greatest.
unfoldable pub extremes_of : Row → Option Extremes
extremes_of r = cond (some_finished r) (Some (record { least = r.least; greatest = r.greatest })) None
