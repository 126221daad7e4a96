-- The first j jobs are in the report. The next one's task has a row, and its numbers have room there.
use mathlib.Core.Path.{◌≡◌}
use Rattle.tables.specs.Tables.{lists}
use Rattle.season.specs.Own.{own_up_to}
use Rattle.season.proofs.own.own_report.Given as goal

abbrev pub invariant-loop-j : goal.invariant-loop-j
invariant-loop-j l = l.out ≡ own_up_to (lists l.tasks l.jobs) l.run l.j
