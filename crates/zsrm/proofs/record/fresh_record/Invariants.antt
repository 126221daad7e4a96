-- The places below j are fresh.
use mathlib.Core.Path.{◌≡◌}
use Rattle.bits.proofs.Laws.Arrays.{Written}
use Rattle.tables.specs.Tables.{idle}
use Rattle.zsrm.specs.Record.{empty, blank, fresh_place}
use Rattle.zsrm.proofs.record.fresh_record.Given as goal

abbrev pub invariant-loop-j : goal.invariant-loop-j
invariant-loop-j l = (l.out.tick ≡ 0) × (l.out.previous ≡ idle) × Written empty (fresh_place l.jobs) blank.places l.out.places 64 l.j
