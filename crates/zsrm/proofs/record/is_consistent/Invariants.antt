-- The loop has gathered whether every place below j is sound.
use mathlib.Core.Path.{◌≡◌}
use Rattle.bits.specs.Below.{every}
use Rattle.zsrm.specs.Record.{sound_at}
use Rattle.zsrm.specs.Given.{given}
use Rattle.zsrm.proofs.record.is_consistent.Given as goal

abbrev pub invariant-loop-j : goal.invariant-loop-j
invariant-loop-j l = l.every ≡ every l.j (sound_at (given l.mode l.tasks l.jobs) l.rec)
