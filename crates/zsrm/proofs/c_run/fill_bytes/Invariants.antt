-- The first i of them are written.
use Prim.Native.Nat.{◌*◌}
use mathlib.Core.Path.{◌≡◌}
use lib.ListN.{length, replicate}
use lib.Seq.{sets}
use Rattle.tables.specs.Bytes.{bytes_of}
use Rattle.zsrm.proofs.c_run.fill_bytes.Given as goal

abbrev pub invariant-loop-i : goal.invariant-loop-i
invariant-loop-i l = (length l.bytes ≡ length l.initial.bytes) × (l.bytes ≡ sets l.initial.bytes (l.t * 2) (bytes_of 2 (replicate l.i l.entry)))
