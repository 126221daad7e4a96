-- The first i numbers are written, each at its place.
use mathlib.Core.Path.{◌≡◌}
use lib.ListN.{take}
use lib.Seq.{sets}
use Rattle.tables.specs.Bytes.{bytes_of}
use Rattle.chain.proofs.appending.put_numbers.Given as goal

abbrev pub invariant-loop-i : goal.invariant-loop-i
invariant-loop-i l = l.file ≡ sets l.initial.file l.at (bytes_of 4 (take l.i l.numbers))
