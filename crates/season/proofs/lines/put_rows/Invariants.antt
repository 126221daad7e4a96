-- The lines of the first k tasks are written: at most 97 bytes each, and one more from task 10 on.
use Prim.Native.Nat.{◌*◌, ◌+◌, ◌-◌, ◌≤◌}
use Rattle.season.specs.Show.{row_lines}
use Rattle.text.specs.Wrote.{Put}
use Rattle.season.proofs.lines.put_rows.Given as goal

abbrev pub invariant-loop-k : goal.invariant-loop-k
invariant-loop-k l = (l.at ≤ 97 * l.k + (l.k - 10)) × Put l.initial.out 0 (row_lines l.report l.k) l.out l.at
