-- What is carried stands for the record that the run has come to, and the entries of its first t ticks are written as bytes. A counts
-- who comes, sees who may run, and takes both as far as nothing happens.
use Prim.Native.Nat.{◌-◌, ◌/◌, ◌≤◌}
use lib.ListN.{length}
use Rattle.zsrm.specs.Bytes.{given_bytes}
use Rattle.zsrm.proofs.Laws.RunBytes.{Running}
use Rattle.zsrm.proofs.c_run.run_bytes.Given as goal

abbrev pub invariant-loop-t : goal.invariant-loop-t
invariant-loop-t l = (l.t ≤ length l.initial.schedule / 2) × Running (given_bytes l.mode l.tasks l.jobs) (length l.initial.schedule) l.schedule l.done l.going l.t

abbrev pub decreases-loop-t : goal.decreases-loop-t
decreases-loop-t l = l.ticks - l.t
