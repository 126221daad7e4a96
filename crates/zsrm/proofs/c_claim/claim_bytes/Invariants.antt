-- What is carried stands for the record before tick t; where the claim goes on, t is the next instant.
use Prim.Native.Nat.{◌-◌, ◌/◌, ◌≤◌}
use lib.ListN.{length}
use Rattle.tables.specs.Bytes.{numbers_in}
use Rattle.zsrm.specs.Bytes.{given_bytes}
use Rattle.zsrm.proofs.Laws.Claiming.{Claiming}
use Rattle.zsrm.proofs.c_claim.claim_bytes.Given as goal

abbrev pub invariant-loop-t : goal.invariant-loop-t
invariant-loop-t l = (l.t ≤ length l.schedule / 2) × Claiming (given_bytes l.mode l.tasks l.jobs) (numbers_in 2 l.schedule) l.done l.going l.t

abbrev pub decreases-loop-t : goal.decreases-loop-t
decreases-loop-t l = l.ticks - l.t
