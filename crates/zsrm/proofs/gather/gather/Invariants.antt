-- The numbers of the jobs below j are gathered; each fits, as the lists passed their checks.
use Rattle.zsrm.specs.Code.Gathered.{GathersTo}
use Rattle.tables.specs.Tables.{lists}
use Rattle.zsrm.proofs.gather.gather.Given as goal

abbrev pub invariant-loop-j : goal.invariant-loop-j
invariant-loop-j l = GathersTo (lists l.tasks l.jobs) l.out l.j
