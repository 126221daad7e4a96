-- The invariant: the task's jobs below j are gathered.
use mathlib.Core.List.{map}
use Rattle.zsrm.specs.Answers.{verdict_of}
use Rattle.window.specs.Code.{GatheredAs}
use Rattle.window.specs.Windows.{jobs_below}
use Rattle.window.proofs.jobs.gather.Given as goal

abbrev pub invariant-loop-j : goal.invariant-loop-j
invariant-loop-j l = GatheredAs (jobs_below l.jobs l.task l.j) (map (verdict_of l.all) (jobs_below l.jobs l.task l.j)) l.own
