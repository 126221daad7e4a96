-- The verdicts on the jobs below j are there, and the outcome stays.
use mathlib.Core.Path.{◌≡◌}
use Rattle.bits.proofs.Laws.Arrays.{Written}
use Rattle.tables.specs.Tables.{lists}
use Rattle.std.specs.Prelude.{Result, Ok}
use Rattle.tables.specs.declared.answers.Refusal.{Refusal}
use Rattle.zsrm.specs.declared.answers.Verdict.{Verdict}
use Rattle.zsrm.specs.declared.answers.Verdict.TheVariants.{Open}
use Rattle.zsrm.proofs.Laws.Verdicts.{judged_by}
use Rattle.zsrm.proofs.judging.verdicts.Given as goal

abbrev room : Result Verdict Refusal
room = Ok Open

abbrev pub invariant-loop-j : goal.invariant-loop-j
invariant-loop-j l = (l.all.outcome ≡ l.initial.all.outcome) × Written room (judged_by (lists l.tasks l.jobs) l.rec l.checked) l.initial.all.of l.all.of 64 l.j
