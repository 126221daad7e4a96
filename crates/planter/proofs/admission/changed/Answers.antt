use mathlib.Core.Path.{ap₂}
use native.Mathlib.Omega.{arith}
use borrow.Author.Rules.{rules}
use Rattle.bits.proofs.Laws.Arrays.{length_of_map, written_more, written_none}
use Rattle.std.specs.Prelude.{Result}
use Rattle.tables.specs.declared.answers.Refusal.{Refusal}
use Rattle.zsrm.specs.declared.answers.Verdict.{Verdict}
use Rattle.zsrm.proofs.Laws.Verdicts.{verdict_there}
use Rattle.planter.specs.Admission.{blank_change}
use Rattle.planter.specs.Answers.{refused_admission}
use Rattle.planter.specs.Code.{change_of}
use Rattle.planter.specs.declared.answers.Change.{Change}
use Rattle.planter.proofs.Laws.Changes.{changes_made}
use Rattle.planter.proofs.admission.changed.Goals as goal

pub loop-j-init : goal.loop-j-init
unfolding refused_admission
loop-j-init c = written_none blank_change _ _ 64 (rw c.refused_admission-out.ensures)

pub loop-j-preserved : goal.loop-j-preserved
unfolding change_of
loop-j-preserved c =
    let a = c.args in
    let before = verdict_there a.old (search (rules, length_of_map)) c.loop-j.j _ (omega arith) in
    let after = verdict_there a.new (search (rules, length_of_map)) c.loop-j.j _ (omega arith) in
    written_more blank_change (change_of a.old a.new) _ c.loop-j.out.changes 64 c.loop-j.j _ c.loop-j.invariant (omega arith)
    (ap₂ (λ (x y : Result Verdict Refusal). let made : Change = record { before = x; after = y } in made) before after)

pub returns : goal.returns
returns c =
    let a = c.args in
    changes_made blank_change (change_of a.old a.new) _ c.loop-j.out.changes a.count c.loop-j.j c.loop-j.invariant (omega arith)
