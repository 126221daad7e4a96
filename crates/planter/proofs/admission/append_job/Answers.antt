-- The caller's list in front, and the offered job behind it.
use mathlib.Core.List.{◌++◌}
use mathlib.Core.Path.{ap, ap₂, ◌∙◌}
use native.Mathlib.Omega.{arith}
use lib.ListN.{length, length-append}
use lib.Seq.{take_at}
use Rattle.std.proofs.lemmas.Slice.{take-put_mid}
use Rattle.planter.specs.Admission.{appended}
use Rattle.planter.proofs.admission.append_job.Goals as goal

pub returns-clause-holds : goal.returns-clause-holds
unfolding appended
returns-clause-holds c =
    let first = c.copy_from_slice.ensures.after in
    let second = c.copy_from_slice-2.ensures.after in
    take-put_mid (length c.args.jobs.now) _ _ _ _ (omega (arith, ap length second)) (simp length-append (omega (arith, ap length first)))
    ∙ ap₂ (◌++◌) (take_at _ _ _ (omega (arith, ap length first)) ∙ first) second
