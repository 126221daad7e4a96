-- What the checks answer decides: the part of the replay, or the empty one.
use Prim.Native.Nat.{ℕ}
use mathlib.Core.List.{List}
use mathlib.Core.Path.{refl, sym, subst, ◌∙◌, ◌≡◌}
use native.Mathlib.Omega.{arith}
use borrow.Author.Tests.{eqb-true}
use Rattle.tables.proofs.Laws.Refusals.{unless_done, unless_refused}
use Rattle.tables.specs.Tables.{arrival}
use Rattle.zsrm.specs.declared.record.Record.{Record}
use Rattle.zsrm.specs.Record.{standing_at}
use Rattle.zsrm.specs.Code.Claims.{FitsIn}
use Rattle.zsrm.specs.Legal.{legal_length}
use Rattle.zsrm.specs.Verdict.{Part, Shows}
use Rattle.zsrm.specs.Answers.{response_answer}
use Rattle.zsrm.proofs.Laws.Claims.{replayed_whole}
use Rattle.zsrm.proofs.Laws.Witnesses.{part_answer, part_fits, witnessed}
use Rattle.zsrm.proofs.witnesses.response.Goals as goal

shows_same : {s q : ℕ × ℕ} {p p' : Part} {l : List ℕ} → p ≡ p' → Shows s p q l → Shows s p' q l
shows_same {s} {q} {p} {p'} {l} e w = subst (λ (x : Part). Shows s x q l) e w

pub walk-walked-requires : goal.walk-walked-requires
walk-walked-requires c =
    let w = witnessed _ _ _ _ (sym c.check_witness.ensures ∙ c.in-Ok.is) in
    (w.named.lists, w.limit)

pub replayed_part-requires : goal.replayed_part-requires
unfolding legal_length
replayed_part-requires c =
    let a = c.args in
    let w = witnessed _ _ _ _ (sym c.check_witness.ensures ∙ c.in-Ok.is) in (
      omega (arith, w.named.job, w.named.few),
      λ legal. let all = sym c.walk-walked.ensures.ticks ∙ eqb-true _ _ legal in
          subst (λ (r : Record). FitsIn (arrival a.jobs.now a.job) a.schedule.now (standing_at r a.job)) (sym (replayed_whole _ _ _ c.walk-walked.ensures all))
          (part_fits _ a.schedule.now a.job w.limit (omega (arith, w.named.job, w.named.few)) all),
    )

pub returns-in-Ok : goal.returns-in-Ok
unfolding response_answer
returns-in-Ok c =
    shows_same
    (part_answer _ _ _ _ c.walk-walked.ensures ∙ sym (unless_done _ _ _ (sym c.check_witness.ensures ∙ c.in-Ok.is)))
    c.replayed_part.ensures

pub returns-in-Err : goal.returns-in-Err
unfolding response_answer
returns-in-Err c =
    rw (unless_refused _ _ _ _ _ (sym c.check_witness.ensures ∙ c.in-Err.is))
    (record { holds = refl; block = refl; byte = omega arith })
