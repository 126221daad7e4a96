-- What the checks found decides: the claim on the lists that the bytes spell, or the packed refusal.
use mathlib.Core.Path.{sym, ◌∙◌}
use native.Mathlib.Omega.{arith}
use lib.ListN.{length}
use Rattle.zsrm.proofs.Laws.Called.{Passed, RefusedCall, c_claims, call_passed, stopped}
use Rattle.zsrm.proofs.Laws.Masks.{zeros_read}
use Rattle.zsrm.proofs.c.zsrm_claim.Goals as goal

pub prepare-found-requires : goal.prepare-found-requires
prepare-found-requires c = λ q _. zeros_read 32 q

pub claim_bytes-requires : goal.claim_bytes-requires
claim_bytes-requires c = let w = (let lemma_checked : let a = c.args in Passed a.mode a.tasks.now a.jobs.now a.horizon (length a.schedule.now) = call_passed _ _ _ _ _ (sym c.prepare-found.ensures.found ∙ c.in-Ok.is) in lemma_checked) in record { call = c.prepare-found.ensures.ready c.in-Ok.is; schedule_len_bound = w.short }

pub packed-requires : goal.packed-requires
packed-requires c = let w = (let lemma_refusal : let a = c.args in RefusedCall a.mode a.tasks.now a.jobs.now a.horizon a.schedule.now c.in-Err.refused.number c.in-Err.refused.place = stopped _ _ _ _ _ _ _ (sym c.prepare-found.ensures.found ∙ c.in-Err.is) in lemma_refusal) in (w.small.1, omega (arith, w.small.2))

pub returns-in-Ok : goal.returns-in-Ok
returns-in-Ok c = c_claims _ _ _ _ _ ((let lemma_checked : let a = c.args in Passed a.mode a.tasks.now a.jobs.now a.horizon (length a.schedule.now) = call_passed _ _ _ _ _ (sym c.prepare-found.ensures.found ∙ c.in-Ok.is) in lemma_checked)) _ c.claim_bytes.ensures

pub returns-in-Err : goal.returns-in-Err
returns-in-Err c = c.packed.ensures ∙ ((let lemma_refusal : let a = c.args in RefusedCall a.mode a.tasks.now a.jobs.now a.horizon a.schedule.now c.in-Err.refused.number c.in-Err.refused.place = stopped _ _ _ _ _ _ _ (sym c.prepare-found.ensures.found ∙ c.in-Err.is) in lemma_refusal)).claimed
