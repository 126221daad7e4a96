-- Each contract leaves one answer, and one content of every lent list: `Learnt` is what a function's contract says of the arguments, the
-- result and the parameters at exit. Lists that are lent to be read are the same at exit, so only those lent to be written are named.
use Prim.Native.Nat.{ℕ}
use mathlib.Core.Path.{ap₂, sym, ◌∙◌, ◌≡◌}
use contract.Lifetimes.{Lfts}
use Rattle.zsrm.proofs.answers.Verdict.is_missed.Reads as is_missed
use Rattle.zsrm.proofs.c.zsrm_claim.Reads as zsrm-claim
use Rattle.zsrm.proofs.c.zsrm_run.Reads as zsrm-run
use Rattle.zsrm.proofs.claims.claim.Reads as claim
use Rattle.zsrm.proofs.claims.replay.Reads as replay
use Rattle.zsrm.proofs.record.Record.blank.Reads as blank
use Rattle.zsrm.proofs.record.Record.fresh.Reads as fresh
use Rattle.zsrm.proofs.record.Record.go_on.Reads as go_on
use Rattle.zsrm.proofs.record.Record.step.Reads as step
use Rattle.zsrm.proofs.witnesses.response.Reads as response
use Rattle.zsrm.proofs.judging.verdict.Reads as verdict
use Rattle.zsrm.proofs.judging.verdicts.Reads as verdicts
use Rattle.zsrm.proofs.witnesses.witness.Reads as witness
use Rattle.zsrm.proofs.mending.mend.Reads as mend
use Rattle.zsrm.proofs.runs.run.Reads as run

pub blank_one : (κs : Lfts 0) (a : _) (r s : _) (e f : _) → blank.Learnt κs a r e → blank.Learnt κs a s f → r ≡ s
blank_one κs a r s e f p q = p ∙ sym q

pub fresh_one : (κs : Lfts 2) (a : _) (r s : _) (e f : _) → fresh.Learnt κs a r e → fresh.Learnt κs a s f → r ≡ s
fresh_one κs a r s e f p q = p ∙ sym q

pub step_one : (κs : Lfts 2) (a : _) (r s : _) (e f : _) → step.Learnt κs a r e → step.Learnt κs a s f → r ≡ s
step_one κs a r s e f p q = p ∙ sym q

pub go_on_one : (κs : Lfts 3) (a : _) (r s : _) (e f : _) → go_on.Learnt κs a r e → go_on.Learnt κs a s f → (r ≡ s) × (e.1.1.1.1.1.1.0.now ≡ f.1.1.1.1.1.1.0.now)
go_on_one κs a r s e f p q = (p.0 ∙ sym q.0, p.1 ∙ sym q.1)

pub run_one : (κs : Lfts 3) (a : _) (r s : _) (e f : _) → run.Learnt κs a r e → run.Learnt κs a s f → (r ≡ s) × (e.1.1.1.1.1.0.now ≡ f.1.1.1.1.1.0.now)
run_one κs a r s e f p q = (p.0 ∙ sym q.0, p.1 ∙ sym q.1)

pub claim_one : (κs : Lfts 3) (a : _) (r s : _) (e f : _) → claim.Learnt κs a r e → claim.Learnt κs a s f → r ≡ s
claim_one κs a r s e f p q = p ∙ sym q

pub replay_one : (κs : Lfts 3) (a : _) (r s : _) (e f : _) → replay.Learnt κs a r e → replay.Learnt κs a s f → r ≡ s
replay_one κs a r s e f p q = p ∙ sym q

pub mend_one : (κs : Lfts 4) (a : _) (r s : _) (e f : _) → mend.Learnt κs a r e → mend.Learnt κs a s f → (r ≡ s) × (e.1.1.1.1.1.0.now ≡ f.1.1.1.1.1.0.now)
mend_one κs a r s e f p q = (p.0 ∙ sym q.0, p.1 ∙ sym q.1)

pub verdict_one : (κs : Lfts 2) (a : _) (r s : _) (e f : _) → verdict.Learnt κs a r e → verdict.Learnt κs a s f → r ≡ s
verdict_one κs a r s e f p q = p ∙ sym q

pub verdicts_one : (κs : Lfts 2) (a : _) (r s : _) (e f : _) → verdicts.Learnt κs a r e → verdicts.Learnt κs a s f → r ≡ s
verdicts_one κs a r s e f p q = p ∙ sym q

pub is_missed_one : (κs : Lfts 0) (a : _) (r s : _) (e f : _) → is_missed.Learnt κs a r e → is_missed.Learnt κs a s f → r ≡ s
is_missed_one κs a r s e f p q = p ∙ sym q

pub witness_one : (κs : Lfts 3) (a : _) (r s : _) (e f : _) → witness.Learnt κs a r e → witness.Learnt κs a s f → r ≡ s
witness_one κs a r s e f p q = p ∙ sym q

-- The part is a reference: it points to one place, and holds one content.
pub response_one : (κs : Lfts 3) (a : _) (r s : _) (e f : _) → response.Learnt κs a r e → response.Learnt κs a s f → (r.ref_ptr ≡ s.ref_ptr) × (r.now ≡ s.now)
response_one κs a r s e f p q =
    (ap₂ (λ (x y : ℕ). (x, y)) (p.block ∙ sym q.block) (p.byte ∙ sym q.byte), p.holds ∙ sym q.holds)

pub zsrm_run_one : (κs : Lfts 3) (a : _) (r s : _) (e f : _) → zsrm-run.Learnt κs a r e → zsrm-run.Learnt κs a s f → (r ≡ s) × (e.1.1.1.1.0.now ≡ f.1.1.1.1.0.now)
zsrm_run_one κs a r s e f p q = (p.0 ∙ sym q.0, p.1 ∙ sym q.1)

pub zsrm_claim_one : (κs : Lfts 3) (a : _) (r s : _) (e f : _) → zsrm-claim.Learnt κs a r e → zsrm-claim.Learnt κs a s f → r ≡ s
zsrm_claim_one κs a r s e f p q = p ∙ sym q
