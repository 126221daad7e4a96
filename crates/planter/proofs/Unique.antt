-- Each contract leaves one answer, and one content of every lent list: `Learnt` is what a function's contract says of the arguments, the
-- result and the parameters at exit. Lists that are lent to be read are the same at exit, so only those lent to be written are named.
use Prim.Native.Nat.{ℕ}
use mathlib.Core.Path.{ap₂, sym, ◌∙◌, ◌≡◌}
use contract.Lifetimes.{Lfts}
use Rattle.planter.proofs.admission.admit.Reads as admit
use Rattle.planter.proofs.calls.claim.Reads as claim
use Rattle.planter.proofs.calls.fresh.Reads as fresh
use Rattle.planter.proofs.calls.go_on.Reads as go_on
use Rattle.planter.proofs.calls.replay.Reads as replay
use Rattle.planter.proofs.calls.response.Reads as response
use Rattle.planter.proofs.calls.run.Reads as run
use Rattle.planter.proofs.calls.step.Reads as step
use Rattle.planter.proofs.calls.verdict.Reads as verdict
use Rattle.planter.proofs.calls.verdicts.Reads as verdicts
use Rattle.planter.proofs.calls.witness.Reads as witness

pub fresh_one : (κs : Lfts 1) (a : _) (r s : _) (e f : _) → fresh.Learnt κs a r e → fresh.Learnt κs a s f → r ≡ s
fresh_one κs a r s e f p q = p ∙ sym q

pub step_one : (κs : Lfts 1) (a : _) (r s : _) (e f : _) → step.Learnt κs a r e → step.Learnt κs a s f → r ≡ s
step_one κs a r s e f p q = p ∙ sym q

pub go_on_one : (κs : Lfts 2) (a : _) (r s : _) (e f : _) → go_on.Learnt κs a r e → go_on.Learnt κs a s f → (r ≡ s) × (e.1.1.1.1.0.now ≡ f.1.1.1.1.0.now)
go_on_one κs a r s e f p q = (p.0 ∙ sym q.0, p.1 ∙ sym q.1)

pub run_one : (κs : Lfts 2) (a : _) (r s : _) (e f : _) → run.Learnt κs a r e → run.Learnt κs a s f → (r ≡ s) × (e.1.1.1.0.now ≡ f.1.1.1.0.now)
run_one κs a r s e f p q = (p.0 ∙ sym q.0, p.1 ∙ sym q.1)

pub claim_one : (κs : Lfts 2) (a : _) (r s : _) (e f : _) → claim.Learnt κs a r e → claim.Learnt κs a s f → r ≡ s
claim_one κs a r s e f p q = p ∙ sym q

pub replay_one : (κs : Lfts 2) (a : _) (r s : _) (e f : _) → replay.Learnt κs a r e → replay.Learnt κs a s f → r ≡ s
replay_one κs a r s e f p q = p ∙ sym q

pub verdict_one : (κs : Lfts 1) (a : _) (r s : _) (e f : _) → verdict.Learnt κs a r e → verdict.Learnt κs a s f → r ≡ s
verdict_one κs a r s e f p q = p ∙ sym q

pub verdicts_one : (κs : Lfts 1) (a : _) (r s : _) (e f : _) → verdicts.Learnt κs a r e → verdicts.Learnt κs a s f → r ≡ s
verdicts_one κs a r s e f p q = p ∙ sym q

pub witness_one : (κs : Lfts 2) (a : _) (r s : _) (e f : _) → witness.Learnt κs a r e → witness.Learnt κs a s f → r ≡ s
witness_one κs a r s e f p q = p ∙ sym q

-- The part is a reference: it points to one place, and holds one content.
pub response_one : (κs : Lfts 2) (a : _) (r s : _) (e f : _) → response.Learnt κs a r e → response.Learnt κs a s f → (r.ref_ptr ≡ s.ref_ptr) × (r.now ≡ s.now)
response_one κs a r s e f p q =
    (ap₂ (λ (x y : ℕ). (x, y)) (p.block ∙ sym q.block) (p.byte ∙ sym q.byte), p.holds ∙ sym q.holds)

pub admit_one : (κs : Lfts 1) (a : _) (r s : _) (e f : _) → admit.Learnt κs a r e → admit.Learnt κs a s f → r ≡ s
admit_one κs a r s e f p q = p ∙ sym q
