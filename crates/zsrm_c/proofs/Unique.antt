-- Each contract leaves one answer, and one content of the lent bytes: `Learnt` is what a function's contract says of the arguments, the
-- result and the parameters at exit.
use mathlib.Core.Path.{sym, ◌∙◌, ◌≡◌}
use contract.Lifetimes.{Lfts}
use Rattle.zsrm_c.proofs.zsrm_run.Reads as zsrm_run
use Rattle.zsrm_c.proofs.zsrm_claim.Reads as zsrm_claim

pub zsrm_run_one : (κs : Lfts 3) (a : _) (r s : _) (e f : _) → zsrm_run.Learnt κs a r e → zsrm_run.Learnt κs a s f → (r ≡ s) × (e.1.1.1.1.0.now ≡ f.1.1.1.1.0.now)
zsrm_run_one κs a r s e f p q = (p.0 ∙ sym q.0, p.1 ∙ sym q.1)

pub zsrm_claim_one : (κs : Lfts 3) (a : _) (r s : _) (e f : _) → zsrm_claim.Learnt κs a r e → zsrm_claim.Learnt κs a s f → r ≡ s
zsrm_claim_one κs a r s e f p q = p ∙ sym q
