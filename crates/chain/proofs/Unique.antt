-- Each contract leaves one answer, and one content of the lent list: `Learnt` is what a function's contract says of the arguments, the result
-- and the parameters at exit. Lists that are lent to be read are the same at exit, so only the one lent to be written is named.
use mathlib.Core.Path.{sym, ◌∙◌, ◌≡◌}
use contract.Lifetimes.{Lfts}
use Rattle.chain.proofs.appending.append.Reads as append
use Rattle.chain.proofs.reading.last.Reads as last
use Rattle.chain.proofs.reading.read.Reads as read

pub last_one : (κs : Lfts 1) (a : _) (r s : _) (e f : _) → last.Learnt κs a r e → last.Learnt κs a s f → r ≡ s
last_one κs a r s e f p q = p ∙ sym q

pub read_one : (κs : Lfts 1) (a : _) (r s : _) (e f : _) → read.Learnt κs a r e → read.Learnt κs a s f → r ≡ s
read_one κs a r s e f p q = p ∙ sym q

pub append_one : (κs : Lfts 2) (a : _) (r s : _) (e f : _) → append.Learnt κs a r e → append.Learnt κs a s f → (r ≡ s) × (e.1.0.now ≡ f.1.0.now)
append_one κs a r s e f p q = (p.0 ∙ sym q.0, p.1 ∙ sym q.1)
