-- The contract of `run_each` leaves one answer, and one content of the lent list: `Learnt` is what it says of the arguments, the result and
-- the parameters at exit.
use mathlib.Core.Path.{sym, ◌∙◌, ◌≡◌}
use contract.Lifetimes.{Lfts}
use Rattle.batch.proofs.run_each.Reads as run-each

pub run_each_one : (κs : Lfts 4) (a : _) (r s : _) (e f : _) → run-each.Learnt κs a r e → run-each.Learnt κs a s f → (r ≡ s) × (e.1.1.1.1.1.0.now ≡ f.1.1.1.1.1.0.now)
run_each_one κs a r s e f p q = (p.0 ∙ sym q.0, p.1 ∙ sym q.1)
