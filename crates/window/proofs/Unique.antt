-- The contract of `judge` leaves one answer: `Learnt` is what it says of the arguments, the result and the parameters at exit. No list is
-- lent to be written.
use mathlib.Core.Path.{sym, ◌∙◌, ◌≡◌}
use contract.Lifetimes.{Lfts}
use Rattle.window.proofs.judge.Reads as judge

pub judge_one : (κs : Lfts 2) (a : _) (r s : _) (e f : _) → judge.Learnt κs a r e → judge.Learnt κs a s f → r ≡ s
judge_one κs a r s e f p q = p ∙ sym q
