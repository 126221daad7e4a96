-- Each contract leaves one answer, and one content of every list lent to be written: `Learnt` is what a function's contract says of the
-- arguments, the result and the parameters at exit.
use mathlib.Core.Path.{sym, ◌∙◌, ◌≡◌}
use contract.Lifetimes.{Lfts}
use Rattle.index.proofs.between.Reads as between
use Rattle.index.proofs.build.Reads as build
use Rattle.index.proofs.replace.Reads as replace

pub build_one : (κs : Lfts 4) (a : _) (r s : _) (e f : _) → build.Learnt κs a r e → build.Learnt κs a s f → (r ≡ s) × (e.1.1.1.1.0.now ≡ f.1.1.1.1.0.now)
build_one κs a r s e f p q = (p.0 ∙ sym q.0, p.1 ∙ sym q.1)

pub between_one : (κs : Lfts 4) (a : _) (r s : _) (e f : _) → between.Learnt κs a r e → between.Learnt κs a s f → r ≡ s
between_one κs a r s e f p q = p ∙ sym q

-- the schedule, and the index
pub replace_one_law : (κs : Lfts 4) (a : _) (r s : _) (e f : _) → replace.Learnt κs a r e → replace.Learnt κs a s f
    → (r ≡ s) × (e.1.1.1.0.now ≡ f.1.1.1.0.now) × (e.1.1.1.1.0.now ≡ f.1.1.1.1.0.now)
replace_one_law κs a r s e f p q = (p.0 ∙ sym q.0, p.1.0 ∙ sym q.1.0, p.1.1 ∙ sym q.1.1)
