-- The contract of `listing` leaves one answer, and one content of the lent buffer: `Learnt` is what it says of the arguments, the result
-- and the parameters at exit.
use mathlib.Core.Path.{sym, ◌∙◌, ◌≡◌}
use contract.Lifetimes.{Lfts}
use Rattle.sheet.proofs.listing.Reads as listing

pub listing_one : (κs : Lfts 2) (a : _) (r s : _) (e f : _) → listing.Learnt κs a r e → listing.Learnt κs a s f → (r ≡ s) × (e.1.0.now ≡ f.1.0.now)
listing_one κs a r s e f p q = (p.0.next_is ∙ sym q.0.next_is, p.0.after_is ∙ sym q.0.after_is)
