-- Each contract leaves one answer, and one content of the lent buffer: `Learnt` is what a function's contract says of the arguments, the
-- result and the parameters at exit.
use mathlib.Core.Path.{sym, ◌∙◌, ◌≡◌}
use contract.Lifetimes.{Lfts}
use Rattle.text.proofs.Laws.Put.{put_one}
use Rattle.text.proofs.byte_at.Reads as byte_at
use Rattle.text.proofs.put_byte.Reads as put_byte
use Rattle.text.proofs.put_number.Reads as put-number
use Rattle.text.proofs.put_numbers.Reads as put-numbers
use Rattle.text.proofs.put_text.Reads as put-text
use Rattle.text.proofs.read.Reads as read
use Rattle.text.proofs.read_wide.Reads as read_wide

pub byte_at_one : (κs : Lfts 1) (a : _) (r s : _) (e f : _) → byte_at.Learnt κs a r e → byte_at.Learnt κs a s f → r ≡ s
byte_at_one κs a r s e f p q = p ∙ sym q

pub read_one : (κs : Lfts 1) (a : _) (r s : _) (e f : _) → read.Learnt κs a r e → read.Learnt κs a s f → r ≡ s
read_one κs a r s e f p q = p ∙ sym q

pub read_wide_one : (κs : Lfts 1) (a : _) (r s : _) (e f : _) → read_wide.Learnt κs a r e → read_wide.Learnt κs a s f → r ≡ s
read_wide_one κs a r s e f p q = p ∙ sym q

pub put_byte_one : (κs : Lfts 1) (a : _) (r s : _) (e f : _) → put_byte.Learnt κs a r e → put_byte.Learnt κs a s f → (r ≡ s) × (e.0.now ≡ f.0.now)
put_byte_one κs a r s e f p q = put_one p q

pub put_text_one : (κs : Lfts 2) (a : _) (r s : _) (e f : _) → put-text.Learnt κs a r e → put-text.Learnt κs a s f → (r ≡ s) × (e.0.now ≡ f.0.now)
put_text_one κs a r s e f p q = put_one p q

pub put_number_one : (κs : Lfts 1) (a : _) (r s : _) (e f : _) → put-number.Learnt κs a r e → put-number.Learnt κs a s f → (r ≡ s) × (e.0.now ≡ f.0.now)
put_number_one κs a r s e f p q = put_one p q

pub put_numbers_one : (κs : Lfts 2) (a : _) (r s : _) (e f : _) → put-numbers.Learnt κs a r e → put-numbers.Learnt κs a s f → (r ≡ s) × (e.0.now ≡ f.0.now)
put_numbers_one κs a r s e f p q = put_one p q
