-- Each contract leaves one answer, and one content of the lent buffer: `Learnt` is what a function's contract says of the arguments, the
-- result and the parameters at exit.
use mathlib.Core.Path.{sym, ◌∙◌, ◌≡◌}
use contract.Lifetimes.{Lfts}
use Rattle.season.proofs.means.extremes.Reads as extremes
use Rattle.season.proofs.means.mean.Reads as mean
use Rattle.season.proofs.answers.Report.add.Reads as add
use Rattle.season.proofs.answers.Report.empty.Reads as empty
use Rattle.season.proofs.answers.Report.join.Reads as join
use Rattle.season.proofs.lines.show.Reads as show

pub empty_one : (κs : Lfts 1) (a : _) (r s : _) (e f : _) → empty.Learnt κs a r e → empty.Learnt κs a s f → r ≡ s
empty_one κs a r s e f p q = p ∙ sym q

pub add_one : (κs : Lfts 2) (a : _) (r s : _) (e f : _) → add.Learnt κs a r e → add.Learnt κs a s f → r ≡ s
add_one κs a r s e f p q = p ∙ sym q

pub join_one : (κs : _) (a : _) (r s : _) (e f : _) → join.Learnt κs a r e → join.Learnt κs a s f → r ≡ s
join_one κs a r s e f p q = p ∙ sym q

pub mean_one : (κs : _) (a : _) (r s : _) (e f : _) → mean.Learnt κs a r e → mean.Learnt κs a s f → r ≡ s
mean_one κs a r s e f p q = p ∙ sym q

pub extremes_one : (κs : _) (a : _) (r s : _) (e f : _) → extremes.Learnt κs a r e → extremes.Learnt κs a s f → r ≡ s
extremes_one κs a r s e f p q = p ∙ sym q

pub show_one : (κs : Lfts 1) (a : _) (r s : _) (e f : _) → show.Learnt κs a r e → show.Learnt κs a s f → (r ≡ s) × (e.1.0.now ≡ f.1.0.now)
show_one κs a r s e f p q = (p.0.next_is ∙ sym q.0.next_is, p.0.after_is ∙ sym q.0.after_is)
