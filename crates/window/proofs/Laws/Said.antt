-- Equal numbers are equal answers.
use mathlib.Core.Path.{◌≡◌, ap}
use Rattle.bits.proofs.Laws.Bools.{apart}
use Rattle.std.specs.Prelude.{Result, Ok, Err}
use Rattle.tables.specs.declared.answers.Refusal.{Refusal}
use Rattle.tables.proofs.Laws.Refusals.{same_refusal}
use Rattle.window.specs.declared.answers.Windows.{Windows}
use Rattle.window.specs.declared.answers.Windows.TheVariants.{Fails, Passes}
use Rattle.window.specs.Said.{windows_said}

pub windows_said_law : (a b : Result Windows Refusal) → windows_said a ≡ windows_said b → a ≡ b
unfolding windows_said
windows_said_law (Err v) (Err w) e =
    let number : v.number ≡ w.number = cc in
    let place : v.place ≡ w.place = cc in
    ap (λ (r : Refusal). Err r) (same_refusal v w number place)
windows_said_law (Err v) (Ok (Passes o)) e = apart (cc)
windows_said_law (Err v) (Ok (Fails j c o)) e = apart (cc)
windows_said_law (Ok (Passes o)) (Err w) e = apart (cc)
windows_said_law (Ok (Passes o)) (Ok (Passes q)) e = cc
windows_said_law (Ok (Passes o)) (Ok (Fails j c q)) e = apart (cc)
windows_said_law (Ok (Fails j c o)) (Err w) e = apart (cc)
windows_said_law (Ok (Fails j c o)) (Ok (Passes q)) e = apart (cc)
windows_said_law (Ok (Fails j c o)) (Ok (Fails i d q)) e = cc
