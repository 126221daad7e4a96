-- Equal numbers are equal counts.
use Prim.Native.Nat.{ℕ}
use mathlib.Core.Path.{ap, ◌≡◌}
use Rattle.bits.proofs.Laws.Bools.{apart}
use Rattle.std.specs.Prelude.{Result, Ok, Err}
use Rattle.tables.specs.declared.answers.Refusal.{Refusal}
use Rattle.tables.proofs.Laws.Refusals.{same_refusal}
use Rattle.index.specs.Said.{count_said}

pub count_said_law : (a b : Result ℕ Refusal) → count_said a ≡ count_said b → a ≡ b
unfolding count_said
count_said_law (Err v) (Err w) e =
    let number : v.number ≡ w.number = cc in
    let place : v.place ≡ w.place = cc in
    ap (λ (r : Refusal). Err r) (same_refusal v w number place)
count_said_law (Err w) (Ok k) e = apart (cc)
count_said_law (Ok k) (Err w) e = apart (cc)
count_said_law (Ok k) (Ok n) e = cc
