-- Equal numbers are equal answers.
use Prim.Native.Nat.{ℕ}
use mathlib.Core.Path.{ap, ◌≡◌}
use Rattle.bits.proofs.Laws.Bools.{apart}
use Rattle.std.specs.Prelude.{Result, Ok, Err}
use Rattle.tables.specs.declared.answers.Refusal.{Refusal}
use Rattle.tables.proofs.Laws.Refusals.{same_refusal}
use Rattle.chain.specs.Said.{appended_said}

pub appended_said_law : (a b : Result ℕ Refusal) → appended_said a ≡ appended_said b → a ≡ b
unfolding appended_said
appended_said_law (Err v) (Err w) e =
    let number : v.number ≡ w.number = cc in
    let place : v.place ≡ w.place = cc in
    ap (λ (r : Refusal). Err r) (same_refusal v w number place)
appended_said_law (Err w) (Ok bytes) e = apart (cc)
appended_said_law (Ok bytes) (Err w) e = apart (cc)
appended_said_law (Ok bytes) (Ok others) e = cc
