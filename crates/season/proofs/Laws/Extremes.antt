-- Law of the extremes: equal numbers are equal answers.
use Prim.Native.Nat.{ℕ}
use mathlib.Core.Path.{refl, ◌≡◌}
use Rattle.std.specs.Prelude.{Option, Some, None}
use Rattle.bits.proofs.Laws.Bools.{apart}
use Rattle.season.specs.declared.answers.Extremes.{Extremes}
use Rattle.season.specs.Said.{extremes_said}

extremes_same : {l g x y : ℕ} → l ≡ x → g ≡ y
    → ◌≡◌ {A = Option Extremes} (Some (record { least = l; greatest = g })) (Some (record { least = x; greatest = y }))
extremes_same p q = rw (p, q)

pub extremes_said_law : (a b : Option Extremes) → extremes_said a ≡ extremes_said b → a ≡ b
unfolding extremes_said
extremes_said_law None None e = refl
extremes_said_law None (Some x) e = apart (cc)
extremes_said_law (Some x) None e = apart (cc)
extremes_said_law (Some x) (Some y) e = extremes_same (cc) (cc)
