-- As many entries are lent as the horizon asks for.
use Prim.Native.Nat.{◌≤◌}
use mathlib.Core.Logic.{⊎_elim, inl, inr}
use mathlib.Core.Path.{sym, ◌∙◌}
use native.Mathlib.Omega.{arith}
use lib.ListN.{length}
use lib.Seq.{length-take-le}
use Rattle.sheet.proofs.put_sheet.Goals as goal

pub slice_bounds-put_given-end : goal.slice_bounds-put_given-end
slice_bounds-put_given-end c = sym (length-take-le _ _ (omega (arith, c.no_entries-entries.ensures, c.ticks-n.ensures.0)))

pub put_given-requires : goal.put_given-requires
put_given-requires c = ⊎_elim (λ e. inl (length-take-le _ _ (omega (arith, c.no_entries-entries.ensures, c.ticks-n.ensures.0)) ∙ e)) (λ l. inr l) c.ticks-n.ensures.1
