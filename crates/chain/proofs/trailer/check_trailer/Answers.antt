-- Where 21 is not given the trailer is whole, and 22 decides.
use mathlib.Core.Path.{sym, ◌∙◌}
use native.Mathlib.Omega.{arith}
use Rattle.chain.proofs.Laws.Refusals.{whole_trailer}
use Rattle.chain.proofs.trailer.check_trailer.Goals as goal

pub trailer_at-requires : goal.trailer_at-requires
trailer_at-requires c =
    let w = whole_trailer _ _ _ (sym c.check21.ensures ∙ c.in_ok-check21.was) in
    omega (arith, w.fits, w.ends)
