-- `bits::highest` meets its contract. 0 has no set bit;
-- of another word the leading zeros, the highest bit and the bits below it make 64.
use mathlib.Core.Path.{◌≡◌, sym}
use native.Mathlib.Omega.{arith}
use Rattle.bits.proofs.Laws.Word.{highest_none, highest_some}
use Rattle.bits.proofs.highest.Statement.{statement}
use Rattle.bits.proofs.highest.Tie as tie

pub highest_spec : {M : Type 1} → statement M
highest_spec =
    tie.close
    (tie.spec (λ c. let z : c.before.args.w ≡ 0 = omega arith in rw z (sym (highest_none 64 64)))
    (λ c. omega (arith, highest_some c.before.args.w 64 64 (omega arith) c.before.ranges.w.fits))
    (λ c. omega (arith, highest_some c.before.args.w 64 64 (omega arith) c.before.ranges.w.fits)))
