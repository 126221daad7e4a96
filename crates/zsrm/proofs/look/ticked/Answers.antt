-- The words, as the call answers the one of them.
use Prim.Native.Nat.{ℕ}
use mathlib.Core.Path.{ap}
use Rattle.zsrm.specs.declared.next.Ticked.{Ticked}
use Rattle.zsrm.specs.Code.Gathered.{ticked_in}
use Rattle.zsrm.proofs.look.ticked.Goals as goal

pub returns : goal.returns
unfolding ticked_in
returns c =
    let a = c.args in
    ap (λ (w : ℕ). let d : Ticked = record { entry = a.entry; suspended = a.seen.suspended; waiting = w; ended = a.ended } in d) c.waiting_word-waiting.ensures
