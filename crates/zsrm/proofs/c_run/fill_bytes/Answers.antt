use Prim.Native.Nat.{ℕ, ◌*◌, ◌+◌, ◌≤◌}
use mathlib.Core.List.{List}
use mathlib.Core.Path.{ap, refl, ◌∙◌}
use native.Mathlib.Omega.{arith}
use lib.ListN.{length}
use Rattle.tables.specs.Bytes.{put_at}
use Rattle.tables.proofs.Laws.Bytes.{length_put}
use Rattle.zsrm.proofs.Laws.Leaps.{stored_more_bytes, stored_none_bytes}
use Rattle.zsrm.proofs.c_run.fill_bytes.Goals as goal

pub loop-i-init : goal.loop-i-init
loop-i-init c = let a = c.args in (refl, stored_none_bytes a.bytes.now a.t a.entry)

pub loop-i-preserved : goal.loop-i-preserved
loop-i-preserved c =
    let a = c.args in
    let room : (a.t + c.loop-i.i) * 2 + 2 ≤ length a.bytes.now = omega (arith, c.requires, c.loop-i-test.true) in (
      ap length c.put2.ensures ∙ length_put 2 _ _ _ ∙ c.loop-i.invariant.0,
      c.put2.ensures ∙ ap (λ (l : List ℕ). put_at 2 l ((a.t + c.loop-i.i) * 2) a.entry) c.loop-i.invariant.1 ∙ stored_more_bytes a.bytes.now a.t c.loop-i.i a.entry room,
    )
