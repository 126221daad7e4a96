-- Both tests, with the count that the call answers.
use Prim.Native.Nat.{ℕ}
use mathlib.Core.Path.{ap}
use mathlib.Core.Bool.{◌&&◌, ◌||◌}
use lib.Dec.{eqb, ltb}
use Rattle.tables.specs.Tables.{idle}
use Rattle.zsrm.specs.Record.{sound_previous}
use Rattle.zsrm.proofs.record.is_sound_previous.Goals as goal

pub returns : goal.returns
unfolding sound_previous
returns c =
    let a = c.args in
    ap (λ (n : ℕ). eqb a.previous idle || (ltb 0 a.t && ltb a.previous n)) c.job_count.ensures
