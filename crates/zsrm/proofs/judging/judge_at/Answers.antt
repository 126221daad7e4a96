-- The standing at the job's place, and its deadline instant.
use Prim.Native.Nat.{ℕ}
use mathlib.Core.Path.{ap, ◌∙◌}
use Rattle.zsrm.specs.Record.{place_at, standing_at}
use Rattle.zsrm.specs.Verdict.{judged, verdict}
use Rattle.zsrm.proofs.judging.judge_at.Goals as goal

pub returns : goal.returns
unfolding verdict standing_at place_at
returns c =
    let a = c.args in
    c.judge_standing.ensures ∙ ap (λ (due : ℕ). judged due a.rec.tick (standing_at a.rec a.j)) c.deadline_instant.ensures
