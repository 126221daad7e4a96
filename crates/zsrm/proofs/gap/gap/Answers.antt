-- Stage by stage, as the definition has it.
use Prim.Native.Nat.{ℕ}
use mathlib.Core.Path.{ap, ◌∙◌}
use Rattle.zsrm.specs.Code.Gathered.{gap_in, run_gap, slack_gap}
use Rattle.zsrm.proofs.gap.gap.Goals as goal

pub returns : goal.returns
unfolding gap_in
returns c =
    let s = c.args in record {
      ticks = c.slack_gap.ensures.ticks
          ∙ ap (λ (k : ℕ). slack_gap s.g.now s.early s.t k 64)
          (c.run_gap-runs.ensures ∙ ap (run_gap s.g.now s.n s.se s.entry s.done) c.arrival_gap-arrivals.ensures);
      early = c.slack_gap.ensures.early;
    }
