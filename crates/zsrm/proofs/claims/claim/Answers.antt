-- The replay's own answer to the claim.
use mathlib.Core.Path.{ap}
use Rattle.zsrm.specs.Answers.{replay_answer}
use Rattle.zsrm.specs.declared.answers.Replayed.{Replayed}
use Rattle.zsrm.proofs.claims.claim.Goals as goal

pub returns : goal.returns
unfolding replay_answer
returns c = ap (λ (x : Replayed). x.claim) c.replay.ensures
