-- The part from t on is filled, and what lies about it stays.
use Rattle.std.proofs.Common.{arith, ◌≡◌, replicate}
use Rattle.std.proofs.lemmas.List.Edits.{sets-eq}
use Rattle.std.proofs.lemmas.Grind.{common_steps}
use Rattle.zsrm.proofs.runs.fill.Goals as goal

pub returns : goal.returns
returns c =
    let a = c.args in
    let filled : c.fill.new.self ≡ replicate a.k a.entry = grind (arith, common_steps) in
    grind (arith, common_steps, filled, sets-eq)
