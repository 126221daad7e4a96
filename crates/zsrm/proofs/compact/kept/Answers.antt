-- Who is not alive is early no longer, and then who is past zero slack, either. Where nobody is dropped, nothing changes.
use mathlib.Core.Path.{refl}
use Rattle.zsrm.proofs.Laws.Compact.{kept_onward}
use Rattle.zsrm.proofs.compact.kept.Goals as goal

pub returns : goal.returns
returns c =
    let s = c.args in
    kept_onward s.g.now s.t s.going _ c.pruned.result refl c.meet-early.ensures refl refl c.pruned.ensures.onward
