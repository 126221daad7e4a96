-- A job runs as far as its gap, which is no more than the ticks there are; where the entry is no job, none is alive.
use native.Mathlib.Omega.{arith}
use mathlib.Core.Path.{refl}
use Rattle.zsrm.proofs.Laws.Calls.{ran_job, ran_none}
use Rattle.zsrm.proofs.Laws.Gap.{run_most}
use Rattle.zsrm.proofs.calls.run_on.Goals as goal

pub overflow_cast-ticks : goal.overflow_cast-ticks
overflow_cast-ticks c =
    let m = run_most _ _ _ _ _ c.args.reach _ c.run_gap-k.ensures in
    let room = c.requires.1 c.if-j-n.true in
    record { fits = omega (arith, m, room) }

pub overflow_add-ticks : goal.overflow_add-ticks
overflow_add-ticks c =
    let m = run_most _ _ _ _ _ c.args.reach _ c.run_gap-k.ensures in
    let room = c.requires.1 c.if-j-n.true in
    record { fits = omega (arith, m, room) }

pub returns-then-j-n : goal.returns-then-j-n
returns-then-j-n c =
    let s = c.args in
    let w = ran_job s.g.now s.se s.done.now s.entry s.n s.masks.now s.going s.reach _ _ _ c.if-j-n.true c.run_gap-k.ensures refl c.left_by-alive.ensures in
    record { ticks = w.ticks; alive = w.alive; done = w.dones }

pub returns-else-j-n : goal.returns-else-j-n
returns-else-j-n c =
    let s = c.args in
    let w = ran_none s.g.now s.se s.done.now s.entry s.n s.masks.now s.going s.reach c.if-j-n.false in
    record { ticks = w.ticks; alive = w.alive; done = w.dones }
