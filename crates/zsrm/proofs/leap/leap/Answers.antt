-- The record and what is kept beside it, as the calls answer them.
use Prim.Native.Nat.{◌+◌}
use native.Mathlib.Omega.{arith}
use Rattle.zsrm.proofs.Laws.Underway.{came_from, came_to, first_most, leap_made}
use Rattle.zsrm.proofs.leap.leap.Goals as goal

pub after-record-requires : goal.after-record-requires
after-record-requires c =
    let a = c.args in
    let to = came_to a.g.now a.n a.s.came (a.s.«record».tick + a.k) c.requires.n_bound.1 in
    record { last_bound = omega (arith, c.came_by-came.ensures, c.requires.n_bound.0); k_bound = c.requires.k_bound }

pub alive_in-alive-requires : goal.alive_in-alive-requires
alive_in-alive-requires c =
    let a = c.args in
    let from = came_from a.g.now a.n a.s.came (a.s.«record».tick + a.k) c.requires.n_bound.1 in
    let to = came_to a.g.now a.n a.s.came (a.s.«record».tick + a.k) c.requires.n_bound.1 in
    (omega (arith, c.first_of-first.ensures, first_most a.s.alive a.s.came), omega (arith, c.requires.n_bound.0))

pub with_span-early-requires : goal.with_span-early-requires
with_span-early-requires c =
    let a = c.args in
    let from = came_from a.g.now a.n a.s.came (a.s.«record».tick + a.k) c.requires.n_bound.1 in
    let to = came_to a.g.now a.n a.s.came (a.s.«record».tick + a.k) c.requires.n_bound.1 in
    (omega arith, omega (arith, c.requires.n_bound.0))

pub returns : goal.returns
returns c =
    let a = c.args in
    leap_made a.g.now a.n a.se a.s a.seen a.entry a.k a.left _ _ _ _ _ _ _ c.first_of-first.ensures c.came_by-came.ensures
    c.ended_in-ended.ensures c.ticked.ensures c.after-record.ensures c.alive_in-alive.ensures c.with_span-early.ensures
