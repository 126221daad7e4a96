use Prim.Native.Nat.{◌<◌}
use mathlib.Core.Path.{refl}
use native.Mathlib.Omega.{arith}
use borrow.Author.Rules.{rules}
use Rattle.bits.proofs.Laws.Arrays.{written_more, length_of_map}
use Rattle.zsrm.specs.Record.{empty, place_at}
use Rattle.zsrm.specs.Code.Underway.{next_at_in}
use Rattle.zsrm.proofs.Laws.Next.{made_first, made_held, next_at_law, next_made}
use Rattle.zsrm.proofs.record.Record.after.Goals as goal

pub loop-j-init : goal.loop-j-init
loop-j-init c =
    let a = c.args in
    (refl, made_first a.g.now a.first a.last a.self a.k a.ticked (search (rules, length_of_map)))

pub next_place-requires : goal.next_place-requires
unfolding place_at
next_place-requires c =
    let l : c.loop-j.j < 64 = omega (arith, c.requires.last_bound) in
    (omega (arith, c.requires.k_bound.0), rw (made_held _ _ _ _ _ _ c.loop-j.out c.loop-j.j c.loop-j.invariant l) (c.requires.k_bound.1 c.loop-j.j l))

pub loop-j-preserved : goal.loop-j-preserved
unfolding place_at
loop-j-preserved c =
    let a = c.args in
    let l : c.loop-j.j < 64 = omega (arith, c.requires.last_bound) in (
      c.loop-j.invariant.0,
      written_more empty (next_at_in a.g.now a.first a.last a.self a.k a.ticked) a.self.places c.loop-j.out.places 64 c.loop-j.j _ c.loop-j.invariant.1 l
          (next_at_law a.g.now a.first a.last a.self a.k a.ticked c.loop-j.j _ _ _ _ (omega arith) (omega arith)
          (made_held _ _ _ _ _ _ c.loop-j.out c.loop-j.j c.loop-j.invariant l)
          c.arrival_in-a.ensures c.execution_in-c.ensures c.next_place.ensures),
    )

pub returns : goal.returns
returns c =
    let a = c.args in
    next_made a.g.now a.first a.last a.self a.k a.ticked c.loop-j.out c.loop-j.j c.loop-j.invariant (omega arith)
