-- The row ends within the index, and its numbers are the first of the counts.
use Prim.Native.Nat.{ℕ, ◌+◌}
use mathlib.Core.List.{List, ◌++◌}
use mathlib.Core.Path.{ap, ◌∙◌}
use native.Mathlib.Omega.{arith}
use lib.ListN.{drop, length-drop, length-take, take}
use lib.Seq.{paste}
use Rattle.std.proofs.Common.{take-take}
use Rattle.std.proofs.lemmas.Slice.{put_mid-paste}
use Rattle.tables.specs.Tables.{task_count}
use Rattle.index.specs.Rows.{row_width}
use Rattle.index.proofs.rows.put_row.Goals as goal

pub slice_bounds-copy_from_slice-end : goal.slice_bounds-copy_from_slice-end
unfolding task_count
slice_bounds-copy_from_slice-end c = omega (arith, c.row_at-at.ensures.is, c.requires.tasks_in_bounds)

pub slice_bounds-counts-end : goal.slice_bounds-counts-end
unfolding task_count
slice_bounds-counts-end c = omega (arith, c.requires.tasks_bound)

pub slice_bounds-copy_from_slice-end-2 : goal.slice_bounds-copy_from_slice-end-2
unfolding task_count
slice_bounds-copy_from_slice-end-2 c = simp length-take (omega (arith, c.requires.tasks_bound))

pub copy_from_slice-requires : goal.copy_from_slice-requires
unfolding task_count
copy_from_slice-requires c = simp (length-take, length-drop) (omega (arith, c.row_at-at.ensures.is, c.requires.tasks_in_bounds, c.requires.tasks_bound))

pub returns : goal.returns
unfolding task_count
returns c =
    let a = c.args in
    let w = row_width a.given.tasks.now in
    let at = c.row_at-at.result in
    put_mid-paste at _ a.index.now c.copy_from_slice.new.self (take w a.counts) w c.copy_from_slice.ensures.after (omega arith) (simp length-take (omega (arith, c.requires.tasks_bound)))
    ∙ ap (λ (l : List ℕ). (take at a.index.now ++ l) ++ drop (at + w) a.index.now) (take-take w w a.counts (omega arith))
    ∙ ap (λ (n : ℕ). paste a.index.now n a.counts w) c.row_at-at.ensures.is
