-- The row's number and what the part's entries come to; the sum is in 64 bits.
use Prim.Native.Nat.{ℕ, ◌+◌, ◌*◌}
use mathlib.Core.Path.{ap, sym, ◌∙◌}
use native.Mathlib.Omega.{arith}
use lib.ListN.{get_or}
use Rattle.tables.specs.Tables.{lists}
use Rattle.index.specs.Code.{tally_from}
use Rattle.index.specs.Counts.{entries_between}
use Rattle.index.specs.Rows.{index_number}
use Rattle.index.proofs.Laws.Counts.{tally_all, tally_none, tally_some, ticks_between_most}
use Rattle.index.proofs.ends.end_at.Goals as goal

pub overflow_add-result-2 : goal.overflow_add-result-2
unfolding entries_between
overflow_add-result-2 c =
    let a = c.args in
    let l = lists a.given.tasks.now a.given.jobs.now in
    let some = tally_some l a.c (entries_between (a.row * 64) a.t a.schedule.now) c.in_ok-since.since (sym c.ticks_of.ensures ∙ c.in_ok-since.was) in
    omega (arith, ticks_between_most l a.c a.schedule.now (a.row * 64) a.t, c.type_inv.index (c.row_at.result + a.c), some, c.requires.row_bound)

pub returns-in_err-since : goal.returns-in_err-since
unfolding tally_from entries_between
returns-in_err-since c =
    let a = c.args in
    let none = tally_none (lists a.given.tasks.now a.given.jobs.now) a.c (entries_between (a.row * 64) a.t a.schedule.now) (sym c.ticks_of.ensures ∙ c.in_err-since.was) in
    rw none c.from_residual.ensures

pub returns : goal.returns
unfolding tally_from index_number entries_between
returns c =
    let a = c.args in
    let l = lists a.given.tasks.now a.given.jobs.now in
    let read = entries_between (a.row * 64) a.t a.schedule.now in
    let was = sym c.ticks_of.ensures ∙ c.in_ok-since.was in
    let there = ap (λ (p : ℕ). get_or a.index.now (p + a.c) 0) c.row_at.ensures.is in
    rw (tally_all l a.c read c.in_ok-since.since was, tally_some l a.c read c.in_ok-since.since was, there)
