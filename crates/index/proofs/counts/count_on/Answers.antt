use Prim.Native.Nat.{ℕ, ◌+◌, ◌*◌, ◌<◌}
use mathlib.Core.List.{List}
use mathlib.Core.Path.{ap, ap₂, ◌∙◌, ◌≡◌}
use native.Mathlib.Omega.{arith}
use lib.ListN.{get_or, length, set, take}
use lib.Seq.{length-take-le}
use Rattle.tables.specs.Tables.{lists}
use Rattle.index.specs.Code.{counts_of}
use Rattle.index.proofs.Laws.Counts.{column_small, counts_more, counts_most, jobs_or_idle_at, length_counts}
use Rattle.index.proofs.counts.count_on.Goals as goal

pub loop-t-init : goal.loop-t-init
loop-t-init c = c.requires.counts_value

pub offset_bounds-out-c : goal.offset_bounds-out-c
offset_bounds-out-c c =
    let a = c.args in
    omega (arith, c.column-c.ensures, column_small (lists c.args.given.tasks.now c.args.given.jobs.now) c.requires.checked c.args.schedule.now ((c.args.r + 1) * 64) c.loop-t.t c.requires.schedule_value c.loop-t-test.true (omega (arith, c.requires.r_in_bounds)), ap length c.loop-t.invariant, length_counts (lists a.given.tasks.now a.given.jobs.now) (take c.loop-t.t a.schedule.now))

pub bounds-out-c : goal.bounds-out-c
bounds-out-c c =
    let a = c.args in
    omega (arith, c.column-c.ensures, column_small (lists c.args.given.tasks.now c.args.given.jobs.now) c.requires.checked c.args.schedule.now ((c.args.r + 1) * 64) c.loop-t.t c.requires.schedule_value c.loop-t-test.true (omega (arith, c.requires.r_in_bounds)), ap length c.loop-t.invariant, length_counts (lists a.given.tasks.now a.given.jobs.now) (take c.loop-t.t a.schedule.now))

pub overflow_add-out : goal.overflow_add-out
overflow_add-out c =
    let a = c.args in
    let t = c.loop-t.t in
    let most = counts_most (lists a.given.tasks.now a.given.jobs.now) (take t a.schedule.now) c.column-c.result ((omega (arith, c.column-c.ensures, column_small (lists c.args.given.tasks.now c.args.given.jobs.now) c.requires.checked c.args.schedule.now ((c.args.r + 1) * 64) c.loop-t.t c.requires.schedule_value c.loop-t-test.true (omega (arith, c.requires.r_in_bounds))))) in
    let short = length-take-le t a.schedule.now (omega (arith, c.requires.r_in_bounds)) in
    omega (arith, ap (λ (o : List ℕ). get_or o c.column-c.result 0) c.loop-t.invariant, c.requires.r_in_bounds)

pub bounds-out-c-in-loop-t : goal.bounds-out-c-in-loop-t
bounds-out-c-in-loop-t c =
    let a = c.args in
    omega (arith, c.column-c.ensures, column_small (lists c.args.given.tasks.now c.args.given.jobs.now) c.requires.checked c.args.schedule.now ((c.args.r + 1) * 64) c.loop-t.t c.requires.schedule_value c.loop-t-test.true (omega (arith, c.requires.r_in_bounds)), ap length c.loop-t.invariant, length_counts (lists a.given.tasks.now a.given.jobs.now) (take c.loop-t.t a.schedule.now))

pub loop-t-preserved : goal.loop-t-preserved
loop-t-preserved c =
    let a = c.args in
    let l = lists a.given.tasks.now a.given.jobs.now in
    let t = c.loop-t.t in
    let here : t < length a.schedule.now = omega (arith, c.requires.r_in_bounds) in
    let is = jobs_or_idle_at a.given.jobs.now a.schedule.now ((a.r + 1) * 64) t c.requires.schedule_value c.loop-t-test.true here in
    ap₂ (λ (o : List ℕ) (k : ℕ). set o k (get_or o k 0 + 1)) c.loop-t.invariant c.column-c.ensures
    ∙ counts_more l a.schedule.now t here is (omega (arith, c.column-c.ensures, column_small (lists c.args.given.tasks.now c.args.given.jobs.now) c.requires.checked c.args.schedule.now ((c.args.r + 1) * 64) c.loop-t.t c.requires.schedule_value c.loop-t-test.true (omega (arith, c.requires.r_in_bounds)), c.column-c.ensures))

pub returns : goal.returns
returns c =
    let a = c.args in
    let last : c.loop-t.t ≡ (a.r + 1) * 64 = omega arith in
    c.loop-t.invariant ∙ ap (λ (n : ℕ). counts_of (lists a.given.tasks.now a.given.jobs.now) (take n a.schedule.now)) last
