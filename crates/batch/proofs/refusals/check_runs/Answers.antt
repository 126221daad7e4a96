use Prim.Native.Nat.{ℕ, ◌*◌}
use mathlib.Core.Path.{ap, ap₂, sym, ◌∙◌, ◌≡◌}
use native.Mathlib.Omega.{arith}
use lib.ListN.{length}
use Rattle.tables.specs.Refusals.{check_jobs}
use Rattle.batch.specs.Refusals.{check_runs, goes_first, with_run}
use Rattle.batch.proofs.Laws.Refusals.{and_first, checks_more, checks_none}
use Rattle.batch.proofs.Laws.Runs.{jobs_more, jobs_none, list_ends, list_is}
use Rattle.batch.proofs.refusals.check_runs.Goals as goal

pub loop-r-init : goal.loop-r-init
loop-r-init c = (sym (ap (λ (n : ℕ). n * 3) (jobs_none c.args.given.counts.now)), sym (checks_none _ _ _))

pub overflow_add-to : goal.overflow_add-to
overflow_add-to c =
    let within = list_ends c.args.given.jobs.now c.args.given.counts.now c.requires.counts_value c.loop-r.r c.loop-r-test.true in
    omega (arith, c.list_length.ensures, c.loop-r.invariant.0)

pub offset_bounds-given-from : goal.offset_bounds-given-from
offset_bounds-given-from c =
    let within = list_ends c.args.given.jobs.now c.args.given.counts.now c.requires.counts_value c.loop-r.r c.loop-r-test.true in
    omega (arith, c.list_length.ensures, c.loop-r.invariant.0)

-- list r ends within the flat list
pub slice_bounds-check_jobs-end : goal.slice_bounds-check_jobs-end
slice_bounds-check_jobs-end c =
    let within = list_ends c.args.given.jobs.now c.args.given.counts.now c.requires.counts_value c.loop-r.r c.loop-r-test.true in
    omega (arith, c.list_length.ensures, c.loop-r.invariant.0)

pub overflow_cast-r : goal.overflow_cast-r
overflow_cast-r c = omega (arith, c.requires.counts_len_bound)

-- what is found of run r, as the definition has it, goes behind what the runs before came to
pub loop-r-preserved : goal.loop-r-preserved
loop-r-preserved c =
    let tasks = c.args.given.tasks.now in
    let jobs = c.args.given.jobs.now in
    let counts = c.args.given.counts.now in
    let r = c.loop-r.r in
    let list = list_is jobs counts r _ _ c.loop-r.invariant.0 c.list_length.ensures in
    let more = jobs_more counts r in (
      omega (arith, c.list_length.ensures, c.loop-r.invariant.0),
      c.and-found.ensures ∙ and_first _ _ ∙ ap₂ goes_first c.loop-r.invariant.1 (c.with_run.ensures ∙ ap (with_run r) (c.check_jobs-own.ensures ∙ ap (check_jobs tasks) list)) ∙ sym (checks_more tasks jobs counts r),
    )

pub returns : goal.returns
returns c =
    let last : c.loop-r.r ≡ length c.args.given.counts.now = omega arith in
    c.loop-r.invariant.1 ∙ ap (check_runs c.args.given.tasks.now c.args.given.jobs.now c.args.given.counts.now) last
