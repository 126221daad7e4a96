-- The definition's own tests; nothing wraps, as there are at most 32 runs.
use Prim.Native.Nat.{◌*◌, ◌≤◌}
use native.Mathlib.Nat.{mul-le-mul_right}
use native.Mathlib.Omega.{arith}
use lib.ListN.{length}
use borrow.Author.Tests.{le-ltb, lt-ltb}
use Rattle.tables.specs.Refusals.{refuse}
use Rattle.batch.specs.Refusals.{check17}
use Rattle.batch.proofs.Laws.Runs.{jobs_all}
use Rattle.batch.proofs.refusals.check17.Goals as goal

pub returns-then-runs-gt32 : goal.returns-then-runs-gt32
unfolding check17 refuse
returns-then-runs-gt32 c = rw (lt-ltb 32 (length c.args.given.counts.now) c.if-runs-gt32.true)

pub overflow_mul-listed : goal.overflow_mul-listed
unfolding check17 refuse
overflow_mul-listed c = omega (arith, c.all_jobs.ensures.most)

pub overflow_mul-placed : goal.overflow_mul-placed
overflow_mul-placed c =
    let most : length c.args.given.counts.now * c.args.given.horizon ≤ 32 * c.args.given.horizon = mul-le-mul_right c.args.given.horizon (omega arith) in
    omega arith

pub returns : goal.returns
unfolding check17
returns c = rw (le-ltb 32 (length c.args.given.counts.now) c.if-runs-gt32.false, jobs_all c.args.given.counts.now, ← c.all_jobs.ensures.all) c.refuse.ensures
