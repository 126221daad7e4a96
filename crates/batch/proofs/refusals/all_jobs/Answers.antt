-- Each count is below 2^32.
use mathlib.Core.Path.{◌≡◌}
use native.Mathlib.Omega.{arith}
use borrow.Author.Rules.{rules}
use Rattle.std.specs.Prelude.{sum}
use Rattle.batch.proofs.Laws.Runs.{counts_most}
use Rattle.batch.proofs.refusals.all_jobs.Goals as goal

pub returns-clause-most : goal.returns-clause-most
returns-clause-most c =
    let is : c.sum.result ≡ sum c.args.counts.now = search rules in
    omega (arith, is, counts_most c.args.counts.now c.requires (λ k. omega (arith, c.type_inv.counts k)))
