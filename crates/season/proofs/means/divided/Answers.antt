-- By whether a job has finished. A sum is below 2^32, so it has at most 10 digits.
use native.Mathlib.Omega.{arith}
use borrow.Author.Tests.{le-ltb, lt-ltb}
use Rattle.season.specs.Mean.{mean_of}
use Rattle.season.proofs.Laws.Mean.{mean_length}
use Rattle.season.proofs.means.divided.Goals as goal

pub returns-then-row-eq0 : goal.returns-then-row-eq0
unfolding mean_of
returns-then-row-eq0 c = record { is = rw (le-ltb 0 c.args.row.finished (omega arith)); short = tt }

pub returns : goal.returns
unfolding mean_of
returns c =
    let x = c.args.row in
    record { is = rw (lt-ltb 0 x.finished (omega arith)); short = mean_length x.sum x.finished (omega arith) (omega arith) }
