-- Both counts are there, the first at most the second, and that at most the horizon; or the answer is 16.
use borrow.Author.Tests.{le-ltb}
use native.Mathlib.Omega.{arith}
use Rattle.tables.specs.Refusals.{refuse, unless}
use Rattle.index.specs.Code.{difference}
use Rattle.index.proofs.Laws.Answers.{above_refused, below_refused}
use Rattle.index.proofs.ends.difference.Goals as goal

pub returns-in-Some-Some : goal.returns-in-Some-Some
unfolding difference refuse unless
returns-in-Some-Some c =
    let h = c.args.horizon in
    let first = c.in-Some-Some.first in
    let second = c.in-Some-Some.second in
    rw (c.in-Some-Some.is-0, c.in-Some-Some.is-1, le-ltb h first (omega arith), le-ltb h second (omega arith), le-ltb second first (omega arith))

pub returns-in_default : goal.returns-in_default
returns-in_default c =
    rw (c.in-Some-Some.is-0, c.in-Some-Some.is-1) (above_refused c.args.horizon c.in-Some-Some.first c.in-Some-Some.second c.if-second-horizon.false)

pub returns-in_default-2 : goal.returns-in_default-2
returns-in_default-2 c =
    rw (c.in-Some-Some.is-0, c.in-Some-Some.is-1) (below_refused c.args.horizon c.in-Some-Some.first c.in-Some-Some.second c.if-first-second.false)

pub returns-in_default-3 : goal.returns-in_default-3
unfolding difference
returns-in_default-3 c = rw (c.in_default.is-0, c.in_default.is-1)

pub returns-in_default-4 : goal.returns-in_default-4
unfolding difference
returns-in_default-4 c = rw c.in_default.is-0
