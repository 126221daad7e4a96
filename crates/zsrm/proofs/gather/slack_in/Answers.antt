-- The number at its place.
use Rattle.zsrm.specs.Code.Gathered.{slack_in}
use borrow.Author.Rules.{rules}
use Rattle.zsrm.proofs.gather.slack_in.Goals as goal

pub returns : goal.returns
unfolding slack_in
returns c = search rules
