-- Five stores, one behind another; none changes the length.
use Rattle.zsrm.specs.Code.Gathered.{put_job}
use borrow.Author.Rules.{rules}
use Rattle.zsrm.proofs.gather.put_job.Goals as goal

pub returns : goal.returns
unfolding put_job
returns c = search rules
