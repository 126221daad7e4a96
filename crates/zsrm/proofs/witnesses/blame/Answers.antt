-- In each case the definition's own.
use Rattle.zsrm.proofs.witnesses.blame.Goals as goal

pub returns-in-Late : goal.returns-in-Late
returns-in-Late c = rw c.in-Late.is
