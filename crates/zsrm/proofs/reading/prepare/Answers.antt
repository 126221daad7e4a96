-- Lists that pass are read, and the masks are made of what is read.
use mathlib.Core.Path.{sym, ◌∙◌}
use Rattle.tables.proofs.Laws.Refusals.{handed_back, stop_apart}
use Rattle.zsrm.proofs.Laws.Called.{call_tasks, made_call}
use Rattle.zsrm.proofs.Laws.Reading.{cleared}
use Rattle.zsrm.proofs.reading.prepare.Goals as goal

pub read_call-requires : goal.read_call-requires
read_call-requires c = cleared

pub make_masks-requires : goal.make_masks-requires
make_masks-requires c =
    let done = c.in_ok-read_call.was in
    (call_tasks _ _ _ _ _ _ c.read_call.ensures.found done, c.requires)

pub returns : goal.returns
returns c =
    let done = c.in_ok-read_call.was in
    record { found = sym done ∙ c.read_call.ensures.found; ready = λ _. made_call _ _ _ _ _ _ c.read_call.ensures.found done _ _ _ _ (c.read_call.ensures.table done) (c.read_call.ensures.list done) c.make_masks.ensures }

pub returns-in_err-read_call : goal.returns-in_err-read_call
returns-in_err-read_call c =
    record { found = handed_back c.in_err-read_call.was c.from_residual.ensures.1 ∙ c.read_call.ensures.found; ready = λ e. stop_apart e c.from_residual.ensures.0 }
