-- Where the call's own checks refuse, they decide; else the runs' do, whose lists then lie within the flat list.
use mathlib.Core.Path.{ap, sym, ◌∙◌}
use Rattle.batch.specs.Refusals.{check_batch, outcome_of, with_run}
use Rattle.batch.proofs.Laws.Refusals.{call_fits, found_goes_on, found_stops, with_run_outcome}
use Rattle.batch.proofs.refusals.check_batch.Goals as goal

pub returns-in_err-with_run : goal.returns-in_err-with_run
unfolding check_batch
returns-in_err-with_run c = found_stops _ _ (c.with_run.ensures ∙ ap (with_run 0) c.check_call.ensures) c.in_err-with_run.was c.from_residual.ensures.1

pub check_runs-requires : goal.check_runs-requires
check_runs-requires c =
    let ok = sym (with_run_outcome 0 _) ∙ ap outcome_of (sym (c.with_run.ensures ∙ ap (with_run 0) c.check_call.ensures) ∙ c.in_ok-with_run.was) in
    let w = call_fits _ _ _ _ _ ok in
    record { counts_len_bound = w.few; counts_value = w.listed }

pub returns : goal.returns
unfolding check_batch
returns c = found_goes_on _ _ (c.with_run.ensures ∙ ap (with_run 0) c.check_call.ensures) c.in_ok-with_run.was c.check_runs.ensures
