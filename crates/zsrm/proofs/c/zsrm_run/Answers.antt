-- What the checks found decides: the run on the lists that the bytes spell, or the packed refusal and the bytes as they were.
use mathlib.Core.Path.{sym, ◌∙◌}
use lib.ListN.{length}
use Rattle.zsrm.proofs.Laws.Called.{Passed, RefusedCall, c_runs, call_passed, stopped}
use Rattle.zsrm.proofs.Laws.Masks.{zeros_read}
use Rattle.zsrm.proofs.c.zsrm_run.Goals as goal

pub prepare-found-requires : goal.prepare-found-requires
prepare-found-requires c = λ q _. zeros_read 32 q

pub run_bytes-requires : goal.run_bytes-requires
run_bytes-requires c = let w = (let lemma_checked : let a = c.args in Passed a.mode a.tasks.now a.jobs.now a.horizon (length a.schedule.now) = call_passed _ _ _ _ _ (sym c.prepare-found.ensures.found ∙ c.in-Ok.is) in lemma_checked) in record { call = c.prepare-found.ensures.ready c.in-Ok.is; schedule_len_bound = (w.short, w.even) }

pub packed-requires : goal.packed-requires
packed-requires c = let w = (let lemma_refusal : let a = c.args in RefusedCall a.mode a.tasks.now a.jobs.now a.horizon a.schedule.now c.in-Err.refusal.number c.in-Err.refusal.place = stopped _ _ _ _ _ _ _ (sym c.prepare-found.ensures.found ∙ c.in-Err.is) in lemma_refusal) in (w.small.1, w.small.2)

pub returns-in-Ok : goal.returns-in-Ok
returns-in-Ok c =
    let both = c_runs _ _ _ _ _ ((let lemma_checked : let a = c.args in Passed a.mode a.tasks.now a.jobs.now a.horizon (length a.schedule.now) = call_passed _ _ _ _ _ (sym c.prepare-found.ensures.found ∙ c.in-Ok.is) in lemma_checked)) _ c.run_bytes.ensures in
    record { answers = both.0; writes = both.1 }

pub returns-in-Err : goal.returns-in-Err
returns-in-Err c = let w = (let lemma_refusal : let a = c.args in RefusedCall a.mode a.tasks.now a.jobs.now a.horizon a.schedule.now c.in-Err.refusal.number c.in-Err.refusal.place = stopped _ _ _ _ _ _ _ (sym c.prepare-found.ensures.found ∙ c.in-Err.is) in lemma_refusal) in record { answers = c.packed.ensures ∙ w.run; writes = w.kept }
