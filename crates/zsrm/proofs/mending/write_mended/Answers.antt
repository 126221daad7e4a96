-- The legal beginning is copied, and the rest written behind it from the record there on.
use mathlib.Core.Path.{◌∙◌}
use native.Mathlib.Omega.{arith}
use Rattle.zsrm.specs.Given.{given}
use Rattle.tables.proofs.Laws.Accepted.{lists_few}
use Rattle.zsrm.proofs.Laws.Mending.{mendable_replayed, mended_made, rest_fits, rest_same, ticks_within}
use Rattle.zsrm.proofs.mending.write_mended.Goals as goal

pub copy-requires : goal.copy-requires
copy-requires c = let w = ticks_within _ _ _ c.requires.jobs_value.1 in (w, omega (arith, c.requires.schedule_len_bound.1))

pub slice_bounds-mend_from-count : goal.slice_bounds-mend_from-count
slice_bounds-mend_from-count c = ticks_within _ _ _ c.requires.jobs_value.1

pub slice_bounds-mend_from-start : goal.slice_bounds-mend_from-start
slice_bounds-mend_from-start c = ticks_within _ _ _ c.requires.jobs_value.1

pub slice_bounds-mend_from-count-2 : goal.slice_bounds-mend_from-count-2
slice_bounds-mend_from-count-2 c =
    omega
    (arith, ticks_within _ _ _ c.requires.jobs_value.1, c.copy.ensures.long, c.requires.schedule_len_bound.1)

pub slice_bounds-mend_from-start-2 : goal.slice_bounds-mend_from-start-2
slice_bounds-mend_from-start-2 c =
    omega
    (arith, ticks_within _ _ _ c.requires.jobs_value.1, c.copy.ensures.long, c.requires.schedule_len_bound.1)

pub mend_from-requires : goal.mend_from-requires
mend_from-requires c =
    let a = c.args in
    let g = given a.mode a.tasks.now a.jobs.now in
    let p = c.requires.jobs_value.1 in
    let long = c.copy.ensures.long ∙ c.requires.schedule_len_bound.1 in record {
      jobs_value = (c.requires.jobs_value.0, rest_same g a.schedule.now a.walked p c.copy.new.to long);
      mendable = (
        mendable_replayed g a.schedule.now a.walked
            p (lists_few _ c.requires.jobs_value.0) c.requires.schedule_len_bound.0,
        rest_fits g a.schedule.now a.walked p c.copy.new.to long c.requires.schedule_len_bound.0,
      );
    }

pub returns : goal.returns
returns c =
    let a = c.args in
    let long = c.copy.ensures.long ∙ c.requires.schedule_len_bound.1 in let both = mended_made (given a.mode a.tasks.now a.jobs.now) a.schedule.now a.walked c.requires.jobs_value.1 c.copy.new.to long _ _
    c.copy.ensures.copies c.mend_from.ensures.counts c.mend_from.ensures.writes in
    record { counts = both.0; writes = both.1 }
