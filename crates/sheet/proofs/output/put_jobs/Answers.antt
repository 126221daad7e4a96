use Prim.Native.Nat.{◌/◌}
use mathlib.Core.Path.{ap, refl, sym, ◌∙◌, ◌≡◌}
use native.Mathlib.Omega.{arith}
use lib.ListN.{length}
use borrow.Author.Rules.{rules}
use Rattle.bits.proofs.Laws.Arrays.{length_of_map}
use Rattle.std.specs.Prelude.{is_ok}
use Rattle.tables.proofs.Laws.Refusals.{same_ok}
use Rattle.tables.specs.Tables.{job_count, lists}
use Rattle.zsrm.specs.Record.{place_at}
use Rattle.zsrm.proofs.Laws.Verdicts.{verdict_there}
use Rattle.sheet.specs.Listing.{job_lines}
use Rattle.sheet.proofs.Laws.Runs.{all_judged, few, put_jobs}
use Rattle.text.proofs.Laws.Put.{put_length, put_none}
use Rattle.sheet.proofs.output.put_jobs.Goals as goal

pub loop-j-init : goal.loop-j-init
unfolding job_count job_lines
loop-j-init c = (all_judged c.requires c.verdicts-all.ensures, put_none _ _)

pub bounds-all-j : goal.bounds-all-j
unfolding job_count job_lines
bounds-all-j c = omega (arith, few c.requires)

pub bounds-rec-j : goal.bounds-rec-j
unfolding job_count job_lines
bounds-rec-j c = omega (arith, few c.requires)

pub overflow_cast-j : goal.overflow_cast-j
unfolding job_count job_lines
overflow_cast-j c = omega (arith, few c.requires)

pub unwrap-verdict-requires : goal.unwrap-verdict-requires
unfolding job_count
unwrap-verdict-requires c =
    let there = verdict_there c.verdicts-all.result (search (rules, length_of_map)) c.loop-j.j _ (omega (arith, few c.requires)) in
    ap is_ok (there ∙ c.loop-j.invariant.0 c.loop-j.j (omega arith))

pub loop-j-preserved : goal.loop-j-preserved
unfolding job_count place_at
loop-j-preserved c =
    let a = c.args in
    let there = verdict_there c.verdicts-all.result (search (rules, length_of_map)) c.loop-j.j _ (omega (arith, few c.requires)) in
    let judged = there ∙ c.loop-j.invariant.0 c.loop-j.j (omega arith) in
    (c.loop-j.invariant.0, put_jobs (lists a.tasks.now a.jobs.now) a.rec c.loop-j.j (same_ok (sym c.unwrap-verdict.ensures ∙ judged)) refl c.loop-j.invariant.1 c.put_job-k.ensures)

pub shape_of-out : goal.shape_of-out
unfolding job_count job_lines
shape_of-out c = put_length c.loop-j.invariant.1

pub returns : goal.returns
unfolding job_count
returns c =
    let last : c.loop-j.j ≡ length c.args.jobs.now / 3 = omega arith in
    rw last at c.loop-j.invariant.1
