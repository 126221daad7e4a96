use Prim.Native.Nat.{ℕ, ◌+◌, ◌-◌, ◌<◌, ◌≤◌}
use mathlib.Core.List.{List}
use mathlib.Core.Path.{◌≡◌, refl, sym, ap, ◌∙◌}
use native.Mathlib.Omega.{arith}
use lib.ListN.{length, replicate}
use lib.Seq.{length-sets, sets, take_all}
use borrow.Author.Rules.{rules}
use Rattle.tables.proofs.Laws.Accepted.{lists_few}
use Rattle.zsrm.specs.declared.record.Record.{Record}
use Rattle.zsrm.specs.Given.{given, is_se}
use Rattle.zsrm.specs.Record.{consistent}
use Rattle.zsrm.specs.Run.{entries_by, final_by}
use Rattle.zsrm.specs.Tick.{choice}
use Rattle.zsrm.proofs.Laws.Going.{entries_none, going_none}
use Rattle.zsrm.proofs.Laws.Turns.{first_kept, made_setup, turn_chosen, turn_fills, turn_fits, turn_going, turn_kept, turn_one, turn_takes, turn_within}
use Rattle.zsrm.proofs.Laws.Underway.{started_record}
use Rattle.zsrm.proofs.Laws.View.{our_choice_runs}
use Rattle.zsrm.proofs.runs.run_from.Goals as goal

-- what is filled is as long as it was
long : (l after : List ℕ) (t k e : ℕ) → after ≡ sets l t (replicate k e) → length after ≡ length l
long l after t k e q = ap length q ∙ length-sets l t (replicate k e)

pub started-s-requires : goal.started-s-requires
started-s-requires c = omega (arith, c.job_count-n.ensures, lists_few _ c.requires.jobs_value)

pub loop-t-init : goal.loop-t-init
loop-t-init c =
    let a = c.args in
    let x = given a.mode a.tasks.now a.jobs.now in
    let z = made_setup x _ _ (is_se a.mode) c.requires.jobs_value c.gathered-g.ensures c.job_count-n.ensures refl in (
      omega arith,
      refl,
      first_kept x _ _ _ z a.start _ c.started-s.ensures,
      going_none x (choice x a.tie) _ (ap (consistent x) (started_record _ _ a.start _ c.started-s.ensures) ∙ c.requires.start_value.0),
      sym (entries_none x (choice x a.tie) _),
    )

pub choice-entry-requires : goal.choice-entry-requires
choice-entry-requires c = omega (arith, c.job_count-n.ensures, lists_few _ c.requires.jobs_value)

pub overflow_cast-most : goal.overflow_cast-most
overflow_cast-most c =
    let fits =
    c.requires.start_value.1 in let same = c.loop-t.invariant.1 in search rules

pub ahead-far-requires : goal.ahead-far-requires
ahead-far-requires c = omega (arith, c.job_count-n.ensures, lists_few _ c.requires.jobs_value)

pub fill-requires : goal.fill-requires
fill-requires c =
    let a = c.args in
    let x = given a.mode a.tasks.now a.jobs.now in
    let few = lists_few _ c.requires.jobs_value in
    let fits = c.requires.start_value.1 in
    let z = made_setup x _ _ _ c.requires.jobs_value c.gathered-g.ensures c.job_count-n.ensures
    c.is_se-se.ensures in
    let kept = c.loop-t.invariant.2 in
    let w = c.loop-t.invariant.3 in
    let chose = turn_chosen x _ _ _ z c.loop-t.s kept _ c.look-seen.ensures a.tie _ c.choice-entry.ensures in
    let may = our_choice_runs x c.requires.jobs_value a.tie c.loop-t.s.«record» _ chose in
    let began = ap (λ (r : Record). r.tick) (started_record _ _ a.start _ c.started-s.ensures) in
    let taken : c.loop-t.t < length c.loop-t.schedule = c.loop-t-test.true in
    let more : 1 ≤ length c.loop-t.schedule - c.loop-t.t = omega (arith, taken) in
    let k = c.ahead-far.result.ticks in
    let within = turn_within x _ _ _ z c.loop-t.s kept _ c.look-seen.ensures w.sound _ may _ _ more c.ahead-far.ensures.ticks in
    let one = turn_one x _ _ _ z c.loop-t.s kept _ c.look-seen.ensures w.sound _ may _ _ more c.ahead-far.ensures.ticks in
    let fits-here : c.loop-t.t + k ≤ length c.loop-t.schedule = omega (arith, within) in
    fits-here

pub leap-s-requires : goal.leap-s-requires
leap-s-requires c =
    let a = c.args in
    let x = given a.mode a.tasks.now a.jobs.now in
    let few = lists_few _ c.requires.jobs_value in
    let fits = c.requires.start_value.1 in
    let z = made_setup x _ _ _ c.requires.jobs_value c.gathered-g.ensures c.job_count-n.ensures
    c.is_se-se.ensures in
    let kept = c.loop-t.invariant.2 in
    let w = c.loop-t.invariant.3 in
    let chose = turn_chosen x _ _ _ z c.loop-t.s kept _ c.look-seen.ensures a.tie _ c.choice-entry.ensures in
    let may = our_choice_runs x c.requires.jobs_value a.tie c.loop-t.s.«record» _ chose in
    let began = ap (λ (r : Record). r.tick) (started_record _ _ a.start _ c.started-s.ensures) in
    let taken : c.loop-t.t < length c.loop-t.schedule = c.loop-t-test.true in
    let more : 1 ≤ length c.loop-t.schedule - c.loop-t.t = omega (arith, taken) in
    let k = c.ahead-far.result.ticks in
    let within = turn_within x _ _ _ z c.loop-t.s kept _ c.look-seen.ensures w.sound _ may _ _ more c.ahead-far.ensures.ticks in
    let one = turn_one x _ _ _ z c.loop-t.s kept _ c.look-seen.ensures w.sound _ may _ _ more c.ahead-far.ensures.ticks in
    let fit = turn_fits x _ _ _ z c.loop-t.s kept _ c.look-seen.ensures w.sound _ may _ (omega (arith, within, c.loop-t.invariant.1, w.time, began)) in
    record { n_bound = fit.0; k_bound = fit.1 }

pub overflow_add-t : goal.overflow_add-t
overflow_add-t c =
    let a = c.args in
    let x = given a.mode a.tasks.now a.jobs.now in
    let few = lists_few _ c.requires.jobs_value in
    let fits = c.requires.start_value.1 in
    let z = made_setup x _ _ _ c.requires.jobs_value c.gathered-g.ensures c.job_count-n.ensures
    c.is_se-se.ensures in
    let kept = c.loop-t.invariant.2 in
    let w = c.loop-t.invariant.3 in
    let chose = turn_chosen x _ _ _ z c.loop-t.s kept _ c.look-seen.ensures a.tie _ c.choice-entry.ensures in
    let may = our_choice_runs x c.requires.jobs_value a.tie c.loop-t.s.«record» _ chose in
    let began = ap (λ (r : Record). r.tick) (started_record _ _ a.start _ c.started-s.ensures) in
    let taken : c.loop-t.t < length c.loop-t.schedule = c.loop-t-test.true in
    let more : 1 ≤ length c.loop-t.schedule - c.loop-t.t = omega (arith, taken) in
    let k = c.ahead-far.result.ticks in
    let within = turn_within x _ _ _ z c.loop-t.s kept _ c.look-seen.ensures w.sound _ may _ _ more c.ahead-far.ensures.ticks in
    let one = turn_one x _ _ _ z c.loop-t.s kept _ c.look-seen.ensures w.sound _ may _ _ more c.ahead-far.ensures.ticks in
    let sum : c.loop-t.t + k ≤ 16384 = omega (arith, within, c.loop-t.invariant.1) in
    search rules

pub loop-t-smaller : goal.loop-t-smaller
loop-t-smaller c =
    let a = c.args in
    let x = given a.mode a.tasks.now a.jobs.now in
    let few = lists_few _ c.requires.jobs_value in
    let fits = c.requires.start_value.1 in
    let z = made_setup x _ _ _ c.requires.jobs_value c.gathered-g.ensures c.job_count-n.ensures
    c.is_se-se.ensures in
    let kept = c.loop-t.invariant.2 in
    let w = c.loop-t.invariant.3 in
    let chose = turn_chosen x _ _ _ z c.loop-t.s kept _ c.look-seen.ensures a.tie _ c.choice-entry.ensures in
    let may = our_choice_runs x c.requires.jobs_value a.tie c.loop-t.s.«record» _ chose in
    let began = ap (λ (r : Record). r.tick) (started_record _ _ a.start _ c.started-s.ensures) in
    let taken : c.loop-t.t < length c.loop-t.schedule = c.loop-t-test.true in
    let more : 1 ≤ length c.loop-t.schedule - c.loop-t.t = omega (arith, taken) in
    let k = c.ahead-far.result.ticks in
    let within = turn_within x _ _ _ z c.loop-t.s kept _ c.look-seen.ensures w.sound _ may _ _ more c.ahead-far.ensures.ticks in
    let one = turn_one x _ _ _ z c.loop-t.s kept _ c.look-seen.ensures w.sound _ may _ _ more c.ahead-far.ensures.ticks in
    omega (arith, one, within, c.loop-t.invariant.1)

pub loop-t-preserved : goal.loop-t-preserved
loop-t-preserved c =
    let a = c.args in
    let x = given a.mode a.tasks.now a.jobs.now in
    let few = lists_few _ c.requires.jobs_value in
    let fits = c.requires.start_value.1 in
    let z = made_setup x _ _ _ c.requires.jobs_value c.gathered-g.ensures c.job_count-n.ensures
    c.is_se-se.ensures in
    let kept = c.loop-t.invariant.2 in
    let w = c.loop-t.invariant.3 in
    let chose = turn_chosen x _ _ _ z c.loop-t.s kept _ c.look-seen.ensures a.tie _ c.choice-entry.ensures in
    let may = our_choice_runs x c.requires.jobs_value a.tie c.loop-t.s.«record» _ chose in
    let began = ap (λ (r : Record). r.tick) (started_record _ _ a.start _ c.started-s.ensures) in
    let taken : c.loop-t.t < length c.loop-t.schedule = c.loop-t-test.true in
    let more : 1 ≤ length c.loop-t.schedule - c.loop-t.t = omega (arith, taken) in
    let k = c.ahead-far.result.ticks in
    let within = turn_within x _ _ _ z c.loop-t.s kept _ c.look-seen.ensures w.sound _ may _ _ more c.ahead-far.ensures.ticks in
    let one = turn_one x _ _ _ z c.loop-t.s kept _ c.look-seen.ensures w.sound _ may _ _ more c.ahead-far.ensures.ticks in
    let room : c.loop-t.s.«record».tick + k ≤ 16384 = omega (arith, within, c.loop-t.invariant.1, w.time, began) in
    let takes = turn_takes x _ _ _ z c.loop-t.s kept _ c.look-seen.ensures w.sound _ may _ _ more c.ahead-far.ensures.ticks a.tie room chose in (
      omega (arith, within, c.loop-t.invariant.1),
      long c.loop-t.schedule _ c.loop-t.t k c.choice-entry.result
          c.fill.ensures ∙ c.loop-t.invariant.1,
      turn_kept x _ _ _ z c.loop-t.s kept _ c.look-seen.ensures w.sound _ may _ _ c.ahead-far.ensures.early _ c.leap-s.ensures,
      turn_going x _ _ _ z c.loop-t.s kept _ c.look-seen.ensures w.sound _ may _ _ more c.ahead-far.ensures.ticks (choice x a.tie) _ c.loop-t.t w
          (omega (arith, c.loop-t.invariant.1, began)) takes _ c.ahead-far.ensures.early _ c.leap-s.ensures,
      turn_fills x _ _ _ z c.loop-t.s kept _ c.look-seen.ensures w.sound _ may _ _ more c.ahead-far.ensures.ticks (choice x a.tie) _ c.loop-t.t w
          (omega (arith, c.loop-t.invariant.1, began)) takes c.loop-t.schedule _ c.loop-t.invariant.4 (omega (arith, within)) c.fill.ensures,
    )

pub shape_of-schedule : goal.shape_of-schedule
shape_of-schedule c = c.loop-t.invariant.1

pub returns : goal.returns
returns c =
    let a = c.args in
    let x = given a.mode a.tasks.now a.jobs.now in
    let few = lists_few _ c.requires.jobs_value in
    let fits = c.requires.start_value.1 in
    let began = started_record _ _ a.start _ c.started-s.ensures in
    let last : c.loop-t.t ≡ length a.schedule.now = omega (arith, c.loop-t.invariant.1) in record {
      ends = c.loop-t.invariant.3.is ∙ ap (final_by x (choice x a.tie) _) last ∙ ap (λ (r : Record). final_by x (choice x a.tie) r (length a.schedule.now)) began;
      writes = sym (take_all c.loop-t.t c.loop-t.schedule (omega (arith, c.loop-t.invariant.1))) ∙ c.loop-t.invariant.4 ∙ ap (entries_by x (choice x a.tie) _) last
          ∙ ap (λ (r : Record). entries_by x (choice x a.tie) r (length a.schedule.now)) began;
    }
