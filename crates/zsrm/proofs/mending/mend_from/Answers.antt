use Prim.Native.Nat.{ℕ, ◌+◌, ◌-◌, ◌<◌, ◌≤◌}
use mathlib.Core.Path.{◌≡◌, refl, subst, sym, ap, ap₂, ◌∙◌}
use native.Mathlib.Omega.{arith}
use lib.ListN.{length, replicate}
use lib.Seq.{take_all}
use Rattle.bits.proofs.Laws.Lists.{sets_length}
use Rattle.tables.proofs.Laws.Accepted.{lists_few}
use Rattle.zsrm.specs.declared.record.Record.{Record}
use Rattle.zsrm.specs.Code.Claims.{Mendable}
use Rattle.zsrm.specs.Given.{given, is_se}
use Rattle.zsrm.specs.Mend.{differing, keeps_previous, mend_choice}
use Rattle.zsrm.specs.Record.{consistent}
use Rattle.zsrm.specs.Run.{entries_by}
use Rattle.zsrm.proofs.Laws.Going.{entries_none, going_none}
use Rattle.zsrm.proofs.Laws.Mending.{Compared, compared_most, compared_none, length_part, made_stretch, Stretch}
use Rattle.zsrm.proofs.Laws.Mending.{stretch_counts, stretch_ends, stretch_fills, stretch_fits, stretch_next}
use Rattle.zsrm.proofs.Laws.Turns.{first_kept, made_setup}
use Rattle.zsrm.proofs.Laws.Underway.{started_record}
use Rattle.zsrm.proofs.mending.mend_from.Goals as goal

-- so the stretch lies in both lists
record Lies (t k into claimed : ℕ) : Type 0 where
  mine : t + k ≤ into
  theirs : t + k ≤ claimed
  short : into ≤ 16384

pub started-s-requires : goal.started-s-requires
started-s-requires c = omega (arith, c.job_count-n.ensures, lists_few _ c.requires.jobs_value.0)

pub keeps_previous-keeps-requires : goal.keeps_previous-keeps-requires
keeps_previous-keeps-requires c = lists_few _ c.requires.jobs_value.0

pub loop-t-init : goal.loop-t-init
loop-t-init c =
    let x = given c.args.mode c.args.tasks.now c.args.jobs.now in
    let began = started_record _ _ c.args.start _ c.started-s.ensures in
    let z = made_setup x _ _ (is_se c.args.mode) c.requires.jobs_value.0 c.gathered-g.ensures c.job_count-n.ensures refl in (
      omega arith,
      refl,
      first_kept x _ _ _ z c.args.start _ c.started-s.ensures,
      going_none x (mend_choice x) _ (ap (consistent x) began ∙ c.requires.mendable.0.sound),
      sym (entries_none x (mend_choice x) _),
      compared_none x _ c.args.claimed.now,
      λ l. c.keeps_previous-keeps.ensures ∙ ap (keeps_previous x) (sym began),
    )

pub choice-lowest-requires : goal.choice-lowest-requires
choice-lowest-requires c = omega (arith, c.job_count-n.ensures, lists_few _ c.requires.jobs_value.0)

pub overflow_cast-most : goal.overflow_cast-most
overflow_cast-most c = omega (arith, c.requires.mendable.1, c.loop-t.invariant.1)

pub ahead-far-requires : goal.ahead-far-requires
ahead-far-requires c = omega (arith, c.job_count-n.ensures, lists_few _ c.requires.jobs_value.0)

pub overflow_add-end : goal.overflow_add-end
overflow_add-end c = omega (arith, ((let lemma_lies : Lies c.loop-t.t c.ahead-far.result.ticks (length c.loop-t.into) (length c.args.claimed.now) = let w = (let lemma_turn : Stretch (given c.args.mode c.args.tasks.now c.args.jobs.now) c.started-s.result.«record» c.loop-t.t c.gathered-g.result c.job_count-n.result c.is_se-se.result c.loop-t.s c.look-seen.result c.kept_or-chosen.result (length c.loop-t.into - c.loop-t.t) c.ahead-far.result.ticks = let began = started_record _ _ c.args.start _ c.started-s.ensures in let z = made_setup (given c.args.mode c.args.tasks.now c.args.jobs.now) _ _ _ c.requires.jobs_value.0 c.gathered-g.ensures c.job_count-n.ensures c.is_se-se.ensures in let more : c.loop-t.t < length c.loop-t.into = c.loop-t-test.true in made_stretch (given c.args.mode c.args.tasks.now c.args.jobs.now) _ _ _ _ _ c.loop-t.s _ _ _ _ z (subst (Mendable (given c.args.mode c.args.tasks.now c.args.jobs.now)) (sym began) c.requires.mendable.0) c.loop-t.invariant.3 c.loop-t.invariant.2 c.look-seen.ensures _ c.choice-lowest.ensures _ (c.loop-t.invariant.6 (omega (arith, more, c.loop-t.invariant.1))) c.kept_or-chosen.ensures (omega (arith, more)) (omega (arith, more, c.loop-t.invariant.1, ap (λ (r : Record). r.tick) began, c.requires.mendable.1)) c.ahead-far.ensures.ticks in lemma_turn) in record { mine = omega (arith, w.within, w.some); theirs = omega (arith, w.within, w.some, c.loop-t.invariant.1, c.requires.jobs_value.1); short = omega (arith, c.loop-t.invariant.1, c.requires.mendable.1) } in lemma_lies)).mine, ((let lemma_lies : Lies c.loop-t.t c.ahead-far.result.ticks (length c.loop-t.into) (length c.args.claimed.now) = let w = (let lemma_turn : Stretch (given c.args.mode c.args.tasks.now c.args.jobs.now) c.started-s.result.«record» c.loop-t.t c.gathered-g.result c.job_count-n.result c.is_se-se.result c.loop-t.s c.look-seen.result c.kept_or-chosen.result (length c.loop-t.into - c.loop-t.t) c.ahead-far.result.ticks = let began = started_record _ _ c.args.start _ c.started-s.ensures in let z = made_setup (given c.args.mode c.args.tasks.now c.args.jobs.now) _ _ _ c.requires.jobs_value.0 c.gathered-g.ensures c.job_count-n.ensures c.is_se-se.ensures in let more : c.loop-t.t < length c.loop-t.into = c.loop-t-test.true in made_stretch (given c.args.mode c.args.tasks.now c.args.jobs.now) _ _ _ _ _ c.loop-t.s _ _ _ _ z (subst (Mendable (given c.args.mode c.args.tasks.now c.args.jobs.now)) (sym began) c.requires.mendable.0) c.loop-t.invariant.3 c.loop-t.invariant.2 c.look-seen.ensures _ c.choice-lowest.ensures _ (c.loop-t.invariant.6 (omega (arith, more, c.loop-t.invariant.1))) c.kept_or-chosen.ensures (omega (arith, more)) (omega (arith, more, c.loop-t.invariant.1, ap (λ (r : Record). r.tick) began, c.requires.mendable.1)) c.ahead-far.ensures.ticks in lemma_turn) in record { mine = omega (arith, w.within, w.some); theirs = omega (arith, w.within, w.some, c.loop-t.invariant.1, c.requires.jobs_value.1); short = omega (arith, c.loop-t.invariant.1, c.requires.mendable.1) } in lemma_lies)).short)

pub offset_bounds-claimed-t : goal.offset_bounds-claimed-t
offset_bounds-claimed-t c = omega (arith, ((let lemma_lies : Lies c.loop-t.t c.ahead-far.result.ticks (length c.loop-t.into) (length c.args.claimed.now) = let w = (let lemma_turn : Stretch (given c.args.mode c.args.tasks.now c.args.jobs.now) c.started-s.result.«record» c.loop-t.t c.gathered-g.result c.job_count-n.result c.is_se-se.result c.loop-t.s c.look-seen.result c.kept_or-chosen.result (length c.loop-t.into - c.loop-t.t) c.ahead-far.result.ticks = let began = started_record _ _ c.args.start _ c.started-s.ensures in let z = made_setup (given c.args.mode c.args.tasks.now c.args.jobs.now) _ _ _ c.requires.jobs_value.0 c.gathered-g.ensures c.job_count-n.ensures c.is_se-se.ensures in let more : c.loop-t.t < length c.loop-t.into = c.loop-t-test.true in made_stretch (given c.args.mode c.args.tasks.now c.args.jobs.now) _ _ _ _ _ c.loop-t.s _ _ _ _ z (subst (Mendable (given c.args.mode c.args.tasks.now c.args.jobs.now)) (sym began) c.requires.mendable.0) c.loop-t.invariant.3 c.loop-t.invariant.2 c.look-seen.ensures _ c.choice-lowest.ensures _ (c.loop-t.invariant.6 (omega (arith, more, c.loop-t.invariant.1))) c.kept_or-chosen.ensures (omega (arith, more)) (omega (arith, more, c.loop-t.invariant.1, ap (λ (r : Record). r.tick) began, c.requires.mendable.1)) c.ahead-far.ensures.ticks in lemma_turn) in record { mine = omega (arith, w.within, w.some); theirs = omega (arith, w.within, w.some, c.loop-t.invariant.1, c.requires.jobs_value.1); short = omega (arith, c.loop-t.invariant.1, c.requires.mendable.1) } in lemma_lies)).mine, ((let lemma_lies : Lies c.loop-t.t c.ahead-far.result.ticks (length c.loop-t.into) (length c.args.claimed.now) = let w = (let lemma_turn : Stretch (given c.args.mode c.args.tasks.now c.args.jobs.now) c.started-s.result.«record» c.loop-t.t c.gathered-g.result c.job_count-n.result c.is_se-se.result c.loop-t.s c.look-seen.result c.kept_or-chosen.result (length c.loop-t.into - c.loop-t.t) c.ahead-far.result.ticks = let began = started_record _ _ c.args.start _ c.started-s.ensures in let z = made_setup (given c.args.mode c.args.tasks.now c.args.jobs.now) _ _ _ c.requires.jobs_value.0 c.gathered-g.ensures c.job_count-n.ensures c.is_se-se.ensures in let more : c.loop-t.t < length c.loop-t.into = c.loop-t-test.true in made_stretch (given c.args.mode c.args.tasks.now c.args.jobs.now) _ _ _ _ _ c.loop-t.s _ _ _ _ z (subst (Mendable (given c.args.mode c.args.tasks.now c.args.jobs.now)) (sym began) c.requires.mendable.0) c.loop-t.invariant.3 c.loop-t.invariant.2 c.look-seen.ensures _ c.choice-lowest.ensures _ (c.loop-t.invariant.6 (omega (arith, more, c.loop-t.invariant.1))) c.kept_or-chosen.ensures (omega (arith, more)) (omega (arith, more, c.loop-t.invariant.1, ap (λ (r : Record). r.tick) began, c.requires.mendable.1)) c.ahead-far.ensures.ticks in lemma_turn) in record { mine = omega (arith, w.within, w.some); theirs = omega (arith, w.within, w.some, c.loop-t.invariant.1, c.requires.jobs_value.1); short = omega (arith, c.loop-t.invariant.1, c.requires.mendable.1) } in lemma_lies)).short)

pub slice_bounds-count_others-count : goal.slice_bounds-count_others-count
slice_bounds-count_others-count c = omega (arith, ((let lemma_lies : Lies c.loop-t.t c.ahead-far.result.ticks (length c.loop-t.into) (length c.args.claimed.now) = let w = (let lemma_turn : Stretch (given c.args.mode c.args.tasks.now c.args.jobs.now) c.started-s.result.«record» c.loop-t.t c.gathered-g.result c.job_count-n.result c.is_se-se.result c.loop-t.s c.look-seen.result c.kept_or-chosen.result (length c.loop-t.into - c.loop-t.t) c.ahead-far.result.ticks = let began = started_record _ _ c.args.start _ c.started-s.ensures in let z = made_setup (given c.args.mode c.args.tasks.now c.args.jobs.now) _ _ _ c.requires.jobs_value.0 c.gathered-g.ensures c.job_count-n.ensures c.is_se-se.ensures in let more : c.loop-t.t < length c.loop-t.into = c.loop-t-test.true in made_stretch (given c.args.mode c.args.tasks.now c.args.jobs.now) _ _ _ _ _ c.loop-t.s _ _ _ _ z (subst (Mendable (given c.args.mode c.args.tasks.now c.args.jobs.now)) (sym began) c.requires.mendable.0) c.loop-t.invariant.3 c.loop-t.invariant.2 c.look-seen.ensures _ c.choice-lowest.ensures _ (c.loop-t.invariant.6 (omega (arith, more, c.loop-t.invariant.1))) c.kept_or-chosen.ensures (omega (arith, more)) (omega (arith, more, c.loop-t.invariant.1, ap (λ (r : Record). r.tick) began, c.requires.mendable.1)) c.ahead-far.ensures.ticks in lemma_turn) in record { mine = omega (arith, w.within, w.some); theirs = omega (arith, w.within, w.some, c.loop-t.invariant.1, c.requires.jobs_value.1); short = omega (arith, c.loop-t.invariant.1, c.requires.mendable.1) } in lemma_lies)).mine, ((let lemma_lies : Lies c.loop-t.t c.ahead-far.result.ticks (length c.loop-t.into) (length c.args.claimed.now) = let w = (let lemma_turn : Stretch (given c.args.mode c.args.tasks.now c.args.jobs.now) c.started-s.result.«record» c.loop-t.t c.gathered-g.result c.job_count-n.result c.is_se-se.result c.loop-t.s c.look-seen.result c.kept_or-chosen.result (length c.loop-t.into - c.loop-t.t) c.ahead-far.result.ticks = let began = started_record _ _ c.args.start _ c.started-s.ensures in let z = made_setup (given c.args.mode c.args.tasks.now c.args.jobs.now) _ _ _ c.requires.jobs_value.0 c.gathered-g.ensures c.job_count-n.ensures c.is_se-se.ensures in let more : c.loop-t.t < length c.loop-t.into = c.loop-t-test.true in made_stretch (given c.args.mode c.args.tasks.now c.args.jobs.now) _ _ _ _ _ c.loop-t.s _ _ _ _ z (subst (Mendable (given c.args.mode c.args.tasks.now c.args.jobs.now)) (sym began) c.requires.mendable.0) c.loop-t.invariant.3 c.loop-t.invariant.2 c.look-seen.ensures _ c.choice-lowest.ensures _ (c.loop-t.invariant.6 (omega (arith, more, c.loop-t.invariant.1))) c.kept_or-chosen.ensures (omega (arith, more)) (omega (arith, more, c.loop-t.invariant.1, ap (λ (r : Record). r.tick) began, c.requires.mendable.1)) c.ahead-far.ensures.ticks in lemma_turn) in record { mine = omega (arith, w.within, w.some); theirs = omega (arith, w.within, w.some, c.loop-t.invariant.1, c.requires.jobs_value.1); short = omega (arith, c.loop-t.invariant.1, c.requires.mendable.1) } in lemma_lies)).short)

pub slice_bounds-count_others-end : goal.slice_bounds-count_others-end
slice_bounds-count_others-end c = ((let lemma_lies : Lies c.loop-t.t c.ahead-far.result.ticks (length c.loop-t.into) (length c.args.claimed.now) = let w = (let lemma_turn : Stretch (given c.args.mode c.args.tasks.now c.args.jobs.now) c.started-s.result.«record» c.loop-t.t c.gathered-g.result c.job_count-n.result c.is_se-se.result c.loop-t.s c.look-seen.result c.kept_or-chosen.result (length c.loop-t.into - c.loop-t.t) c.ahead-far.result.ticks = let began = started_record _ _ c.args.start _ c.started-s.ensures in let z = made_setup (given c.args.mode c.args.tasks.now c.args.jobs.now) _ _ _ c.requires.jobs_value.0 c.gathered-g.ensures c.job_count-n.ensures c.is_se-se.ensures in let more : c.loop-t.t < length c.loop-t.into = c.loop-t-test.true in made_stretch (given c.args.mode c.args.tasks.now c.args.jobs.now) _ _ _ _ _ c.loop-t.s _ _ _ _ z (subst (Mendable (given c.args.mode c.args.tasks.now c.args.jobs.now)) (sym began) c.requires.mendable.0) c.loop-t.invariant.3 c.loop-t.invariant.2 c.look-seen.ensures _ c.choice-lowest.ensures _ (c.loop-t.invariant.6 (omega (arith, more, c.loop-t.invariant.1))) c.kept_or-chosen.ensures (omega (arith, more)) (omega (arith, more, c.loop-t.invariant.1, ap (λ (r : Record). r.tick) began, c.requires.mendable.1)) c.ahead-far.ensures.ticks in lemma_turn) in record { mine = omega (arith, w.within, w.some); theirs = omega (arith, w.within, w.some, c.loop-t.invariant.1, c.requires.jobs_value.1); short = omega (arith, c.loop-t.invariant.1, c.requires.mendable.1) } in lemma_lies)).theirs

pub count_others-others-requires : goal.count_others-others-requires
count_others-others-requires c =
    let l = (let lemma_lies : Lies c.loop-t.t c.ahead-far.result.ticks (length c.loop-t.into) (length c.args.claimed.now) = let w = (let lemma_turn : Stretch (given c.args.mode c.args.tasks.now c.args.jobs.now) c.started-s.result.«record» c.loop-t.t c.gathered-g.result c.job_count-n.result c.is_se-se.result c.loop-t.s c.look-seen.result c.kept_or-chosen.result (length c.loop-t.into - c.loop-t.t) c.ahead-far.result.ticks = let began = started_record _ _ c.args.start _ c.started-s.ensures in let z = made_setup (given c.args.mode c.args.tasks.now c.args.jobs.now) _ _ _ c.requires.jobs_value.0 c.gathered-g.ensures c.job_count-n.ensures c.is_se-se.ensures in let more : c.loop-t.t < length c.loop-t.into = c.loop-t-test.true in made_stretch (given c.args.mode c.args.tasks.now c.args.jobs.now) _ _ _ _ _ c.loop-t.s _ _ _ _ z (subst (Mendable (given c.args.mode c.args.tasks.now c.args.jobs.now)) (sym began) c.requires.mendable.0) c.loop-t.invariant.3 c.loop-t.invariant.2 c.look-seen.ensures _ c.choice-lowest.ensures _ (c.loop-t.invariant.6 (omega (arith, more, c.loop-t.invariant.1))) c.kept_or-chosen.ensures (omega (arith, more)) (omega (arith, more, c.loop-t.invariant.1, ap (λ (r : Record). r.tick) began, c.requires.mendable.1)) c.ahead-far.ensures.ticks in lemma_turn) in record { mine = omega (arith, w.within, w.some); theirs = omega (arith, w.within, w.some, c.loop-t.invariant.1, c.requires.jobs_value.1); short = omega (arith, c.loop-t.invariant.1, c.requires.mendable.1) } in lemma_lies) in
    omega (arith, length_part c.loop-t.t c.ahead-far.result.ticks c.args.claimed.now l.theirs, l.mine, l.short)

pub fill-requires : goal.fill-requires
fill-requires c = ((let lemma_lies : Lies c.loop-t.t c.ahead-far.result.ticks (length c.loop-t.into) (length c.args.claimed.now) = let w = (let lemma_turn : Stretch (given c.args.mode c.args.tasks.now c.args.jobs.now) c.started-s.result.«record» c.loop-t.t c.gathered-g.result c.job_count-n.result c.is_se-se.result c.loop-t.s c.look-seen.result c.kept_or-chosen.result (length c.loop-t.into - c.loop-t.t) c.ahead-far.result.ticks = let began = started_record _ _ c.args.start _ c.started-s.ensures in let z = made_setup (given c.args.mode c.args.tasks.now c.args.jobs.now) _ _ _ c.requires.jobs_value.0 c.gathered-g.ensures c.job_count-n.ensures c.is_se-se.ensures in let more : c.loop-t.t < length c.loop-t.into = c.loop-t-test.true in made_stretch (given c.args.mode c.args.tasks.now c.args.jobs.now) _ _ _ _ _ c.loop-t.s _ _ _ _ z (subst (Mendable (given c.args.mode c.args.tasks.now c.args.jobs.now)) (sym began) c.requires.mendable.0) c.loop-t.invariant.3 c.loop-t.invariant.2 c.look-seen.ensures _ c.choice-lowest.ensures _ (c.loop-t.invariant.6 (omega (arith, more, c.loop-t.invariant.1))) c.kept_or-chosen.ensures (omega (arith, more)) (omega (arith, more, c.loop-t.invariant.1, ap (λ (r : Record). r.tick) began, c.requires.mendable.1)) c.ahead-far.ensures.ticks in lemma_turn) in record { mine = omega (arith, w.within, w.some); theirs = omega (arith, w.within, w.some, c.loop-t.invariant.1, c.requires.jobs_value.1); short = omega (arith, c.loop-t.invariant.1, c.requires.mendable.1) } in lemma_lies)).mine

pub leap-s-requires : goal.leap-s-requires
leap-s-requires c =
    let both = stretch_fits _ _ _ _ _ _ _ _ _ _ _ ((let lemma_turn : Stretch (given c.args.mode c.args.tasks.now c.args.jobs.now) c.started-s.result.«record» c.loop-t.t c.gathered-g.result c.job_count-n.result c.is_se-se.result c.loop-t.s c.look-seen.result c.kept_or-chosen.result (length c.loop-t.into - c.loop-t.t) c.ahead-far.result.ticks = let began = started_record _ _ c.args.start _ c.started-s.ensures in let z = made_setup (given c.args.mode c.args.tasks.now c.args.jobs.now) _ _ _ c.requires.jobs_value.0 c.gathered-g.ensures c.job_count-n.ensures c.is_se-se.ensures in let more : c.loop-t.t < length c.loop-t.into = c.loop-t-test.true in made_stretch (given c.args.mode c.args.tasks.now c.args.jobs.now) _ _ _ _ _ c.loop-t.s _ _ _ _ z (subst (Mendable (given c.args.mode c.args.tasks.now c.args.jobs.now)) (sym began) c.requires.mendable.0) c.loop-t.invariant.3 c.loop-t.invariant.2 c.look-seen.ensures _ c.choice-lowest.ensures _ (c.loop-t.invariant.6 (omega (arith, more, c.loop-t.invariant.1))) c.kept_or-chosen.ensures (omega (arith, more)) (omega (arith, more, c.loop-t.invariant.1, ap (λ (r : Record). r.tick) began, c.requires.mendable.1)) c.ahead-far.ensures.ticks in lemma_turn)) in
    record { n_bound = both.0; k_bound = both.1 }

pub overflow_add-changed : goal.overflow_add-changed
overflow_add-changed c =
    let l = (let lemma_lies : Lies c.loop-t.t c.ahead-far.result.ticks (length c.loop-t.into) (length c.args.claimed.now) = let w = (let lemma_turn : Stretch (given c.args.mode c.args.tasks.now c.args.jobs.now) c.started-s.result.«record» c.loop-t.t c.gathered-g.result c.job_count-n.result c.is_se-se.result c.loop-t.s c.look-seen.result c.kept_or-chosen.result (length c.loop-t.into - c.loop-t.t) c.ahead-far.result.ticks = let began = started_record _ _ c.args.start _ c.started-s.ensures in let z = made_setup (given c.args.mode c.args.tasks.now c.args.jobs.now) _ _ _ c.requires.jobs_value.0 c.gathered-g.ensures c.job_count-n.ensures c.is_se-se.ensures in let more : c.loop-t.t < length c.loop-t.into = c.loop-t-test.true in made_stretch (given c.args.mode c.args.tasks.now c.args.jobs.now) _ _ _ _ _ c.loop-t.s _ _ _ _ z (subst (Mendable (given c.args.mode c.args.tasks.now c.args.jobs.now)) (sym began) c.requires.mendable.0) c.loop-t.invariant.3 c.loop-t.invariant.2 c.look-seen.ensures _ c.choice-lowest.ensures _ (c.loop-t.invariant.6 (omega (arith, more, c.loop-t.invariant.1))) c.kept_or-chosen.ensures (omega (arith, more)) (omega (arith, more, c.loop-t.invariant.1, ap (λ (r : Record). r.tick) began, c.requires.mendable.1)) c.ahead-far.ensures.ticks in lemma_turn) in record { mine = omega (arith, w.within, w.some); theirs = omega (arith, w.within, w.some, c.loop-t.invariant.1, c.requires.jobs_value.1); short = omega (arith, c.loop-t.invariant.1, c.requires.mendable.1) } in lemma_lies) in
    omega (arith, compared_most _ _ _ _ _ ((let lemma_counted : Compared (given c.args.mode c.args.tasks.now c.args.jobs.now) c.started-s.result.«record» c.args.claimed.now (c.loop-t.changed + c.count_others-others.result) (c.loop-t.t + c.ahead-far.result.ticks) = stretch_counts _ _ _ _ _ _ _ _ _ _ _ ((let lemma_turn : Stretch (given c.args.mode c.args.tasks.now c.args.jobs.now) c.started-s.result.«record» c.loop-t.t c.gathered-g.result c.job_count-n.result c.is_se-se.result c.loop-t.s c.look-seen.result c.kept_or-chosen.result (length c.loop-t.into - c.loop-t.t) c.ahead-far.result.ticks = let began = started_record _ _ c.args.start _ c.started-s.ensures in let z = made_setup (given c.args.mode c.args.tasks.now c.args.jobs.now) _ _ _ c.requires.jobs_value.0 c.gathered-g.ensures c.job_count-n.ensures c.is_se-se.ensures in let more : c.loop-t.t < length c.loop-t.into = c.loop-t-test.true in made_stretch (given c.args.mode c.args.tasks.now c.args.jobs.now) _ _ _ _ _ c.loop-t.s _ _ _ _ z (subst (Mendable (given c.args.mode c.args.tasks.now c.args.jobs.now)) (sym began) c.requires.mendable.0) c.loop-t.invariant.3 c.loop-t.invariant.2 c.look-seen.ensures _ c.choice-lowest.ensures _ (c.loop-t.invariant.6 (omega (arith, more, c.loop-t.invariant.1))) c.kept_or-chosen.ensures (omega (arith, more)) (omega (arith, more, c.loop-t.invariant.1, ap (λ (r : Record). r.tick) began, c.requires.mendable.1)) c.ahead-far.ensures.ticks in lemma_turn)) c.args.claimed.now c.loop-t.changed _ c.loop-t.invariant.5 ((let lemma_lies : Lies c.loop-t.t c.ahead-far.result.ticks (length c.loop-t.into) (length c.args.claimed.now) = let w = (let lemma_turn : Stretch (given c.args.mode c.args.tasks.now c.args.jobs.now) c.started-s.result.«record» c.loop-t.t c.gathered-g.result c.job_count-n.result c.is_se-se.result c.loop-t.s c.look-seen.result c.kept_or-chosen.result (length c.loop-t.into - c.loop-t.t) c.ahead-far.result.ticks = let began = started_record _ _ c.args.start _ c.started-s.ensures in let z = made_setup (given c.args.mode c.args.tasks.now c.args.jobs.now) _ _ _ c.requires.jobs_value.0 c.gathered-g.ensures c.job_count-n.ensures c.is_se-se.ensures in let more : c.loop-t.t < length c.loop-t.into = c.loop-t-test.true in made_stretch (given c.args.mode c.args.tasks.now c.args.jobs.now) _ _ _ _ _ c.loop-t.s _ _ _ _ z (subst (Mendable (given c.args.mode c.args.tasks.now c.args.jobs.now)) (sym began) c.requires.mendable.0) c.loop-t.invariant.3 c.loop-t.invariant.2 c.look-seen.ensures _ c.choice-lowest.ensures _ (c.loop-t.invariant.6 (omega (arith, more, c.loop-t.invariant.1))) c.kept_or-chosen.ensures (omega (arith, more)) (omega (arith, more, c.loop-t.invariant.1, ap (λ (r : Record). r.tick) began, c.requires.mendable.1)) c.ahead-far.ensures.ticks in lemma_turn) in record { mine = omega (arith, w.within, w.some); theirs = omega (arith, w.within, w.some, c.loop-t.invariant.1, c.requires.jobs_value.1); short = omega (arith, c.loop-t.invariant.1, c.requires.mendable.1) } in lemma_lies)).theirs c.count_others-others.ensures in lemma_counted)) l.theirs, l.mine, l.short)

pub loop-t-smaller : goal.loop-t-smaller
loop-t-smaller c = omega (arith, ((let lemma_turn : Stretch (given c.args.mode c.args.tasks.now c.args.jobs.now) c.started-s.result.«record» c.loop-t.t c.gathered-g.result c.job_count-n.result c.is_se-se.result c.loop-t.s c.look-seen.result c.kept_or-chosen.result (length c.loop-t.into - c.loop-t.t) c.ahead-far.result.ticks = let began = started_record _ _ c.args.start _ c.started-s.ensures in let z = made_setup (given c.args.mode c.args.tasks.now c.args.jobs.now) _ _ _ c.requires.jobs_value.0 c.gathered-g.ensures c.job_count-n.ensures c.is_se-se.ensures in let more : c.loop-t.t < length c.loop-t.into = c.loop-t-test.true in made_stretch (given c.args.mode c.args.tasks.now c.args.jobs.now) _ _ _ _ _ c.loop-t.s _ _ _ _ z (subst (Mendable (given c.args.mode c.args.tasks.now c.args.jobs.now)) (sym began) c.requires.mendable.0) c.loop-t.invariant.3 c.loop-t.invariant.2 c.look-seen.ensures _ c.choice-lowest.ensures _ (c.loop-t.invariant.6 (omega (arith, more, c.loop-t.invariant.1))) c.kept_or-chosen.ensures (omega (arith, more)) (omega (arith, more, c.loop-t.invariant.1, ap (λ (r : Record). r.tick) began, c.requires.mendable.1)) c.ahead-far.ensures.ticks in lemma_turn)).one, ((let lemma_lies : Lies c.loop-t.t c.ahead-far.result.ticks (length c.loop-t.into) (length c.args.claimed.now) = let w = (let lemma_turn : Stretch (given c.args.mode c.args.tasks.now c.args.jobs.now) c.started-s.result.«record» c.loop-t.t c.gathered-g.result c.job_count-n.result c.is_se-se.result c.loop-t.s c.look-seen.result c.kept_or-chosen.result (length c.loop-t.into - c.loop-t.t) c.ahead-far.result.ticks = let began = started_record _ _ c.args.start _ c.started-s.ensures in let z = made_setup (given c.args.mode c.args.tasks.now c.args.jobs.now) _ _ _ c.requires.jobs_value.0 c.gathered-g.ensures c.job_count-n.ensures c.is_se-se.ensures in let more : c.loop-t.t < length c.loop-t.into = c.loop-t-test.true in made_stretch (given c.args.mode c.args.tasks.now c.args.jobs.now) _ _ _ _ _ c.loop-t.s _ _ _ _ z (subst (Mendable (given c.args.mode c.args.tasks.now c.args.jobs.now)) (sym began) c.requires.mendable.0) c.loop-t.invariant.3 c.loop-t.invariant.2 c.look-seen.ensures _ c.choice-lowest.ensures _ (c.loop-t.invariant.6 (omega (arith, more, c.loop-t.invariant.1))) c.kept_or-chosen.ensures (omega (arith, more)) (omega (arith, more, c.loop-t.invariant.1, ap (λ (r : Record). r.tick) began, c.requires.mendable.1)) c.ahead-far.ensures.ticks in lemma_turn) in record { mine = omega (arith, w.within, w.some); theirs = omega (arith, w.within, w.some, c.loop-t.invariant.1, c.requires.jobs_value.1); short = omega (arith, c.loop-t.invariant.1, c.requires.mendable.1) } in lemma_lies)).mine, c.loop-t.invariant.1)

pub loop-t-preserved : goal.loop-t-preserved
loop-t-preserved c =
    let w = (let lemma_turn : Stretch (given c.args.mode c.args.tasks.now c.args.jobs.now) c.started-s.result.«record» c.loop-t.t c.gathered-g.result c.job_count-n.result c.is_se-se.result c.loop-t.s c.look-seen.result c.kept_or-chosen.result (length c.loop-t.into - c.loop-t.t) c.ahead-far.result.ticks = let began = started_record _ _ c.args.start _ c.started-s.ensures in let z = made_setup (given c.args.mode c.args.tasks.now c.args.jobs.now) _ _ _ c.requires.jobs_value.0 c.gathered-g.ensures c.job_count-n.ensures c.is_se-se.ensures in let more : c.loop-t.t < length c.loop-t.into = c.loop-t-test.true in made_stretch (given c.args.mode c.args.tasks.now c.args.jobs.now) _ _ _ _ _ c.loop-t.s _ _ _ _ z (subst (Mendable (given c.args.mode c.args.tasks.now c.args.jobs.now)) (sym began) c.requires.mendable.0) c.loop-t.invariant.3 c.loop-t.invariant.2 c.look-seen.ensures _ c.choice-lowest.ensures _ (c.loop-t.invariant.6 (omega (arith, more, c.loop-t.invariant.1))) c.kept_or-chosen.ensures (omega (arith, more)) (omega (arith, more, c.loop-t.invariant.1, ap (λ (r : Record). r.tick) began, c.requires.mendable.1)) c.ahead-far.ensures.ticks in lemma_turn) in
    let l = (let lemma_lies : Lies c.loop-t.t c.ahead-far.result.ticks (length c.loop-t.into) (length c.args.claimed.now) = let w = (let lemma_turn : Stretch (given c.args.mode c.args.tasks.now c.args.jobs.now) c.started-s.result.«record» c.loop-t.t c.gathered-g.result c.job_count-n.result c.is_se-se.result c.loop-t.s c.look-seen.result c.kept_or-chosen.result (length c.loop-t.into - c.loop-t.t) c.ahead-far.result.ticks = let began = started_record _ _ c.args.start _ c.started-s.ensures in let z = made_setup (given c.args.mode c.args.tasks.now c.args.jobs.now) _ _ _ c.requires.jobs_value.0 c.gathered-g.ensures c.job_count-n.ensures c.is_se-se.ensures in let more : c.loop-t.t < length c.loop-t.into = c.loop-t-test.true in made_stretch (given c.args.mode c.args.tasks.now c.args.jobs.now) _ _ _ _ _ c.loop-t.s _ _ _ _ z (subst (Mendable (given c.args.mode c.args.tasks.now c.args.jobs.now)) (sym began) c.requires.mendable.0) c.loop-t.invariant.3 c.loop-t.invariant.2 c.look-seen.ensures _ c.choice-lowest.ensures _ (c.loop-t.invariant.6 (omega (arith, more, c.loop-t.invariant.1))) c.kept_or-chosen.ensures (omega (arith, more)) (omega (arith, more, c.loop-t.invariant.1, ap (λ (r : Record). r.tick) began, c.requires.mendable.1)) c.ahead-far.ensures.ticks in lemma_turn) in record { mine = omega (arith, w.within, w.some); theirs = omega (arith, w.within, w.some, c.loop-t.invariant.1, c.requires.jobs_value.1); short = omega (arith, c.loop-t.invariant.1, c.requires.mendable.1) } in lemma_lies) in
    let next = stretch_next _ _ _ _ _ _ _ _ _ _ _ w _ c.ahead-far.ensures.early _ c.leap-s.ensures in (
      omega (arith, l.mine, c.loop-t.invariant.1),
      sets_length c.loop-t.into (replicate c.ahead-far.result.ticks _) c.loop-t.t c.fill.ensures ∙ c.loop-t.invariant.1,
      next.0,
      next.1,
      stretch_fills _ _ _ _ _ _ _ _ _ _ _ w c.loop-t.into _ c.loop-t.invariant.4 l.mine c.fill.ensures,
      (let lemma_counted : Compared (given c.args.mode c.args.tasks.now c.args.jobs.now) c.started-s.result.«record» c.args.claimed.now (c.loop-t.changed + c.count_others-others.result) (c.loop-t.t + c.ahead-far.result.ticks) = stretch_counts _ _ _ _ _ _ _ _ _ _ _ ((let lemma_turn : Stretch (given c.args.mode c.args.tasks.now c.args.jobs.now) c.started-s.result.«record» c.loop-t.t c.gathered-g.result c.job_count-n.result c.is_se-se.result c.loop-t.s c.look-seen.result c.kept_or-chosen.result (length c.loop-t.into - c.loop-t.t) c.ahead-far.result.ticks = let began = started_record _ _ c.args.start _ c.started-s.ensures in let z = made_setup (given c.args.mode c.args.tasks.now c.args.jobs.now) _ _ _ c.requires.jobs_value.0 c.gathered-g.ensures c.job_count-n.ensures c.is_se-se.ensures in let more : c.loop-t.t < length c.loop-t.into = c.loop-t-test.true in made_stretch (given c.args.mode c.args.tasks.now c.args.jobs.now) _ _ _ _ _ c.loop-t.s _ _ _ _ z (subst (Mendable (given c.args.mode c.args.tasks.now c.args.jobs.now)) (sym began) c.requires.mendable.0) c.loop-t.invariant.3 c.loop-t.invariant.2 c.look-seen.ensures _ c.choice-lowest.ensures _ (c.loop-t.invariant.6 (omega (arith, more, c.loop-t.invariant.1))) c.kept_or-chosen.ensures (omega (arith, more)) (omega (arith, more, c.loop-t.invariant.1, ap (λ (r : Record). r.tick) began, c.requires.mendable.1)) c.ahead-far.ensures.ticks in lemma_turn)) c.args.claimed.now c.loop-t.changed _ c.loop-t.invariant.5 ((let lemma_lies : Lies c.loop-t.t c.ahead-far.result.ticks (length c.loop-t.into) (length c.args.claimed.now) = let w = (let lemma_turn : Stretch (given c.args.mode c.args.tasks.now c.args.jobs.now) c.started-s.result.«record» c.loop-t.t c.gathered-g.result c.job_count-n.result c.is_se-se.result c.loop-t.s c.look-seen.result c.kept_or-chosen.result (length c.loop-t.into - c.loop-t.t) c.ahead-far.result.ticks = let began = started_record _ _ c.args.start _ c.started-s.ensures in let z = made_setup (given c.args.mode c.args.tasks.now c.args.jobs.now) _ _ _ c.requires.jobs_value.0 c.gathered-g.ensures c.job_count-n.ensures c.is_se-se.ensures in let more : c.loop-t.t < length c.loop-t.into = c.loop-t-test.true in made_stretch (given c.args.mode c.args.tasks.now c.args.jobs.now) _ _ _ _ _ c.loop-t.s _ _ _ _ z (subst (Mendable (given c.args.mode c.args.tasks.now c.args.jobs.now)) (sym began) c.requires.mendable.0) c.loop-t.invariant.3 c.loop-t.invariant.2 c.look-seen.ensures _ c.choice-lowest.ensures _ (c.loop-t.invariant.6 (omega (arith, more, c.loop-t.invariant.1))) c.kept_or-chosen.ensures (omega (arith, more)) (omega (arith, more, c.loop-t.invariant.1, ap (λ (r : Record). r.tick) began, c.requires.mendable.1)) c.ahead-far.ensures.ticks in lemma_turn) in record { mine = omega (arith, w.within, w.some); theirs = omega (arith, w.within, w.some, c.loop-t.invariant.1, c.requires.jobs_value.1); short = omega (arith, c.loop-t.invariant.1, c.requires.mendable.1) } in lemma_lies)).theirs c.count_others-others.ensures in lemma_counted),
      λ b. stretch_ends _ _ _ _ _ _ _ _ _ _ _ w _ c.ahead-far.ensures.early _ c.leap-s.ensures (omega (arith, b, l.mine, c.loop-t.invariant.1)),
    )

pub shape_of-into : goal.shape_of-into
shape_of-into c = c.loop-t.invariant.1

pub returns : goal.returns
returns c =
    let x = given c.args.mode c.args.tasks.now c.args.jobs.now in
    let size = length c.args.into.now in
    let last : c.loop-t.t ≡ size = omega (arith, c.loop-t.invariant.0, c.loop-t.invariant.1) in
    let run = ap (entries_by x (mend_choice x) _) last
    ∙ ap (λ (r : Record). entries_by x (mend_choice x) r size) (started_record _ _ c.args.start _ c.started-s.ensures) in record { counts = c.loop-t.invariant.5 ∙ ap₂ differing (take_all c.loop-t.t c.args.claimed.now (omega (arith, last, c.requires.jobs_value.1))) run; writes = sym (take_all c.loop-t.t c.loop-t.into (omega (arith, last, c.loop-t.invariant.1))) ∙ c.loop-t.invariant.4 ∙ run }
