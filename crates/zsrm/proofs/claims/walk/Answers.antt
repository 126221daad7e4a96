use Prim.Native.Nat.{◌-◌, ◌≤◌}
use mathlib.Core.Bool.{true}
use mathlib.Core.Path.{◌≡◌, refl, sym, ◌∙◌}
use native.Mathlib.Omega.{arith}
use lib.ListN.{get_or, length}
use borrow.Author.Rules.{rules}
use Rattle.tables.proofs.Laws.Accepted.{lists_few}
use Rattle.zsrm.specs.Given.{given, is_se}
use Rattle.zsrm.specs.Tick.{candidate_or_idle}
use Rattle.zsrm.proofs.Laws.Claims.{replaying_ends}
use Rattle.zsrm.proofs.Laws.Leaps.{walking_none}
use Rattle.zsrm.proofs.Laws.Turns.{first_kept, made_setup, Setup, setup_fits, turn_fits, turn_may, turn_within}
use Rattle.zsrm.proofs.Laws.Turns.{Walks, walk_room, walk_stops, walk_turns}
use Rattle.zsrm.proofs.Laws.Underway.{started_record}
use Rattle.zsrm.proofs.claims.walk.Goals as goal

pub started-s-requires : goal.started-s-requires
started-s-requires c = omega (arith, c.job_count-n.ensures, lists_few _ c.requires.0)

pub loop-t-init : goal.loop-t-init
loop-t-init c =
    let a = c.args in
    let x = given a.mode a.tasks.now a.jobs.now in
    let z = made_setup x _ _ (is_se a.mode) c.requires.0 c.gathered-g.ensures c.job_count-n.ensures refl in
    let w = walking_none x a.schedule.now _ (started_record _ _ _ _ c.started-s.ensures ∙ c.fresh_record.ensures) in
    (omega arith, c.requires.1, w.replaying, (λ _. w.free), first_kept x _ _ _ z _ _ c.started-s.ensures)

pub is_top_or_idle-requires : goal.is_top_or_idle-requires
is_top_or_idle-requires c = setup_fits _ _ _ _ ((let lemma_setup : let a = c.args in Setup (given a.mode a.tasks.now a.jobs.now) c.gathered-g.result c.job_count-n.result c.is_se-se.result = made_setup _ _ _ _ c.requires.0 c.gathered-g.ensures c.job_count-n.ensures c.is_se-se.ensures in lemma_setup))

-- the entry may run
pub overflow_cast-most : goal.overflow_cast-most
overflow_cast-most c = let short = c.loop-t.invariant.1 in search rules

pub ahead-far-requires : goal.ahead-far-requires
ahead-far-requires c = setup_fits _ _ _ _ ((let lemma_setup : let a = c.args in Setup (given a.mode a.tasks.now a.jobs.now) c.gathered-g.result c.job_count-n.result c.is_se-se.result = made_setup _ _ _ _ c.requires.0 c.gathered-g.ensures c.job_count-n.ensures c.is_se-se.ensures in lemma_setup))

pub repeats-k-requires : goal.repeats-k-requires
repeats-k-requires c =
    let w = c.loop-t.invariant in
    let some : 1 ≤ length c.args.schedule.now - c.loop-t.t = omega (arith, c.loop-t-test.true) in
    let within = turn_within _ _ _ _ ((let lemma_setup : let a = c.args in Setup (given a.mode a.tasks.now a.jobs.now) c.gathered-g.result c.job_count-n.result c.is_se-se.result = made_setup _ _ _ _ c.requires.0 c.gathered-g.ensures c.job_count-n.ensures c.is_se-se.ensures in lemma_setup)) c.loop-t.s w.4 _ c.look-seen.ensures w.2.sound _ ((let lemma_may : let a = c.args in candidate_or_idle (given a.mode a.tasks.now a.jobs.now) c.loop-t.s.«record» (get_or a.schedule.now c.loop-t.t 0) ≡ true = let w = c.loop-t.invariant in sym (turn_may _ _ _ _ ((let lemma_setup : let a = c.args in Setup (given a.mode a.tasks.now a.jobs.now) c.gathered-g.result c.job_count-n.result c.is_se-se.result = made_setup _ _ _ _ c.requires.0 c.gathered-g.ensures c.job_count-n.ensures c.is_se-se.ensures in lemma_setup)) c.loop-t.s w.4 _ c.look-seen.ensures _ _ c.is_top_or_idle.ensures) ∙ c.if-is_top_or_idle.true in lemma_may)) _ _ some c.ahead-far.ensures.ticks in
    omega (arith, within, c.loop-t-test.true)

pub leap-s-requires : goal.leap-s-requires
leap-s-requires c =
    let w = c.loop-t.invariant in
    let room = walk_room _ _ _ _ ((let lemma_setup : let a = c.args in Setup (given a.mode a.tasks.now a.jobs.now) c.gathered-g.result c.job_count-n.result c.is_se-se.result = made_setup _ _ _ _ c.requires.0 c.gathered-g.ensures c.job_count-n.ensures c.is_se-se.ensures in lemma_setup)) c.loop-t.s w.4 _ c.look-seen.ensures _ w.1 c.loop-t.t w.2 w.3 c.loop-t-test.true _ refl
    ((let lemma_may : let a = c.args in candidate_or_idle (given a.mode a.tasks.now a.jobs.now) c.loop-t.s.«record» (get_or a.schedule.now c.loop-t.t 0) ≡ true = let w = c.loop-t.invariant in sym (turn_may _ _ _ _ ((let lemma_setup : let a = c.args in Setup (given a.mode a.tasks.now a.jobs.now) c.gathered-g.result c.job_count-n.result c.is_se-se.result = made_setup _ _ _ _ c.requires.0 c.gathered-g.ensures c.job_count-n.ensures c.is_se-se.ensures in lemma_setup)) c.loop-t.s w.4 _ c.look-seen.ensures _ _ c.is_top_or_idle.ensures) ∙ c.if-is_top_or_idle.true in lemma_may)) _ c.ahead-far.ensures.ticks _ c.repeats-k.ensures in let both = turn_fits _ _ _ _ ((let lemma_setup : let a = c.args in Setup (given a.mode a.tasks.now a.jobs.now) c.gathered-g.result c.job_count-n.result c.is_se-se.result = made_setup _ _ _ _ c.requires.0 c.gathered-g.ensures c.job_count-n.ensures c.is_se-se.ensures in lemma_setup)) c.loop-t.s w.4 _ c.look-seen.ensures w.2.sound _ ((let lemma_may : let a = c.args in candidate_or_idle (given a.mode a.tasks.now a.jobs.now) c.loop-t.s.«record» (get_or a.schedule.now c.loop-t.t 0) ≡ true = let w = c.loop-t.invariant in sym (turn_may _ _ _ _ ((let lemma_setup : let a = c.args in Setup (given a.mode a.tasks.now a.jobs.now) c.gathered-g.result c.job_count-n.result c.is_se-se.result = made_setup _ _ _ _ c.requires.0 c.gathered-g.ensures c.job_count-n.ensures c.is_se-se.ensures in lemma_setup)) c.loop-t.s w.4 _ c.look-seen.ensures _ _ c.is_top_or_idle.ensures) ∙ c.if-is_top_or_idle.true in lemma_may)) _ room in
    record { n_bound = both.0; k_bound = both.1 }

pub overflow_add-t : goal.overflow_add-t
overflow_add-t c = let room = ((let lemma_turn : let a = c.args in Walks (given a.mode a.tasks.now a.jobs.now) a.schedule.now c.loop-t.t c.ahead-far.result.ticks c.repeats-k.result c.leap-s.result = let w = c.loop-t.invariant in walk_turns _ _ _ _ ((let lemma_setup : let a = c.args in Setup (given a.mode a.tasks.now a.jobs.now) c.gathered-g.result c.job_count-n.result c.is_se-se.result = made_setup _ _ _ _ c.requires.0 c.gathered-g.ensures c.job_count-n.ensures c.is_se-se.ensures in lemma_setup)) c.loop-t.s w.4 _ c.look-seen.ensures _ w.1 c.loop-t.t w.2 w.3 c.loop-t-test.true _ refl ((let lemma_may : let a = c.args in candidate_or_idle (given a.mode a.tasks.now a.jobs.now) c.loop-t.s.«record» (get_or a.schedule.now c.loop-t.t 0) ≡ true = let w = c.loop-t.invariant in sym (turn_may _ _ _ _ ((let lemma_setup : let a = c.args in Setup (given a.mode a.tasks.now a.jobs.now) c.gathered-g.result c.job_count-n.result c.is_se-se.result = made_setup _ _ _ _ c.requires.0 c.gathered-g.ensures c.job_count-n.ensures c.is_se-se.ensures in lemma_setup)) c.loop-t.s w.4 _ c.look-seen.ensures _ _ c.is_top_or_idle.ensures) ∙ c.if-is_top_or_idle.true in lemma_may)) _ c.ahead-far.ensures.ticks _ c.repeats-k.ensures _ c.ahead-far.ensures.early _ c.leap-s.ensures in lemma_turn)).room in search rules

pub overflow_cast-result : goal.overflow_cast-result
overflow_cast-result c = let room = ((let lemma_turn : let a = c.args in Walks (given a.mode a.tasks.now a.jobs.now) a.schedule.now c.loop-t.t c.ahead-far.result.ticks c.repeats-k.result c.leap-s.result = let w = c.loop-t.invariant in walk_turns _ _ _ _ ((let lemma_setup : let a = c.args in Setup (given a.mode a.tasks.now a.jobs.now) c.gathered-g.result c.job_count-n.result c.is_se-se.result = made_setup _ _ _ _ c.requires.0 c.gathered-g.ensures c.job_count-n.ensures c.is_se-se.ensures in lemma_setup)) c.loop-t.s w.4 _ c.look-seen.ensures _ w.1 c.loop-t.t w.2 w.3 c.loop-t-test.true _ refl ((let lemma_may : let a = c.args in candidate_or_idle (given a.mode a.tasks.now a.jobs.now) c.loop-t.s.«record» (get_or a.schedule.now c.loop-t.t 0) ≡ true = let w = c.loop-t.invariant in sym (turn_may _ _ _ _ ((let lemma_setup : let a = c.args in Setup (given a.mode a.tasks.now a.jobs.now) c.gathered-g.result c.job_count-n.result c.is_se-se.result = made_setup _ _ _ _ c.requires.0 c.gathered-g.ensures c.job_count-n.ensures c.is_se-se.ensures in lemma_setup)) c.loop-t.s w.4 _ c.look-seen.ensures _ _ c.is_top_or_idle.ensures) ∙ c.if-is_top_or_idle.true in lemma_may)) _ c.ahead-far.ensures.ticks _ c.repeats-k.ensures _ c.ahead-far.ensures.early _ c.leap-s.ensures in lemma_turn)).room in search rules

pub returns-then-k-far : goal.returns-then-k-far
returns-then-k-far c = ((let lemma_turn : let a = c.args in Walks (given a.mode a.tasks.now a.jobs.now) a.schedule.now c.loop-t.t c.ahead-far.result.ticks c.repeats-k.result c.leap-s.result = let w = c.loop-t.invariant in walk_turns _ _ _ _ ((let lemma_setup : let a = c.args in Setup (given a.mode a.tasks.now a.jobs.now) c.gathered-g.result c.job_count-n.result c.is_se-se.result = made_setup _ _ _ _ c.requires.0 c.gathered-g.ensures c.job_count-n.ensures c.is_se-se.ensures in lemma_setup)) c.loop-t.s w.4 _ c.look-seen.ensures _ w.1 c.loop-t.t w.2 w.3 c.loop-t-test.true _ refl ((let lemma_may : let a = c.args in candidate_or_idle (given a.mode a.tasks.now a.jobs.now) c.loop-t.s.«record» (get_or a.schedule.now c.loop-t.t 0) ≡ true = let w = c.loop-t.invariant in sym (turn_may _ _ _ _ ((let lemma_setup : let a = c.args in Setup (given a.mode a.tasks.now a.jobs.now) c.gathered-g.result c.job_count-n.result c.is_se-se.result = made_setup _ _ _ _ c.requires.0 c.gathered-g.ensures c.job_count-n.ensures c.is_se-se.ensures in lemma_setup)) c.loop-t.s w.4 _ c.look-seen.ensures _ _ c.is_top_or_idle.ensures) ∙ c.if-is_top_or_idle.true in lemma_may)) _ c.ahead-far.ensures.ticks _ c.repeats-k.ensures _ c.ahead-far.ensures.early _ c.leap-s.ensures in lemma_turn)).breaks c.if-k-far.true

pub loop-t-smaller : goal.loop-t-smaller
loop-t-smaller c = let w = (let lemma_turn : let a = c.args in Walks (given a.mode a.tasks.now a.jobs.now) a.schedule.now c.loop-t.t c.ahead-far.result.ticks c.repeats-k.result c.leap-s.result = let w = c.loop-t.invariant in walk_turns _ _ _ _ ((let lemma_setup : let a = c.args in Setup (given a.mode a.tasks.now a.jobs.now) c.gathered-g.result c.job_count-n.result c.is_se-se.result = made_setup _ _ _ _ c.requires.0 c.gathered-g.ensures c.job_count-n.ensures c.is_se-se.ensures in lemma_setup)) c.loop-t.s w.4 _ c.look-seen.ensures _ w.1 c.loop-t.t w.2 w.3 c.loop-t-test.true _ refl ((let lemma_may : let a = c.args in candidate_or_idle (given a.mode a.tasks.now a.jobs.now) c.loop-t.s.«record» (get_or a.schedule.now c.loop-t.t 0) ≡ true = let w = c.loop-t.invariant in sym (turn_may _ _ _ _ ((let lemma_setup : let a = c.args in Setup (given a.mode a.tasks.now a.jobs.now) c.gathered-g.result c.job_count-n.result c.is_se-se.result = made_setup _ _ _ _ c.requires.0 c.gathered-g.ensures c.job_count-n.ensures c.is_se-se.ensures in lemma_setup)) c.loop-t.s w.4 _ c.look-seen.ensures _ _ c.is_top_or_idle.ensures) ∙ c.if-is_top_or_idle.true in lemma_may)) _ c.ahead-far.ensures.ticks _ c.repeats-k.ensures _ c.ahead-far.ensures.early _ c.leap-s.ensures in lemma_turn) in omega (arith, w.one, w.within)

pub loop-t-preserved : goal.loop-t-preserved
loop-t-preserved c =
    let w = (let lemma_turn : let a = c.args in Walks (given a.mode a.tasks.now a.jobs.now) a.schedule.now c.loop-t.t c.ahead-far.result.ticks c.repeats-k.result c.leap-s.result = let w = c.loop-t.invariant in walk_turns _ _ _ _ ((let lemma_setup : let a = c.args in Setup (given a.mode a.tasks.now a.jobs.now) c.gathered-g.result c.job_count-n.result c.is_se-se.result = made_setup _ _ _ _ c.requires.0 c.gathered-g.ensures c.job_count-n.ensures c.is_se-se.ensures in lemma_setup)) c.loop-t.s w.4 _ c.look-seen.ensures _ w.1 c.loop-t.t w.2 w.3 c.loop-t-test.true _ refl ((let lemma_may : let a = c.args in candidate_or_idle (given a.mode a.tasks.now a.jobs.now) c.loop-t.s.«record» (get_or a.schedule.now c.loop-t.t 0) ≡ true = let w = c.loop-t.invariant in sym (turn_may _ _ _ _ ((let lemma_setup : let a = c.args in Setup (given a.mode a.tasks.now a.jobs.now) c.gathered-g.result c.job_count-n.result c.is_se-se.result = made_setup _ _ _ _ c.requires.0 c.gathered-g.ensures c.job_count-n.ensures c.is_se-se.ensures in lemma_setup)) c.loop-t.s w.4 _ c.look-seen.ensures _ _ c.is_top_or_idle.ensures) ∙ c.if-is_top_or_idle.true in lemma_may)) _ c.ahead-far.ensures.ticks _ c.repeats-k.ensures _ c.ahead-far.ensures.early _ c.leap-s.ensures in lemma_turn) in
    let on = w.on c.if-k-far.false in
    (w.within, c.loop-t.invariant.1, on.0, on.1, w.kept)

pub overflow_cast-result-else-is_top_or_idle : goal.overflow_cast-result-else-is_top_or_idle
overflow_cast-result-else-is_top_or_idle c = let w = c.loop-t.invariant in let short = w.1 in let here = w.0 in search rules

pub returns-else-is_top_or_idle : goal.returns-else-is_top_or_idle
returns-else-is_top_or_idle c =
    let w = c.loop-t.invariant in
    walk_stops _ _ _ _ ((let lemma_setup : let a = c.args in Setup (given a.mode a.tasks.now a.jobs.now) c.gathered-g.result c.job_count-n.result c.is_se-se.result = made_setup _ _ _ _ c.requires.0 c.gathered-g.ensures c.job_count-n.ensures c.is_se-se.ensures in lemma_setup)) c.loop-t.s w.4 _ c.look-seen.ensures _ w.1 c.loop-t.t w.2 w.3 c.loop-t-test.true _ refl
    (sym (turn_may _ _ _ _ ((let lemma_setup : let a = c.args in Setup (given a.mode a.tasks.now a.jobs.now) c.gathered-g.result c.job_count-n.result c.is_se-se.result = made_setup _ _ _ _ c.requires.0 c.gathered-g.ensures c.job_count-n.ensures c.is_se-se.ensures in lemma_setup)) c.loop-t.s w.4 _ c.look-seen.ensures _ _ c.is_top_or_idle.ensures) ∙ c.if-is_top_or_idle.false)

pub overflow_cast-result-2 : goal.overflow_cast-result-2
overflow_cast-result-2 c = let w = c.loop-t.invariant in let short = w.1 in let here = w.0 in search rules

pub returns : goal.returns
returns c = replaying_ends _ _ c.loop-t.s.«record» c.loop-t.t c.loop-t.invariant.2 (omega arith)
