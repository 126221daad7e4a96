-- Mending a claim. What is chosen after an entry that could run is that entry again where the tick is no scheduling instant, and so may run
-- still, and else the lowest candidate: so mending goes on legally after every legal beginning, as Stay does. At the claim's first illegal
-- tick the mended entry is legal, so it differs; before it nothing does. A legal claim is its own longest legal beginning.
use Prim.Native.Nat.{◌+◌, ◌-◌, ◌<◌, suc, zero, ℕ, ◌≤◌}
use mathlib.Core.Bool.{Bool, cond, false, not, true}
use mathlib.Core.List.{◌++◌, append-nil, List, ◌∷◌}
use mathlib.Core.Logic.{◌↔◌, ⊎_elim}
use mathlib.Core.Path.{ap, ap₂, refl, subst, sym, ◌∙◌, ◌≡◌}
use native.Mathlib.Omega.{arith}
use lib.Dec.{eqb}
use lib.ListN.{drop, get_or, length, length-append, get_or-append, take, take-append-drop}
use lib.Seq.{get_or-append-add, get_or-take, length-take-le, take_all, take-append-add, take_at}
use borrow.Author.Tests.{eq-eqb, eqb-true, ne_eqb, not-false}
use Rattle.bits.specs.Below.{count}
use Rattle.bits.proofs.Laws.Below.{count_most, count_none, count_parts, count_same, count_some}
use Rattle.bits.proofs.Laws.Bools.{by_cond, either, apart}
use Rattle.std.specs.Prelude.{Ok}
use Rattle.tables.specs.Outcomes.{Done, Refused}
use Rattle.tables.specs.Refusals.{before, check10, refuse, check_schedule}
use Rattle.tables.specs.Tables.{idle, job_count, Lists}
use Rattle.tables.proofs.Laws.Accepted.{lists_few, Accepted, accepted}
use Rattle.tables.proofs.Laws.Refusals.{before_first, before_second, refuse_fine, unless_done, unless_refused}
use Rattle.zsrm.specs.declared.answers.Claim.{Claim}
use Rattle.zsrm.specs.declared.answers.Mended.{Mended}
use Rattle.zsrm.specs.declared.record.Record.{Record}
use Rattle.zsrm.specs.declared.tie.Tie.TheVariants.{Lowest, Stay}
use Rattle.zsrm.specs.Answers.{check_mend, claim_answer, mend_answer, mend_schedule}
use Rattle.zsrm.specs.Code.Claims.{Mendable}
use Rattle.zsrm.specs.Given.{Given}
use Rattle.zsrm.specs.Legal.{claim, is_legal, legal_entry, legal_length, scheduling_instant}
use Rattle.zsrm.specs.Mend.{differing, differs, mend, mend_choice, mended}
use Rattle.zsrm.specs.Record.{fresh}
use Rattle.zsrm.specs.Run.{entries_by, final_by, record_at, record_before, replay, replayed}
use Rattle.zsrm.specs.Said.{claim_said, mended_said}
use Rattle.zsrm.specs.Tick.{advanced, candidate_or_idle, choice}
use Rattle.zsrm.proofs.Laws.Answers.{whole_legal}
use Rattle.zsrm.proofs.Laws.Choice.{choice_may}
use Rattle.zsrm.proofs.Laws.Consistent.{advanced_consistent, fresh_consistent}
use Rattle.zsrm.proofs.Laws.Going.{entries_none}
use Rattle.zsrm.proofs.Laws.Places.{previous_advanced, previous_fresh, tick_advanced, tick_fresh}
use Rattle.zsrm.proofs.Laws.Replay.{beginning, kept_at, legal_may, legal_prefix, replayed_is, legal_at_fresh, legal_by, replay_append}
use Rattle.zsrm.proofs.Laws.Run.{Resuming, get_or_entries, length_entries, resumed_legal, stay_goes_on, take_entries}
use Rattle.zsrm.proofs.Laws.Said.{claim_said_law, mended_said_law}
use Rattle.zsrm.proofs.Readings.{claim_legal, claim_not_legal, mend_else, mend_keeps}
use Rattle.zsrm.specs.declared.answers.Claim.TheVariants as claims
use Rattle.zsrm.specs.declared.answers.Mended.TheVariants as mends

-- how many entries differ: in lists that are joined in one place, in a list beside itself, and at most
pub differing_append : (a b c d : List ℕ) → length a ≡ length c → differing (a ++ b) (c ++ d) ≡ differing a c + differing b d
unfolding differing differs
differing_append a b c d same =
    let both = differs (a ++ b) (c ++ d) in
    let front : count (length a) both ≡ count (length a) (differs a c) =
    count_same both (differs a c) (length a) (λ i l.
    ap₂ (λ (x y : ℕ). not (eqb x y)) (get_or-append a b idle i l) (get_or-append c d idle i (omega (arith, l, same)))) in
    let back : count (length b) (λ i. both (length a + i)) ≡ count (length b) (differs b d) =
    count_same (λ i. both (length a + i)) (differs b d) (length b) (λ i l.
    ap₂ (λ (x y : ℕ). not (eqb x y)) (get_or-append-add a b i idle) (ap (λ (n : ℕ). get_or (c ++ d) (n + i) idle) same ∙ get_or-append-add c d i idle)) in
    ap (λ (n : ℕ). count n both) (length-append a b) ∙ count_parts both (length a) (length b) ∙ omega (arith, front, back)

differing_self : (l : List ℕ) → differing l l ≡ 0
unfolding differing differs
differing_self l = count_none (differs l l) (length l) (λ i h. rw (eq-eqb (get_or l i idle) (get_or l i idle) refl))

pub differing_most : (a b : List ℕ) → differing a b ≤ length a
unfolding differing
differing_most a b = count_most (differs a b) (length a)

-- behind a beginning that is the claim's, only the rest differs
pub differing_rest : (claimed es : List ℕ) (k : ℕ) → differing claimed (take k claimed ++ es) ≡ differing (drop k claimed) es
differing_rest claimed es k =
    ap (λ (l : List ℕ). differing l (take k claimed ++ es)) (sym (take-append-drop k claimed)) ∙ differing_append (take k claimed) (drop k claimed) (take k claimed) es refl
    ∙ omega (arith, differing_self (take k claimed))

module _ (g : Given) where
  -- after an entry, and at the fresh record
  instant_after : (r : Record) (e : ℕ) → scheduling_instant g (advanced g r e) (advanced g r e).previous ≡ scheduling_instant g (advanced g r e) e
  instant_after r e = ap (scheduling_instant g (advanced g r e)) (previous_advanced g r e)

  kept_after : (r : Record) (e : ℕ) → scheduling_instant g (advanced g r e) e ≡ false → mend_choice g (advanced g r e) ≡ e
  kept_after r e q = mend_keeps g (advanced g r e) (rw tick_advanced (omega arith)) (instant_after r e ∙ q) ∙ previous_advanced g r e

  lowest_after : (r : Record) (e : ℕ) → scheduling_instant g (advanced g r e) e ≡ true → mend_choice g (advanced g r e) ≡ choice g Lowest (advanced g r e)
  lowest_after r e q = mend_else g (advanced g r e) (λ l. instant_after r e ∙ q)

  lowest_fresh : mend_choice g (fresh g.lists.jobs) ≡ choice g Lowest (fresh g.lists.jobs)
  lowest_fresh = mend_else g (fresh g.lists.jobs) (λ l. absurd (omega (arith, tick_fresh g.lists.jobs)))

  module _ (few : job_count g.lists.jobs ≤ 64) where
    pub mend_resumes : Resuming g (mend_choice g)
    mend_resumes =
        record {
          begins = legal_at_fresh g _ (ap (candidate_or_idle g (fresh g.lists.jobs)) lowest_fresh ∙ choice_may g Lowest (fresh g.lists.jobs));
          resumes = λ r e may sound. legal_by g (advanced g r e) e _ (⊎_elim
              (λ q. ap (candidate_or_idle g (advanced g r e)) (lowest_after r e q) ∙ choice_may g Lowest (advanced g r e))
              (λ q. ap (candidate_or_idle g (advanced g r e)) (kept_after r e q ∙ sym (stay_goes_on g few r e may sound q)) ∙ choice_may g Stay (advanced g r e))
              (either (scheduling_instant g (advanced g r e) e))) (kept_after r e);
        }

    -- mending may go on from the fresh record, and after every legal entry
    mendable_fresh : Mendable g (fresh g.lists.jobs)
    mendable_fresh =
        record {
          sound = fresh_consistent g;
          first = ap (λ (p : ℕ). legal_entry g (fresh g.lists.jobs) p (mend_choice g (fresh g.lists.jobs))) (previous_fresh g.lists.jobs) ∙ mend_resumes.begins;
        }

    pub mendable_next : (r : Record) (p e : ℕ) → r.tick < 16384 → legal_entry g r p e ≡ true → Mendable g r → Mendable g (advanced g r e)
    mendable_next r p e b h w =
        let may = legal_may g r p e h in
        record {
          sound = advanced_consistent g r e b may w.sound;
          first = ap (λ (q : ℕ). legal_entry g (advanced g r e) q (mend_choice g (advanced g r e))) (previous_advanced g r e) ∙ mend_resumes.resumes r e may w.sound;
        }

    -- so behind the longest legal beginning
    pub mendable_behind : (schedule : List ℕ) → length schedule ≤ 16384 → Mendable g (record_before g schedule (legal_length g schedule))
    unfolding record_before record_at replayed legal_length
    mendable_behind schedule limit =
        let f = fresh g.lists.jobs in
        let es = take (legal_length g schedule) schedule in
        let within : legal_length g schedule ≤ length schedule = (beginning g f idle schedule).within in
        let short : length es ≡ legal_length g schedule = length-take-le (legal_length g schedule) schedule within in
        subst (Mendable g) (replayed_is g es (length es) refl)
        (kept_at g 16384 (Mendable g) mendable_next f idle es (omega (arith, tick_fresh g.lists.jobs, short, within)) (legal_prefix g f idle schedule) mendable_fresh (length es))

-- the mended schedule, beside the claim
module _ (g : Given) (schedule : List ℕ) where
  pub first_within : legal_length g schedule ≤ length schedule
  unfolding legal_length
  first_within = (beginning g (fresh g.lists.jobs) idle schedule).within

  front_long : length (take (legal_length g schedule) schedule) ≡ legal_length g schedule
  front_long = length-take-le (legal_length g schedule) schedule first_within

  pub length_mended : length (mended g schedule) ≡ length schedule
  unfolding mended
  length_mended =
      simp length-append
      (omega (arith, front_long, first_within, length_entries g (mend_choice g) (length schedule - legal_length g schedule) (record_before g schedule (legal_length g schedule))))

  pub mended_legal : job_count g.lists.jobs ≤ 64 → length schedule ≤ 16384 → claim g (mended g schedule) ≡ claims.Legal
  unfolding mended record_before record_at replayed legal_length
  mended_legal few limit =
      (whole_legal g (mended g schedule)).1
      (resumed_legal g (mend_choice g) (mend_resumes g few) (take (legal_length g schedule) schedule) (length schedule - legal_length g schedule)
      (omega (arith, front_long, first_within)) (legal_prefix g (fresh g.lists.jobs) idle schedule))

  -- before the first illegal tick the entries are the claim's
  pub mended_before : (t : ℕ) → t < legal_length g schedule → get_or (mended g schedule) t idle ≡ get_or schedule t idle
  unfolding mended
  mended_before t l = get_or-append (take (legal_length g schedule) schedule) _ idle t (omega (arith, front_long)) ∙ get_or-take (legal_length g schedule) schedule t idle l

  mended_front : take (legal_length g schedule) (mended g schedule) ≡ take (legal_length g schedule) schedule
  unfolding mended
  mended_front = take_at (take (legal_length g schedule) schedule) _ (legal_length g schedule) front_long

  entry_before_law : (k : ℕ) → k ≤ legal_length g schedule → get_or (idle ∷ mended g schedule) k idle ≡ get_or (idle ∷ schedule) k idle
  entry_before_law zero l = refl
  entry_before_law (suc k) l = mended_before k (omega arith)

  -- there it differs: the mended entry is legal
  module _ (few : job_count g.lists.jobs ≤ 64) (limit : length schedule ≤ 16384) (t : ℕ) (stops : claim g schedule ≡ claims.NotLegal t) where
    stops_at : legal_length g schedule ≡ t
    unfolding claim
    stops_at = by_cond (λ c. c ≡ claims.NotLegal t → legal_length g schedule ≡ t) (is_legal g schedule) claims.Legal (claims.NotLegal (legal_length g schedule)) (λ q e. apart (cc)) (λ q e. cc) stops

    pub mended_differs : get_or (mended g schedule) t idle ≡ get_or schedule t idle → ⊥
    unfolding record_before record_at
    mended_differs same =
        let w = (claim_not_legal g schedule t).0 stops in
        let n = length_mended in
        let h = (claim_legal g (mended g schedule)).0 (mended_legal few limit) t (omega (arith, w.within)) in
        let e : record_before g (mended g schedule) t ≡ record_before g schedule t = rw (← stops_at) (ap (replay g (fresh g.lists.jobs)) mended_front) in
        w.illegal (ap₂ (λ (r : Record) (p : ℕ). legal_entry g r p (get_or schedule t idle)) (sym e) (sym (entry_before_law t (omega (arith, stops_at))))
        ∙ ap (legal_entry g (record_before g (mended g schedule) t) (get_or (idle ∷ mended g schedule) t idle)) (sym same) ∙ h)

    pub mended_counts : 0 < differing schedule (mended g schedule)
    unfolding differing differs
    mended_counts =
        let w = (claim_not_legal g schedule t).0 stops in
        count_some (differs schedule (mended g schedule)) (length schedule) t w.within
        (rw (ne_eqb (get_or schedule t idle) (get_or (mended g schedule) t idle) (λ e. mended_differs (sym e))))

    pub mended_earlier : (s : ℕ) → s < t → get_or (mended g schedule) s idle ≡ get_or schedule s idle
    mended_earlier s l = mended_before s (omega (arith, stops_at))

    -- and from there on it is what is chosen
    pub mended_then : (s : ℕ) → t ≤ s → s < length schedule → get_or (mended g schedule) s idle ≡ mend_choice g (record_before g (mended g schedule) s)
    unfolding mended record_before record_at final_by
    mended_then s l b =
        let k = legal_length g schedule in
        let front = take k schedule in
        let start = replay g (fresh g.lists.jobs) front in
        let es = entries_by g (mend_choice g) start (length schedule - k) in
        let i = s - k in
        let here : s ≡ length front + i = omega (arith, front_long, stops_at) in
        let run : take i es ≡ entries_by g (mend_choice g) start i = take_entries g (mend_choice g) (length schedule - k) i start (omega (arith, stops_at)) in
        ap (λ (n : ℕ). get_or (front ++ es) n idle) here ∙ get_or-append-add front es i idle ∙ get_or_entries g (mend_choice g) start (length schedule - k) i (omega (arith, stops_at))
        ∙ ap (mend_choice g)
        (sym (ap (λ (n : ℕ). replay g (fresh g.lists.jobs) (take n (front ++ es))) here ∙ ap (replay g (fresh g.lists.jobs)) (take-append-add front es i ∙ ap (λ (l : List ℕ). front ++ l) run)
        ∙ replay_append g (fresh g.lists.jobs) front (entries_by g (mend_choice g) start i)))

  -- a legal claim comes back
  pub mended_whole : claim g schedule ≡ claims.Legal → mended g schedule ≡ schedule
  unfolding mended legal_length
  mended_whole legal =
      let all : legal_length g schedule ≡ length schedule = (whole_legal g schedule).0 legal in
      let none : length schedule - legal_length g schedule ≡ 0 = omega arith in
      ap₂ (λ (l m : List ℕ). l ++ m) (take_all (legal_length g schedule) schedule (omega arith))
      (ap (entries_by g (mend_choice g) (record_before g schedule (legal_length g schedule))) none ∙ entries_none g (mend_choice g) (record_before g schedule (legal_length g schedule)))
      ∙ append-nil schedule

  -- the answer beside the claim check's
  pub mend_whole : mend g schedule ≡ mends.Whole ↔ claim g schedule ≡ claims.Legal
  unfolding mend claim
  mend_whole = go (is_legal g schedule)
    where
      go : (b : Bool) → cond b mends.Whole (mends.Changed (legal_length g schedule) (differing schedule (mended g schedule))) ≡ mends.Whole
          ↔ cond b claims.Legal (claims.NotLegal (legal_length g schedule)) ≡ claims.Legal
      go true = (λ e. refl, λ e. refl)
      go false = (λ e. apart (cc), λ e. apart (cc))

  pub mend_changed : (first n : ℕ) → mend g schedule ≡ mends.Changed first n ↔ (claim g schedule ≡ claims.NotLegal first) × (n ≡ differing schedule (mended g schedule))
  unfolding mend claim
  mend_changed first n = go (is_legal g schedule)
    where
      go : (b : Bool) → cond b mends.Whole (mends.Changed (legal_length g schedule) (differing schedule (mended g schedule))) ≡ mends.Changed first n
          ↔ (cond b claims.Legal (claims.NotLegal (legal_length g schedule)) ≡ claims.NotLegal first) × (n ≡ differing schedule (mended g schedule))
      go true = (λ e. apart (cc), λ w. let e = w.0 in apart (cc))
      go false = (λ e. (cc, cc), λ w. let e = w.0 in let f = w.1 in cc)

-- what mending that is not refused says of its input
pub record Accepts (l : Lists) (horizon entries lent : ℕ) : Type 0 where
  pub checked : check_schedule l horizon entries ≡ Done
  pub input : Accepted l horizon entries
  pub room : lent ≡ horizon
  pub few : job_count l.jobs ≤ 64
  pub limit : entries ≤ 16384

pub accepts : (l : Lists) (horizon entries lent : ℕ) → check_mend l horizon entries lent ≡ Done → Accepts l horizon entries lent
unfolding check_mend check10
accepts l horizon entries lent ok =
    let c = before_first (check_schedule l horizon entries) _ ok in
    let a = accepted l horizon entries c in
    let ten = refuse_fine _ _ _ (before_second (check_schedule l horizon entries) _ ok) in
    record { checked = c; input = a; room = eqb-true lent horizon (not-false (eqb lent horizon) ten); few = lists_few l a.lists; limit = omega (arith, a.bounded, a.whole) }

pub mend_accepted : (l : Lists) (horizon entries lent : ℕ) → check_schedule l horizon entries ≡ Done → lent ≡ horizon → check_mend l horizon entries lent ≡ Done
unfolding check_mend check10 refuse before
mend_accepted l horizon entries lent ok e = rw (ok, eq-eqb lent horizon e)

module _ (g : Given) (horizon : ℕ) (schedule lent : List ℕ) where
  -- refused: the answer, and the second list
  pub refused_is : (number place : ℕ) → check_mend g.lists horizon (length schedule) (length lent) ≡ Refused number place
      → (mend_answer g horizon schedule lent ≡ Refused number place) × (mend_schedule g horizon schedule lent ≡ lent)
  unfolding mend_answer mend_schedule
  refused_is number place e = let o = check_mend g.lists horizon (length schedule) (length lent) in (unless_refused _ _ o number place e, unless_refused _ _ o number place e)

  module _ (ok : check_mend g.lists horizon (length schedule) (length lent) ≡ Done) where
    its : Accepts g.lists horizon (length schedule) (length lent)
    its = accepts g.lists horizon (length schedule) (length lent) ok

    pub answer_is : mend_answer g horizon schedule lent ≡ Ok (mend g schedule)
    unfolding mend_answer
    answer_is = unless_done Refused (Ok (mend g schedule)) (check_mend g.lists horizon (length schedule) (length lent)) ok

    pub schedule_is : mend_schedule g horizon schedule lent ≡ mended g schedule
    unfolding mend_schedule
    schedule_is = unless_done (λ number place. lent) (mended g schedule) (check_mend g.lists horizon (length schedule) (length lent)) ok

    pub claim_says : (c : Claim) → claim_said (claim_answer g horizon schedule) ≡ claim_said (Ok c) ↔ claim g schedule ≡ c
    unfolding claim_answer
    claim_says c =
        let is = unless_done Refused (Ok (claim g schedule)) (check_schedule g.lists horizon (length schedule)) its.checked in
        (λ e. let same = sym is ∙ claim_said_law (claim_answer g horizon schedule) (Ok c) e in cc, λ e. ap claim_said (is ∙ ap (λ (x : Claim). Ok x) e))

    pub mend_says : (m : Mended) → mended_said (mend_answer g horizon schedule lent) ≡ mended_said (Ok m) ↔ mend g schedule ≡ m
    mend_says m = (
      λ e. let same = sym answer_is ∙ mended_said_law (mend_answer g horizon schedule lent) (Ok m) e in cc,
      λ e. ap mended_said (answer_is ∙ ap (λ (x : Mended). Ok x) e),
    )
