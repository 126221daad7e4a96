-- Our run in pieces, by request Six's law: where the lists pass their checks, going on from the run's record at t gives the one at t + n, as
-- far as tick 16,384.
use Prim.Native.Nat.{◌+◌, ◌-◌, ◌<◌, ℕ, ◌≤◌}
use mathlib.Core.List.{List, []}
use mathlib.Core.Logic.{inl}
use mathlib.Core.Path.{ap, refl, sym, ◌∙◌, ◌≡◌}
use native.Mathlib.Omega.{arith}
use lib.ListN.{length, length-replicate, replicate}
use borrow.Author.Tests.{le-ltb}
use Rattle.tables.specs.Outcomes.{Done}
use Rattle.tables.specs.Refusals.{before, check9, check_lists, refuse, check_schedule}
use Rattle.tables.specs.Said.{done, outcome_said}
use Rattle.tables.proofs.Laws.Accepted.{accepted, schedule_checked}
use Rattle.zsrm.specs.declared.answers.Ran.{Ran}
use Rattle.zsrm.specs.declared.record.Record.{Record}
use Rattle.zsrm.specs.declared.tie.Tie.TheVariants.{Stay}
use Rattle.zsrm.specs.Answers.{fresh_answer, go_on_answer, run_answer}
use Rattle.zsrm.specs.Given.{Given}
use Rattle.zsrm.specs.Record.{fresh}
use Rattle.zsrm.specs.Run.{run_record}
use Rattle.planter.specs.Code.{OnTheWay}
use Rattle.zsrm.proofs.Laws.Answers.{run_given_law}
use Rattle.zsrm.proofs.Promise.{fresh_checked, fresh_done, go_on_exactly, go_on_nothing, go_on_record, parts_agree, run_is_go_on, run_outcome_checked}

module _ (g : Given) (ok : check_lists g.lists ≡ Done) where
  abbrev start : Record
  start = (fresh_answer g.lists.tasks g.lists.jobs).«record»

  start_tick : start.tick ≡ 0
  unfolding fresh outcome_said
  start_tick = ap (λ (x : Record). x.tick) (fresh_done g.lists.tasks g.lists.jobs (ap outcome_said (fresh_checked g.lists.tasks g.lists.jobs ∙ ok)))

  module _ (t : ℕ) (early : t ≤ 16384) where
    pub piece_accepted : check_schedule g.lists t t ≡ Done
    unfolding check9 refuse before
    piece_accepted = schedule_checked g.lists t t (inl refl) ∙ rw (ok, le-ltb 16384 t early)

    module _ (lent : List ℕ) (whole : length lent ≡ t) where
      passes : check_schedule g.lists t (length lent) ≡ Done
      passes = ap (check_schedule g.lists t) whole ∙ piece_accepted

      going : go_on_answer g Stay start t lent ≡ run_answer g Stay t lent
      going = sym (run_is_go_on g Stay t lent early).0

      gone_done : outcome_said (go_on_answer g Stay start t lent).outcome ≡ done
      unfolding outcome_said
      gone_done = ap outcome_said (ap (λ (x : Ran). x.outcome) going ∙ run_outcome_checked g Stay t lent ∙ passes)

      gone : (go_on_answer g Stay start t lent).«record» ≡ run_record g Stay t
      gone = ap (λ (x : Ran). x.«record») going ∙ (run_given_law g Stay t lent passes).0

  tick_run : (t : ℕ) → t ≤ 16384 → (run_record g Stay t).tick ≡ t
  tick_run t early =
      let lent = replicate {A = ℕ} t 0 in
      let whole = length-replicate {A = ℕ} t 0 in
      let at = ap (λ (x : Record). x.tick) (sym (gone t early lent whole)) ∙ (go_on_record g Stay start t lent (gone_done t early lent whole)).1 in
      omega (arith, at, start_tick)

  -- the fresh record is the run's at 0
  pub run_starts : start ≡ run_record g Stay 0
  unfolding outcome_said
  run_starts =
      let nothing = gone_done 0 (omega arith) [] refl in
      sym (go_on_nothing g Stay start (ap outcome_said ok) ((go_on_exactly g Stay start 0 []).0 nothing).2).1 ∙ gone 0 (omega arith) [] refl

  pub run_further : (t n : ℕ) (lent : List ℕ) → length lent ≡ n → t + n ≤ 16384 → (go_on_answer g Stay (run_record g Stay t) n lent).«record» ≡ run_record g Stay (t + n)
  run_further t n lent whole room =
      let first = replicate {A = ℕ} t 0 in
      let one = length-replicate {A = ℕ} t 0 in
      let both = replicate {A = ℕ} (t + n) 0 in
      let long = length-replicate {A = ℕ} (t + n) 0 in
      ap (λ (x : Record). (go_on_answer g Stay x n lent).«record») (sym (gone t (omega arith) first one))
      ∙ sym (parts_agree g Stay start t n first lent both one whole long (gone_done (t + n) room both long)).0
      ∙ gone (t + n) room both long

-- On the way to a horizon: at the start, a piece further, and at the end.
module _ (g : Given) (horizon : ℕ) (ok : check_schedule g.lists horizon horizon ≡ Done) where
  pub way_starts : (x : Ran) → x ≡ fresh_answer g.lists.tasks g.lists.jobs → OnTheWay g horizon x.«record»
  way_starts x e =
      let w = accepted g.lists horizon horizon ok in
      let is = ap (λ (y : Ran). y.«record») e ∙ run_starts g w.lists in
      let at : x.«record».tick ≡ 0 = ap (λ (y : Record). y.tick) is ∙ tick_run g w.lists 0 (omega arith) in
      record { is = is ∙ sym (ap (run_record g Stay) at); within = omega arith }

  pub way_on : (r : Record) (x : Ran) (n : ℕ) (lent : List ℕ) → OnTheWay g horizon r → r.tick < horizon → 0 < n → n ≤ horizon - r.tick → length lent ≡ n
      → x ≡ go_on_answer g Stay r n lent → OnTheWay g horizon x.«record» × (r.tick < x.«record».tick)
  way_on r x n lent way before some few whole e =
      let w = accepted g.lists horizon horizon ok in
      let room : r.tick + n ≤ 16384 = omega (arith, w.bounded) in
      let is = ap (λ (y : Ran). y.«record») e ∙ ap (λ (y : Record). (go_on_answer g Stay y n lent).«record») way.is ∙ run_further g w.lists r.tick n lent whole room in
      let at : x.«record».tick ≡ r.tick + n = ap (λ (y : Record). y.tick) is ∙ tick_run g w.lists (r.tick + n) room in
      (record { is = is ∙ sym (ap (run_record g Stay) at); within = omega arith }, omega arith)

  pub way_ends : (r : Record) → OnTheWay g horizon r → horizon ≤ r.tick → r ≡ run_record g Stay horizon
  way_ends r way late = let at : r.tick ≡ horizon = omega (arith, way.within) in way.is ∙ ap (run_record g Stay) at
