-- Standings from a record on, whatever entries follow: what is finished or ended stays so, when a job that is alive finishes, and how a job
-- with c = 0 stands.
use Prim.Native.Nat.{◌<◌, suc, ℕ, ◌≤◌}
use mathlib.Core.Bool.{true}
use mathlib.Core.List.{List, [], ◌∷◌}
use mathlib.Core.Path.{ap, refl, sym, ◌∙◌, ◌≡◌}
use native.Mathlib.Omega.{arith}
use lib.ListN.{length}
use Rattle.zsrm.specs.declared.record.Record.{Record}
use Rattle.zsrm.specs.declared.record.Standing.{Standing}
use Rattle.zsrm.specs.declared.record.Standing.TheVariants.{Ended, Finished}
use Rattle.zsrm.specs.Given.{Given}
use Rattle.tables.specs.Tables.{arrival, execution, job_count}
use Rattle.zsrm.specs.Record.{fresh, opening, standing_at}
use Rattle.zsrm.specs.Run.{replay, replayed}
use Rattle.zsrm.specs.Tick.{advanced, alive, standing_after, is_unfinished}
use Rattle.bits.proofs.Laws.Bools.{clash, apart}
use Rattle.zsrm.proofs.Laws.Places.{opening_cases, opens_finished, standing_advanced, standing_alive, standing_fresh, tick_advanced, tick_fresh}
use Rattle.zsrm.proofs.Laws.Tick.{goes_on_cases}
use Rattle.zsrm.proofs.Laws.Replay.{tick_replay}

-- whatever entries follow: what is finished or ended stays so, and a job that is alive finishes later than the record's tick
module _ (g : Given) (j : ℕ) (l : j < 64) where
  stays : (s : Standing) → ((r : Record) (e : ℕ) → standing_after g r e j s ≡ s) → (es : List ℕ) (r : Record) → standing_at r j ≡ s → standing_at (replay g r es) j ≡ s
  unfolding replay
  stays s fixed [] r q = q
  stays s fixed (e ∷ es) r q = stays s fixed es (advanced g r e) (standing_advanced g r e j l ∙ ap (standing_after g r e j) q ∙ fixed r e)

  pub finishes_later : (es : List ℕ) (r : Record) (f : ℕ) → alive r j ≡ true → standing_at (replay g r es) j ≡ Finished f → r.tick < f
  unfolding replay standing_after alive
  finishes_later [] r f a q = clash a (ap is_unfinished q)
  finishes_later (e ∷ es) r f a q =
      goes_on_cases g r e (λ s. standing_at (advanced g r e) j ≡ s → r.tick < f) j
      (λ _ _ now. let same : f ≡ suc r.tick = same_instant (sym q ∙ stays (Finished (suc r.tick)) (λ x y. refl) es (advanced g r e) now) in omega arith)
      (λ _ _ now. unlike (sym q ∙ stays (Ended r.tick) (λ x y. refl) es (advanced g r e) now))
      (λ _ _ now. let later = finishes_later es (advanced g r e) f (ap is_unfinished now) q in omega (arith, tick_advanced g r e))
      (standing_alive g r e j l a)
    where
      same_instant : {x y : ℕ} → Finished x ≡ Finished y → x ≡ y
      same_instant e = cc

      unlike : {x y : ℕ} {A : Type 0} → Finished x ≡ Ended y → A
      unlike e = apart (cc)

  -- a job with c = 0 stands at each instant as it opens there: not arrived, and from its arrival on finished then
  pub empty_opens : execution g.lists.jobs j ≡ 0 → (es : List ℕ) (r : Record) → standing_at r j ≡ opening g.lists.jobs r.tick j
      → standing_at (replay g r es) j ≡ opening g.lists.jobs (replay g r es).tick j
  unfolding replay standing_after
  empty_opens none [] r q = q
  empty_opens none (e ∷ es) r q =
      empty_opens none es (advanced g r e)
      (standing_advanced g r e j l ∙ ap (standing_after g r e j) q
      ∙ opening_cases g.lists.jobs r.tick j (λ s. standing_after g r e j s ≡ opening g.lists.jobs (advanced g r e).tick j)
      (λ k a c. rw tick_advanced (sym (opens_finished g.lists.jobs (suc r.tick) j k (omega arith) none))) (λ k a c. absurd (c none)) (λ w. rw tick_advanced))

-- so at the end of a schedule that reaches its arrival it is finished at its arrival
pub empty_finished : (g : Given) (schedule : List ℕ) (j : ℕ) → j < 64 → j < job_count g.lists.jobs → execution g.lists.jobs j ≡ 0
    → arrival g.lists.jobs j ≤ length schedule → standing_at (replayed g schedule) j ≡ Finished (arrival g.lists.jobs j)
unfolding replayed
empty_finished g schedule j l k none a =
    let jobs = g.lists.jobs in
    let t = tick_replay g (fresh jobs) schedule in
    empty_opens g j l none schedule (fresh jobs) (standing_fresh jobs j l ∙ ap (λ (t : ℕ). opening jobs t j) (sym (tick_fresh jobs)))
    ∙ opens_finished jobs (replay g (fresh jobs) schedule).tick j k (omega (arith, t)) none
