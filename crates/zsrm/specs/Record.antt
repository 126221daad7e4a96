-- Document 01, "The record": what stands at a place, the blank and the fresh record, and when a record is consistent. The record keeps the
-- previous entry, as request Nine says.
use Rattle.std.specs.Prelude.{ℕ, ◌+◌, Bool, not, ◌&&◌, ◌||◌, cond, List, get_or, replicate, leb, ltb, eqb}
use Rattle.bits.specs.Below.{every, list_from}
use Rattle.zsrm.specs.declared.record.Standing.{Standing}
use Rattle.zsrm.specs.declared.record.Standing.TheVariants.{NotArrived, Unfinished, Finished, Ended}
use Rattle.zsrm.specs.declared.record.Place.{Place}
use Rattle.zsrm.specs.declared.record.Record.{Record}
use Rattle.zsrm.specs.Given.{Given, is_se}
use Rattle.tables.specs.Outcomes.{Outcome}
use Rattle.tables.specs.Refusals.{refuse}
use Rattle.tables.specs.Tables.{idle, job_count, arrival, execution}

-- not arrived with 0 done, 0 suspended and 0 waited
abbrev pub empty : Place
empty = record { done = 0; suspended = 0; waited = 0; standing = NotArrived }

unfoldable pub place_at : Record → ℕ → Place
place_at r j = get_or r.places j empty

unfoldable pub done_at : Record → ℕ → ℕ
done_at r j = (place_at r j).done

-- ticks suspended while alive
unfoldable pub suspended_at : Record → ℕ → ℕ
suspended_at r j = (place_at r j).suspended

-- ticks eligible while another job ran
unfoldable pub waited_at : Record → ℕ → ℕ
waited_at r j = (place_at r j).waited

unfoldable pub standing_at : Record → ℕ → Standing
standing_at r j = (place_at r j).standing

-- A refusal's record holds tick 0, the previous entry idle, and 64 places not arrived with 0 done, 0 suspended and 0 waited.
unfoldable pub blank : Record
blank = record { tick = 0; previous = idle; places = replicate 64 empty }

-- The place j is a job's, and the job's arrival does not exceed t.
unfoldable pub arrived : List ℕ → ℕ → ℕ → Bool
arrived jobs t j = ltb j (job_count jobs) && leb (arrival jobs j) t

-- A job with c = 0 is finished at its arrival instant.
unfoldable pub arriving : List ℕ → ℕ → Standing
arriving jobs j = cond (eqb (execution jobs j) 0) (Finished (arrival jobs j)) Unfinished

-- the standing at t of a place at which nothing has run
unfoldable pub opening : List ℕ → ℕ → ℕ → Standing
opening jobs t j = cond (arrived jobs t j) (arriving jobs j) NotArrived

-- The fresh record has t = 0 and nothing done; no entry is before it.
unfoldable pub fresh_place : List ℕ → ℕ → Place
fresh_place jobs j = record { done = 0; suspended = 0; waited = 0; standing = opening jobs 0 j }

unfoldable pub fresh : List ℕ → Record
fresh jobs = record { tick = 0; previous = idle; places = list_from 0 64 (fresh_place jobs) }

-- What consistency asks of a place at tick t, by its standing. `se` is that the mode is SE, `here` that the place is a job's which has
-- arrived by t; a and c are that job's arrival and execution time. `a + done ≤ t` says done ≤ t − arrival.
-- Not arrived exactly when it is no job's or its arrival exceeds t, and then 0 done.
-- An unfinished or ended job has done < c, a finished one done = c; done ≤ t − arrival.
-- A finishing instant lies from arrival + c to t, an ending tick from arrival to t − 1; in mode S nothing is ended.
abbrev pub sound_place : Bool → Bool → ℕ → ℕ → ℕ → ℕ → Standing → Bool
sound_place se here a c t done NotArrived = not here && eqb done 0
sound_place se here a c t done Unfinished = here && ltb done c && leb (a + done) t
sound_place se here a c t done (Finished f) = here && eqb done c && leb (a + done) t && leb (a + c) f && leb f t
sound_place se here a c t done (Ended e) = se && here && ltb done c && leb (a + done) t && leb a e && ltb e t

-- done plus both: the ticks done, suspended and waited
abbrev pub spent : Place → ℕ
spent p = p.done + p.suspended + p.waited

-- For an arrived job, done plus both is t, the finishing instant, or the ending tick plus 1, minus the arrival a; before arrival both are
-- 0. `a + spent = t` says spent = t − arrival.
abbrev pub accounted : ℕ → ℕ → Place → Standing → Bool
accounted a t p NotArrived = eqb p.suspended 0 && eqb p.waited 0
accounted a t p Unfinished = eqb (a + spent p) t
accounted a t p (Finished f) = eqb (a + spent p) f
accounted a t p (Ended e) = eqb (a + spent p) (e + 1)

unfoldable pub sound_at : Given → Record → ℕ → Bool
sound_at g r j =
    sound_place (is_se g.mode) (arrived g.lists.jobs r.tick j) (arrival g.lists.jobs j) (execution g.lists.jobs j) r.tick (done_at r j)
    (standing_at r j)
    && accounted (arrival g.lists.jobs j) r.tick (place_at r j) (standing_at r j)

-- The previous entry is idle at tick 0, later idle or a job in the list.
unfoldable pub sound_previous : List ℕ → ℕ → ℕ → Bool
sound_previous jobs t previous = eqb previous idle || (ltb 0 t && ltb previous (job_count jobs))

-- t ≤ 16,384, the previous entry is sound, and so is every place.
unfoldable pub consistent : Given → Record → Bool
consistent g r = leb r.tick 16384 && sound_previous g.lists.jobs r.tick r.previous && every 64 (sound_at g r)

-- 11: the record is not consistent with the jobs
unfoldable pub check11 : Bool → Outcome
check11 is_consistent = refuse (not is_consistent) 11 0

-- 12: a step is asked at tick 16,384
unfoldable pub check12 : ℕ → Outcome
check12 tick = refuse (eqb tick 16384) 12 0

-- 12 where a number of ticks is asked for: t plus that number passes 16,384, so at tick 16,384 asking for 0 ticks is no refusal
unfoldable pub check_room : ℕ → ℕ → Outcome
check_room tick ticks = refuse (ltb 16384 (tick + ticks)) 12 0
