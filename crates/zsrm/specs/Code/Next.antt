-- How the code makes the places of a later record, from one place and what the first tick did to its job: k ticks on, where nothing
-- happens between them, and by one tick always. No contract that callers see cites it; the laws in proofs/Laws/Next and Leap join it to
-- "The record" and "One tick".
use Rattle.std.specs.Prelude.{ℕ, ◌+◌, Bool, true, ◌&&◌, cond, List, leb, ltb, eqb}
use Rattle.bits.specs.Below.{bit, list_from}
use Rattle.zsrm.specs.declared.record.Standing.{Standing}
use Rattle.zsrm.specs.declared.record.Standing.TheVariants.{NotArrived, Unfinished, Finished, Ended}
use Rattle.zsrm.specs.declared.record.Place.{Place}
use Rattle.zsrm.specs.declared.record.Record.{Record}
use Rattle.zsrm.specs.declared.next.Ticked.{Ticked}
use Rattle.tables.specs.Tables.{job_count, arrival, execution}
use Rattle.zsrm.specs.Record.{place_at}

-- at t, a place at which nothing has run: a job's that arrives at a and has c to do, or none's
abbrev pub opening_of : Bool → ℕ → ℕ → ℕ → Standing
opening_of is_job a c t = cond (is_job && leb a t) (cond (eqb c 0) (Finished a) Unfinished) NotArrived

-- k ticks after t, a job that was alive in tick t: whoever is ended was so in tick t
abbrev pub worked_on : ℕ → ℕ → Bool → Bool → Standing
worked_on t k finishes ended = cond finishes (Finished (t + k)) (cond ended (Ended t) Unfinished)

-- k ticks after t, any job, done being what it has done by then
abbrev pub next_standing : ℕ → ℕ → Bool → Bool → ℕ → ℕ → ℕ → Standing → Standing
next_standing t k ran ended a c done NotArrived = opening_of true a c (t + k)
next_standing t k ran ended a c done Unfinished = worked_on t k (ran && eqb done c) ended
next_standing t k ran ended a c done (Finished f) = Finished f
next_standing t k ran ended a c done (Ended e) = Ended e

-- k ticks after t, the place p of job j, which arrives at a and has c to do, tick t having done w: a job that is ended is suspended in
-- tick t, and no longer
abbrev pub next_place : ℕ → ℕ → Ticked → ℕ → ℕ → ℕ → Place → Place
next_place t k w j a c p =
    record {
      done = p.done + cond (eqb w.entry j) k 0;
      suspended = p.suspended + cond (bit w.suspended j) (cond (bit w.ended j) 1 k) 0;
      waited = p.waited + cond (bit w.waiting j) k 0;
      standing = next_standing t k (eqb w.entry j) (bit w.ended j) a c (p.done + cond (eqb w.entry j) k 0) p.standing;
    }

-- the place of job j k ticks after the record's; places beyond the jobs stay
unfoldable pub next_at : List ℕ → Record → ℕ → Ticked → ℕ → Place
next_at jobs r k w j = cond (ltb j (job_count jobs)) (next_place r.tick k w j (arrival jobs j) (execution jobs j) (place_at r j)) (place_at r j)

unfoldable pub next_record : List ℕ → Record → ℕ → Ticked → Record
next_record jobs r k w = record { tick = r.tick + k; previous = w.entry; places = list_from 0 64 (next_at jobs r k w) }
