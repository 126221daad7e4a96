-- How the code goes by leaps: what it keeps beside the record, and one leap from the gathered numbers. No contract that callers see cites
-- it; the laws in proofs/Laws/Underway join it to "One tick" and to the leaps.
use Rattle.std.specs.Prelude.{ℕ, ◌+◌, Bool, not, ◌&&◌, cond, List, ◌≡◌, leb, ltb, eqb, get_or}
use Rattle.bits.specs.Below.{bit, greatest_key, least, list_from, word}
use Rattle.tables.specs.Tables.{Lists}
use Rattle.zsrm.specs.declared.leap.Underway.{Underway}
use Rattle.zsrm.specs.declared.next.Ticked.{Ticked}
use Rattle.zsrm.specs.declared.record.Place.{Place}
use Rattle.zsrm.specs.declared.record.Record.{Record}
use Rattle.zsrm.specs.declared.look.View.{View}
use Rattle.zsrm.specs.Record.{done_at, place_at}
use Rattle.zsrm.specs.Tick.{alive, job_word}
use Rattle.zsrm.specs.Code.Gathered.{arrival_in, came_in, Came, criticality_in, Early, execution_in, less_in, nominal_in, ticked_in, with_span}
use Rattle.zsrm.specs.Code.Next.{next_place}

-- what the entry has done, where it is one of the n jobs
unfoldable pub done_in : Record → ℕ → ℕ → ℕ
done_in r n e = cond (ltb e n) (done_at r e) 0

-- the jobs alive, of those from the first to the last
unfoldable pub alive_in : Record → ℕ → ℕ → ℕ
alive_in r first last = word 64 (λ j. ltb j last && (leb first j && alive r j))

-- the lowest job of a set, or where none of it has come, the next that comes
unfoldable pub first_in : ℕ → ℕ → ℕ
first_in living came = cond (ltb (least 64 (bit living) 64) came) (least 64 (bit living) 64) came

module _ (g : List ℕ) where
  -- job j is in the set, and its done, with one more where it is the entry e, exceeds C
  unfoldable pub over_in : Record → ℕ → ℕ → ℕ → Bool
  over_in r among e j = bit among j && ltb (nominal_in g j) (done_at r j + cond (eqb e j) 1 0)

  -- the greatest criticality among these
  unfoldable pub most_over : Record → ℕ → ℕ → ℕ
  most_over r among e = greatest_key 64 (over_in r among e) (criticality_in g)

  -- the jobs that are ended in the tick that is seen so, in which e runs
  unfoldable pub ended_in : Bool → Record → View → ℕ → ℕ
  ended_in se r v e = cond se (word 64 (less_in g v.alive (most_over r v.past e))) 0

  -- the place of job j k ticks on, where it is one of those from the first to the last; the others stay
  unfoldable pub next_at_in : ℕ → ℕ → Record → ℕ → Ticked → ℕ → Place
  next_at_in first last r k w j =
      cond (leb first j && ltb j last) (next_place r.tick k w j (arrival_in g j) (execution_in g j) (place_at r j)) (place_at r j)

  unfoldable pub next_in : ℕ → ℕ → Record → ℕ → Ticked → Record
  next_in first last r k w = record { tick = r.tick + k; previous = w.entry; places = list_from 0 64 (next_at_in first last r k w) }

  -- a run underway from a record, of n jobs
  unfoldable pub started_in : ℕ → Record → Underway
  started_in n r =
      record { «record» = r; alive = alive_in r 0 n; came = came_in g n 0 r.tick; early = with_span 0 0 (came_in g n 0 r.tick) }

  -- what it is after a leap by k ticks of the entry e, of the early jobs those of a word being left
  unfoldable pub leap_in : ℕ → Bool → Underway → View → ℕ → ℕ → ℕ → Underway
  leap_in n se s v e k left =
      let first = first_in s.alive s.came in
      let came = came_in g n s.came (s.«record».tick + k) in
      let next = next_in first came s.«record» k (ticked_in n v e (ended_in se s.«record» v e)) in
      record { «record» = next; alive = alive_in next first came; came = came; early = with_span left s.came came }

-- what is kept beside the record is true of it
pub record Kept (l : Lists) (s : Underway) : Type 0 where
  pub living : s.alive ≡ job_word l.jobs (alive s.«record»)
  pub came : Came l s.«record».tick s.came
  pub early : Early l s.«record».tick s.early

-- as far as a list repeats e from t on, at most k times
unfoldable pub repeated : List ℕ → ℕ → ℕ → ℕ → ℕ
repeated list t e k = least k (λ i. not (eqb (get_or list (t + i) 0) e)) k
