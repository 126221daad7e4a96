-- Laws of a batch's runs: where each list and each schedule lies, and how far a loop over the runs has come.
use Prim.Native.Nat.{ℕ, zero, suc, ◌+◌, ◌-◌, ◌*◌, ◌<◌, ◌≤◌}
use mathlib.Core.List.{List, ◌++◌, append_assoc, append-nil}
use mathlib.Core.Logic.{inl, inr, ◌⊎◌}
use mathlib.Core.Path.{ap, ap₂, refl, sym, ◌∙◌, ◌≡◌}
use native.Mathlib.Nat.{le_of_eq, le_trans, mul-le-mul_right, not-suc-le-zero, suc-mul, zero-mul}
use native.Mathlib.Numerals.{add-one}
use native.Mathlib.Omega.{arith}
use lib.ListN.{drop, get_or, get_or-replicate, length, length-append, length-drop, length-replicate, length-take, replicate, set, take}
use lib.Seq.{drop-append-le, drop_at, drop-drop, drop-length, take-add, take_all, take-append-le, take_at, take-length}
use borrow.Author.Tests.{le-ltb, lt-ltb}
use borrow.Rule.Slice.PartMut.{put_mid}
use Rattle.std.proofs.lemmas.Grind.{get_or_default_zero}
use Rattle.std.proofs.lemmas.List.Sums.{sum_by-le, sum_by_more}
use Rattle.bits.proofs.Laws.Arrays.{Written, written_all, written_more, written_none}
use Rattle.bits.proofs.Laws.Below.{get_or_list, last_or_below}
use Rattle.std.specs.Prelude.{Ok, Err, sum}
use Rattle.tables.specs.Outcomes.{Outcome}
use Rattle.tables.specs.Refusals.{check_schedule}
use Rattle.tables.proofs.Laws.Accepted.{accepted}
use Rattle.zsrm.specs.declared.answers.Ran.{Ran}
use Rattle.zsrm.specs.declared.record.Record.{Record}
use Rattle.zsrm.specs.declared.tie.Tie.{Tie}
use Rattle.zsrm.specs.declared.tie.Tie.TheVariants.{Lowest}
use Rattle.zsrm.specs.Answers.{run_answer, run_schedule}
use Rattle.zsrm.specs.Given.{Given, given}
use Rattle.zsrm.specs.Record.{blank}
use Rattle.zsrm.proofs.Laws.Answers.{run_given_law, run_keeps}
use Rattle.zsrm.proofs.Laws.Run.{length_run}
use Rattle.batch.specs.Runs.{Offer, given_of, jobs_before, list_of, place_of, record_or_blank, record_of, records_of, schedule_of, schedules_of}
use Rattle.batch.proofs.Laws.Refusals.{Fits}

module _ (counts : List ℕ) where
  pub jobs_none : jobs_before counts 0 ≡ 0
  unfolding jobs_before
  jobs_none = refl

  pub jobs_more : (r : ℕ) → jobs_before counts (r + 1) ≡ jobs_before counts r + get_or counts r 0
  unfolding jobs_before
  jobs_more r = rw (add-one, jobs_before)

  -- a list that is there lies before the end of all
  pub jobs_within : (n r : ℕ) → r < n → jobs_before counts r + get_or counts r 0 ≤ jobs_before counts n
  unfolding jobs_before
  jobs_within zero r l = absurd (not-suc-le-zero l)
  jobs_within (suc n) r l = go (last_or_below n r l) (jobs_within n r)
    where
      go : (r ≡ n) ⊎ (r < n) → (r < n → jobs_before counts r + get_or counts r 0 ≤ jobs_before counts n) → jobs_before counts r + get_or counts r 0 ≤ jobs_before counts n + get_or counts n 0
      go (inl e) ih = rw e (omega arith)
      go (inr m) ih = omega (arith, ih m)

  -- and the jobs of all lists are the sum of the counts, each of them below 2^32
  jobs_take : (n : ℕ) → n ≤ length counts → jobs_before counts n ≡ sum (take n counts)
  unfolding jobs_before
  jobs_take zero l = refl
  jobs_take (suc n) l = rw (jobs_take n (omega arith)) (sym (rw (← add-one) (sum_by_more (λ x. x) counts n 0 (omega arith))))

  pub jobs_all : jobs_before counts (length counts) ≡ sum counts
  jobs_all = jobs_take (length counts) (omega arith) ∙ ap sum (take-length counts)

pub counts_most : (counts : List ℕ) → length counts ≤ 32 → ((k : ℕ) → get_or counts k 0 < 4294967296) → sum counts ≤ 137438953440
counts_most counts few small =
    omega (
      arith,
      sum_by-le (λ x. x) 4294967295 counts (λ k d l. omega (arith, get_or_default_zero counts k d l, small k)),
    )

-- where list r lies, as a loop over the runs finds it
module _ (jobs counts : List ℕ) where
  pub list_ends : jobs_before counts (length counts) * 3 ≡ length jobs → (r : ℕ) → r < length counts → jobs_before counts r * 3 + get_or counts r 0 * 3 ≤ length jobs
  list_ends all r l = omega (arith, jobs_within counts (length counts) r l)

  pub list_is : (r from numbers : ℕ) → from ≡ jobs_before counts r * 3 → numbers ≡ get_or counts r 0 * 3
      → take ((from + numbers) - from) (drop from jobs) ≡ list_of jobs counts r
  unfolding list_of
  list_is r from numbers p q =
      let k : (from + numbers) - from ≡ get_or counts r 0 * 3 = omega arith in
      ap₂ (λ (n m : ℕ). take n (drop m jobs)) k p

-- a run that is there has its place
pub place_ends : (n horizon entries r : ℕ) → r < n → n * horizon ≤ entries → r * horizon + horizon ≤ entries
place_ends n horizon entries r l room = le_trans (le_of_eq (sym (suc-mul r horizon))) (le_trans (mul-le-mul_right horizon l) room)

-- a run leaves the lent list as long as it was, refused or not
pub length_ran : (g : Given) (tie : Tie) (horizon : ℕ) (lent : List ℕ) → length (run_schedule g tie horizon lent) ≡ length lent
length_ran g tie horizon lent = go (check_schedule g.lists horizon (length lent)) refl
  where
    go : (o : Outcome) → check_schedule g.lists horizon (length lent) ≡ o → length (run_schedule g tie horizon lent) ≡ length lent
    go (Ok u) e =
        ap length (run_given_law g tie horizon lent e).1 ∙ length_run g tie horizon ∙ sym (accepted g.lists horizon (length lent) e).whole
    go (Err w) e = ap length (sym (run_keeps g tie horizon lent w.number w.place e))

module _ (o : Offer) (lent : List ℕ) where
  pub length_place : (r : ℕ) → r * o.horizon + o.horizon ≤ length lent → length (place_of o.horizon lent r) ≡ o.horizon
  unfolding place_of
  length_place r room = simp (length-take, length-drop) (omega arith)

  pub length_schedule : (r : ℕ) → r * o.horizon + o.horizon ≤ length lent → length (schedule_of o lent r) ≡ o.horizon
  unfolding schedule_of
  length_schedule r room = length_ran (given_of o r) Lowest o.horizon (place_of o.horizon lent r) ∙ length_place r room

  pub length_schedules : (n : ℕ) → n * o.horizon ≤ length lent → length (schedules_of o lent n) ≡ n * o.horizon
  unfolding schedules_of
  length_schedules zero room = sym (zero-mul o.horizon)
  length_schedules (suc n) room =
      let more = suc-mul n o.horizon in
      let here : n * o.horizon + o.horizon ≤ length lent = omega arith in
      length-append (schedules_of o lent n) (schedule_of o lent n) ∙ ap₂ (λ (x y : ℕ). x + y) (length_schedules n (omega arith)) (length_schedule n here) ∙ sym more

-- a part written behind the schedules that are there
placed_behind : (xs ys s : List ℕ) (a h : ℕ) → length xs ≡ a → put_mid a ((a + h) - a) (xs ++ drop a s) ys ≡ (xs ++ ys) ++ drop (a + h) s
placed_behind xs ys s a h e =
    let k : (a + h) - a ≡ h = omega arith in
    ap₂ (λ (p q : List ℕ). p ++ (ys ++ q)) (take_at xs (drop a s) a e)
    (ap (drop ((a + h) - a)) (drop_at xs (drop a s) a e) ∙ ap (λ (n : ℕ). drop n (drop a s)) k ∙ drop-drop h a s)
    ∙ sym (append_assoc xs ys (drop (a + h) s))

module _ (o : Offer) (lent : List ℕ) where
  -- The first r runs are made: their schedules stand one behind another, their records at their numbers.
  pub record RunsMade (schedule : List ℕ) (records : List Record) (from at r : ℕ) : Type 0 where
    pub listed : from ≡ jobs_before o.counts r * 3
    pub placed : at ≡ r * o.horizon
    pub wrote : schedule ≡ schedules_of o lent r ++ drop at lent
    pub kept : Written blank (record_or_blank o lent (length o.counts)) (replicate 32 blank) records 32 r

  pub made_none : RunsMade lent (replicate 32 blank) 0 0 0
  unfolding schedules_of
  made_none =
      record {
        listed = sym (ap (λ (n : ℕ). n * 3) (jobs_none o.counts));
        placed = sym (zero-mul o.horizon);
        wrote = refl;
        kept = written_none blank _ (replicate 32 blank) 32 (length-replicate 32 blank);
      }

  module _ (room : Fits o.jobs o.counts o.horizon (length lent)) where
    module _ {schedule : List ℕ} {records : List Record} {from at r : ℕ} (w : RunsMade schedule records from at r) where
      pub made_list : r < length o.counts → from + get_or o.counts r 0 * 3 ≤ length o.jobs
      made_list l = omega (arith, w.listed, list_ends o.jobs o.counts room.listed r l)

      pub made_place : r < length o.counts → at + o.horizon ≤ length lent
      made_place l = omega (arith, w.placed, place_ends (length o.counts) o.horizon (length lent) r l (le_of_eq (sym room.placed)))

      behind : r ≤ length o.counts → length (schedules_of o lent r) ≡ at
      behind l = length_schedules o lent r (le_trans (mul-le-mul_right o.horizon l) (le_of_eq (sym room.placed))) ∙ sym w.placed

      -- the next run's own place still holds what it held
      place_is : r < length o.counts → take ((at + o.horizon) - at) (drop at schedule) ≡ place_of o.horizon lent r
      unfolding place_of
      place_is l =
          let k : (at + o.horizon) - at ≡ o.horizon = omega arith in
          ap₂ take k (ap (drop at) w.wrote ∙ drop_at (schedules_of o lent r) (drop at lent) at (behind (omega arith)) ∙ ap (λ (n : ℕ). drop n lent) w.placed)

      -- one more run is made
      pub made_more : (numbers : ℕ) (own : Ran) (entries : List ℕ) → r < length o.counts → numbers ≡ get_or o.counts r 0 * 3
          → own ≡ run_answer (given o.mode o.tasks (take ((from + numbers) - from) (drop from o.jobs))) Lowest o.horizon (take ((at + o.horizon) - at) (drop at schedule))
          → entries ≡ run_schedule (given o.mode o.tasks (take ((from + numbers) - from) (drop from o.jobs))) Lowest o.horizon (take ((at + o.horizon) - at) (drop at schedule))
          → RunsMade (put_mid at ((at + o.horizon) - at) schedule entries) (set records r own.«record») (from + numbers) (at + o.horizon) (r + 1)
      unfolding schedules_of schedule_of record_or_blank record_of given_of
      made_more numbers own entries l size answers writes =
          let list = list_is o.jobs o.counts r from numbers w.listed size in
          let more = jobs_more o.counts r in
          record {
            listed = omega (arith, w.listed);
            placed = ap (λ (x : ℕ). x + o.horizon) w.placed ∙ sym (suc-mul r o.horizon) ∙ ap (λ (x : ℕ). x * o.horizon) (sym (add-one r));
            wrote =
                ap₂ (λ (s es : List ℕ). put_mid at ((at + o.horizon) - at) s es) w.wrote
                (writes ∙ ap₂ (λ (js es : List ℕ). run_schedule (given o.mode o.tasks js) Lowest o.horizon es) list (place_is l))
                ∙ placed_behind (schedules_of o lent r) (schedule_of o lent r) lent at o.horizon (behind (omega arith))
                ∙ ap (λ (n : ℕ). schedules_of o lent n ++ drop (at + o.horizon) lent) (sym (add-one r));
            kept =
                written_more blank (record_or_blank o lent (length o.counts)) (replicate 32 blank) records 32 r own.«record» w.kept (omega (arith, room.few))
                (rw (lt-ltb r (length o.counts) l)
                (ap (λ (x : Ran). x.«record») (answers ∙ ap₂ (λ (js es : List ℕ). run_answer (given o.mode o.tasks js) Lowest o.horizon es) list (place_is l))));
          }

      -- all runs are made
      module _ (all : r ≡ length o.counts) where
        pub made_records : records ≡ records_of o lent (length o.counts)
        unfolding records_of record_or_blank
        made_records =
            written_all blank (record_or_blank o lent (length o.counts)) (replicate 32 blank) records 32 r w.kept
            (λ k l m. get_or-replicate 32 k blank blank m ∙ rw (le-ltb k (length o.counts) (omega arith)))

        pub made_schedules : schedule ≡ schedules_of o lent (length o.counts)
        made_schedules =
            w.wrote
            ∙ ap₂ (λ (xs ys : List ℕ). xs ++ ys) (ap (schedules_of o lent) all)
            (ap (λ (n : ℕ). drop n lent) (w.placed ∙ ap (λ (n : ℕ). n * o.horizon) all ∙ sym room.placed) ∙ drop-length lent)
            ∙ append-nil (schedules_of o lent (length o.counts))

-- the lists, one behind another, are the flat list
module _ (jobs counts : List ℕ) where
  pub lists_behind : (r : ℕ) → take (jobs_before counts (suc r) * 3) jobs ≡ take (jobs_before counts r * 3) jobs ++ list_of jobs counts r
  unfolding jobs_before list_of
  lists_behind r =
      let ends : (jobs_before counts r + get_or counts r 0) * 3 ≡ jobs_before counts r * 3 + get_or counts r 0 * 3 = omega arith in
      ap (λ (n : ℕ). take n jobs) ends ∙ take-add (jobs_before counts r * 3) (get_or counts r 0 * 3) jobs

  module _ (all : jobs_before counts (length counts) * 3 ≡ length jobs) where
    pub lists_all : take (jobs_before counts (length counts) * 3) jobs ≡ jobs
    lists_all = take_all (jobs_before counts (length counts) * 3) jobs (omega arith)

    pub length_list : (r : ℕ) → r < length counts → length (list_of jobs counts r) ≡ get_or counts r 0 * 3
    unfolding list_of
    length_list r l = let ends = list_ends jobs counts all r l in simp (length-take, length-drop) (omega arith)

module _ (o : Offer) (lent : List ℕ) where
  -- the part at its place is the run's schedule
  pub schedule_part : (n r : ℕ) → r < n → n * o.horizon ≤ length lent → take o.horizon (drop (r * o.horizon) (schedules_of o lent n)) ≡ schedule_of o lent r
  unfolding schedules_of
  schedule_part zero r l room = absurd (not-suc-le-zero l)
  schedule_part (suc n) r l room = go (last_or_below n r l) (schedule_part n r)
    where
      h : ℕ
      h = o.horizon

      fits : n * h ≤ length lent
      fits = omega (arith, suc-mul n h)

      go : (r ≡ n) ⊎ (r < n) → (r < n → n * h ≤ length lent → take h (drop (r * h) (schedules_of o lent n)) ≡ schedule_of o lent r)
          → take h (drop (r * h) (schedules_of o lent n ++ schedule_of o lent n)) ≡ schedule_of o lent r
      go (inl e) ih =
          let here : n * h + h ≤ length lent = omega (arith, suc-mul n h) in
          ap (take h) (drop_at (schedules_of o lent n) (schedule_of o lent n) (r * h) (length_schedules o lent n fits ∙ ap (λ (x : ℕ). x * h) (sym e)))
          ∙ take_all h (schedule_of o lent n) (omega (arith, length_schedule o lent n here))
          ∙ ap (schedule_of o lent) (sym e)
      go (inr m) ih =
          let before : suc r * h ≤ n * h = mul-le-mul_right h m in
          ap (take h) (drop-append-le (r * h) (schedules_of o lent n) (schedule_of o lent n) (omega (arith, length_schedules o lent n fits, suc-mul r h)))
          ∙ take-append-le h (drop (r * h) (schedules_of o lent n)) (schedule_of o lent n) (omega (arith, length_schedules o lent n fits, suc-mul r h, length-drop (r * h) (schedules_of o lent n)))
          ∙ ih m fits

  -- a run's record at its number, and blank ones behind
  pub record_or_blank_law : (n r : ℕ) (d : Record) → r < n → r < 32 → get_or (records_of o lent n) r d ≡ record_of o lent r
  unfolding records_of record_or_blank
  record_or_blank_law n r d l m = get_or_list 32 (record_or_blank o lent n) r d m ∙ rw (lt-ltb r n l)

  pub record_none : (n r : ℕ) (d : Record) → n ≤ r → r < 32 → get_or (records_of o lent n) r d ≡ blank
  unfolding records_of record_or_blank
  record_none n r d l m = get_or_list 32 (record_or_blank o lent n) r d m ∙ rw (le-ltb r n l)
